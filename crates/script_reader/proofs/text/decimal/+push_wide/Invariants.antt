use Rattle.script_reader.proofs.text.decimal.+push_wide.Given as goal

-- a hundredth is smaller
abbrev pub decreases-push_wide : goal.decreases-push_wide
decreases-push_wide l = l.value
