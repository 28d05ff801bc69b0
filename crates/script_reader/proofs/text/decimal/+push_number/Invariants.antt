use Rattle.script_reader.proofs.text.decimal.+push_number.Given as goal

-- a tenth is smaller
abbrev pub decreases-push_number : goal.decreases-push_number
decreases-push_number l = l.value
