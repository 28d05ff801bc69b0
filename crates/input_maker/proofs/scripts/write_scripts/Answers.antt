use Rattle.input_maker.proofs.Common.{◌+◌, ◌%◌, ◌++◌, ℕ, sym, ap, ◌∙◌, string_bytes, submission_lines, written_next, state_after_script, made_submission}
use Rattle.input_maker.proofs.Common.{submissions_to}
use Rattle.input_maker.specs.Made.{caller_name, script_from}
use Rattle.input_maker.proofs.Listing.{script_written, written_none, submissions-none, submissions-more, scripts-none, scripts-more}
use Rattle.input_maker.proofs.scripts.write_scripts.Goals as goal

pub loop-place-init : goal.loop-place-init
loop-place-init c = record {
  state = c.new-generator.ensures ∙ sym (scripts-none);
  text = written_none submission_lines
      (submissions-none c.args.seed c.args.callers);
}

pub loop-place-preserved : goal.loop-place-preserved
loop-place-preserved c =
    let place = c.loop-place.place in
    let seed = c.args.seed in
    let callers = c.args.callers in
    record {
      state = c.in_ok-write_script.ensures.state ∙ ap state_after_script c.loop-place.invariant.state ∙ sym (scripts-more seed place);
      text = written_next (string_bytes c.args.text.now) (string_bytes c.loop-place.text) (string_bytes c.write_script.new.text) submission_lines
          (submissions_to seed callers place) (submissions_to seed callers (place + 1)) (made_submission seed callers place)
          c.loop-place.invariant.text
          (c.in_ok-write_script.ensures.text
          ∙ ap (λ l. string_bytes c.loop-place.text ++ l) (script_written (caller_name (place % callers)) c.loop-place.generator.state)
          ∙ ap (λ (x : ℕ). string_bytes c.loop-place.text ++ submission_lines
          (record { caller = caller_name (place % callers); script = script_from x })) c.loop-place.invariant.state)
          (submissions-more seed callers place);
    }
