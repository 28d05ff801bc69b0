use Rattle.script_reader.proofs.Common.{Some, sym, ap, ◌∙◌, is_beyond_in}
use Rattle.script_reader.proofs.HandedOn.{same_reason, same_refusal}
use Rattle.script_reader.proofs.Judging.{behind_line}
use Rattle.script_reader.proofs.language.Listed.Behind.{behind_script, outside_word, outside_limit}
use Rattle.script_reader.proofs.language.reader.add_script.Goals as goal

pub returns-in_err-name-clause-fault : goal.returns-in_err-name-clause-fault
returns-in_err-name-clause-fault g c why e subs left made are is =
    let language = g.L.Language.language in
    let ns = g.L.Language.sizes_of c.args.sizes in
    let none = c.in_err-name.ensures.none in
    behind_line are is
    (outside_word g.met.L.Language.lawful ns c.requires.sized subs c.args.words.now c.requires.unfinished none.1 ∙ ap Some
    (sym none.0 ∙ same_reason c.from_residual.ensures.1 e))

pub returns-then-is_full_for-clause-fault : goal.returns-then-is_full_for-clause-fault
returns-then-is_full_for-clause-fault g c why e subs left made are is =
    let language = g.L.Language.language in
    let ns = g.L.Language.sizes_of c.args.sizes in
    let found = c.in_ok-name.ensures.found in
    let beyond = sym (ap (λ l. is_beyond_in l c.in_ok-name.name.now) made) ∙ sym c.is_full_for.ensures ∙ c.if-is_full_for.true in
    behind_line are is
    (outside_limit g.met.L.Language.lawful ns c.requires.sized subs found.0 found.1 beyond ∙ cc)

pub returns-in_err-script-clause-fault : goal.returns-in_err-script-clause-fault
returns-in_err-script-clause-fault g c why e subs left made are is =
    let language = g.L.Language.language in
    let ns = g.L.Language.sizes_of c.args.sizes in
    let found = c.in_ok-name.ensures.found in
    let room = sym (ap (λ l. is_beyond_in l c.in_ok-name.name.now) made) ∙ sym c.is_full_for.ensures ∙ c.if-is_full_for.false in
    behind_script g.met.L.Language.lawful ns c.requires.sized subs
    found.0 found.1 room is
    (c.script_of.ensures.fault why (same_refusal c.in_err-script.was c.from_residual-in_err-script.ensures.1 e) subs c.in_ok-name.name.now)

pub returns-clause-added : goal.returns-clause-added
returns-clause-added g c =
    let found = c.in_ok-name.ensures.found in
    record {
      submission = record { caller = c.in_ok-name.name.now; script = c.in_ok-script.script };
      begins = found.0;
      named = found.1;
      room = sym c.is_full_for.ensures ∙ c.if-is_full_for.false;
      valid = c.in_ok-script.ensures.range;
      text = c.in_ok-script.ensures.text;
      made = c.in_ok-add.ensures.added;
    }
