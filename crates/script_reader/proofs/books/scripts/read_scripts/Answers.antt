use Rattle.script_reader.proofs.Common.{◌∷◌, [], ◌++◌, length, codes, sym, ap, subst, ◌∙◌, length-append, refl, arith, script_lines, end_line, callers_of}
use Rattle.script_reader.proofs.Common.{add_submission, is_beyond_in, IsScriptOf, AreCallersOf}
use Rattle.script_reader.proofs.HandedOn.{same_reason, same_refusal}
use Rattle.script_reader.proofs.language.Grouped.Grouping.{callers_of-push}
use Rattle.script_reader.proofs.language.Grouped.Submitting.{callers_more}
use Rattle.script_reader.proofs.LineFaults.LineKinds.{only_word}
use Rattle.script_reader.proofs.language.Grouped.Outside.{has_room, no_callers}
use Rattle.script_reader.proofs.books.Texts.Following.{line_shorter}
use Rattle.script_reader.proofs.books.Texts.Gathered.{behind_scripts, one_more_script, last_text}
use Rattle.script_reader.proofs.Judging.{behind_end}
use Rattle.script_reader.proofs.books.scripts.read_scripts.Goals as goal

pub loop-words-init : goal.loop-words-init
loop-words-init c = record {
  even = c.requires.even;
  subs = [];
  made = c.requires.none;
  valid = no_callers
      (IsScriptOf c.args.version c.args.books.now);
  text = refl;
}

pub returns-in_err-words-clause-fault : goal.returns-in_err-words-clause-fault
returns-in_err-words-clause-fault c why e =
    let v = c.loop-words.invariant in
    behind_scripts c.ranges-2.ensures v.subs v.valid v.text
    (behind_end (same_reason c.from_residual.ensures.1 e) c.in_err-words.ensures.end)

pub returns-then-is_only-clause-found : goal.returns-then-is_only-clause-found
returns-then-is_only-clause-found c =
    let v = c.loop-words.invariant in
    record {
      submissions = v.subs;
      text = last_text c.words.new.self v.subs v.text
          c.in_ok-words.ensures.found.1 (only_word (codes "finish") c.in_ok-words.words (sym c.is_only.ensures ∙ c.if-is_only.true));
      made = v.made;
      valid = subst (AreCallersOf c.args.version c.args.books.now) (sym v.made) v.valid;
    }

pub returns-in_err-add_script-clause-fault : goal.returns-in_err-add_script-clause-fault
returns-in_err-add_script-clause-fault c why e =
    let v = c.loop-words.invariant in
    behind_scripts c.ranges-2.ensures v.subs v.valid v.text
    (c.add_script.ensures.fault why (same_refusal c.in_err-add_script.was c.from_residual-in_err-add_script.ensures.1 e) v.subs c.loop-words.lines v.made
    c.in_ok-words.ensures.found.0 c.in_ok-words.ensures.found.1)

pub loop-words-preserved : goal.loop-words-preserved
loop-words-preserved c =
    let v = c.loop-words.invariant in
    let added = c.in_ok-add_script.ensures.added in
    let s = added.submission in
    let room = has_room (callers_of v.subs) s.caller (sym (ap (λ l. is_beyond_in l s.caller) v.made) ∙ added.room) in
    record {
      even = c.in_ok-add_script.ensures.even;
      subs = v.subs ++ s ∷ [];
      made = added.made ∙ ap (λ l. add_submission l s) v.made ∙ sym (callers_of-push v.subs s);
      valid = subst (AreCallersOf c.args.version c.args.books.now) (sym (callers_of-push v.subs s))
          (callers_more (IsScriptOf c.args.version c.args.books.now) (callers_of v.subs) s v.valid added.named added.valid
          room.0 room.1);
      text = one_more_script c.add_script.new.lines v.subs
          s.script v.text c.in_ok-words.ensures.found.1 added.begins added.text;
    }

pub loop-words-smaller : goal.loop-words-smaller
loop-words-smaller c =
    let added = c.in_ok-add_script.ensures.added in
    omega (
      arith,
      line_shorter c.in_ok-words.words c.words.new.self c.in_ok-words.ensures.found.1,
      ap length added.text,
      length-append (script_lines added.submission.script) (end_line ++ c.add_script.new.lines),
      length-append end_line c.add_script.new.lines,
    )
