use Rattle.script_reader.proofs.Common.{◌∷◌, [], ◌++◌, length, codes, refl, sym, ap, subst, ◌∙◌, length-append, arith, flat_map, line, end_line, AreCallers}
use Rattle.script_reader.proofs.Common.{IsScriptIn, submission_words, add_submission, is_beyond_in, operations_text}
use Rattle.script_reader.specs.Gathered.{callers_of}
use Rattle.script_reader.proofs.HandedOn.{same_reason, same_refusal}
use Rattle.script_reader.proofs.LineFaults.LineKinds.{only_word}
use Rattle.script_reader.proofs.books.Texts.Following.{line_shorter}
use Rattle.script_reader.proofs.language.Grouped.Grouping.{callers_of-push}
use Rattle.script_reader.proofs.language.Grouped.Submitting.{callers_more}
use Rattle.script_reader.proofs.Judging.{behind_end}
use Rattle.script_reader.proofs.language.Listed.Behind.{behind_scripts, one_more_script}
use Rattle.script_reader.proofs.language.Grouped.Outside.{has_room, no_callers}
use Rattle.script_reader.proofs.language.reader.read_scripts.Goals as goal

pub loop-words-init : goal.loop-words-init
loop-words-init g c = record {
  even = c.requires.even;
  subs = [];
  made = c.requires.none;
  valid = no_callers (IsScriptIn g.L.Language.language (g.L.Language.sizes_of c.args.sizes));
  text = refl;
}

pub returns-in_err-words-clause-fault : goal.returns-in_err-words-clause-fault
returns-in_err-words-clause-fault g c why e =
    let v = c.loop-words.invariant in
    let language = g.L.Language.language in
    let ns = g.L.Language.sizes_of c.args.sizes in
    behind_scripts g.met.L.Language.lawful ns c.requires.sized v.subs v.valid v.text
    (behind_end (same_reason c.from_residual.ensures.1 e) c.in_err-words.ensures.end)

pub returns-then-is_only-clause-found : goal.returns-then-is_only-clause-found
returns-then-is_only-clause-found g c =
    let v = c.loop-words.invariant in
    let language = g.L.Language.language in
    let last = only_word (codes "finish") c.in_ok-words.words (sym c.is_only.ensures ∙ c.if-is_only.true) in
    record {
      submissions = v.subs;
      text = v.text ∙ ap (λ l. flat_map line (flat_map (submission_words language) v.subs) ++ l) (c.in_ok-words.ensures.found.1
          ∙ ap (λ w. line w ++ c.words.new.self) last);
      made = v.made;
      valid = subst (AreCallers (IsScriptIn language (g.L.Language.sizes_of c.args.sizes))) (sym v.made) v.valid;
    }

pub returns-in_err-add_script-clause-fault : goal.returns-in_err-add_script-clause-fault
returns-in_err-add_script-clause-fault g c why e =
    let v = c.loop-words.invariant in
    let language = g.L.Language.language in
    let ns = g.L.Language.sizes_of c.args.sizes in
    behind_scripts g.met.L.Language.lawful ns c.requires.sized v.subs v.valid v.text
    (c.add_script.ensures.fault why (same_refusal c.in_err-add_script.was c.from_residual-in_err-add_script.ensures.1 e) v.subs c.loop-words.lines v.made
    c.in_ok-words.ensures.found.0 c.in_ok-words.ensures.found.1)

pub loop-words-preserved : goal.loop-words-preserved
loop-words-preserved g c =
    let v = c.loop-words.invariant in
    let language = g.L.Language.language in
    let ns = g.L.Language.sizes_of c.args.sizes in
    let added = c.in_ok-add_script.ensures.added in
    let s = added.submission in
    let room = has_room (callers_of v.subs) s.caller (sym (ap (λ l. is_beyond_in l s.caller) v.made) ∙ added.room) in
    record {
      even = c.in_ok-add_script.ensures.even;
      subs = v.subs ++ s ∷ [];
      made = added.made ∙ ap (λ l. add_submission l s) v.made ∙ sym (callers_of-push v.subs s);
      valid = subst (AreCallers (IsScriptIn language ns)) (sym (callers_of-push v.subs s))
          (callers_more (IsScriptIn language ns) (callers_of v.subs) s v.valid added.named added.valid
          room.0 room.1);
      text = one_more_script language c.add_script.new.lines v.subs s
          v.text c.in_ok-words.ensures.found.1 added.begins added.text;
    }

pub loop-words-smaller : goal.loop-words-smaller
loop-words-smaller g c =
    let added = c.in_ok-add_script.ensures.added in
    let language = g.L.Language.language in
    omega (
      arith,
      line_shorter c.in_ok-words.words c.words.new.self c.in_ok-words.ensures.found.1,
      ap length added.text,
      length-append (operations_text language (language.operations added.submission.script)) (end_line ++ c.add_script.new.lines),
      length-append end_line c.add_script.new.lines,
    )
