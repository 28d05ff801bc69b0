use Rattle.script_reader.proofs.Common.{◌≡◌, ◌≤◌, Bool, true, false, not, ◌&&◌, List, All, length, [], ◌∷◌, ◌++◌, sym, ap, subst, ◌∙◌, append_assoc, arith}
use Rattle.script_reader.proofs.Common.{into_iter_items, leb-false, MOST_CALLERS, MOST_SCRIPTS, Submission, AreCallersFor, callers_of, Spells, CanStand}
use Rattle.script_reader.proofs.Common.{add_submission, is_beyond_in, IsScriptOf, AreCallersOf}
use Rattle.std.proofs.Common.{append-nil}
use Rattle.std.proofs.lemmas.Bool.{true≢false}
use Rattle.std.proofs.lemmas.List.{nil_from_length}
use Rattle.std.proofs.lemmas.List.Elements.{All-head, All-tail}
use Rattle.script_reader.specs.Input.{count_scripts}
use Rattle.script_reader.proofs.Conditions.{neither}
use Rattle.script_reader.proofs.language.Grouped.Grouping.{callers_of-push}
use Rattle.script_reader.proofs.language.Grouped.Submitting.{callers_more}
use Rattle.script_reader.proofs.language.Grouped.Outside.{no_callers}
use Rattle.script_reader.proofs.books.Versions.{callers_for, script_of}
use Rattle.script_reader.proofs.books.Texts.Piecing.{spelled}
use Rattle.script_reader.proofs.books.pieces.input_of.Goals as goal

pub loop-submitted-init : goal.loop-submitted-init
loop-submitted-init c =
    let gives = c.into_iter-submitted-iterator.ensures.into_iter_gives in
    record {
      even = c.new-callers.ensures.even;
      made = c.new-callers.ensures.none;
      valid = no_callers (IsScriptOf c.args.opening.version c.args.opening.books);
      sized = gives.1 ∙ c.args.scripts.ok.0 ∙ ap length (sym gives.0);
      whole = sym gives.0;
    }

-- what holds of each element of a list holds of one behind others
one_behind : {A : Type 0} (P : A → Type 0) (before : List A) (x : A) (rest : List A) → All P (before ++ x ∷ rest) → P x
one_behind P [] x rest each = All-head P x rest each
one_behind P (y ∷ before) x rest each = one_behind P before x rest (All-tail P y (before ++ x ∷ rest) each)

pub loop-submitted-preserved : goal.loop-submitted-preserved
loop-submitted-preserved c =
    let v = c.args.opening.version in
    let b = c.args.opening.books in
    let before = c.loop-submitted.yielded in
    let i = c.loop-submitted.invariant in
    let s : Submission = c.in-Some.submitted in
    let steps = c.in-Some.ensures.steps in
    let whole = i.whole ∙ ap (λ l. before ++ l) steps.0 in
    let stands = one_behind (CanStand v b) before s (into_iter_items c.next.new.self) (subst (All (CanStand v b)) whole c.requires.read.each) in
    let room = neither (ap (λ t. is_beyond_in (callers_of before) t.caller) (sym c.submitted.view_is)
    ∙ sym (ap (λ l. is_beyond_in l c.submitted.inside.caller.now) i.made) ∙ sym c.is_full_for.ensures ∙ c.if-is_full_for.false) in
    record {
      even = c.in-Ok.ensures.even;
      made = c.in-Ok.ensures.added ∙ (λ k. add_submission (i.made k) (c.submitted.view_is k)) ∙ sym (callers_of-push before s);
      valid = subst (AreCallersOf v b) (sym (callers_of-push before s))
          (callers_more (IsScriptOf v b) (callers_of before) s i.valid stands.named (script_of v b stands.fits stands.within)
          (leb-false MOST_SCRIPTS _ room.0) (λ new. leb-false MOST_CALLERS _ (right new room.1)));
      sized = omega (arith, i.sized, steps.1, ap length steps.0);
      whole = whole ∙ sym (append_assoc before (s ∷ []) (into_iter_items c.next.new.self));
    }
  where
    right : {a d : Bool} → a ≡ false → (not a && d) ≡ false → d ≡ false
    right {a = true} e h = absurd (true≢false e)
    right {a = false} e h = h

pub new-requires : goal.new-requires
new-requires c = record {
  even = c.loop-submitted.invariant.even;
  few = subst (λ l. length l ≤ MOST_CALLERS) (sym c.loop-submitted.invariant.made) c.loop-submitted.invariant.valid.few;
  few_scripts = subst (λ l. count_scripts l ≤ MOST_SCRIPTS) (sym c.loop-submitted.invariant.made) c.loop-submitted.invariant.valid.few_scripts;
}

pub new-requires-2 : goal.new-requires-2
new-requires-2 c = record {
  books = c.ranges-2.ensures;
  callers = subst (AreCallersFor c.args.opening.books) (sym (c.new.ensures ∙ c.loop-submitted.invariant.made))
      (callers_for c.args.opening.version c.args.opening.books (callers_of c.loop-submitted.yielded) c.loop-submitted.invariant.valid);
}

pub returns : goal.returns
returns c bytes opens =
    let v = c.args.opening.version in
    let b = c.args.opening.books in
    let i = c.loop-submitted.invariant in
    let none = nil_from_length (into_iter_items c.loop-submitted.submitted-iterator) (sym i.sized ∙ c.in-None.ensures.steps.0) in
    let all = i.whole ∙ ap (λ l. c.loop-submitted.yielded ++ l) none ∙ append-nil c.loop-submitted.yielded in
    let made = ap callers_of (sym all) in
    subst (Spells bytes) (sym (c.new-2.ensures ∙ ap (λ l. record { books = b; callers = l }) (c.new.ensures ∙ i.made ∙ made)))
    (spelled c.ranges-2.ensures c.requires.read
    (subst (AreCallersOf v b) made i.valid) opens)
