-- How a transaction begins and ends.
use Rattle.txn_commit.proofs.Common.{◌≡◌, ℕ, ◌+◌, ◌<◌, ◌≤◌, Bool, true, List, [], ◌∷◌, ◌++◌, length, length-append, slice_index, All, Option, None, Some}
use Rattle.txn_commit.proofs.Common.{Result, Ok, Err, OnErr, refl, sym, ap, ◌∙◌, subst, arith, Abandoned, Entry, Item, View, Cause, Fits, IsGood, SomeFits}
use Rattle.txn_commit.proofs.Common.{replay_items, IsIn, Trace, after, IsLegalTrace, lock_of_word, Notes, number, HasWriteGrant, AreRestartsBounded}
use Rattle.txn_commit.proofs.Common.{begin_call_action, entry_of, after_commit, Room, Knew, ReadsArranged, PassView, DeskView, UNDO_ROOM, Receipt, Halt}
use Rattle.txn_commit.proofs.Common.{GaveWayTo, IsSoundAttempt, StillRuns, StaysInCall, StandsAs, start_of, uses_of, ListsUses, Releases, Undoes}
use Rattle.txn_commit.proofs.Common.{AsksItsFootprint, EndsWithoutEntry, GetsEntry, LeavesFootprint}
use Rattle.word_table.proofs.Common.{is_attempt, own_number, Action, clear_stamp_action, TakenIn}
use Rattle.values_rule.proofs.Common.{knew_of}
use Rattle.lock_or_yield.proofs.Common.{DeskHolds}
use Rattle.history_model.specs.Undoing.{notes_of}
use Rattle.values_rule.specs.History.{items_of_attempts}
use Rattle.word_table.specs.Copies.{HoldsNothing}
use Rattle.txn_commit.specs.Transactions.{IsMeant}
use Rattle.txn_commit.proofs.Attempts.{same_call, some_fits}
use Rattle.txn_commit.proofs.Footprints.{asked_none, footprint_same, still_its_footprint}
use Rattle.txn_commit.specs.declared.attempt.Halt.TheVariants as halt

-- a call that is over has as few attempts that gave way as before
pub ends_bounded : (n j : ℕ) (old new : View) → AreRestartsBounded n (number old) old
    → new ≡ (clear_stamp_action j old).view 0 → AreRestartsBounded n (number new) new
ends_bounded n j old new b e = subst (λ (v : View). AreRestartsBounded n (number v) v) (sym e) (record {
  few = b.few;
  elsewhere = b.elsewhere;
  distinct = b.distinct;
  met = b.met;
  earlier = λ x is running. absurd (running refl);
})

module _ {S : Type 0} (word_count : S → ℕ) (good : S → List ℕ → Type 0) (desk : DeskView S) (action : Action) (old : View) (found : ℕ) (new : View) where
  -- who took a step at the table has a seat there
  pub some_seats : (j : ℕ) → TakenIn (DeskHolds word_count good desk) action old found new → old.who ≡ j ∷ [] → 0 < desk.seats
  some_seats j t one = let below : j < desk.seats =
      t.holds.locks.numbers_below t.place j old (record { knows = t.knows; named = own_number old j one }) in omega arith

  -- and knows as many words as the desk's shape says
  pub words_counted : (j : ℕ) → TakenIn (DeskHolds word_count good desk) action old found new → old.who ≡ j ∷ [] → length old.base ≡ word_count desk.shape
  words_counted j t one = ap (λ (l : List ℕ). length l)
      (t.holds.locks.bases_alike t.place j old (record { knows = t.knows; named = own_number old j one })) ∙ t.holds.values.items.agree.base_good.count

-- what an error says of several things
pub both_on_err : {A E : Type 0} (P Q : Type 0) (r : Result A E) → OnErr r P → OnErr r Q → OnErr r (P × Q)
both_on_err P Q (Ok x) p q = p
both_on_err P Q (Err x) p q = (p, q)

-- what the attempts of a call rest on
pub record SameReads (old new : View) : Type 0 where
  pub who : new.who ≡ old.who
  pub call : new.call ≡ old.call
  pub seats : new.seats ≡ old.seats
  pub seen : new.seen ≡ old.seen
  pub abandoned : new.abandoned ≡ old.abandoned
  pub trace : new.trace ≡ old.trace

same_attempts : (old new : View) → SameReads old new → items_of_attempts (number new) new.call (knew_of new.seats new.seen) 0 new.abandoned
    ≡ items_of_attempts (number old) old.call (knew_of old.seats old.seen) 0 old.abandoned
same_attempts old new s =
    ap (λ (l : List ℕ). items_of_attempts (slice_index l 0) new.call (knew_of new.seats new.seen) 0 new.abandoned) s.who
    ∙ (ap (λ (c : ℕ). items_of_attempts (number old) c (knew_of new.seats new.seen) 0 new.abandoned) s.call
    ∙ (ap (λ (m : ℕ). items_of_attempts (number old) old.call (knew_of m new.seen) 0 new.abandoned) s.seats
    ∙ (ap (λ (l : List Entry). items_of_attempts (number old) old.call (knew_of old.seats l) 0 new.abandoned) s.seen
    ∙ ap (λ (l : List Abandoned). items_of_attempts (number old) old.call (knew_of old.seats old.seen) 0 l) s.abandoned)))

-- a view that has seen the same and whose attempts did the same
pub still_reads : (good : List ℕ → Type 0) (n : ℕ) (base : List ℕ) (old new : View) → SameReads old new
    → ReadsArranged good n base old → ReadsArranged good n base new
still_reads good n base old new same r = record {
  words = r.words;
  views = r.views;
  place = r.place;
  seat = r.seat;
  holds = r.holds;
  knows = r.knows;
  in_call = record {
    who = r.in_call.who ∙ sym same.who;
    call = r.in_call.call ∙ sym same.call;
    seen = r.in_call.seen ∙ sym same.seen;
    abandoned = r.in_call.abandoned ∙ sym same.abandoned;
  };
  seen = λ e i. r.seen e (subst (λ (l : List Entry). IsIn e l) same.seen i);
  attempts = λ x i. r.attempts x (subst (λ (l : List Item). IsIn x l) (same_attempts old new same) i);
  order = r.order;
  arranged = r.arranged;
  placed = r.placed;
  left_good = r.left_good;
  fits = λ order a. subst (λ (t : Trace). IsLegalTrace t (replay_items base order)) (sym same.trace) (r.fits order a);
}

none_within : (n : ℕ) → All (λ (note : ℕ × ℕ). note.0 < n) []
none_within n k d lt = absurd (omega arith)

-- no note, as no event
pub none_noted : (n : ℕ) (good : List ℕ → Type 0) (notes : Notes) (t : Trace) → notes ≡ [] → t ≡ [] → (w : List ℕ) → Fits n good t w → notes ≡ notes_of t w
unfolding notes_of
none_noted n good notes t none fresh w fit = none ∙ sym (ap (λ (u : Trace). notes_of u w) fresh)

pub none_granted : (v : View) (notes : Notes) → notes ≡ [] → All (λ (note : ℕ × ℕ). HasWriteGrant v (lock_of_word note.0)) notes
none_granted v notes none = subst (λ (l : Notes). All (λ (note : ℕ × ℕ). HasWriteGrant v (lock_of_word note.0)) l) (sym none) (λ k d lt. absurd (omega arith))

-- a call was begun, and has done nothing yet
pub begins_sound : {S : Type 0} (word_count : S → ℕ) (good : S → List ℕ → Type 0) (desk : DeskView S) (old : View) (began new : PassView) (log : Room)
    → began ≡ new → new.table ≡ desk.table → length old.base ≡ word_count desk.shape → new.view ≡ (begin_call_action (number old) old).view 0
    → log.list ≡ [] → UNDO_ROOM ≤ log.spare → ReadsArranged (IsGood (word_count desk.shape) (good desk.shape)) desk.seats desk.base new.view
    → IsSoundAttempt word_count good desk began new log None
begins_sound word_count good desk old began new log same table words step empty room fits = record {
  table = table;
  words = ap (λ (v : View). length v.base) step ∙ words;
  call = subst (λ (p : PassView). StaysInCall p.view new.view) (sym same) (record {
    seat = record { who = refl; base = refl; seats = refl };
    call = refl;
    floor = refl;
    stamp = λ h. refl;
    seen = refl;
  });
  stands = record { phase = ap (λ (v : View). v.phase) step; abandoned = ap (λ (p : PassView). p.view.abandoned) (sym same) };
  judged = ap (λ (v : View). v.met) step;
  log_is = empty ∙ ap (λ (v : View). v.undo) (sym step);
  within = subst (λ (l : List (ℕ × ℕ)). All (λ note. note.0 < word_count desk.shape) l) (sym empty) (none_within (word_count desk.shape));
  noted = none_noted (word_count desk.shape) (good desk.shape) log.list new.view.trace empty (ap (λ (v : View). v.trace) step);
  granted = none_granted new.view log.list empty;
  room = let none : length log.list ≡ 0 = ap (λ (l : List (ℕ × ℕ)). length l) empty in omega arith;
  memory = λ e. absurd (cc);
  fits = some_fits (word_count desk.shape) (good desk.shape) desk.seats desk.base new.view fits;
  current = λ runs. fits;
  footprint = asked_none new.view (ap (λ (v : View). v.asked) step);
}

pub ends_holding_nothing : (j : ℕ) (old new : View) → HoldsNothing old → new ≡ (clear_stamp_action j old).view 0 → HoldsNothing new
ends_holding_nothing j old new nothing clear =
    subst (λ (v : View). HoldsNothing v) (sym clear) (record { no_bit = nothing.no_bit; no_claim = nothing.no_claim })

-- a call ended without an entry: its locks were released, and it is over
pub ends_without : {S : Type 0} (word_count : S → ℕ) (good : S → List ℕ → Type 0) (desk : DeskView S) (j : ℕ)
    (old began given_up released new : View) → began ≡ (begin_call_action (number old) old).view 0
    → (given_up.seen ≡ began.seen) × (given_up.floor ≡ began.floor)
    × (is_attempt given_up.phase ≡ true) × LeavesFootprint given_up
    × ReadsArranged (IsGood (word_count desk.shape) (good desk.shape)) desk.seats desk.base given_up
    → given_up.call ≡ old.call + 1 → Releases given_up released
    → HoldsNothing released → AreRestartsBounded desk.seats (number released) released → new ≡ (clear_stamp_action j released).view 0
    → EndsWithoutEntry (IsGood (word_count desk.shape) (good desk.shape)) desk.seats desk.base old new
ends_without word_count good desk j old began given_up released new begin up call rel nothing bounded clear = record {
  seen = ap (λ (v : View). v.seen) clear ∙ (ap (λ (v : View). v.seen) rel.rest ∙ (up.0 ∙ ap (λ (v : View). v.seen) begin));
  call = ap (λ (v : View). v.call) clear ∙ (ap (λ (v : View). v.call) rel.rest ∙ call);
  floor = ap (λ (v : View). v.floor) clear ∙ (ap (λ (v : View). v.floor) rel.rest ∙ (up.1 ∙ ap (λ (v : View). v.floor) begin));
  nothing = ends_holding_nothing j released new nothing clear;
  bounded = ends_bounded desk.seats j released new bounded clear;
  opaque = still_reads (IsGood (word_count desk.shape) (good desk.shape)) desk.seats desk.base given_up new (record {
    who = ap (λ (v : View). v.who) clear ∙ ap (λ (v : View). v.who) rel.rest;
    call = ap (λ (v : View). v.call) clear ∙ ap (λ (v : View). v.call) rel.rest;
    seats = ap (λ (v : View). v.seats) clear ∙ ap (λ (v : View). v.seats) rel.rest;
    seen = ap (λ (v : View). v.seen) clear ∙ ap (λ (v : View). v.seen) rel.rest;
    abandoned = ap (λ (v : View). v.abandoned) clear ∙ ap (λ (v : View). v.abandoned) rel.rest;
    trace = ap (λ (v : View). v.trace) clear ∙ ap (λ (v : View). v.trace) rel.rest;
  }) up.4;
  footprint =
      footprint_same given_up new (ap (λ (v : View). v.trace) clear ∙ ap (λ (v : View). v.trace) rel.rest)
      (ap (λ (v : View). v.abandoned) clear ∙ ap (λ (v : View). v.abandoned) rel.rest)
      (ap (λ (v : View). v.meetings) clear ∙ ap (λ (v : View). v.meetings) rel.rest) (ap (λ (v : View). v.asked) clear
      ∙ ap (λ (v : View). v.asked) rel.rest) up.3;
}

-- a call that has its entry was over, once its locks were released
pub ends_with_footprint : (j : ℕ) (committed released new : View) → Releases committed released
    → new ≡ (clear_stamp_action j released).view 0 → AsksItsFootprint committed → AsksItsFootprint new
ends_with_footprint j committed released new rel clear = still_its_footprint committed new
    (ap (λ (v : View). v.seen) clear ∙ ap (λ (v : View). v.seen) rel.rest) (ap (λ (v : View). v.asked) clear ∙ ap (λ (v : View). v.asked) rel.rest)
    (ap (λ (v : View). v.meetings) clear ∙ ap (λ (v : View). v.meetings) rel.rest)

-- an attempt was committed
pub gets_entry : {A : Type 0} (word_count : ℕ) (good words : List ℕ → Type 0) (means : List ℕ → Bool → A
    → List ℕ → Type 0) (kept : Bool) (call : ℕ) (first old new : View) (receipt : Receipt A)
    → StaysInCall first old → first.floor ≡ length first.seen → first.call ≡ call
    → new ≡ after_commit kept old → receipt.call ≡ call → length old.abandoned ≡ receipt.restarts
    → ListsUses (uses_of kept old.trace old.uses) receipt.uses.items
    → ((x : Entry) → IsIn x old.seen → Knew (entry_of kept old) x)
    → ((s : List ℕ) → Fits word_count good old.trace s → means s kept receipt.answer (after old.trace s))
    → ((s : List ℕ) → words s → IsGood word_count good s)
    → GetsEntry words means (number first) call first.seen new.seen receipt
gets_entry word_count good words means kept call first old new receipt same floor number_is commits call_is restarts uses knew meaning is_good = record {
  entry = entry_of kept old;
  seen = ap (λ (v : View). v.seen) commits ∙ ap (λ (h : List Entry). h ++ entry_of kept old ∷ []) same.seen;
  made_by = ap (λ (l : List ℕ). slice_index l 0) same.seat.who;
  call_is = (same.call ∙ number_is, call_is);
  knew = λ x had. knew x (subst (λ (l : List Entry). IsIn x l) (sym same.seen) had);
  floor_is = same.floor ∙ floor;
  restarts_are = sym restarts;
  uses_are = uses;
  meaning = λ s at legal. let begun = is_good s at in meaning s (record { count = begun.count; good = begun.good; legal = legal });
}

-- what an attempt did means something on the words that fit it
pub is_meant : {A : Type 0} (word_count : ℕ) (good words : List ℕ → Type 0) (means : List ℕ → Bool → A → List ℕ → Type 0)
    (kept : Bool) (trace : Trace) (answer : A) → SomeFits word_count good trace
    → ((s : List ℕ) → Fits word_count good trace s → means s kept answer (after trace s))
    → ((s : List ℕ) → IsGood word_count good s → words s) → IsMeant words means answer
is_meant word_count good words means kept trace answer some meaning is_good = record {
  found = some.0;
  kept = kept;
  left = after trace some.0;
  good_words = is_good some.0 (record { count = some.1.count; good = some.1.good });
  meaning = meaning some.0 some.1;
}

-- an attempt was undone
pub undone_seen : (first old new : View) → StaysInCall first old → Undoes old new → new.seen ≡ first.seen
undone_seen first old new same undone = ap (λ (v : View). v.seen) undone.some.rest ∙ same.seen

-- an attempt gave way, and the call makes another
pub one_more : (n m : ℕ) (cause : Cause) (first began old new : View) → began ≡ first → length first.abandoned ≡ m
    → GaveWayTo n cause began old → new.abandoned ≡ old.abandoned
    → (length new.abandoned ≡ m + 1) × (length new.abandoned < n)
one_more n m cause first began old new same count gave kept =
    let long : length old.abandoned ≡ length began.abandoned + 1 =
    ap (λ (l : List Abandoned). length l) gave.abandoned.1 ∙ length-append began.abandoned (gave.abandoned.0 ∷ []) in
    let still : length new.abandoned ≡ length old.abandoned = ap (λ (l : List Abandoned). length l) kept in
    let before : length began.abandoned ≡ length first.abandoned = ap (λ (v : View). length v.abandoned) same in
    let few = gave.bounded.few in
    (omega (arith, long, still, before, count), omega (arith, still, few))

-- two attempts that began from the same
pub same_desk : {S : Type 0} (d e : DeskView S) (m n : ℕ) (p q : PassView) → start_of d m p ≡ start_of e n q → d ≡ e
same_desk d e m n p q s = ap (λ o. o.desk) s

pub same_pass : {S : Type 0} (d e : DeskView S) (m n : ℕ) (p q : PassView) → start_of d m p ≡ start_of e n q → p ≡ q
same_pass d e m n p q s = ap (λ o. o.pass) s

-- a job ran on the attempt that began here
pub ran_on : (first : View) (kept began pass : PassView) (old : View) → StaysInCall first pass.view → kept ≡ began
    → began ≡ pass → StaysInCall kept.view old → StaysInCall first old
ran_on first kept began pass old before same fresh ran =
    same_call first pass.view old before (subst (λ (p : PassView). StaysInCall p.view old) (same ∙ fresh) ran)

pub still_runs : (n : ℕ) (halted : Option Halt) (began now : View) → halted ≡ None → StandsAs n halted began now → StillRuns began now
still_runs n halted began now e = subst (λ (h : Option Halt). StandsAs n h began now → StillRuns began now) (sym e) (λ r. r)

pub gave_way : (n : ℕ) (halted : Option Halt) (cause : Cause) (began now : View) → halted ≡ Some (halt.Yield cause)
    → StandsAs n halted began now → GaveWayTo n cause began now
gave_way n halted cause began now e = subst (λ (h : Option Halt). StandsAs n h began now → GaveWayTo n cause began now) (sym e) (λ r. r)

-- what a job means, of the shape of the desk, and by its parts
pub meant : {A S : Type 0} (means : List ℕ → Bool → A → List ℕ → Type 0) (word_count : S → ℕ) (good : S → List ℕ
    → Type 0) (shape own : S) (trace : Trace) (k kept : Bool) (a answer : A)
    → shape ≡ own → kept ≡ k → answer ≡ a
    → ((s : List ℕ) → Fits (word_count own) (good own) trace s → means s k a (after trace s))
    → (s : List ℕ) → Fits (word_count shape) (good shape) trace s → means s kept answer (after trace s)
meant means word_count good shape own trace k kept a answer e f h meaning s fits =
    subst (λ x. means s kept x (after trace s)) (sym h) (subst (λ (b : Bool). means s b a (after trace s)) (sym f)
    (meaning s (subst (λ x. Fits (word_count x) (good x) trace s) e fits)))
