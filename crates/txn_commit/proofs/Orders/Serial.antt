-- What was run in order was run as if one job after another.
use Rattle.txn_commit.proofs.Common.{◌≡◌, ℕ, ◌+◌, ◌<◌, Bool, List, [], ◌∷◌, ◌++◌, Some, length, take, slice_get, sym, ap, ◌∙◌, arith, take_all, take_more}
use Rattle.txn_commit.proofs.Common.{get_or_from_slice_get, slice_get_within, Entry, replay, after, replay_nothing, replay_kept, replay_reverted, below_get}
use Rattle.txn_commit.proofs.Common.{ClosedView, Done, IsRunInOrder}
use Rattle.txn_commit.specs.Ordered.{HasRunOn, IsSerial}

module _ {A S : Type 0} (good : List ℕ → Type 0) (means : ℕ → ℕ → List ℕ → Bool → A → List ℕ → Type 0) (closed : ClosedView S)
    (done : List (Done A)) (run : IsRunInOrder good means closed done) where
  -- what the first k entries leave
  abbrev before : ℕ → List ℕ
  before k = replay closed.base (take k run.entries)

  each : (k : ℕ) (ran : Done A) → slice_get done k ≡ Some ran → HasRunOn (means ran.caller ran.index) (before k) ran.reply (before (k + 1))
  each k ran at =
      let long : k < length run.entries = omega (arith, slice_get_within done k ran at, run.as_many) in
      let there = below_get k run.entries long in
      let e : Entry = there.0 in
      let taken : take (k + 1) run.entries ≡ take k run.entries ++ e ∷ [] = take_more run.entries k e long
      ∙ ap (λ x. take k run.entries ++ x ∷ []) (get_or_from_slice_get run.entries k e e there.1) in
      let next : before (k + 1) ≡ replay closed.base (take k run.entries ++ e ∷ []) = ap (λ l. replay closed.base l) taken in
      record {
        kept = e.kept;
        left = after e.trace (before k);
        meaning = run.meaning k ran e at there.1;
        keeps = λ kept. next ∙ replay_kept closed.base (take k run.entries) e kept;
        reverts = λ none. next ∙ replay_reverted closed.base (take k run.entries) e none;
      }

  pub is_serial : (opening : List ℕ) → closed.base ≡ opening → IsSerial good means opening closed.words done
  is_serial opening began = record {
    before = before;
    first = replay_nothing closed.base ∙ began;
    last = ap (λ l. replay closed.base l) (take_all (length done) run.entries (omega (arith, run.as_many))) ∙ sym run.words;
    good_words = λ k le. run.good_words k (omega (arith, le, run.as_many));
    each = each;
  }
