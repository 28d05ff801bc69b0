use Rattle.books_report.proofs.Common.{◌≡◌, ℕ, ◌<◌, List, inl, inr, length, slice_index, Some, ap, arith, rules, same_Some, none-some, caller_at, SPACE}
use Rattle.books_report.proofs.Common.{IsFreeOf, number, ClearingInput, IsInput, caller-AreWords, four_words}
use Rattle.books_report.proofs.Outputs.Rows.{number-word, caller_named}
use Rattle.books_report.proofs.check.named_line.Goals.{In_ok-name}
use Rattle.books_report.proofs.check.named_line.Goals as goal

-- names and numbers have no space
name_free : {input : ClearingInput} → IsInput input → {caller : ℕ} → caller < length input.callers → IsFreeOf SPACE (caller_at input.callers caller).name
name_free {input} valid {caller} within = (caller-AreWords (caller_at input.callers caller).name (caller_named valid within)).each.1.0.0

number_free : (n : ℕ) → IsFreeOf SPACE (number n)
number_free n = (number-word n).0

-- the words that name the line, if it is named
words_of : (c : In_ok-name) (serial : ℕ) {caller : ℕ} (index restarts : ℕ) (rest : List ℕ) → caller < length c.args.input.now.callers
    → c.args.text.now ≡ four_words (number serial) (caller_at c.args.input.now.callers caller).name (number index) (number restarts) rest
    → (c.in_ok-name.name.now ≡ (caller_at c.args.input.now.callers caller).name) × (c.in_ok-name.restarts.now ≡ number restarts)
words_of c serial {caller} index restarts rest within e =
    c.in_ok-name.ensures (number serial) (caller_at c.args.input.now.callers caller).name (number index) (number restarts) rest e
    (number_free serial) (name_free c.requires.valid within) (number_free index) (number_free restarts)

pub returns-in_err-name : goal.returns-in_err-name
returns-in_err-name c = record {
  found = search rules;
  named = λ serial caller index restarts rest within left below e.
      absurd (c.in_err-name.ensures (number serial) (caller_at c.args.input.now.callers caller).name (number index)
      (number restarts) rest e (number_free serial) (name_free c.requires.valid within) (number_free index) (number_free restarts));
}

pub returns-in_err-caller : goal.returns-in_err-caller
returns-in_err-caller c = record {
  found = search rules;
  named = λ serial caller index restarts rest within left below e.
      let words = words_of (goal.at.returns-in_err-caller c).In_ok-name serial index restarts rest within e in
      absurd (none-some _ (c.in_err-caller.ensures.named caller within words.0));
}

pub returns-in_err-restarts : goal.returns-in_err-restarts
returns-in_err-restarts c = record {
  found = search rules;
  named = λ serial caller index restarts rest within left below e.
      let words = words_of (goal.at.returns-in_err-restarts c).In_ok-name serial index restarts rest within e in
      absurd (none-some _ (c.in_err-restarts.ensures restarts (omega (arith, below)) words.1));
}

pub returns-then-restarts-lt-RESTARTS_BELOW : goal.returns-then-restarts-lt-RESTARTS_BELOW
returns-then-restarts-lt-RESTARTS_BELOW c = record {
  found = search rules;
  named = λ serial caller index restarts rest within left below e.
      let words = words_of (goal.at.returns-then-restarts-lt-RESTARTS_BELOW c).In_ok-name serial index restarts rest within e in
      let its : c.in_ok-caller.caller ≡ caller = same_Some _ _ (c.in_ok-caller.ensures.named caller within words.0) in
      let read : c.in_ok-restarts.restarts ≡ restarts = same_Some _ _ (c.in_ok-restarts.ensures restarts (omega (arith, below)) words.1) in
      λ i. Some (record { caller = its i; index = slice_index c.args.done.now (its i); restarts = read i });
}

pub returns-else-index-scripts_of : goal.returns-else-index-scripts_of
returns-else-index-scripts_of c = record {
  found = search rules;
  named = λ serial caller index restarts rest within left below e.
      let words = words_of (goal.at.returns-else-index-scripts_of c).In_ok-name serial index restarts rest within e in
      let its : c.in_ok-caller.caller ≡ caller = same_Some _ _ (c.in_ok-caller.ensures.named caller within words.0) in
      let read : c.in_ok-restarts.restarts ≡ restarts = same_Some _ _ (c.in_ok-restarts.ensures restarts (omega (arith, below)) words.1) in
      elim c.else-index-scripts_of.either [
        | inl many ↦ absurd (omega (arith, many.1, read, below))
        | inr none ↦ absurd (omega (
          arith,
          none,
          c.scripts_of.ensures,
          ap (λ x. length (caller_at c.args.input.now.callers x).scripts) its,
          ap (slice_index c.args.done.now) its,
          left,
        ))
      ];
}
