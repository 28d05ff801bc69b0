-- A text begins with that of an input, or has a first fault there.
use Rattle.script_reader.proofs.Common.{◌⊎◌, inl, inr, ℕ, List, [], sym, subst, append-nil, Spells, IsValidInput, HasFault}
use Rattle.script_reader.specs.Grammar.{BeginWithInput}
use Rattle.script_reader.specs.Statements.{HasFrontFault, OneFront}
use Rattle.script_reader.proofs.books.Texts.Deciding.{either, front_not_both, fronts_once}
use Rattle.script_reader.proofs.books.Texts.OneInput.{one_input}

front_of : (text : List ℕ) → IsValidInput text ⊎ HasFault text → BeginWithInput text ⊎ HasFrontFault text
front_of text (inl valid) = inl (record {
  input = valid.0;
  text = [];
  two = record { front = text; spelled = valid.1; bytes_are = sym (append-nil text) };
})
front_of text (inr (number, why, inl fault)) = inr (number, why, fault)
front_of text (inr (number, why, inr on)) = inl (record {
  input = on.spelled.0;
  text = on.rest;
  two = record { front = on.front; spelled = on.spelled.1; bytes_are = on.text_is };
})

pub front_either : (text : List ℕ) → BeginWithInput text ⊎ HasFrontFault text
front_either text = front_of text (either text)

pub never_both : (text : List ℕ) → BeginWithInput text → HasFrontFault text → ⊥
never_both text begins (number, why, fault) =
    front_not_both text begins.two.front begins.text number why begins.two.bytes_are (begins.input, begins.two.spelled) fault

pub one_front : OneFront
one_front bytes input other text rest this that =
    let same = fronts_once bytes this.front text that.front rest this.bytes_are that.bytes_are (input, this.spelled) (other, that.spelled) in
    (same.0, one_input this.front input other this.spelled (subst (λ f. Spells f other) (sym same.0) that.spelled), same.1)
