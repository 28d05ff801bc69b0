-- Lines by their kinds, and what is known of a line that no reason applies to.
use Rattle.script_reader.proofs.Common.{◌≡◌, ℕ, ◌+◌, ◌<◌, ◌^◌, ◌⊎◌, inl, inr, Bool, true, false, ◌&&◌, ◌==◌, nat_le, cond, if◌then◌else◌, List, [], ◌∷◌, codes}
use Rattle.script_reader.proofs.Common.{drop, length, Option, Some, None, refl, ap, ◌∙◌, arith, is_none, leb-true, eqb-true, bytes_eq-Decides, IsWithin, Fault}
use Rattle.script_reader.proofs.Common.{is_number, number, Words, Form, form, InScript, books_forms, turning_forms, begins, is_only, has_form, form_of}
use Rattle.script_reader.proofs.Common.{value_of, Version}
use Rattle.script_reader.proofs.text.Tokens.Numerals.{text_of_number}
use Rattle.script_reader.proofs.Conditions.{both}

-- a reason that does not apply, and what follows it
pub none_applies : (c : Bool) (why : Fault) (rest : Option Fault) → (if c then Some why else rest) ≡ None → (c ≡ false) × (rest ≡ None)
none_applies true why rest h = cc
none_applies false why rest h = (refl, h)

-- one of some forms is that of the line
pub IsOneOf : List Form → Words → Type 0
IsOneOf [] words = ⊥
IsOneOf (f ∷ forms) words = (has_form words f ≡ true) ⊎ IsOneOf forms words

pub one_of : (forms : List Form) (words : Words) → is_none (form_of forms words) ≡ false → IsOneOf forms words
unfolding IsOneOf
one_of [] words h = cc
one_of (f ∷ forms) words h = by (has_form words f) refl h (one_of forms words)
  where
    by : (b : Bool) → has_form words f ≡ b → is_none (cond b (Some f) (form_of forms words)) ≡ false
        → (is_none (form_of forms words) ≡ false → IsOneOf forms words) → IsOneOf (f ∷ forms) words
    by true e g rest = inl e
    by false e g rest = inr (rest g)

-- a line of a form begins with its word, and has so many words behind it
pub behind_keyword : (k : List ℕ) (n : ℕ) (words : Words) → (begins k words && length words == 1 + n) ≡ true
    → (words ≡ k ∷ drop 1 words) × (length (drop 1 words) ≡ n)
behind_keyword k n [] h = absurd (omega (arith, eqb-true 0 (1 + n) (both h).1))
behind_keyword k n (w ∷ words) h = (ap (λ w. w ∷ words) ((bytes_eq-Decides w k).0 (both h).0), omega (arith, eqb-true (length (w ∷ words)) (1 + n) (both h).1))

-- words by their number
pub no_words : (words : Words) → length words ≡ 0 → words ≡ []
no_words [] h = refl
no_words (w ∷ words) h = absurd (omega arith)

-- a line that is one word
pub only_word : (k : List ℕ) (words : Words) → is_only k words ≡ true → words ≡ k ∷ []
only_word k words h = let is = behind_keyword k 0 words h in is.0 ∙ ap (λ l. k ∷ l) (no_words (drop 1 words) is.1)

pub one_word : (words : Words) → length words ≡ 1 → (a : List ℕ) × (words ≡ a ∷ [])
one_word [] h = absurd (omega arith)
one_word (a ∷ words) h = (a, ap (λ l. a ∷ l) (no_words words (omega arith)))

pub two_words : (words : Words) → length words ≡ 2 → (a b : List ℕ) × (words ≡ a ∷ b ∷ [])
two_words [] h = absurd (omega arith)
two_words (a ∷ words) h = let rest = one_word words (omega arith) in (a, rest.0, ap (λ l. a ∷ l) rest.1)

pub three_words : (words : Words) → length words ≡ 3 → (a b c : List ℕ) × (words ≡ a ∷ b ∷ c ∷ [])
three_words [] h = absurd (omega arith)
three_words (a ∷ words) h = let rest = two_words words (omega arith) in (a, rest.0, rest.1, ap (λ l. a ∷ l) rest.2)

pub four_words : (words : Words) → length words ≡ 4 → (a b c d : List ℕ) × (words ≡ a ∷ b ∷ c ∷ d ∷ [])
four_words [] h = absurd (omega arith)
four_words (a ∷ words) h = let rest = three_words words (omega arith) in (a, rest.0, rest.1, rest.2, ap (λ l. a ∷ l) rest.3)

-- a row of a keyword and so many words
module _ (k : List ℕ) (words : Words) where
  pub one_behind : (begins k words && length words == 2) ≡ true → (a : List ℕ) × (words ≡ k ∷ a ∷ [])
  one_behind row = let behind = behind_keyword k 1 words row in let rest = one_word (drop 1 words) behind.1 in (rest.0, behind.0 ∙ ap (λ l. k ∷ l) rest.1)

  pub two_behind : (begins k words && length words == 3) ≡ true → (a b : List ℕ) × (words ≡ k ∷ a ∷ b ∷ [])
  two_behind row =
      let behind = behind_keyword k 2 words row in let rest = two_words (drop 1 words) behind.1 in (rest.0, rest.1, behind.0 ∙ ap (λ l. k ∷ l) rest.2)

  pub three_behind : (begins k words && length words == 4) ≡ true → (a b c : List ℕ) × (words ≡ k ∷ a ∷ b ∷ c ∷ [])
  three_behind row =
      let behind = behind_keyword k 3 words row in
      let rest = three_words (drop 1 words) behind.1 in
      (rest.0, rest.1, rest.2, behind.0 ∙ ap (λ l. k ∷ l) rest.3)

  pub four_behind : (begins k words && length words == 5) ≡ true → (a b c d : List ℕ) × (words ≡ k ∷ a ∷ b ∷ c ∷ d ∷ [])
  four_behind row =
      let behind = behind_keyword k 4 words row in
      let rest = four_words (drop 1 words) behind.1 in
      (rest.0, rest.1, rest.2, rest.3, behind.0 ∙ ap (λ l. k ∷ l) rest.4)

-- a word that is a number in a range is the text of its value
pub ranged : (word : List ℕ) (low : ℕ) {high : ℕ} → high < 2 ^ 64 → is_number word ≡ true → (nat_le low (value_of word) && nat_le (value_of word) high) ≡ true
    → (word ≡ number (value_of word)) × IsWithin low high (value_of word)
ranged word low {high} fits is within =
    let parts = both within in
    let above = leb-true low (value_of word) parts.0 in
    let below = leb-true (value_of word) high parts.1 in
    (text_of_number word is (omega arith), (above, below))

-- what a line of books is, by its kind
pub data BooksLine : Type 0 where
  AccountLine : (a cash : List ℕ) → BooksLine
  PriceLine : (i price : List ℕ) → BooksLine
  PositionLine : (a i quantity : List ℕ) → BooksLine
  CallLine : (a shortfall : List ℕ) → BooksLine
  ScriptsLine : BooksLine

abbrev pub line_words : BooksLine → Words
line_words (AccountLine a cash) = codes "account" ∷ a ∷ cash ∷ []
line_words (PriceLine i price) = codes "price" ∷ i ∷ price ∷ []
line_words (PositionLine a i quantity) = codes "position" ∷ a ∷ i ∷ quantity ∷ []
line_words (CallLine a shortfall) = codes "call" ∷ a ∷ shortfall ∷ []
line_words ScriptsLine = codes "scripts" ∷ []

pub books_line : (version : Version) (instruments : ℕ) {words : Words} → is_none (form_of (books_forms version instruments) words) ≡ false
    → (l : BooksLine) × (words ≡ line_words l)
unfolding IsOneOf
books_line version instruments {words} h = elim (one_of (books_forms version instruments) words h) [
  | inl is ↦ let e = two_behind (codes "account") words is in (AccountLine e.0 e.1, e.2)
  | inr other ↦ elim other [
    | inl is ↦ let e = two_behind (codes "price") words is in (PriceLine e.0 e.1, e.2)
    | inr other ↦ elim other [
      | inl is ↦ let e = three_behind (codes "position") words is in (PositionLine e.0 e.1 e.2, e.3)
      | inr other ↦ elim other [
        | inl is ↦ let e = two_behind (codes "call") words is in (CallLine e.0 e.1, e.2)
        | inr other ↦ elim other [
          | inl is ↦ (ScriptsLine, only_word (codes "scripts") words is)
          | inr none ↦ absurd none
        ]
      ]
    ]
  ]
]

-- the line that may stand between the parts of a script and is no operation
pub end_or_try : (words : Words) → IsOneOf (turning_forms InScript) words → (words ≡ codes "end" ∷ []) ⊎ (words ≡ codes "try" ∷ [])
unfolding IsOneOf
end_or_try words h = elim h [
  | inl is ↦ inl (only_word (codes "end") words is)
  | inr other ↦ elim other [
    | inl is ↦ inr (only_word (codes "try") words is)
    | inr none ↦ absurd none
  ]
]

-- and the one that may stand in a branch
pub closing : {k : List ℕ} {words : Words} → IsOneOf (form k [] ∷ []) words → words ≡ k ∷ []
unfolding IsOneOf
closing {k} {words} h = elim h [
  | inl is ↦ only_word k words is
  | inr none ↦ absurd none
]
