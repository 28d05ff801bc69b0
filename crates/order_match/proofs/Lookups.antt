-- All orders of a book, by looking each number up that was given.
use Rattle.order_match.proofs.Common.{◌≡◌, ℕ, ◌+◌, ◌<◌, ◌≤◌, ◌==◌, nat_le, Bool, true, false, cond, inl, inr, List, [], ◌∷◌, ◌++◌, filter, Option, Some, refl}
use Rattle.order_match.proofs.Common.{sym, ap, ◌∙◌, arith, eq-eqb, ne_eqb, cases_lt, nat_tests, Less, GREATEST_ORDER, Resting, OrderBook, by_number, order_at}
use Rattle.order_match.proofs.Common.{IsBookOf, IsRestingOrder, Has, of_every, of_one, Tells, OrderShape, HasParts, IsGoodFor, Stands, held_of}
use Rattle.std.proofs.lemmas.Cmp.{ranked}
use Rattle.std.specs.List.Sorted.{IsStrictlySortedBy}
use Rattle.order_match.specs.Inner.Listing.{found_order}
use Rattle.order_match.proofs.Books.{filter_all}

-- the last number of a book, as it is told of its parts
module _ (shape : OrderShape) (last : ℕ) where
  pub tells_last : (x y : List ℕ) → Tells (HasParts shape) (λ held. held.last) last x y → Tells (Stands shape) (λ book. book.last) last x y
  tells_last x y t = record { same = t.same; told = λ book stand. t.told (held_of book) stand.parts }

  pub last_fits : (x : List ℕ) × (y : List ℕ) × IsGoodFor shape x × Tells (HasParts shape) (λ held. held.last) last x y → last ≤ GREATEST_ORDER
  last_fits some =
      let stand = some.2.1 in
      omega (arith, some.3.told (held_of some.2.0) stand.parts, stand.book_is.room.last_is)

-- an order has a number up to this one
abbrev pub up_to : ℕ → Resting → Bool
up_to n r = nat_le r.number n

-- numbers that are not greater, and that are
within : (a b : ℕ) → a ≤ b → nat_le a b ≡ true
within a b le = grind (arith, nat_tests)

over : (a b : ℕ) → b < a → nat_le a b ≡ false
over a b lt = grind (arith, nat_tests)

-- none of these has one
none_up_to : (n : ℕ) (orders : List Resting) → ((r : Resting) → Has r orders → n < r.number) → filter (up_to n) orders ≡ []
none_up_to n [] above = refl
none_up_to n (r ∷ rs) above = ap (λ b. cond b (r ∷ filter (up_to n) rs) (filter (up_to n) rs)) (over r.number n (above r (inl refl)))
    ∙ none_up_to n rs (λ s h. above s (inr h))

-- the orders up to the next number are those up to this one, and the one that has it
one_more : (n : ℕ) (orders : List Resting) → IsStrictlySortedBy by_number orders
    → filter (up_to (n + 1)) orders ≡ filter (up_to n) orders ++ found_order (order_at (n + 1) orders)
unfolding IsStrictlySortedBy
one_more n [] rising = refl
one_more n (r ∷ rs) rising = elim (cases_lt n r.number) [
  | inl gt ↦ elim (cases_lt (n + 1) r.number) [
    | inl past ↦ by false false false (over r.number (n + 1) past) (over r.number n gt) (ne_eqb r.number (n + 1) (λ e. omega (arith, past, e)))
        (one_more n rs rising.1)
    | inr le ↦ let same : r.number ≡ n + 1 = omega (arith, gt, le) in
        by true false true (within r.number (n + 1) le) (over r.number n gt) (eq-eqb r.number (n + 1) same)
        (ap (λ (l : List Resting). r ∷ l) (none_up_to (n + 1) rs (λ s h. let later = above s h in omega (arith, later, same)))
        ∙ sym (ap (λ (l : List Resting). l ++ r ∷ []) (none_up_to n rs (λ s h. let later = above s h in omega (arith, later, same)))))
  ]
  | inr le ↦ by true true false (within r.number (n + 1) (omega (arith, le))) (within r.number n le) (ne_eqb r.number (n + 1) (λ e. omega (arith, le, e)))
      (ap (λ (l : List Resting). r ∷ l) (one_more n rs rising.1))
]
  where
    next : List Resting
    next = filter (up_to (n + 1)) rs

    so_far : List Resting
    so_far = filter (up_to n) rs

    above : (s : Resting) → Has s rs → r.number < s.number
    above s h = ranked r.number s.number Less (sym (of_one (λ w. by_number r w ≡ Less) rs s rising.0 h))

    by : (a b c : Bool) → nat_le r.number (n + 1) ≡ a → nat_le r.number n ≡ b → (r.number == n + 1) ≡ c
        → cond a (r ∷ next) next ≡ cond b (r ∷ so_far) so_far ++ found_order (cond c (Some r) (order_at (n + 1) rs))
        → filter (up_to (n + 1)) (r ∷ rs) ≡ filter (up_to n) (r ∷ rs) ++ found_order (order_at (n + 1) (r ∷ rs))
    by a b c u v w e = ap (λ x. cond x (r ∷ next) next) u
        ∙ (e ∙ (λ i. cond (sym v i) (r ∷ so_far) so_far ++ found_order (cond (sym w i) (Some r) (order_at (n + 1) rs))))

-- what is listed so far are the orders of the book up to a number
pub record IsListed (instruments last n : ℕ) (all : List Resting) (book : OrderBook) : Type 0 where
  pub book_is : IsBookOf instruments book
  pub last_is : last ≡ book.last
  pub listed : all ≡ filter (up_to n) book.orders

module _ (instruments last : ℕ) (book : OrderBook) where
  -- no number is looked up yet
  pub none_listed : (all : List Resting) → all ≡ [] → IsBookOf instruments book → last ≡ book.last → IsListed instruments last 0 all book
  none_listed all none is last_is = record {
    book_is = is;
    last_is = last_is;
    listed = none ∙ sym (none_up_to 0 book.orders
        (λ r h. let low = (of_every (IsRestingOrder instruments) book.orders r is.each h).number_is.0 in omega (arith, low)));
  }

  -- one number more is
  pub next_listed : (n : ℕ) (all : List Resting) → IsListed instruments last n all book → (answer : Option Resting) → answer ≡ order_at (n + 1) book.orders
      → (now : List Resting) → now ≡ all ++ found_order answer → IsListed instruments last (n + 1) now book
  next_listed n all so_far answer told now pushed = record {
    book_is = so_far.book_is;
    last_is = so_far.last_is;
    listed = pushed ∙ ((λ i. so_far.listed i ++ found_order (told i)) ∙ sym (one_more n book.orders so_far.book_is.room.rising));
  }

  -- all numbers were looked up
  pub lists_all : (all : List Resting) → IsListed instruments last last all book → all ≡ book.orders
  lists_all all l = l.listed ∙ (ap (λ n. filter (up_to n) book.orders) l.last_is ∙ filter_all (up_to book.last) book.orders
      (λ r h. within r.number book.last (of_every (λ (s : Resting). s.number ≤ book.last) book.orders r l.book_is.room.given h)))
