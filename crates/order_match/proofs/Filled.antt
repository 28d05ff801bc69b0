-- A book after a trade of one of its orders, and what the parts hold for it.
use Rattle.order_match.proofs.Common.{◌≡◌, ◌≢◌, ℕ, ◌-◌, ◌<◌, ◌≤◌, ◌==◌, Bool, true, false, cond, inl, inr, List, [], ◌∷◌, map, filter, Some, refl, sym, ap, ◌∙◌}
use Rattle.order_match.proofs.Common.{subst, arith, eq-eqb, eqb-true, dite, ℕ_discrete, All-map, nat_cmp_total, nat_cmp-IsAntisymmetric, option_map, Less}
use Rattle.order_match.proofs.Common.{nat_cmp, Resting, Trade, after_trades, trade_with, OrderBook, by_number, IsBookOf, IsRestingOrder, Has, filtered_has}
use Rattle.order_match.proofs.Common.{has_mapped, of_every, of_one, Entries, resting_key, place_of, side_of, held_of, quantities_on, with_side}
use Rattle.std.proofs.lemmas.List.{length-map}
use Rattle.std.specs.Prelude.{find as first}
use Rattle.std.specs.List.Sorted.{IsStrictlySortedBy}
use Rattle.order_text.proofs.Members.{of_all, of_each}
use Rattle.txn_stores.proofs.Maps.{inserted_here, inserted_there}
use Rattle.order_match.proofs.Books.{held_by, keys_number, on_has, one_side, unique}
use Rattle.order_match.proofs.Filling.{HaveQuantity, less_after, others_after}
use Rattle.order_match.proofs.Keyed.{first_is, get_map, map_of}
use Rattle.order_match.proofs.Served.{AreOrders, orders_of}
use Rattle.std.specs.FinMap as finite

pub have_quantity : (instruments : ℕ) (book : OrderBook) → IsBookOf instruments book → HaveQuantity book.orders
have_quantity instruments book is r h = let q = (of_every (IsRestingOrder instruments) book.orders r is.each h).limits_are.quantity_is.0 in omega arith

-- orders keep their numbers, and so go by them
mapped_rise : (trades : List Trade) (rs : List Resting) → IsStrictlySortedBy by_number rs → IsStrictlySortedBy by_number (map (after_trades trades) rs)
unfolding IsStrictlySortedBy
mapped_rise trades [] rising = tt
mapped_rise trades (r ∷ rs) rising = (
  of_all (λ z. by_number (after_trades trades r) z ≡ Less) (map (after_trades trades) rs) (λ z t. let m = has_mapped (after_trades trades) rs z t in
      ap (λ (w : Resting). nat_cmp r.number w.number) m.1.1 ∙ of_one (λ w. by_number r w ≡ Less) rs m.0 rising.0 m.1.0),
  mapped_rise trades rs rising.1,
)

-- the book after a trade that leaves something of the order
abbrev pub partly : List Trade → OrderBook → OrderBook
partly trades book = record book { orders = map (after_trades trades) book.orders }

module _ (instruments : ℕ) (book : OrderBook) (is : IsBookOf instruments book) (p : Resting) (here : Has p book.orders) (left : ℕ)
    (low : left < p.quantity) where
  abbrev trades : List Trade
  trades = trade_with left p ∷ []

  are : AreOrders book.orders
  are = orders_of instruments book is

  all : HaveQuantity book.orders
  all = have_quantity instruments book is

  one_is : (r : Resting) → Has r book.orders → r.number ≡ p.number → r ≡ p
  one_is r h e = unique book.orders are r p h here e

  others : (r : Resting) → r.number ≢ p.number → after_trades trades r ≡ r
  others r ne = others_after p book.orders are all p here left r ne

  less : (after_trades trades p).quantity ≡ p.quantity - left
  less = let told = less_after p book.orders are all p here left in omega (arith, told, low)

  each_is : (r : Resting) → Has r book.orders → IsRestingOrder instruments (after_trades trades r)
  each_is r h = dite (ℕ_discrete r.number p.number)
      (λ e. subst (λ x. IsRestingOrder instruments (after_trades trades x)) (sym (one_is r h e)) mine)
      (λ ne. subst (IsRestingOrder instruments) (sym (others r ne)) (of_every (IsRestingOrder instruments) book.orders r is.each h))
    where
      was : IsRestingOrder instruments p
      was = of_every (IsRestingOrder instruments) book.orders p is.each here

      mine : IsRestingOrder instruments (after_trades trades p)
      mine = record {
        number_is = was.number_is;
        limits_are = record {
          instrument_is = was.limits_are.instrument_is;
          price_is = was.limits_are.price_is;
          quantity_is = let most = was.limits_are.quantity_is.1 in (omega (arith, less, low), omega (arith, less, most));
        };
      }

  pub partly_book : IsBookOf instruments (partly trades book)
  partly_book = record {
    room = record {
      blocks_are = is.room.blocks_are;
      enough = omega (arith, is.room.enough, length-map book.orders (after_trades trades));
      rising = mapped_rise trades book.orders is.room.rising;
      given = All-map (λ (r : Resting). r.number ≤ book.last) (after_trades trades) book.orders is.room.given;
      last_is = is.room.last_is;
    };
    instruments_are = is.instruments_are;
    each = of_each (IsRestingOrder instruments) (map (after_trades trades) book.orders)
        (λ x h. let m = has_mapped (after_trades trades) book.orders x h in subst (IsRestingOrder instruments) (sym m.1.1) (each_is m.0 m.1.0));
  }

  -- places stay, and so do the quantities of all others
  places_stay : (rs : List Resting) → map {B = ℕ × ℕ} (λ (r : Resting). (r.number, place_of r)) (map (after_trades trades) rs)
      ≡ map (λ (r : Resting). (r.number, place_of r)) rs
  places_stay [] = refl
  places_stay (r ∷ rs) = ap (λ (es : List (ℕ × ℕ)). (r.number, place_of r) ∷ es) (places_stay rs)

  filter_map : (side : ℕ) (rs : List Resting) → filter (λ (r : Resting). side_of r == side) (map (after_trades trades) rs)
      ≡ map (after_trades trades) (filter (λ (r : Resting). side_of r == side) rs)
  filter_map side [] = refl
  filter_map side (r ∷ rs) = at (side_of r == side) (filter_map side rs)
    where
      at : (b : Bool) → filter (λ (x : Resting). side_of x == side) (map (after_trades trades) rs)
          ≡ map (after_trades trades) (filter (λ (x : Resting). side_of x == side) rs)
          → cond b (after_trades trades r ∷ filter (λ (x : Resting). side_of x == side) (map (after_trades trades) rs))
          (filter (λ (x : Resting). side_of x == side) (map (after_trades trades) rs))
          ≡ map (after_trades trades) (cond b (r ∷ filter (λ (x : Resting). side_of x == side) rs) (filter (λ (x : Resting). side_of x == side) rs))
      at true e = ap (λ l. after_trades trades r ∷ l) e
      at false e = e

  -- entries of orders under their keys, with what is left of each
  abbrev left_of : Resting → ℕ
  left_of r = (after_trades trades r).quantity

  entries_map : (rs : List Resting) → map {B = ℕ × ℕ} (λ (r : Resting). (resting_key r, r.quantity)) (map (after_trades trades) rs)
      ≡ map (λ (r : Resting). (resting_key r, left_of r)) rs
  entries_map [] = refl
  entries_map (r ∷ rs) = ap (λ (es : List (ℕ × ℕ)). (resting_key r, left_of r) ∷ es) (entries_map rs)

  abbrev on : ℕ → List Resting
  on side = filter (λ (r : Resting). side_of r == side) book.orders

  quantities_map : (side : ℕ) → quantities_on side (map (after_trades trades) book.orders) ≡ map_of resting_key left_of (on side)
  quantities_map side = ap (λ (es : List (ℕ × ℕ)). finite.from_entries {R = nat_cmp} es)
      (ap (map {B = ℕ × ℕ} (λ (r : Resting). (resting_key r, r.quantity))) (filter_map side book.orders) ∙ entries_map (on side))

  -- an entry of another key has what it had
  same_found : (q : ℕ) (rs : List Resting) → ((r : Resting) → Has r rs → resting_key r ≡ q → left_of r ≡ r.quantity)
      → option_map left_of (first (λ r. resting_key r == q) rs) ≡ option_map (λ (r : Resting). r.quantity) (first (λ r. resting_key r == q) rs)
  same_found q [] same = refl
  same_found q (r ∷ rs) same = at (resting_key r == q) refl (same_found q rs (λ x h. same x (inr h)))
    where
      at : (b : Bool) → (resting_key r == q) ≡ b
          → option_map left_of (first (λ x. resting_key x == q) rs) ≡ option_map (λ (x : Resting). x.quantity) (first (λ x. resting_key x == q) rs)
          → option_map left_of (cond b (Some r) (first (λ x. resting_key x == q) rs))
          ≡ option_map (λ (x : Resting). x.quantity) (cond b (Some r) (first (λ x. resting_key x == q) rs))
      at true e rest = ap Some (same r (inl refl) (eqb-true (resting_key r) q e))
      at false e rest = rest

  -- what its side held, with less of it
  abbrev with_less : Entries
  with_less = finite.insert (quantities_on (side_of p) book.orders) (resting_key p) (p.quantity - left)

  side_partly : quantities_on (side_of p) (map (after_trades trades) book.orders)
      ≡ with_less
  side_partly = quantities_map (side_of p)
      ∙ finite.same_map nat_cmp_total nat_cmp-IsAntisymmetric (map_of resting_key left_of (on (side_of p)))
      with_less
      (λ q. get_map resting_key left_of q (on (side_of p)) ∙ dite (ℕ_discrete q (resting_key p))
      (λ e. subst (λ z. option_map left_of (first (λ r. resting_key r == z) (on (side_of p)))
      ≡ finite.get with_less z) (sym e)
      (ap (option_map left_of) (first_is resting_key left_of (resting_key p) p (on (side_of p))
      (filtered_has (λ (r : Resting). side_of r == side_of p) book.orders p here (eq-eqb (side_of p) (side_of p) refl)) refl
      (λ r h same. let t = on_has book.orders are (side_of p) r h in one_is r t.0 (keys_number r p (are.fit r t.0) (are.fit p here) same)))
      ∙ (ap Some less ∙ sym (inserted_here (quantities_on (side_of p) book.orders) (resting_key p) (p.quantity - left)))))
      (λ ne. same_found q (on (side_of p)) (λ r h same. let t = on_has book.orders are (side_of p) r h in
      ap (λ (x : Resting). x.quantity) (others r (λ e. ne (sym same ∙ ap resting_key (one_is r t.0 e)))))
      ∙ sym (inserted_there (quantities_on (side_of p) book.orders) (resting_key p) (p.quantity - left) q ne
      ∙ get_map resting_key (λ (r : Resting). r.quantity) q (on (side_of p)))))

  sides_partly : (side : ℕ) → side ≢ side_of p → quantities_on side (map (after_trades trades) book.orders) ≡ quantities_on side book.orders
  sides_partly side ne = quantities_map side
      ∙ finite.same_map nat_cmp_total nat_cmp-IsAntisymmetric (map_of resting_key left_of (on side)) (quantities_on side book.orders)
      (λ q. get_map resting_key left_of q (on side)
      ∙ (same_found q (on side) (λ r h same. let t = on_has book.orders are side r h in
      ap (λ (x : Resting). x.quantity) (others r (λ e. ne (sym t.1 ∙ ap side_of (one_is r t.0 e)))))
      ∙ sym (get_map resting_key (λ (r : Resting). r.quantity) q (on side))))

  pub held_partly : with_side (side_of p) with_less (held_of book)
      ≡ held_of (partly trades book)
  held_partly = held_by refl (sym (ap (λ (es : List (ℕ × ℕ)). finite.from_entries {R = nat_cmp} es) (places_stay book.orders)))
      (one_side (side_of p) with_less (held_of book)
      (λ t. quantities_on t (map (after_trades trades) book.orders)) side_partly sides_partly)
