-- One turn of trading is one step down the partners, with the book between.
use Rattle.order_match.proofs.Common.{◌≡◌, ◌≢◌, ℕ, ◌-◌, ◌<◌, ◌≤◌, ◌⊎◌, ◌==◌, Bool, true, false, cond, not, min, inl, inr, ⊎_elim, List, [], ◌∷◌, ◌++◌, map}
use Rattle.order_match.proofs.Common.{filter, find, Some, refl, sym, ap, ◌∙◌, subst, arith, eq-eqb, ne_eqb, dite, ℕ_discrete, cases_lt, nat_tests, sum_by-cons}
use Rattle.order_match.proofs.Common.{IsStrictlySortedBy, Less, Equal, Resting, Trade, Matched, after_trades, in_order, match_of, orders_after, partners}
use Rattle.order_match.proofs.Common.{serving_cmp, trade_with, all_but, unique_numbers, Has, has_filtered, has_mapped, none_tie, serving_total, in_order_has}
use Rattle.order_match.proofs.Common.{in_order_sorted}
use Rattle.order_text.proofs.Common.{has_quantity, may_trade, trades_down, volume}
use Rattle.std.proofs.Common.{append_assoc}
use Rattle.std.proofs.lemmas.Cmp.{tied_itself}
use Rattle.order_text.specs.Matching.{quantity_of, traded_by}
use Rattle.order_text.proofs.Trading.{trades_first}
use Rattle.order_match.proofs.Books.{filter_all, filter_swap}
use Rattle.order_match.proofs.Served.{AreOrders, fewer_orders, in_order_filter, sorted_first}

-- how much of trades is an order's
pub traded_first : (n : ℕ) (t : Trade) (ts : List Trade) → t.order ≡ n → traded_by n (t ∷ ts) ≡ t.quantity
traded_first n t ts e = ap (λ b. quantity_of (cond b (Some t) (find (λ (x : Trade). x.order == n) ts))) (eq-eqb t.order n e)

pub traded_later : (n : ℕ) (t : Trade) (ts : List Trade) → t.order ≢ n → traded_by n (t ∷ ts) ≡ traded_by n ts
traded_later n t ts ne = ap (λ b. quantity_of (cond b (Some t) (find (λ (x : Trade). x.order == n) ts))) (ne_eqb t.order n ne)

pub traded_none : (n : ℕ) (ts : List Trade) → ((t : Trade) → Has t ts → t.order ≢ n) → traded_by n ts ≡ 0
traded_none n [] none = refl
traded_none n (t ∷ ts) none = traded_later n t ts (none t (inl refl)) ∙ traded_none n ts (λ u h. none u (inr h))

-- an order with as much left
abbrev with_quantity : ℕ → Resting → Resting
with_quantity quantity r = record r { quantity = quantity }

-- orders of each of which something is left
abbrev pub HaveQuantity : List Resting → Type 0
HaveQuantity orders = (r : Resting) → Has r orders → 0 < r.quantity

some_left : (r : Resting) → 0 < r.quantity → has_quantity r ≡ true
some_left r lt = grind (arith, nat_tests)

none_left : (r : Resting) → has_quantity r ≡ false → r.quantity ≡ 0
none_left r e = grind (arith, nat_tests, e)

no_quantity : (r : Resting) → r.quantity ≡ 0 → has_quantity r ≡ false
no_quantity r e = grind (arith, nat_tests, e)

-- no trade changes nothing
pub orders_none : (rs : List Resting) → HaveQuantity rs → orders_after [] rs ≡ rs
orders_none [] all = refl
orders_none (r ∷ rs) all =
    let same : after_trades [] r ≡ r = ap (λ n. with_quantity n r) (whole r.quantity) in
    ap (λ x. cond (has_quantity x) (x ∷ orders_after [] rs) (orders_after [] rs)) same
    ∙ (ap (λ b. cond b (r ∷ orders_after [] rs) (orders_after [] rs)) (some_left r (all r (inl refl)))
    ∙ ap (λ l. r ∷ l) (orders_none rs (λ x h. all x (inr h))))
  where
    whole : (n : ℕ) → n - 0 ≡ n
    whole n = omega arith

-- a trade and then others, none with the same order
module _ (t : Trade) (ts : List Trade) (apart : (u : Trade) → Has u ts → u.order ≢ t.order) where
  both_trades : (r : Resting) → after_trades ts (after_trades (t ∷ []) r) ≡ after_trades (t ∷ ts) r
  both_trades r = ap (λ n. with_quantity n r) (dite (ℕ_discrete t.order r.number)
      (λ e.
      let first = traded_first r.number t [] e in
      let whole = traded_first r.number t ts e in
      let rest = traded_none r.number ts (λ u h same. apart u h (same ∙ sym e)) in
      omega (arith, first, whole, rest))
      (λ ne.
      let first = traded_later r.number t [] ne in
      let whole = traded_later r.number t ts ne in
      omega (arith, first, whole)))

  pub orders_cons : (rs : List Resting) → orders_after (t ∷ ts) rs ≡ orders_after ts (orders_after (t ∷ []) rs)
  orders_cons [] = refl
  orders_cons (r ∷ rs) = at (has_quantity (after_trades (t ∷ []) r)) refl (orders_cons rs)
    where
      one : List Resting
      one = orders_after (t ∷ []) rs

      all : List Resting
      all = orders_after (t ∷ ts) rs

      at : (b : Bool) → has_quantity (after_trades (t ∷ []) r) ≡ b → orders_after (t ∷ ts) rs ≡ orders_after ts (orders_after (t ∷ []) rs)
          → orders_after (t ∷ ts) (r ∷ rs) ≡ orders_after ts (cond b (after_trades (t ∷ []) r ∷ orders_after (t ∷ []) rs) (orders_after (t ∷ []) rs))
      at true e rest =
          ap (λ x. cond (has_quantity x) (x ∷ orders_after (t ∷ ts) rs) (orders_after (t ∷ ts) rs)) (sym (both_trades r))
          ∙ ap (λ l. cond (has_quantity (after_trades ts (after_trades (t ∷ []) r))) (after_trades ts (after_trades (t ∷ []) r) ∷ l) l) rest
      at false e rest =
          let nothing = none_left (after_trades (t ∷ []) r) e in
          let same = ap (λ (x : Resting). x.quantity) (both_trades r) in
          let gone : has_quantity (after_trades (t ∷ ts) r) ≡ false = no_quantity (after_trades (t ∷ ts) r) (omega (arith, nothing, same)) in
          ap (λ b. cond b (after_trades (t ∷ ts) r ∷ orders_after (t ∷ ts) rs) (orders_after (t ∷ ts) rs)) gone ∙ rest

-- nothing is left to trade
nothing_left : (ps : List Resting) → trades_down 0 ps ≡ []
nothing_left [] = refl
nothing_left (p ∷ ps) = refl

-- each trade is with a partner
trades_from : (left : ℕ) (ps : List Resting) (u : Trade) → Has u (trades_down left ps) → (r : Resting) × (Has r ps × (u.order ≡ r.number))
trades_from left [] u h = absurd h
trades_from left (p ∷ ps) u h = at (left == 0) h (λ t. trades_from (left - min p.quantity left) ps u t)
  where
    at : (b : Bool) → Has u (cond b [] (trade_with left p ∷ trades_down (left - min p.quantity left) ps))
        → (Has u (trades_down (left - min p.quantity left) ps) → (r : Resting) × (Has r ps × (u.order ≡ r.number)))
        → (r : Resting) × (Has r (p ∷ ps) × (u.order ≡ r.number))
    at true t rest = absurd t
    at false t rest = ⊎_elim (λ (e : u ≡ trade_with left p). (p, (inl refl, ap (λ (x : Trade). x.order) e)))
        (λ t. let k = rest t in (k.0, (inr k.1.0, k.1.1))) t

-- what an order comes to, with trades in front
abbrev pub in_front : List Trade → Matched → Matched
in_front trades m = record m { trades = trades ++ m.trades }

-- an order of which so much is left
abbrev pub with_left : ℕ → Resting → Resting
with_left left order = record order { quantity = left }

module _ (order : Resting) (now : List Resting) (are : AreOrders now) (all : HaveQuantity now) where
  abbrev buys : Bool
  buys = not order.buys

  unique : (x y : Resting) → Has x now → Has y now → x.number ≡ y.number → x ≡ y
  unique = unique_numbers now are.rising

  -- if nobody is left to trade with, or nothing to trade, it is done
  pub match_ends : (left : ℕ) → (left ≡ 0) ⊎ (partners order now ≡ []) → match_of (with_left left order) now ≡ record { trades = []; left = left; orders = now }
  match_ends left ends =
      let none : trades_down left (partners order now) ≡ [] = elim ends [
        | inl e ↦ ap (λ n. trades_down n (partners order now)) e ∙ nothing_left (partners order now)
        | inr e ↦ ap (trades_down left) e
      ] in
      ap (λ (ts : List Trade). matched ts) none
      ∙ (λ i. record { trades = []; left = whole left i; orders = orders_none now all i })
    where
      matched : List Trade → Matched
      matched ts = record { trades = ts; left = left - volume ts; orders = orders_after ts now }

      whole : (n : ℕ) → n - volume [] ≡ n
      whole n = omega arith

  -- a trade with one of them
  module _ (p : Resting) (here : Has p now) (left : ℕ) where
    -- that trade alone
    abbrev one_trade : List Trade
    one_trade = trade_with left p ∷ []

    -- all others stay what they were
    pub others_after : (r : Resting) → r.number ≢ p.number → after_trades one_trade r ≡ r
    others_after r ne =
        let none = traded_later r.number (trade_with left p) [] (λ e. ne (sym e)) in
        ap (λ n. with_quantity n r) (omega (arith, none))

    -- and the order itself has so much less
    pub less_after : (after_trades one_trade p).quantity ≡ p.quantity - min p.quantity left
    less_after = ap (λ n. p.quantity - n) (traded_first p.number (trade_with left p) [] refl)

    -- an order that is filled goes
    pub filled_next : p.quantity ≤ left → orders_after one_trade now ≡ all_but p.number now
    filled_next le = each now (λ r h. h)
      where
        each : (rs : List Resting) → ((r : Resting) → Has r rs → Has r now) → orders_after one_trade rs ≡ all_but p.number rs
        each [] within = refl
        each (r ∷ rs) within = dite (ℕ_discrete r.number p.number)
            (λ e.
            let same : r ≡ p = unique r p (within r (inl refl)) here e in
            let amount : traded_by r.number one_trade ≡ min p.quantity left = traded_first r.number (trade_with left p) [] (sym e) in
            let quantity = ap (λ (x : Resting). x.quantity) same in
            let gone : has_quantity (after_trades one_trade r) ≡ false =
            no_quantity (after_trades one_trade r) (omega (arith, amount, quantity, le)) in
            ap (λ b. cond b (after_trades one_trade r ∷ orders_after one_trade rs)
            (orders_after one_trade rs)) gone
            ∙ (each rs (λ x h. within x (inr h))
            ∙ sym (ap (λ b. cond (not b) (r ∷ all_but p.number rs) (all_but p.number rs)) (eq-eqb r.number p.number e))))
            (λ ne.
            ap (λ x. cond (has_quantity x) (x ∷ orders_after one_trade rs) (orders_after one_trade rs)) (others_after r ne)
            ∙ (ap (λ b. cond b (r ∷ orders_after one_trade rs) (orders_after one_trade rs))
            (some_left r (all r (within r (inl refl))))
            ∙ (ap (λ l. r ∷ l) (each rs (λ x h. within x (inr h)))
            ∙ sym (ap (λ b. cond (not b) (r ∷ all_but p.number rs) (all_but p.number rs)) (ne_eqb r.number p.number ne)))))

    -- one that is not stays, with less
    pub partly_next : left < p.quantity → orders_after one_trade now ≡ map (after_trades one_trade) now
    partly_next lt = filter_all has_quantity (map (after_trades one_trade) now)
        (λ x h. let m = has_mapped (after_trades one_trade) now x h in ap has_quantity m.1.1 ∙ stays m.0 m.1.0)
      where
        stays : (r : Resting) → Has r now → has_quantity (after_trades one_trade r) ≡ true
        stays r h = dite (ℕ_discrete r.number p.number)
            (λ e.
            let same : r ≡ p = unique r p h here e in
            let amount : traded_by r.number one_trade ≡ min p.quantity left = traded_first r.number (trade_with left p) [] (sym e) in
            let quantity = ap (λ (x : Resting). x.quantity) same in
            some_left (after_trades one_trade r) (omega (arith, amount, quantity, lt)))
            (λ ne. ap has_quantity (others_after r ne) ∙ some_left r (all r h))

  -- the first partner trades
  module _ (p : Resting) (ps : List Resting) (is : partners order now ≡ p ∷ ps) (left : ℕ) where
    -- the orders that may trade, those of another number, and the partners after the trade
    abbrev able : List Resting
    able = filter (may_trade order) now

    abbrev others : Resting → Bool
    others r = not (r.number == p.number)

    abbrev next_partners : List Resting
    next_partners = partners order (orders_after (trade_with left p ∷ []) now)

    pub partner_here : Has p now
    partner_here = (has_filtered (may_trade order) now p
        (in_order_has (serving_cmp buys) (serving_total buys) able p
        (subst (Has p) (sym is) (inl refl)))).0

    there : (r : Resting) → Has r ps → Has r now
    there r h = (has_filtered (may_trade order) now r
        (in_order_has (serving_cmp buys) (serving_total buys) able r
        (subst (Has r) (sym is) (inr h)))).0

    served_sorted : IsStrictlySortedBy (serving_cmp buys) (p ∷ ps)
    served_sorted = subst (IsStrictlySortedBy (serving_cmp buys)) is
        (in_order_sorted (serving_cmp buys) (serving_total buys) able
        (none_tie buys able (fewer_orders (may_trade order) now are).rising))

    other_number : (r : Resting) → Has r ps → r.number ≢ p.number
    other_number r h e =
        let same : r ≡ p = unique r p (there r h) partner_here e in
        let less : serving_cmp buys p p ≡ Less = subst (λ x. serving_cmp buys p x ≡ Less) same
        (sorted_first (serving_cmp buys) p ps served_sorted r h) in
        let z : Less ≡ Equal = sym less ∙ tied_itself (serving_total buys) p in absurd (cc)

    -- without the partner, the others are left
    pub partners_rest : partners order (all_but p.number now) ≡ ps
    partners_rest =
        ap (in_order (serving_cmp buys)) (filter_swap (may_trade order) others now)
        ∙ (in_order_filter buys others able (fewer_orders (may_trade order) now are).rising
        ∙ (ap (filter others) is
        ∙ (ap (λ b. cond (not b) (p ∷ filter others ps) (filter others ps))
        (eq-eqb p.number p.number refl)
        ∙ filter_all others ps (λ r h. ap not (ne_eqb r.number p.number (other_number r h))))))

    abbrev later : List Trade
    later = trades_down (left - min p.quantity left) next_partners

    filled_partners : p.quantity ≤ left → next_partners ≡ ps
    filled_partners le = ap (partners order) (filled_next p partner_here left le) ∙ partners_rest

    nothing_later : left < p.quantity → (rs : List Resting) → trades_down (left - min p.quantity left) rs ≡ []
    nothing_later lt rs = ap (λ n. trades_down n rs) (omega (arith, lt)) ∙ nothing_left rs

    later_rest : trades_down (left - min p.quantity left) ps ≡ later
    later_rest = elim (cases_lt left p.quantity) [
      | inl lt ↦ nothing_later lt ps ∙ sym (nothing_later lt next_partners)
      | inr le ↦ sym (ap (trades_down (left - min p.quantity left)) (filled_partners le))
    ]

    trades_turn : left ≢ 0 → trades_down left (partners order now) ≡ trade_with left p ∷ later
    trades_turn some = ap (trades_down left) is ∙ (trades_first left p ps some ∙ ap (λ l. trade_with left p ∷ l) later_rest)

    later_apart : (u : Trade) → Has u later → u.order ≢ p.number
    later_apart u h = elim (cases_lt left p.quantity) [
      | inl lt ↦ absurd (subst (Has u) (nothing_later lt next_partners) h)
      | inr le ↦
          let k = trades_from (left - min p.quantity left) next_partners u h in
          λ e. other_number k.0 (subst (Has k.0) (filled_partners le) k.1.0) (sym k.1.1 ∙ e)
    ]

    matched : List Trade → Matched
    matched ts = record { trades = ts; left = left - volume ts; orders = orders_after ts now }

    -- so what the order comes to is this trade, and what it comes to after it
    pub match_turn : left ≢ 0
        → in_front (trade_with left p ∷ []) (match_of (with_left (left - min p.quantity left) order) (orders_after (trade_with left p ∷ []) now))
        ≡ match_of (with_left left order) now
    unfolding matched
    match_turn some =
        let sum = sum_by-cons (λ (x : Trade). x.quantity) (trade_with left p) later in
        let less : (left - min p.quantity left) - volume later ≡ left - volume (trade_with left p ∷ later) = omega (arith, sum) in
        (λ i. record { trades = trade_with left p ∷ later; left = less i; orders = sym (orders_cons (trade_with left p) later later_apart now) i })
        ∙ ap matched (sym (trades_turn some))

-- trades in front of others
pub in_front_more : (trades : List Trade) (t : Trade) (m : Matched) → in_front (trades ++ t ∷ []) m ≡ in_front trades (in_front (t ∷ []) m)
in_front_more trades t m = λ i. record m { trades = append_assoc trades (t ∷ []) m.trades i }
