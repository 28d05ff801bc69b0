-- The trades down the partners, one by one.
use Rattle.order_text.proofs.Common.{◌≡◌, ◌≢◌, ℕ, ◌+◌, ◌-◌, ◌≤◌, Bool, cond, min, List, [], ◌∷◌, ◌++◌, length, refl, sym, ap, ◌∙◌}
use Rattle.order_text.proofs.Common.{append-nil, ne_eqb, Resting, Trade, trade_with, trades_down, volume}
use Rattle.std.proofs.Common.{drop}
use Rattle.std.proofs.lemmas.List.{drop_all}

-- of the partners of an order the first were served, and so much of it is left
pub record TradedTo (quantity : ℕ) (partners : List Resting) (served : ℕ) (trades : List Trade) (left : ℕ) : Type 0 where
  pub trades_are : trades ++ trades_down left (drop served partners) ≡ trades_down quantity partners
  pub left_is : volume trades + left ≡ quantity

-- nothing is left to trade
nothing_left : (partners : List Resting) → trades_down 0 partners ≡ []
nothing_left [] = refl
nothing_left (r ∷ rs) = refl

-- one partner more is served
pub trades_first : (left : ℕ) (r : Resting) (rs : List Resting) → left ≢ 0
    → trades_down left (r ∷ rs) ≡ trade_with left r ∷ trades_down (left - min r.quantity left) rs
trades_first left r rs some_left = ap (λ (b : Bool). cond b [] (trade_with left r ∷ trades_down (left - min r.quantity left) rs)) (ne_eqb left 0 some_left)

module _ (quantity : ℕ) (partners : List Resting) (served : ℕ) (trades : List Trade) (left : ℕ) (t : TradedTo quantity partners served trades left) where
  -- all are served, or nothing is left
  pub all_served : length partners ≤ served → trades ≡ trades_down quantity partners
  all_served all = sym (append-nil trades) ∙ (ap (λ (l : List Resting). trades ++ trades_down left l) (sym (drop_all served partners all)) ∙ t.trades_are)

  pub none_left : left ≡ 0 → trades ≡ trades_down quantity partners
  none_left none = sym (append-nil trades)
      ∙ (ap (λ (l : List Trade). trades ++ l) (sym (ap (λ (n : ℕ). trades_down n (drop served partners)) none ∙ nothing_left (drop served partners)))
      ∙ t.trades_are)
