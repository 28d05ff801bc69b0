-- The kinds of entries that the chains hold, prices and positions; and one that is put or taken out, in what the chains hold.
use Rattle.txn_books.proofs.Common.{◌≡◌, ◌≢◌, ℕ, ◌+◌, ◌/◌, ◌%◌, ◌<◌, ◌≤◌, Bool, true, false, cond, not, Option, Some, None, refl, sym, ap, ◌∙◌, subst, arith}
use Rattle.txn_books.proofs.Common.{rules, true≢false, dite, ℕ_discrete, IsTotalOrder, nat_cmp_total, tied_itself, Ordering, nat_cmp, eq_by_cmp, is_eq}
use Rattle.txn_books.proofs.Common.{nat_cmp-IsAntisymmetric, CmpEqualImpliesEq, tells_apart, MOST_INSTRUMENTS, ClearingBooks, position_cmp, put_price}
use Rattle.txn_books.proofs.Common.{put_quantity, AreInRange, positions_total, exact_positions, Entries, insert_same, insert_other, price_key_of}
use Rattle.txn_books.proofs.Common.{position_key_of, chained, IsInstrument, is_price_key}
use Rattle.txn_books.proofs.OneState.Chained.{IsPlace, price_in, position_in, get_price, get_position}
use Rattle.std.specs.FinMap as entry_map

-- a map after a put or a removal, at that key and at others
module _ {K : Type 0} {R : K → K → Ordering} (total : IsTotalOrder R) (exact : CmpEqualImpliesEq R) (m : entry_map.FinMap R ℕ) (k : K) where
  apart : (q : K) → q ≢ k → eq_by_cmp R q k ≡ false
  apart q ne = at (eq_by_cmp R q k) refl
    where
      at : (b : Bool) → eq_by_cmp R q k ≡ b → eq_by_cmp R q k ≡ false
      at false e = e
      at true e = absurd (ne (tells_apart exact q k e))

  pub put_here : (v : ℕ) → entry_map.get (entry_map.insert m k v) k ≡ Some v
  put_here v = entry_map.get-insert total m k v k ∙ ap (λ b. cond b (Some v) (entry_map.get m k)) (ap is_eq (tied_itself total k))

  pub put_there : (v : ℕ) (q : K) → q ≢ k → entry_map.get (entry_map.insert m k v) q ≡ entry_map.get m q
  put_there v q ne = entry_map.get-insert total m k v q ∙ ap (λ b. cond b (Some v) (entry_map.get m q)) (apart q ne)

  pub out_here : entry_map.get (entry_map.remove m k) k ≡ None
  out_here = entry_map.get-remove total m k k ∙ ap (λ b. cond b None (entry_map.get m k)) (ap is_eq (tied_itself total k))

  pub out_there : (q : K) → q ≢ k → entry_map.get (entry_map.remove m k) q ≡ entry_map.get m q
  out_there q ne = entry_map.get-remove total m k q ∙ ap (λ b. cond b None (entry_map.get m q)) (apart q ne)

-- a map from which an absent key is taken is the same
pub remove_absent : {K : Type 0} {R : K → K → Ordering} → IsTotalOrder R → CmpEqualImpliesEq R
    → (m : entry_map.FinMap R ℕ) (k : K) → entry_map.get m k ≡ None → entry_map.remove m k ≡ m
remove_absent {K} {R} total exact m k none = entry_map.same_map total exact (entry_map.remove m k) m (λ q. at q (eq_by_cmp R q k) refl)
  where
    at : (q : K) (b : Bool) → eq_by_cmp R q k ≡ b → entry_map.get (entry_map.remove m k) q ≡ entry_map.get m q
    at q false e = entry_map.get-remove total m k q ∙ ap (λ b. cond b None (entry_map.get m q)) e
    at q true e = entry_map.get-remove total m k q ∙ ap (λ b. cond b None (entry_map.get m q)) e ∙ sym (ap (entry_map.get m) (tells_apart exact q k e) ∙ none)

-- a kind of entries that the chains hold, prices or positions: its keys among those of the chains, and which are its own
pub record Kind {K : Type 0} (R : K → K → Ordering) : Type 0 where
  pub total : IsTotalOrder R
  pub exact : CmpEqualImpliesEq R
  pub key_of : K → ℕ
  pub back : ℕ → K
  pub is_own : ℕ → Bool
  pub there : (key : ℕ) → is_own key ≡ true → key_of (back key) ≡ key

abbrev pub prices : Kind nat_cmp
prices = record {
  total = nat_cmp_total;
  exact = nat_cmp-IsAntisymmetric;
  key_of = price_key_of;
  back = λ key. key + 1;
  is_own = is_price_key;
  there = λ key is. omega arith;
}

abbrev pub positions : Kind position_cmp
positions = record {
  total = positions_total;
  exact = exact_positions;
  key_of = λ p. position_key_of p.0 p.1;
  back = λ key. (key / MOST_INSTRUMENTS, key % MOST_INSTRUMENTS + 1);
  is_own = λ key. not (is_price_key key);
  there = λ key is. omega arith;
}

module _ {K : Type 0} {R : K → K → Ordering} (kind : Kind R) where
  -- a place that has a key of the kind
  abbrev pub IsIn : K → Type 0
  IsIn p = (kind.is_own (kind.key_of p) ≡ true) × (kind.back (kind.key_of p) ≡ p)

  -- the map says of the kind what the entries of the chains say
  abbrev pub Says : Entries → entry_map.FinMap R ℕ → Type 0
  Says have m = (p : K) → IsIn p → entry_map.get m p ≡ entry_map.get have (kind.key_of p)

  -- the place of a key of the kind
  pub back_in : (key : ℕ) → kind.is_own key ≡ true → IsIn (kind.back key)
  back_in key mine = (ap kind.is_own (kind.there key mine) ∙ mine, ap kind.back (kind.there key mine))

  -- two lists of entries of which the map says the same are alike at the kind's keys
  pub both_say : (f g : Entries) (m : entry_map.FinMap R ℕ) → Says f m → Says g m → (key : ℕ) → kind.is_own key ≡ true
      → entry_map.get f key ≡ entry_map.get g key
  both_say f g m h k key mine =
      let is : IsIn (kind.back key) = back_in key mine in
      let same : kind.key_of (kind.back key) ≡ key = kind.there key mine in
      sym (ap (entry_map.get f) same) ∙ sym (h (kind.back key) is) ∙ k (kind.back key) is ∙ ap (entry_map.get g) same

  -- a change of the entries at another kind's key
  pub says_past : (key : ℕ) → kind.is_own key ≡ false → (have after : Entries) (m : entry_map.FinMap R ℕ)
      → ((q : ℕ) → q ≢ key → entry_map.get after q ≡ entry_map.get have q) → Says have m → Says after m
  says_past key not_mine have after m others h p is = h p is ∙ sym (others (kind.key_of p) (λ e. true≢false (sym is.0 ∙ ap kind.is_own e ∙ not_mine)))

  -- and a change of both at one key
  says_at : (key : ℕ) → kind.is_own key ≡ true → (have after : Entries) (m n : entry_map.FinMap R ℕ)
      → entry_map.get n (kind.back key) ≡ entry_map.get after key → ((p : K) → p ≢ kind.back key → entry_map.get n p ≡ entry_map.get m p)
      → ((q : ℕ) → q ≢ key → entry_map.get after q ≡ entry_map.get have q) → Says have m → Says after n
  says_at key mine have after m n here places others h p is = dite (ℕ_discrete (kind.key_of p) key)
      (λ e. ap (entry_map.get n) (sym is.1 ∙ ap kind.back e) ∙ here ∙ sym (ap (entry_map.get after) e))
      (λ ne. places p (λ e. ne (ap kind.key_of e ∙ kind.there key mine)) ∙ h p is ∙ sym (others (kind.key_of p) ne))

  pub says_put : (key x : ℕ) → kind.is_own key ≡ true → (have : Entries) (m : entry_map.FinMap R ℕ)
      → Says have m → Says (entry_map.insert have key x) (entry_map.insert m (kind.back key) x)
  says_put key x mine have m = says_at key mine have (entry_map.insert have key x) m (entry_map.insert m (kind.back key) x)
      (put_here kind.total kind.exact m (kind.back key) x ∙ sym (insert_same have key x))
      (put_there kind.total kind.exact m (kind.back key) x) (insert_other have key x)

  pub says_cut : (key : ℕ) → kind.is_own key ≡ true → (have : Entries) (m : entry_map.FinMap R ℕ)
      → Says have m → Says (entry_map.remove have key) (entry_map.remove m (kind.back key))
  says_cut key mine have m = says_at key mine have (entry_map.remove have key) m (entry_map.remove m (kind.back key))
      (out_here kind.total kind.exact m (kind.back key) ∙ sym (out_here nat_cmp_total nat_cmp-IsAntisymmetric have key))
      (out_there kind.total kind.exact m (kind.back key)) (out_there nat_cmp_total nat_cmp-IsAntisymmetric have key)

  -- the map has nothing but what the entries of the chains have of the kind
  pub record Alike (have : Entries) (m : entry_map.FinMap R ℕ) : Type 0 where
    pub says : Says have m
    pub own : (p : K) (x : ℕ) → entry_map.get m p ≡ Some x → IsIn p

  -- maps that are alike to the same are one
  pub alike_one : {have : Entries} {m n : entry_map.FinMap R ℕ} → Alike have m → Alike have n → m ≡ n
  alike_one {m = m} {n} h k = entry_map.same_map kind.total kind.exact m n (λ p. at p (entry_map.get m p) (entry_map.get n p) refl refl)
    where
      at : (p : K) (o q : Option ℕ) → entry_map.get m p ≡ o → entry_map.get n p ≡ q → entry_map.get m p ≡ entry_map.get n p
      at p (Some x) q e g = let is : IsIn p = h.own p x e in h.says p is ∙ sym (k.says p is)
      at p None (Some x) e g = let is : IsIn p = k.own p x g in h.says p is ∙ sym (k.says p is)
      at p None None e g = e ∙ sym g

-- which keys are those of prices
pub is_price : (key : ℕ) → key < MOST_INSTRUMENTS → is_price_key key ≡ true
is_price key lt = grind (arith, rules, lt)

pub no_price : (key : ℕ) → MOST_INSTRUMENTS ≤ key → is_price_key key ≡ false
no_price key le = grind (arith, rules, le)

price_below : (key : ℕ) → is_price_key key ≡ true → key < MOST_INSTRUMENTS
price_below key is = grind (arith, rules, is)

price_above : (key : ℕ) → not (is_price_key key) ≡ true → MOST_INSTRUMENTS ≤ key
price_above key is = grind (arith, rules, is)

-- instruments and places are in their kinds
price_in_kind : (i : ℕ) → IsInstrument i → IsIn prices i
price_in_kind i p = (is_price (price_key_of i) (omega (arith, p.0, p.1)), omega (arith, p.0))

place_in_kind : (p : ℕ × ℕ) → IsPlace p → IsIn positions p
place_in_kind p is = (
  ap not (no_price (position_key_of p.0 p.1) (omega (arith, is.0))),
  (let account : position_key_of p.0 p.1 / MOST_INSTRUMENTS ≡ p.0 = omega (arith, is.1.0, is.1.1) in
      let instrument : position_key_of p.0 p.1 % MOST_INSTRUMENTS + 1 ≡ p.1 = omega (arith, is.1.0, is.1.1) in λ j. (account j, instrument j)),
)

module _ {books : ClearingBooks} (range : AreInRange books) where
  -- the chains of books say what their maps say
  pub prices_alike : Alike prices (chained books) books.prices
  prices_alike = record {
    says = λ i is. sym (get_price books range i (omega (arith, is.1), omega (arith, price_below _ is.0, is.1)));
    own = λ i x e. price_in_kind i (price_in books range i x e);
  }

  pub positions_alike : Alike positions (chained books) books.positions
  positions_alike = record {
    says = λ p is.
        let le : MOST_INSTRUMENTS ≤ position_key_of p.0 p.1 = price_above _ is.0 in
        let account : position_key_of p.0 p.1 / MOST_INSTRUMENTS ≡ p.0 = ap (λ (q : ℕ × ℕ). q.0) is.1 in
        let instrument : position_key_of p.0 p.1 % MOST_INSTRUMENTS + 1 ≡ p.1 = ap (λ (q : ℕ × ℕ). q.1) is.1 in
        sym (get_position books range p.0 p.1 (omega (arith, le, account)) (omega (arith, instrument), omega (arith, instrument)));
    own = λ p x e. place_in_kind p (position_in books range p x e);
  }

  -- entries of which both maps say the same are what the chains hold
  pub chained_is : (f : Entries) → Says prices f books.prices → Says positions f books.positions → f ≡ chained books
  chained_is f priced held = entry_map.same_map nat_cmp_total nat_cmp-IsAntisymmetric f (chained books)
      (λ key. elim (is_price_key key) as (λ b. is_price_key key ≡ b → entry_map.get f key ≡ entry_map.get (chained books) key) [
        | true ↦ λ is. both_say prices f (chained books) books.prices priced prices_alike.says key is
        | false ↦ λ is. both_say positions f (chained books) books.positions held positions_alike.says key (ap not is)
      ] refl)

module _ (books : ClearingBooks) (range : AreInRange books) where
  pub price_chained : (i v : ℕ) → IsInstrument i → AreInRange (put_price books i v)
      → entry_map.insert (chained books) (price_key_of i) v ≡ chained (put_price books i v)
  price_chained i v is later =
      let own : IsIn prices i = price_in_kind i is in
      chained_is later (entry_map.insert (chained books) (price_key_of i) v)
      (subst (λ j. Says prices (entry_map.insert (chained books) (price_key_of i) v) (entry_map.insert books.prices j v)) own.1
      (says_put prices (price_key_of i) v own.0 (chained books) books.prices (prices_alike range).says))
      (says_past positions (price_key_of i) (ap not own.0) (chained books) _ books.positions
      (insert_other (chained books) (price_key_of i) v) (positions_alike range).says)

  module _ (a i : ℕ) (account : 1 ≤ a) (is : IsInstrument i) where
    own : IsIn positions (a, i)
    own = place_in_kind (a, i) (account, is)

    past : is_price_key (position_key_of a i) ≡ false
    past = no_price (position_key_of a i) (omega (arith, account))

    pub position_chained : (v : ℕ) → AreInRange (put_quantity books a i v)
        → entry_map.insert (chained books) (position_key_of a i) v ≡ chained (put_quantity books a i v)
    position_chained v later = chained_is later (entry_map.insert (chained books) (position_key_of a i) v)
        (says_past prices (position_key_of a i) past (chained books) _ books.prices
        (insert_other (chained books) (position_key_of a i) v) (prices_alike range).says)
        (subst (λ p. Says positions (entry_map.insert (chained books) (position_key_of a i) v) (entry_map.insert books.positions p v)) own.1
        (says_put positions (position_key_of a i) v own.0 (chained books) books.positions (positions_alike range).says))

    pub position_unchained : AreInRange (record books { positions = entry_map.remove books.positions (a, i) })
        → entry_map.remove (chained books) (position_key_of a i) ≡ chained (record books { positions = entry_map.remove books.positions (a, i) })
    position_unchained later = chained_is later
        (entry_map.remove (chained books) (position_key_of a i))
        (says_past prices (position_key_of a i) past (chained books) _ books.prices
        (out_there nat_cmp_total nat_cmp-IsAntisymmetric (chained books) (position_key_of a i)) (prices_alike range).says)
        (subst (λ p. Says positions (entry_map.remove (chained books) (position_key_of a i)) (entry_map.remove books.positions p)) own.1
        (says_cut positions (position_key_of a i) own.0 (chained books) books.positions (positions_alike range).says))
