-- A walk over the entries of a map, from key to key.
use Rattle.txn_books.proofs.Common.{◌≡◌, ◌≢◌, ℕ, ◌≤◌, Bool, true, false, cond, T, ◌&&◌, List, [], ◌∷◌, Option, Some, None, refl, sym, ap, ◌∙◌, subst, arith}
use Rattle.txn_books.proofs.Common.{Ordering, Less, Equal, Greater, IsTotalOrder, tied_itself, nat_cmp, is_lt, is_eq, eq_by_cmp, AllByRecursion, find}
use Rattle.txn_books.proofs.Common.{below_all, is_sorted, same_Some, CmpEqualImpliesEq, tells_apart, below_first, below_rest, sorted_first, sorted_rest}
use Rattle.txn_books.proofs.Common.{All-entries, AddsUp, above}
use Rattle.std.specs.Cmp.{nat_cmp_is}
use Rattle.std.specs.Ordering.{ordering_reverse}
use Rattle.books_model.proofs.Maps.Keys.{below_less}
use Rattle.txn_books.proofs.ReadOff.Adding.{or_else}
use Rattle.txn_books.proofs.OneState.ChainedChanges.{put_here, put_there}
use Rattle.std.specs.FinMap as entry_map
use Rattle.std.specs.FinMap.Entries as sorted

module _ {K : Type 0} {R : K → K → Ordering} (o : IsTotalOrder R) where
  all_above : (k : K) (es : List (K × ℕ)) → T (below_all R k es) → above R k es ≡ es
  all_above k [] h = refl
  all_above k (e ∷ es) h = ap (λ r. cond (is_lt r) (e ∷ above R k es) (above R k es)) (below_first R k e es h)
      ∙ ap (λ ds. e ∷ ds) (all_above k es (below_rest R k e es h))

  found_after : (d : K) (p : K × ℕ → Bool) (e : K × ℕ) (es : List (K × ℕ)) → T (below_all R d es) → find p es ≡ Some e → R d e.0 ≡ Less
  found_after d p e [] h f = absurd (cc)
  found_after d p e (x ∷ es) h f = elim (p x) as (λ b. p x ≡ b → cond b (Some x) (find p es) ≡ Some e → R d e.0 ≡ Less) [
    | true ↦ λ _ g. subst (λ (z : K × ℕ). R d z.0 ≡ Less) (same_Some x e g) (below_first R d x es h)
    | false ↦ λ _ g. found_after d p e es (below_rest R d x es h) g
  ] refl f

  not_above : (d e : K) → R d e ≡ Less → is_lt (R e d) ≡ false
  not_above d e less = ap is_lt (o.antisymm e d ∙ ap ordering_reverse less)

  not_itself : (k : K) → is_lt (R k k) ≡ false
  not_itself k = ap is_lt (tied_itself o k)

  -- the first entry above a key, and those above it, are those above the key
  pub above_next : (k : K) (e : K × ℕ) (es : List (K × ℕ)) → T (is_sorted R es) → find (λ d. is_lt (R k d.0)) es ≡ Some e → above R k es ≡ e ∷ above R e.0 es
  above_next k e [] h f = absurd (cc)
  above_next k e (x ∷ es) h f = elim (R k x.0) as (λ r. R k x.0 ≡ r
      → cond (is_lt r) (Some x) (find (λ d. is_lt (R k d.0)) es) ≡ Some e → cond (is_lt r) (x ∷ above R k es) (above R k es) ≡ e ∷ above R e.0 (x ∷ es)) [
        | Less ↦ λ less g. first less (same_Some x e g)
        | Equal ↦ λ _ g. later g (above_next k e es (sorted_rest R x es h) g)
        | Greater ↦ λ _ g. later g (above_next k e es (sorted_rest R x es h) g)
      ] refl f
    where
      first : R k x.0 ≡ Less → x ≡ e → x ∷ above R k es ≡ e ∷ above R e.0 (x ∷ es)
      first less same =
          ap (λ ds. x ∷ ds) (all_above k es (below_less R o k x.0 es less (sorted_first R x es h))
          ∙ sym (all_above x.0 es (sorted_first R x es h)) ∙ sym (ap (λ b. cond b (x ∷ above R x.0 es) (above R x.0 es)) (not_itself x.0)))
          ∙ ap (λ (z : K × ℕ). z ∷ above R z.0 (x ∷ es)) same

      later : find (λ d. is_lt (R k d.0)) es ≡ Some e → above R k es ≡ e ∷ above R e.0 es → above R k es ≡ e ∷ above R e.0 (x ∷ es)
      later g rest = rest ∙ ap (λ ds. e ∷ ds)
          (sym (ap (λ b. cond b (x ∷ above R e.0 es) (above R e.0 es))
          (not_above x.0 e.0 (found_after x.0 (λ d. is_lt (R k d.0)) e es (sorted_first R x es h) g))))

  -- and if there is none, none is above it
  pub above_end : (k : K) (es : List (K × ℕ)) → find (λ d. is_lt (R k d.0)) es ≡ None → above R k es ≡ []
  above_end k [] f = refl
  above_end k (x ∷ es) f = elim (is_lt (R k x.0)) as (λ b. cond b (Some x) (find (λ d. is_lt (R k d.0)) es) ≡ None
      → cond b (x ∷ above R k es) (above R k es) ≡ []) [
        | true ↦ λ g. absurd (cc)
        | false ↦ λ g. above_end k es g
      ] f

  below_all_of : (k : K) (es : List (K × ℕ)) → AllByRecursion (λ e. R k e.0 ≡ Less) es → T (below_all R k es)
  below_all_of k [] h = tt
  below_all_of k (e ∷ es) h = subst (λ r. T (is_lt r && below_all R k es)) (sym h.0) (below_all_of k es h.1)

  none_below : (q : K) (es : List (K × ℕ)) → T (below_all R q es) → sorted.find R q es ≡ None
  none_below q [] h = refl
  none_below q (e ∷ es) h = ap (λ r. cond (is_eq r) (Some e.1) (sorted.find R q es)) (below_first R q e es h) ∙ none_below q es (below_rest R q e es h)

  module _ (exact : CmpEqualImpliesEq R) where
    -- entries in order that a map lacks make the map that has what they say, and else what it had
    adds_sorted : (es : List (K × ℕ)) (f g : entry_map.FinMap R ℕ) → T (is_sorted R es) → ((k : K) → sorted.find R k es ≢ None → entry_map.get f k ≡ None)
        → ((k : K) → entry_map.get g k ≡ or_else (sorted.find R k es) (entry_map.get f k)) → AddsUp f es g
    adds_sorted [] f g h new is = entry_map.same_map o exact f g (λ q. sym (is q))
    adds_sorted (e ∷ es) f g h new is = (
      new e.0 (λ none. let some : Some e.1 ≡ None = sym here ∙ none in cc),
      adds_sorted es (entry_map.insert f e.0 e.1) g (sorted_rest R e es h)
          (λ k some. at k (eq_by_cmp R k e.0) refl some)
          (λ k. both k (eq_by_cmp R k e.0) refl),
    )
      where
        here : sorted.find R e.0 (e ∷ es) ≡ Some e.1
        here = ap (λ r. cond (is_eq r) (Some e.1) (sorted.find R e.0 es)) (tied_itself o e.0)

        none : (k : K) → k ≡ e.0 → sorted.find R k es ≡ None
        none k same = ap (λ q. sorted.find R q es) same ∙ none_below e.0 es (sorted_first R e es h)

        differs : (k : K) → eq_by_cmp R k e.0 ≡ false → k ≢ e.0
        differs k b same = let yes : eq_by_cmp R k e.0 ≡ true = ap (λ q. eq_by_cmp R q e.0) same
            ∙ ap is_eq (tied_itself o e.0) in let no : true ≡ false = sym yes ∙ b in cc

        at : (k : K) (b : Bool) → eq_by_cmp R k e.0 ≡ b → sorted.find R k es ≢ None → entry_map.get (entry_map.insert f e.0 e.1) k ≡ None
        at k true b some = absurd (some (none k (tells_apart exact k e.0 b)))
        at k false b some = put_there o exact f e.0 e.1 k (differs k b) ∙ new k (λ gone. some (sym (ap (λ z. cond z (Some e.1) (sorted.find R k es)) b) ∙ gone))

        both : (k : K) (b : Bool) → eq_by_cmp R k e.0 ≡ b → entry_map.get g k ≡ or_else (sorted.find R k es) (entry_map.get (entry_map.insert f e.0 e.1) k)
        both k true b =
            let same : k ≡ e.0 = tells_apart exact k e.0 b in
            is k ∙ ap (λ z. or_else (cond z (Some e.1) (sorted.find R k es)) (entry_map.get f k)) b
            ∙ sym (ap (λ p. or_else p (entry_map.get (entry_map.insert f e.0 e.1) k)) (none k same)
            ∙ ap (entry_map.get (entry_map.insert f e.0 e.1)) same ∙ put_here o exact f e.0 e.1)
        both k false b =
            is k ∙ ap (λ z. or_else (cond z (Some e.1) (sorted.find R k es)) (entry_map.get f k)) b
            ∙ ap (λ p. or_else (sorted.find R k es) p) (sym (put_there o exact f e.0 e.1 k (differs k b)))

    or_empty : (p : Option ℕ) (q : Option ℕ) → q ≡ None → p ≡ or_else p q
    or_empty None q e = sym e
    or_empty (Some x) q e = refl

    -- a walk from a key that is below all entries makes the whole map
    pub walk_all : (m : entry_map.FinMap R ℕ) (k : K) → ((q : K) (v : ℕ) → entry_map.get m q ≡ Some v → R k q ≡ Less)
        → AddsUp entry_map.empty (above R k (entry_map.entries m)) m
    walk_all m k low =
        let es : List (K × ℕ) = entry_map.entries m in
        let all : above R k es ≡ es = all_above k es (below_all_of k es (All-entries o exact (λ e. R k e.0 ≡ Less) m low)) in
        subst (λ ds. AddsUp entry_map.empty ds m) (sym all)
        (adds_sorted es entry_map.empty m (entry_map.entries_sorted m) (λ q some. entry_map.get-empty R q)
        (λ q. entry_map.get-entries m q ∙ or_empty (sorted.find R q es) (entry_map.get entry_map.empty q) (entry_map.get-empty R q)))

-- a number is above 0
pub above_zero : (n : ℕ) → 1 ≤ n → nat_cmp 0 n ≡ Less
above_zero n le = sym (nat_cmp_is 0 n Less (omega (arith, le)))
