-- One script more of a caller, and one caller more.
use Rattle.worker_pool.proofs.Common.{◌≡◌, ℕ, zero, suc, ◌+◌, ◌<◌, ◌≤◌, ◌&&◌, ◌==◌, Bool, cond, List, [], ◌∷◌, ◌++◌, All, length, get_or, count_by, nat_lt}
use Rattle.worker_pool.proofs.Common.{refl, sym, ap, ◌∙◌, subst, arith, if◌then◌else◌, nat_tests, map_push, All-nil, All-push, All-weaker, sum_by_push}
use Rattle.worker_pool.proofs.Common.{caller_at, ClearingInput, Place, IsPlace, Done, place_of_item, places_of_items, RanScripts, RunsEach}
use Rattle.std.proofs.lemmas.List.Quantifiers.{all_pairs_push}
use Rattle.worker_pool.specs.Counting.{HadOneMore}

-- 1 if the test says so, and else 0
abbrev pub one_if : Bool → ℕ
one_if b = if b then 1 else 0

-- how often a place stands, with one more
one_place_more : (p q : Place) (places : List Place)
    → count_by (λ x. x.caller == p.caller && x.index == p.index) (places ++ q ∷ [])
    ≡ count_by (λ x. x.caller == p.caller && x.index == p.index) places + (if q.caller == p.caller && q.index == p.index then 1 else 0)
one_place_more p q places = sum_by_push (λ (x : Place). cond (x.caller == p.caller && x.index == p.index) 1 0) places q

next_index : (c i : ℕ) (p : Place)
    → (if p.caller == c && nat_lt p.index i then 1 else 0) + (if c == p.caller && i == p.index then 1 else 0)
    ≡ (if p.caller == c && nat_lt p.index (i + 1) then 1 else 0)
next_index c i p = grind (arith, nat_tests)

none_yet : (c : ℕ) (p : Place) → (if p.caller == c && nat_lt p.index 0 then 1 else 0) ≡ zero
none_yet c p = grind (arith, nat_tests)

whole_caller : (c n : ℕ) (p : Place) → (p.caller ≡ c → p.index < n) → one_if (p.caller == c && nat_lt p.index n) ≡ one_if (c == p.caller)
whole_caller c n p h = grind (arith, nat_tests, h)

counts_itself : (c : ℕ) → (if c == c then 1 else 0) ≡ suc zero
counts_itself c = grind (arith, nat_tests)

module _ (input : ClearingInput) (h : ℕ → ℕ) (c : ℕ) where
  -- nothing was run of callers that were not had
  pub ran_nothing : ((x : ℕ) → h x ≡ 0) → (done : List Done) → done ≡ [] → RanScripts input h c 0 done
  ran_nothing none done is = subst (λ (l : List Done). RanScripts input h c 0 l) (sym is) (record {
    only = All-nil (λ (item : Done). IsPlace input (place_of_item item));
    each = λ p there. omega (arith, none p.caller, none_yet c p);
    rising = λ i j d lt short. absurd (omega arith);
    among = All-nil (λ (item : Done). h item.caller ≡ 0 → (item.caller ≡ c) × (item.index < 0));
  })

  -- the same, whoever comes next
  pub next_caller : (b : ℕ) (done : List Done) → RanScripts input h b 0 done → RanScripts input h c 0 done
  next_caller b done r = record {
    only = r.only;
    each = λ p there. omega (arith, r.each p there, none_yet b p, none_yet c p);
    rising = r.rising;
    among = λ k d lt none. absurd (omega (arith, (r.among k d lt none).1));
  }

  -- the next script of a caller of whom nothing was run before
  pub ran_script : (i : ℕ) (old new : List Done) (item : Done) → h c ≡ 0 → IsPlace input (place_of_item item)
      → item.caller ≡ c → item.index ≡ i → new ≡ old ++ item ∷ []
      → RanScripts input h c i old → RanScripts input h c (i + 1) new
  ran_script i old new item none there caller index is r = subst (λ (l : List Done). RanScripts input h c (i + 1) l) (sym is) (record {
    only = All-push (λ (x : Done). IsPlace input (place_of_item x)) old item r.only there;
    each = λ p within.
        let its : one_if (item.caller == p.caller && item.index == p.index) ≡ one_if (c == p.caller && i == p.index) =
        (λ t. one_if (caller t == p.caller && index t == p.index)) in
        omega (
          arith,
          ap (count_by (λ q. q.caller == p.caller && q.index == p.index)) (map_push place_of_item old item),
          one_place_more p (place_of_item item) (places_of_items old),
          r.each p within,
          its,
          next_index c i p,
        );
    rising = all_pairs_push (λ x y. x.caller ≡ y.caller → x.index < y.index) old item r.rising
        (λ k d lt same. let e : (get_or old k d).caller ≡ c = same ∙ caller in omega (arith, (r.among k d lt (ap h e ∙ none)).1, index));
    among = All-push (λ (x : Done). h x.caller ≡ 0 → (x.caller ≡ c) × (x.index < i + 1)) old item
        (All-weaker (λ (x : Done). h x.caller ≡ 0 → (x.caller ≡ c) × (x.index < i)) (λ (x : Done). h x.caller ≡ 0
        → (x.caller ≡ c) × (x.index < i + 1)) (λ x t zero_is. ((t zero_is).0, omega (arith, (t zero_is).1))) old r.among)
        (λ _. (caller, omega (arith, index)));
  })

  -- all scripts of a caller
  pub ran_caller : (more : ℕ → ℕ) (done : List Done) → HadOneMore h more c
      → RanScripts input h c (length (caller_at input.callers c).scripts) done → RanScripts input more c 0 done
  ran_caller more done one r = record {
    only = r.only;
    each = λ p there. omega (
      arith,
      r.each p there,
      one p.caller,
      none_yet c p,
      whole_caller c (length (caller_at input.callers c).scripts) p (λ e. subst (λ x. p.index < length (caller_at input.callers x).scripts) e there.1),
    );
    rising = r.rising;
    among = λ k d lt none.
        let was : h (get_or done k d).caller ≡ 0 = omega (arith, one (get_or done k d).caller) in
        let e : (get_or done k d).caller ≡ c = (r.among k d lt was).0 in
        absurd (omega (arith, one c, counts_itself c, ap more e));
  }

-- of a caller that the items are of, some were had
pub among_had : (input : ClearingInput) (h : ℕ → ℕ) (c : ℕ) (done : List Done) → RanScripts input h c 0 done → All (λ item. 0 < h item.caller) done
among_had input h c done r k d lt = some (h (get_or done k d).caller) refl
  where
    some : (n : ℕ) → h (get_or done k d).caller ≡ n → 0 < h (get_or done k d).caller
    some zero e = absurd (omega (arith, (r.among k d lt e).1))
    some (suc n) e = omega arith

-- of two counts, the second with one more, and at most one of each: so is the first, and it had none of that one
few_before : (h more : ℕ → ℕ) (c : ℕ) → HadOneMore h more c → ((x : ℕ) → more x ≤ 1) → ((x : ℕ) → h x ≤ 1) × (h c ≡ 0)
few_before h more c one few = (λ x. omega (arith, one x, few x), omega (arith, one c, few c, counts_itself c))

module _ (input : ClearingInput) (h more : ℕ → ℕ) (c : ℕ) (one : HadOneMore h more c) where
  -- all scripts of one caller more
  pub runs_caller : (old new : List Done)
      → (h c ≡ 0 → RanScripts input h c 0 old → RanScripts input h c (length (caller_at input.callers c).scripts) new) → RunsEach input h old
      → RunsEach input more new
  runs_caller old new ran before few =
      let less = few_before h more c one few in
      next_caller input more 0 c new (ran_caller input h c more new one (ran less.1 (next_caller input h c 0 old (before less.0))))

-- the same items, if the same callers were had
pub same_had : (input : ClearingInput) (h same : ℕ → ℕ) (done : List Done) → ((x : ℕ) → same x ≡ h x) → RunsEach input h done → RunsEach input same done
same_had input h same done is before few =
    let r = before (λ x. omega (arith, few x, is x)) in
    record {
      only = r.only;
      each = λ p there. omega (arith, r.each p there, is p.caller);
      rising = r.rising;
      among = λ k d lt none. r.among k d lt (omega (arith, is (get_or done k d).caller, none));
    }
