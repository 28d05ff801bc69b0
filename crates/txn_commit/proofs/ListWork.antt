-- What one worker ran: a job more, a list more, and the callers so far.
use Rattle.txn_commit.proofs.Common.{◌≡◌, ◌≢◌, ℕ, zero, suc, ◌+◌, ◌<◌, ◌≤◌, ◌%◌, ◌==◌, Bool, true, false, cond, ⊎_elim, List, [], ◌∷◌, ◌++◌, All, map, get_or}
use Rattle.txn_commit.proofs.Common.{slice_get, Some, length, refl, sym, ap, ◌∙◌, subst, arith, append_assoc, length-append, filter, range_with_len, append-nil}
use Rattle.txn_commit.proofs.Common.{length-map, map_push, All-append, All-push, All-weaker, get_or-range_with_len, length-range_with_len}
use Rattle.txn_commit.proofs.Common.{get_or_from_slice_get, slice_get_within, dite, dec_lt, View, number, at_map, Done, indexes_of, jobs_of_first, HasRun}
use Rattle.txn_commit.proofs.Common.{IsMade, Made, RanFirst, RanList}
use Rattle.std.specs.Prelude.{sum_by}
use Rattle.std.proofs.lemmas.Bool.Decides.{eqb_tells}
use Rattle.std.proofs.lemmas.List.{map-append, map-id}
use Rattle.std.proofs.lemmas.List.Elements.{All-head, All-nil, All-tail, filter-append}
use Rattle.std.proofs.lemmas.List.FromFn.{map-range_with_len_more}
use Rattle.std.proofs.lemmas.List.Sums.{sum_by_push}
use Rattle.txn_commit.specs.Inner.ListWork.{RanOne}

-- one number more
pub range_on : (a n j : ℕ) → a + n ≡ j → range_with_len a (n + 1) ≡ range_with_len a n ++ j ∷ []
range_on a n j is = sym (map-id (range_with_len a (n + 1))) ∙ map-range_with_len_more (λ (k : ℕ). k) a n j is
    ∙ ap (λ l. l ++ j ∷ []) (map-id (range_with_len a n))

pub range_more : (n : ℕ) → range_with_len 0 (n + 1) ≡ range_with_len 0 n ++ n ∷ []
range_more n = range_on 0 n n (omega arith)

-- if a list's numbers are a range, each is that of its place
pub in_range : {X : Type 0} (f : X → ℕ) (a n : ℕ) (xs : List X) → map f xs ≡ range_with_len a n → (p : ℕ) (x : X) → slice_get xs p ≡ Some x → f x ≡ a + p
in_range f a n xs is p x at =
    let within : p < n = omega (arith, slice_get_within xs p x at, ap (λ l. length l) is, length-map xs f, length-range_with_len a n) in
    sym (get_or_from_slice_get (map f xs) p (f x) 0 (at_map f xs p x at)) ∙ ap (λ l. get_or l p 0) is ∙ get_or-range_with_len a n p 0 within

-- the jobs of one caller more
pub jobs_more : (jobs : ℕ → ℕ) (n : ℕ) → jobs_of_first jobs (n + 1) ≡ jobs_of_first jobs n + jobs n
jobs_more jobs n = ap (sum_by jobs) (range_more n) ∙ sum_by_push jobs (range_with_len 0 n) n

pub jobs_within : (jobs : ℕ → ℕ) (n m : ℕ) → n ≤ m → jobs_of_first jobs n ≤ jobs_of_first jobs m
jobs_within jobs n zero le = let none : n ≡ 0 = omega (arith, le) in omega (arith, ap (jobs_of_first jobs) none)
jobs_within jobs n (suc m) le = dite (dec_lt n (suc m))
    (λ lt.
    let next : m + 1 ≡ suc m = omega arith in
    omega (arith, jobs_within jobs n m (omega (arith, lt)), jobs_more jobs m, ap (jobs_of_first jobs) next))
    (λ no. let same : n ≡ suc m = omega (arith, le, no) in omega (arith, ap (jobs_of_first jobs) same))

-- what a list's items of one key have in their order
module _ {A : Type 0} (key value : Done A → ℕ) where
  abbrev pub values_of : ℕ → List (Done A) → List ℕ
  values_of c done = map value (filter (λ (ran : Done A). key ran == c) done)

  pub own_values : (c : ℕ) (done : List (Done A)) → All (λ (r : Done A). key r ≡ c) done → values_of c done ≡ map value done
  own_values c [] all = refl
  own_values c (r ∷ done) all =
      let test : (key r == c) ≡ true = ⊎_elim (λ t. t.0) (λ t. absurd (t.1 (All-head (λ (x : Done A). key x ≡ c) r done all))) (eqb_tells (key r) c) in
      ap (λ b. map value (cond b (r ∷ filter (λ (x : Done A). key x == c) done) (filter (λ (x : Done A). key x == c) done))) test
      ∙ ap (λ l. value r ∷ l) (own_values c done (All-tail (λ (x : Done A). key x ≡ c) r done all))

  pub no_values : (c : ℕ) (done : List (Done A)) → All (λ (r : Done A). key r ≢ c) done → values_of c done ≡ []
  no_values c [] all = refl
  no_values c (r ∷ done) all =
      let test : (key r == c) ≡ false = ⊎_elim (λ t. absurd (All-head (λ (x : Done A). key x ≢ c) r done all t.1)) (λ t. t.0) (eqb_tells (key r) c) in
      ap (λ b. map value (cond b (r ∷ filter (λ (x : Done A). key x == c) done) (filter (λ (x : Done A). key x == c) done))) test
      ∙ no_values c done (All-tail (λ (x : Done A). key x ≢ c) r done all)

  pub both_values : (c : ℕ) (first second : List (Done A)) → values_of c (first ++ second) ≡ values_of c first ++ values_of c second
  both_values c first second = ap (map value) (filter-append (λ (x : Done A). key x == c) first second)
      ∙ map-append value (filter (λ (x : Done A). key x == c) first) (filter (λ (x : Done A). key x == c) second)

module _ {A : Type 0} where
  abbrev pub caller_of : Done A → ℕ
  caller_of ran = ran.caller

  abbrev pub index_of : Done A → ℕ
  index_of ran = ran.index

  -- the first jobs of a list
  pub list_none : (caller : ℕ) (old : List (Done A)) → RanList caller 0 old old
  list_none caller old = record { more = []; behind = sym (append-nil old); of_caller = All-nil (λ (r : Done A). r.caller ≡ caller); indexes = refl }

  pub list_more : (caller n : ℕ) (old mid new : List (Done A)) (ran : Done A) → RanList caller n old mid → ran.caller ≡ caller → ran.index ≡ n
      → new ≡ mid ++ ran ∷ [] → RanList caller (n + 1) old new
  list_more caller n old mid new ran list its index is = record {
    more = list.more ++ ran ∷ [];
    behind = is ∙ ap (λ l. l ++ ran ∷ []) list.behind ∙ append_assoc old list.more (ran ∷ []);
    of_caller = All-push (λ (r : Done A). r.caller ≡ caller) list.more ran list.of_caller its;
    indexes = map_push (λ (r : Done A). r.index) list.more ran ∙ ap (λ l. l ++ ran.index ∷ []) list.indexes
        ∙ ap (λ i. range_with_len 0 n ++ i ∷ []) index ∙ sym (range_more n);
  }

  pub list_count : (caller n : ℕ) (old new : List (Done A)) → RanList caller n old new → length new ≡ length old + n
  list_count caller n old new list = omega (
    arith,
    ap (λ l. length l) list.behind,
    length-append old list.more,
    length-map list.more (λ (r : Done A). r.index),
    ap (λ l. length l) list.indexes,
    length-range_with_len 0 n,
  )

  -- of no callers, and of one caller more
  pub first_none : (jobs : ℕ → ℕ) (workers seat : ℕ) (done : List (Done A)) → done ≡ [] → RanFirst jobs workers seat 0 done
  first_none jobs workers seat done none = record {
    own = λ c lt turn. absurd (omega (arith, lt));
    only = subst (All (λ (r : Done A). (r.caller < 0) × (r.caller % workers ≡ seat))) (sym none)
        (All-nil (λ (r : Done A). (r.caller < 0) × (r.caller % workers ≡ seat)));
  }

  module _ (jobs : ℕ → ℕ) (workers seat n : ℕ) (done : List (Done A)) (first : RanFirst jobs workers seat n done) where
    later : All (λ (r : Done A). (r.caller < n + 1) × (r.caller % workers ≡ seat)) done
    later = All-weaker (λ (r : Done A). (r.caller < n) × (r.caller % workers ≡ seat)) (λ (r : Done A). (r.caller < n + 1) × (r.caller % workers ≡ seat))
        (λ r t. (omega (arith, t.0), t.1)) done first.only

    pub first_passes : n % workers ≢ seat → RanFirst jobs workers seat (n + 1) done
    first_passes other = record {
      own = λ c lt turn. dite (dec_lt c n) (λ less. first.own c less turn)
          (λ no. let same : c ≡ n = omega (arith, lt, no) in absurd (other (ap (λ k. k % workers) (sym same) ∙ turn)));
      only = later;
    }

    pub first_runs : (new : List (Done A)) → n % workers ≡ seat → RanList n (jobs n) done new → RanFirst jobs workers seat (n + 1) new
    first_runs new turn list = subst (λ (l : List (Done A)). RanFirst jobs workers seat (n + 1) l) (sym list.behind) (record {
      own = λ c lt its. both_values caller_of index_of c done list.more ∙ indexes c lt its;
      only = All-append (λ (r : Done A). (r.caller < n + 1) × (r.caller % workers ≡ seat)) done list.more later
          (All-weaker (λ (r : Done A). r.caller ≡ n) (λ (r : Done A). (r.caller < n + 1) × (r.caller % workers ≡ seat))
          (λ r is. (omega (arith, is), ap (λ k. k % workers) is ∙ turn)) list.more list.of_caller);
    })
      where
        others : (c : ℕ) → c < n → All (λ (r : Done A). r.caller ≢ c) list.more
        others c less = All-weaker (λ (r : Done A). r.caller ≡ n) (λ (r : Done A). r.caller ≢ c) (λ r is same. absurd (omega (arith, is, same, less)))
            list.more list.of_caller

        before : (c : ℕ) → c ≡ n → All (λ (r : Done A). r.caller ≢ c) done
        before c same = All-weaker (λ (r : Done A). (r.caller < n) × (r.caller % workers ≡ seat)) (λ (r : Done A). r.caller ≢ c)
            (λ r t is. absurd (omega (arith, t.0, is, same))) done first.only

        indexes : (c : ℕ) → c < n + 1 → c % workers ≡ seat → indexes_of c done ++ indexes_of c list.more ≡ range_with_len 0 (jobs c)
        indexes c lt its = dite (dec_lt c n)
            (λ less. ap (λ l. indexes_of c done ++ l) (no_values caller_of index_of c list.more (others c less))
            ∙ append-nil (indexes_of c done) ∙ first.own c less its)
            (λ no.
            let same : c ≡ n = omega (arith, lt, no) in
            ap (λ l. l ++ indexes_of c list.more) (no_values caller_of index_of c done (before c same))
            ∙ own_values caller_of index_of c list.more (subst (λ k. All (λ (r : Done A). r.caller ≡ k) list.more) (sym same) list.of_caller)
            ∙ list.indexes ∙ ap (λ k. range_with_len 0 (jobs k)) (sym same))

  module _ (good : List ℕ → Type 0) (means : ℕ → ℕ → List ℕ → Bool → A → List ℕ → Type 0) (seats seat : ℕ) where
    -- a pass that has run nothing
    pub run_none : (view : View) (done : List (Done A)) → view.call ≡ 0 → view.seen ≡ [] → done ≡ [] → HasRun good means seats seat view done
    run_none view done calls seen none = record {
      made = [];
      items_are = none;
      seen_are = seen;
      each = All-nil (IsMade good means seats seat);
      calls = calls ∙ sym (ap (λ l. length l) none);
      counted = subst (λ (l : List (Done A)). map (λ (x : Done A). x.call) l ≡ range_with_len 1 (length l)) (sym none) refl;
    }

    -- a pass that has run one job more
    pub run_more : (old now : View) (done new : List (Done A)) (ran : Done A) → HasRun good means seats seat old done → number old ≡ seat
        → RanOne good means seats old now ran → new ≡ done ++ ran ∷ [] → HasRun good means seats seat now new
    run_more old now done new ran h named one is = subst (λ (l : List (Done A)). HasRun good means seats seat now l) (sym is) (record {
      made = h.made ++ last ∷ [];
      items_are = ap (λ l. l ++ ran ∷ []) h.items_are ∙ sym (map_push (λ (x : Made A). x.ran) h.made last);
      seen_are = one.seen ∙ ap (λ l. l ++ one.entry ∷ []) h.seen_are ∙ sym (map_push (λ (x : Made A). x.entry) h.made last);
      each = All-push (IsMade good means seats seat) h.made last h.each (record { by_entry = one.made; seat_is = one.seat_is ∙ named; few = one.few });
      calls = omega (arith, one.called, h.calls, long);
      counted = map_push (λ (x : Done A). x.call) done ran ∙ ap (λ l. l ++ ran.call ∷ []) h.counted
          ∙ sym (range_on 1 (length done) ran.call (omega (arith, one.call_is, h.calls))) ∙ ap (range_with_len 1) (sym long);
    })
      where
        last : Made A
        last = record { ran = ran; entry = one.entry }

        long : length (done ++ ran ∷ []) ≡ length done + 1
        long = length-append done (ran ∷ [])
