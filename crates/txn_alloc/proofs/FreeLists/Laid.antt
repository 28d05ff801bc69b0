-- Free blocks that are laid into their lists, from the last on.
use Rattle.txn_alloc.proofs.Common.{◌≡◌, ◌≢◌, ℕ, zero, suc, ◌+◌, ◌%◌, ◌<◌, ◌==◌, inl, inr, false, List, [], ◌∷◌, drop, length, get_or, slice_get, slice_set}
use Rattle.txn_alloc.proofs.Common.{Some, nat_eq, refl, sym, ap, ◌∙◌, subst, arith, rules, true≢false, dite, ℕ_discrete, All, IsDistinct, length-set}
use Rattle.txn_alloc.proofs.Common.{IsDistinct-tail, get_set_same, get_set_other, KeepsOthers, Arena, HEADS, block_at, head_of, IsHead, IsLaidOut, HasList}
use Rattle.txn_alloc.proofs.Common.{FreeListsHold, IsWrittenByLaying}
use Rattle.std.proofs.Common.{filter}
use Rattle.std.specs.List.Sorted.{IsStrictlyIncreasing}
use Rattle.std.proofs.lemmas.List.Kept.{IsStrictlyIncreasing-filter}
use Rattle.std.proofs.Math.Seq.{drop-cons}
use Rattle.std.proofs.lemmas.Option.{slice_get-get_or}
use Rattle.txn_alloc.specs.Laying.{IsAmong, IsInRow, of_list}
use Rattle.txn_alloc.proofs.FreeLists.Rounds.{is_head}
use Rattle.txn_alloc.proofs.Sets.{in_here, in_there, in_or, out_empty, out_rest, contains-insert_other, distinct_more}
use Rattle.txn_alloc.proofs.FreeLists.Lists.{blocks_of, list_kept, laid_kept, no_head, head_in, block_in}
use Rattle.std.specs.FinSet as set

-- a block of the list, and one of another
pub of_here : (h b : ℕ) (bs : List ℕ) → b % HEADS ≡ h → of_list h (b ∷ bs) ≡ b ∷ of_list h bs
of_here h b bs e = grind (rules, e)

pub of_there : (h b : ℕ) (bs : List ℕ) → b % HEADS ≢ h → of_list h (b ∷ bs) ≡ of_list h bs
of_there h b bs ne = grind (rules, ne)

-- the blocks of a list are among all, and are of its number
pub of_among : (h b : ℕ) (bs : List ℕ) → IsAmong (of_list h bs) b → IsAmong bs b × (b % HEADS ≡ h)
of_among h b [] m = absurd (true≢false (sym m ∙ out_empty b))
of_among h b (c ∷ bs) m = dite (ℕ_discrete (c % HEADS) h)
    (λ e. elim (in_or (blocks_of (of_list h bs)) c b (ap (λ z. set.contains (blocks_of z) b) (sym (of_here h c bs e)) ∙ m)) [
      | inl is ↦ (ap (set.contains (blocks_of (c ∷ bs))) is ∙ in_here (blocks_of bs) c, ap (λ z. z % HEADS) is ∙ e)
      | inr k ↦ let r = of_among h b bs k in (in_there (blocks_of bs) c b r.0, r.1)
    ])
    (λ ne. let r = of_among h b bs (ap (λ z. set.contains (blocks_of z) b) (sym (of_there h c bs ne)) ∙ m) in (in_there (blocks_of bs) c b r.0, r.1))

-- and all of its number are in it
pub of_all : (h b : ℕ) (bs : List ℕ) → b % HEADS ≡ h → set.contains (blocks_of bs) b ≡ set.contains (blocks_of (of_list h bs)) b
of_all h b [] own = refl
of_all h b (c ∷ bs) own = dite (ℕ_discrete (c % HEADS) h)
    (λ e. dite (ℕ_discrete b c)
    (λ is. ap (set.contains (blocks_of (c ∷ bs))) is ∙ in_here (blocks_of bs) c
    ∙ sym (ap (λ z. set.contains (blocks_of z) b) (of_here h c bs e)
    ∙ ap (set.contains (blocks_of (c ∷ of_list h bs))) is ∙ in_here (blocks_of (of_list h bs)) c))
    (λ ne. contains-insert_other (blocks_of bs) c b ne ∙ of_all h b bs own
    ∙ sym (ap (λ z. set.contains (blocks_of z) b) (of_here h c bs e) ∙ contains-insert_other (blocks_of (of_list h bs)) c b ne)))
    (λ other.
    contains-insert_other (blocks_of bs) c b (λ is. other (ap (λ z. z % HEADS) (sym is) ∙ own)) ∙ of_all h b bs own
    ∙ ap (λ z. set.contains (blocks_of z) b) (sym (of_there h c bs other)))

pub of_once : (h : ℕ) (bs : List ℕ) → IsDistinct nat_eq bs → IsDistinct nat_eq (of_list h bs)
of_once h [] once = once
of_once h (c ∷ bs) once = dite (ℕ_discrete (c % HEADS) h)
    (λ e.
    let rest : IsDistinct nat_eq (of_list h bs) = of_once h bs (IsDistinct-tail nat_eq c bs once) in
    let out : set.contains (blocks_of (of_list h bs)) c ≡ false = sym (of_all h c bs e) ∙ out_rest c bs once in
    subst (IsDistinct nat_eq) (sym (of_here h c bs e)) (distinct_more c (of_list h bs) out rest))
    (λ ne. subst (IsDistinct nat_eq) (sym (of_there h c bs ne)) (of_once h bs (IsDistinct-tail nat_eq c bs once)))

-- these blocks are laid, each list from its head on
pub record IsLaidFrom (arena : Arena) (order first left words : List ℕ) : Type 0 where
  pub count : length words ≡ length first
  pub same : (a : ℕ) → ¬ IsWrittenByLaying arena order a → slice_get words a ≡ slice_get first a
  pub lists : (h : ℕ) → h < HEADS → HasList arena words (arena.heads + h) (of_list h left)

module _ (arena : Arena) (order first : List ℕ) (laid : IsLaidOut arena first) where
  -- after the heads were cleared nothing is laid
  pub laid_none : {words : List ℕ} → KeepsOthers (IsHead arena) first words
      → ((a : ℕ) → IsHead arena a → slice_get words a ≡ Some 0) → IsLaidFrom arena order first [] words
  laid_none kept none = record {
    count = kept.count;
    same = λ a other. kept.same a (λ head. other (inl head));
    lists = λ h lt. none (arena.heads + h) (record { low = omega arith; high = omega arith });
  }

  -- one block more is in front of its list
  module _ (b : ℕ) (left words : List ℕ) (h : IsLaidFrom arena order first left words) (among : IsAmong order b)
      (lt_b : b < arena.blocks) (out : set.contains (blocks_of left) b ≡ false)
      (below : (c : ℕ) → IsAmong left c → c < arena.blocks) where
    abbrev linked : List ℕ
    linked = slice_set words (block_at arena b) (get_or words (head_of arena b) 0)

    abbrev new : List ℕ
    new = slice_set linked (head_of arena b) (b + 1)

    long_linked : length linked ≡ length first
    long_linked = length-set words (block_at arena b) (get_or words (head_of arena b) 0) ∙ h.count

    head_there : slice_get words (head_of arena b) ≡ Some (get_or words (head_of arena b) 0)
    head_there = slice_get-get_or words (head_of arena b) 0 (omega (arith, head_in b laid, h.count))

    heads_stay : {a : ℕ} → IsHead arena a → a ≢ head_of arena b → slice_get new a ≡ slice_get words a
    heads_stay {a} head ne = get_set_other linked (head_of arena b) a (b + 1) ne
        ∙ get_set_other words (block_at arena b) a (get_or words (head_of arena b) 0) (λ e. no_head arena first b a laid lt_b head (sym e))

    blocks_stay : (d : ℕ) → IsAmong left d → slice_get new (block_at arena d) ≡ slice_get words (block_at arena d)
    blocks_stay d m =
        get_set_other linked (head_of arena b) (block_at arena d) (b + 1) (no_head arena first d (head_of arena b) laid (below d m) (is_head arena b))
        ∙ get_set_other words (block_at arena b) (block_at arena d) (get_or words (head_of arena b) 0)
        (λ e. let same : d ≡ b = omega arith in true≢false (sym m ∙ ap (set.contains (blocks_of left)) same ∙ out))

    own_list : HasList arena new (head_of arena b) (b ∷ of_list (b % HEADS) left)
    own_list =
        let link : slice_get new (block_at arena b) ≡ slice_get words (head_of arena b) =
        get_set_other linked (head_of arena b) (block_at arena b) (b + 1) (no_head arena first b (head_of arena b) laid lt_b (is_head arena b))
        ∙ get_set_same words (block_at arena b) (get_or words (head_of arena b) 0)
        (omega (arith, block_in arena first b laid lt_b, h.count)) ∙ sym head_there in
        let small : b % 16 < 16 = omega arith in (
          get_set_same linked (head_of arena b) (b + 1) (omega (arith, head_in b laid, long_linked)),
          lt_b,
          list_kept arena words new (head_of arena b) (block_at arena b) (of_list (b % HEADS) left) link
              (λ d m. blocks_stay d (of_among (b % HEADS) d left m).0) (h.lists (b % HEADS) small),
        )

    lists_more : (k : ℕ) → k < HEADS → HasList arena new (arena.heads + k) (of_list k (b ∷ left))
    lists_more k lt = dite (ℕ_discrete (b % HEADS) k)
        (λ e. subst (HasList arena new (arena.heads + k)) (sym (of_here k b left e))
        (subst (λ z. HasList arena new (arena.heads + z) (b ∷ of_list z left)) e own_list))
        (λ ne.
        let apart : arena.heads + k ≢ head_of arena b = λ e. ne (omega arith) in
        subst (HasList arena new (arena.heads + k)) (sym (of_there k b left ne))
        (list_kept arena words new (arena.heads + k) (arena.heads + k) (of_list k left)
        (heads_stay (record { low = omega arith; high = omega arith }) apart)
        (λ d m. blocks_stay d (of_among k d left m).0) (h.lists k lt)))

    pub laid_more : IsLaidFrom arena order first (b ∷ left)
        (slice_set (slice_set words (block_at arena b) (get_or words (head_of arena b) 0)) (head_of arena b) (b + 1))
    laid_more = record {
      count = length-set linked (head_of arena b) (b + 1) ∙ long_linked;
      same = λ a other.
          get_set_other linked (head_of arena b) a (b + 1) (λ e. other (inl (subst (IsHead arena) (sym e) (is_head arena b))))
          ∙ get_set_other words (block_at arena b) a (get_or words (head_of arena b) 0) (λ e. other (inr (b, among, e))) ∙ h.same a other;
      lists = lists_more;
    }

  -- if all are laid, they are the free blocks
  module _ {words : List ℕ} (h : IsLaidFrom arena order first order words) where
    pub laid_free : IsDistinct nat_eq order → FreeListsHold arena words (set.from_list order)
    laid_free once = record {
      laid_out = laid_kept arena first words h.count laid;
      lists = λ k lt. record {
        order = of_list k order;
        list = h.lists k lt;
        once = of_once k order once;
        own = λ b m. (of_among k b order m).1;
        all = λ b own. of_all k b order own;
      };
    }

-- the rest of a list from a place on
pub rest_once : (n : ℕ) (bs : List ℕ) → IsDistinct nat_eq bs → IsDistinct nat_eq (drop n bs)
rest_once zero bs once = once
rest_once (suc n) [] once = once
rest_once (suc n) (b ∷ bs) once = rest_once n bs (IsDistinct-tail nat_eq b bs once)

pub rest_among : (n b : ℕ) (bs : List ℕ) → IsAmong (drop n bs) b → IsAmong bs b
rest_among zero b bs m = m
rest_among (suc n) b [] m = m
rest_among (suc n) b (c ∷ bs) m = in_there (blocks_of bs) c b (rest_among n b bs m)

-- what holds of each block of a list holds of those among them
pub among_all : (P : ℕ → Type 0) (bs : List ℕ) → All P bs → (b : ℕ) → IsAmong bs b → P b
among_all P [] all b m = absurd (true≢false (sym m ∙ out_empty b))
among_all P (c ∷ bs) all b m = elim (in_or (blocks_of bs) c b m) [
  | inl e ↦ subst P (sym e) (all 0 0 (omega arith))
  | inr k ↦ among_all P bs (λ i d lt. all (suc i) d (omega arith)) b k
]

-- words that are cleared one after another
pub record AreCleared (first count : ℕ) (start : List ℕ) (n : ℕ) (words : List ℕ) : Type 0 where
  pub kept : KeepsOthers (IsInRow first count) start words
  pub none : (a : ℕ) → IsInRow first n a → slice_get words a ≡ Some 0

-- a block of the order is put in front, if those behind it are laid
pub laid_back : {arena : Arena} {order first : List ℕ} → IsLaidOut arena first → IsDistinct nat_eq order
    → All (λ b. b < arena.blocks) order → {words : List ℕ} (n : ℕ) → n < length order
    → IsLaidFrom arena order first (drop (suc n) order) words
    → (let b = get_or order n 0 in
    IsLaidFrom arena order first (drop n order)
    (slice_set (slice_set words (block_at arena b) (get_or words (head_of arena b) 0)) (head_of arena b) (b + 1)))
laid_back {arena} {order} {first} laid once all {words} n lt h =
    let b : ℕ = get_or order n 0 in
    let left : List ℕ = drop (suc n) order in
    let next : drop n order ≡ b ∷ left = drop-cons order n 0 lt in
    let distinct : IsDistinct nat_eq (b ∷ left) = subst (IsDistinct nat_eq) next (rest_once n order once) in
    let among : (c : ℕ) → IsAmong (b ∷ left) c → IsAmong order c = λ c m. rest_among n c order (ap (λ z. set.contains (blocks_of z) c) next ∙ m) in
    let below : (c : ℕ) → IsAmong (b ∷ left) c → c < arena.blocks = λ c m. among_all (λ d. d < arena.blocks) order all c (among c m) in
    let here : IsAmong (b ∷ left) b = in_here (blocks_of left) b in
    subst (λ z. IsLaidFrom arena order first z
    (slice_set (slice_set words (block_at arena b) (get_or words (head_of arena b) 0)) (head_of arena b) (b + 1))) (sym next)
    (laid_more arena order first laid b left words h (among b here) (below b here) (out_rest b left distinct)
    (λ c m. below c (in_there (blocks_of left) b c m)))

-- a part of numbers that rise rises
of_filter : (h : ℕ) (bs : List ℕ) → of_list h bs ≡ filter (λ b. b % HEADS == h) bs
of_filter h [] = refl
of_filter h (b ∷ bs) = dite (ℕ_discrete (b % HEADS) h)
    (λ e. of_here h b bs e ∙ ap (λ z. b ∷ z) (of_filter h bs) ∙ grind (rules, e))
    (λ ne. of_there h b bs ne ∙ of_filter h bs ∙ grind (rules, ne))

pub rising_of : (h : ℕ) (bs : List ℕ) → IsStrictlyIncreasing bs → IsStrictlyIncreasing (of_list h bs)
rising_of h bs rises = subst IsStrictlyIncreasing (sym (of_filter h bs)) (IsStrictlyIncreasing-filter (λ b. b % HEADS == h) bs rises)
