-- The free lists after a write.
use Rattle.txn_alloc.proofs.Common.{◌≡◌, ◌≢◌, ℕ, ◌+◌, ◌%◌, ◌<◌, inl, inr, true, false, List, [], ◌∷◌, length, slice_get, slice_set, Some, nat_eq, refl, sym, ap}
use Rattle.txn_alloc.proofs.Common.{◌∙◌, subst, arith, true≢false, dite, ℕ_discrete, length-set, same_Some, IsDistinct-tail, IsDistinct, nat_cmp, nat_cmp_total}
use Rattle.txn_alloc.proofs.Common.{nat_cmp-IsAntisymmetric, get_set_same, get_set_other, Arena, HEADS, block_at, head_of, IsHead, IsInBlock, IsLaidOut}
use Rattle.txn_alloc.proofs.Common.{HasList, FreeListsHold, TakesBlock}
use Rattle.txn_alloc.specs.FreeLists.{FreeListHolds}
use Rattle.txn_alloc.proofs.FreeLists.Rounds.{list_lt, is_head}
use Rattle.txn_alloc.proofs.Sets.{Blocks, in_here, in_there, in_or, out_empty, out_rest, out_itself, contains-insert_other, contains-remove_other}
use Rattle.txn_alloc.proofs.Sets.{distinct_more}
use Rattle.std.specs.FinSet as set

abbrev pub blocks_of : List ℕ → Blocks
blocks_of bs = set.from_list {R = nat_cmp} bs

-- a list whose words are kept goes through the same blocks, also from another place with the same value
pub list_kept : (arena : Arena) (s t : List ℕ) (p q : ℕ) (bs : List ℕ) → slice_get t q ≡ slice_get s p
    → ((b : ℕ) → set.contains (blocks_of bs) b ≡ true → slice_get t (block_at arena b) ≡ slice_get s (block_at arena b))
    → HasList arena s p bs → HasList arena t q bs
list_kept arena s t p q [] e keep h = e ∙ h
list_kept arena s t p q (b ∷ bs) e keep h = (
  e ∙ h.0,
  h.1,
  list_kept arena s t (block_at arena b) (block_at arena b) bs (keep b (in_here (blocks_of bs) b)) (λ c m. keep c (in_there (blocks_of bs) b c m)) h.2,
)

-- the blocks of a list are the arena's
pub list_below : (arena : Arena) (s : List ℕ) (p : ℕ) (bs : List ℕ) (c : ℕ) → HasList arena s p bs → set.contains (blocks_of bs) c ≡ true → c < arena.blocks
list_below arena s p [] c h m = absurd (true≢false (sym m ∙ out_empty c))
list_below arena s p (b ∷ bs) c h m = elim (in_or (blocks_of bs) b c m) [
  | inl e ↦ subst (λ (k : ℕ). k < arena.blocks) (sym e) h.1
  | inr k ↦ list_below arena s (block_at arena b) bs c h.2 k
]

-- a place heads one list
pub one_list : (arena : Arena) (s : List ℕ) (p q : ℕ) (bs cs : List ℕ) → slice_get s p ≡ slice_get s q → HasList arena s p bs → HasList arena s q cs → bs ≡ cs
one_list arena s p q [] [] e h k = refl
one_list arena s p q [] (c ∷ cs) e h k = let z : 0 ≡ c + 1 = same_Some 0 (c + 1) (sym h ∙ e ∙ k.0) in absurd (omega arith)
one_list arena s p q (b ∷ bs) [] e h k = let z : 0 ≡ b + 1 = same_Some 0 (b + 1) (sym k ∙ sym e ∙ h.0) in absurd (omega arith)
one_list arena s p q (b ∷ bs) (c ∷ cs) e h k =
    let z : b + 1 ≡ c + 1 = same_Some (b + 1) (c + 1) (sym h.0 ∙ e ∙ k.0) in
    let same : b ≡ c = omega arith in
    ap (λ d. d ∷ bs) same ∙ ap (λ ds. c ∷ ds) (one_list arena s (block_at arena b) (block_at arena c) bs cs
    (ap (λ d. slice_get s (block_at arena d)) same) h.2 k.2)

-- the list of a number
abbrev pub list_of : {arena : Arena} {s : List ℕ} {f : Blocks} → FreeListsHold arena s f → (n : ℕ) → FreeListHolds arena s f (n % HEADS)
list_of h n = h.lists (n % HEADS) (list_lt n)

-- so the free blocks are one set
pub one_set : (arena : Arena) (s : List ℕ) (f g : Blocks) → FreeListsHold arena s f → FreeListsHold arena s g → f ≡ g
one_set arena s f g h k = set.same_set nat_cmp_total nat_cmp-IsAntisymmetric f g (λ q.
    let one : FreeListHolds arena s f (q % HEADS) = list_of h q in
    let other : FreeListHolds arena s g (q % HEADS) = list_of k q in
    one.all q refl ∙ ap (λ bs. set.contains (blocks_of bs) q) (one_list arena s (head_of arena q) (head_of arena q)
    one.order other.order refl one.list other.list) ∙ sym (other.all q refl))

-- words of two blocks are words of one
pub same_block : (arena : Arena) (b d a : ℕ) → IsInBlock arena b a → IsInBlock arena d a → b ≡ d
same_block arena b d a h k = omega (arith, h.low, h.high, k.low, k.high)

-- a list with as many words is laid out alike
pub laid_kept : (arena : Arena) (s t : List ℕ) → length t ≡ length s → IsLaidOut arena s → IsLaidOut arena t
laid_kept arena s t e l = record {
  places = omega (arith, l.places);
  blocks = λ b h. omega (arith, l.blocks b h);
  heads = omega (arith, l.heads);
  outside = l.outside;
}

-- a block's first word is no head
pub no_head : (arena : Arena) (s : List ℕ) (b a : ℕ) → IsLaidOut arena s → b < arena.blocks → IsHead arena a → block_at arena b ≢ a
no_head arena s b a l lt head e = l.outside b a lt (omega arith) head

pub head_in : {arena : Arena} {s : List ℕ} (n : ℕ) → IsLaidOut arena s → head_of arena n < length s
head_in n l = let lt : n % 16 < 16 = omega arith in omega (arith, l.heads)

pub block_in : (arena : Arena) (s : List ℕ) (b : ℕ) → IsLaidOut arena s → b < arena.blocks → block_at arena b < length s
block_in arena s b l lt = omega (arith, l.blocks b lt)

-- the free blocks are the arena's
pub free_below : (arena : Arena) (s : List ℕ) (f : Blocks) (c : ℕ) → FreeListsHold arena s f → set.contains f c ≡ true → c < arena.blocks
free_below arena s f c h m = let l : FreeListHolds arena s f (c % HEADS) = list_of h c in
    list_below arena s (head_of arena c) l.order c l.list (sym (l.all c refl) ∙ m)

-- a block of a list is free
pub listed_free : {arena : Arena} {s : List ℕ} {f : Blocks} {h : ℕ} (b : ℕ) (l : FreeListHolds arena s f h)
    → set.contains (blocks_of l.order) b ≡ true → set.contains f b ≡ true
listed_free b l m = l.all b (l.own b m) ∙ m

-- the same blocks are free if heads and free blocks keep their words
pub free_kept : (arena : Arena) (s t : List ℕ) (f : Blocks) → FreeListsHold arena s f → length t ≡ length s
    → ((a : ℕ) → IsHead arena a → slice_get t a ≡ slice_get s a)
    → ((b a : ℕ) → set.contains f b ≡ true → IsInBlock arena b a → slice_get t a ≡ slice_get s a) → FreeListsHold arena t f
free_kept arena s t f hold e heads words = record {
  laid_out = laid_kept arena s t e hold.laid_out;
  lists = λ h lt.
      let l : FreeListHolds arena s f h = hold.lists h lt in
      record {
        order = l.order;
        list = list_kept arena s t (arena.heads + h) (arena.heads + h) l.order
            (heads (arena.heads + h) (record { low = omega arith; high = omega arith }))
            (λ b m. words b (block_at arena b) (listed_free b l m) (omega arith)) l.list;
        once = l.once;
        own = l.own;
        all = l.all;
      };
}

-- a list whose head names none has no block
pub none_listed : (arena : Arena) (s : List ℕ) (p : ℕ) (bs : List ℕ) → slice_get s p ≡ Some 0 → HasList arena s p bs → bs ≡ []
none_listed arena s p [] e h = refl
none_listed arena s p (b ∷ bs) e h = let z : 0 ≡ b + 1 = same_Some 0 (b + 1) (sym e ∙ h.0) in absurd (omega arith)

-- no block is free if no head names one
pub none_free : {arena : Arena} {s : List ℕ} {f : Blocks}
    → ((h : ℕ) → h < HEADS → slice_get s (arena.heads + h) ≡ Some 0) → FreeListsHold arena s f → f ≡ set.empty
none_free {arena} {s} {f} e hold = set.same_set nat_cmp_total nat_cmp-IsAntisymmetric f set.empty (λ q.
    let l : FreeListHolds arena s f (q % HEADS) = list_of hold q in
    l.all q refl ∙ ap (λ bs. set.contains (blocks_of bs) q) (none_listed arena s (head_of arena q) l.order (e (q % HEADS) (list_lt q)) l.list))

-- the list whose head names a block begins with it
pub begins_with : (arena : Arena) (s : List ℕ) (p b : ℕ) (bs : List ℕ) → slice_get s p ≡ Some (b + 1) → HasList arena s p bs → (cs : List ℕ) × (bs ≡ b ∷ cs)
begins_with arena s p b [] e h = let z : b + 1 ≡ 0 = same_Some (b + 1) 0 (sym e ∙ h) in absurd (omega arith)
begins_with arena s p b (c ∷ cs) e h =
    let z : b + 1 ≡ c + 1 = same_Some (b + 1) (c + 1) (sym e ∙ h.0) in
    let same : c ≡ b = omega arith in
    (cs, ap (λ d. d ∷ cs) same)

-- the block that a head names is one of the arena's, and of the head's list
pub head_names : {arena : Arena} {s : List ℕ} {f : Blocks} (n b : ℕ) → slice_get s (head_of arena n) ≡ Some (b + 1)
    → FreeListsHold arena s f → (b < arena.blocks) × (b % HEADS ≡ n % HEADS)
head_names {arena} {s} {f} n b e hold =
    let l : FreeListHolds arena s f (n % HEADS) = list_of hold n in
    let begin = begins_with arena s (head_of arena n) b l.order e l.list in
    let m : set.contains (blocks_of l.order) b ≡ true = ap (λ bs. set.contains (blocks_of bs) b) begin.1 ∙ in_here (blocks_of begin.0) b in
    (list_below arena s (head_of arena n) l.order b l.list m, l.own b m)

-- heads of other lists, and the blocks in them, stand when a word of one list is written
other_list : {arena : Arena} {s : List ℕ} (t : List ℕ) {f : Blocks} {h : ℕ} (l : FreeListHolds arena s f h) → slice_get t (arena.heads + h)
    ≡ slice_get s (arena.heads + h)
    → ((d : ℕ) → d % HEADS ≡ h → d < arena.blocks → set.contains f d ≡ true
    → slice_get t (block_at arena d) ≡ slice_get s (block_at arena d)) → HasList arena t (arena.heads + h) l.order
other_list {arena} {s} t {h} l head keep = list_kept arena s t (arena.heads + h) (arena.heads + h) l.order head
    (λ d m. keep d (l.own d m) (list_below arena s (arena.heads + h) l.order d l.list m) (listed_free d l m)) l.list

-- the first block of its list is taken
module _ {arena : Arena} {s : List ℕ} {f : Blocks} (b x : ℕ) (eh : slice_get s (head_of arena b) ≡ Some (b + 1))
    (ex : slice_get s (block_at arena b) ≡ Some x) (hold : FreeListsHold arena s f) where
  abbrev t_took : List ℕ
  t_took = slice_set s (head_of arena b) x

  words_took : (d : ℕ) → d < arena.blocks → slice_get t_took (block_at arena d) ≡ slice_get s (block_at arena d)
  words_took d lt = get_set_other s (head_of arena b) (block_at arena d) x (no_head arena s d (head_of arena b) hold.laid_out lt (is_head arena b))

  mine_took : (bs cs : List ℕ) → bs ≡ b ∷ cs → HasList arena s (head_of arena b) bs → IsDistinct nat_eq bs
      → ((d : ℕ) → set.contains (blocks_of bs) d ≡ true → d % HEADS ≡ b % HEADS)
      → ((d : ℕ) → d % HEADS ≡ b % HEADS → set.contains f d ≡ set.contains (blocks_of bs) d) → FreeListHolds arena t_took (set.remove f b) (b % HEADS)
  mine_took bs cs is list once own all =
      let listed = subst (HasList arena s (head_of arena b)) is list in
      let distinct : IsDistinct nat_eq (b ∷ cs) = subst (IsDistinct nat_eq) is once in
      record {
        order = cs;
        list = list_kept arena s t_took (block_at arena b) (head_of arena b) cs (get_set_same s (head_of arena b) x (head_in b hold.laid_out) ∙ sym ex)
            (λ d m. words_took d (list_below arena s (block_at arena b) cs d listed.2 m)) listed.2;
        once = IsDistinct-tail nat_eq b cs distinct;
        own = λ d m. own d (ap (λ z. set.contains (blocks_of z) d) is ∙ in_there (blocks_of cs) b d m);
        all = λ d e. dite (ℕ_discrete d b)
            (λ same. ap (set.contains (set.remove f b)) same ∙ out_itself f b
            ∙ sym (ap (set.contains (blocks_of cs)) same ∙ out_rest b cs distinct))
            (λ ne. contains-remove_other f b d ne ∙ all d e ∙ ap (λ z. set.contains (blocks_of z) d) is ∙ contains-insert_other (blocks_of cs) b d ne);
      }

  lists_took : (h : ℕ) → h < HEADS → FreeListHolds arena t_took (set.remove f b) h
  lists_took h lt = dite (ℕ_discrete h (b % HEADS))
      (λ same.
      let l : FreeListHolds arena s f (b % HEADS) = list_of hold b in
      let begin = begins_with arena s (head_of arena b) b l.order eh l.list in
      subst (FreeListHolds arena t_took (set.remove f b)) (sym same) (mine_took l.order begin.0 begin.1 l.list l.once l.own l.all))
      (λ ne.
      let l : FreeListHolds arena s f h = hold.lists h lt in
      let apart : arena.heads + h ≢ head_of arena b = λ e. ne (omega arith) in
      record {
        order = l.order;
        list = other_list t_took l (get_set_other s (head_of arena b) (arena.heads + h) x apart) (λ d own lt_d m. words_took d lt_d);
        once = l.once;
        own = l.own;
        all = λ d e. contains-remove_other f b d (λ same. ne (sym e ∙ ap (λ k. k % HEADS) same)) ∙ l.all d e;
      })

  pub took : TakesBlock arena b s (slice_set s (head_of arena b) x) f
  took =
      let l : FreeListHolds arena s f (b % HEADS) = list_of hold b in
      let begin = begins_with arena s (head_of arena b) b l.order eh l.list in
      record {
        was_free = listed_free b l (ap (λ z. set.contains (blocks_of z) b) begin.1 ∙ in_here (blocks_of begin.0) b);
        left = record { laid_out = laid_kept arena s t_took (length-set s (head_of arena b) x) hold.laid_out; lists = lists_took };
      }

-- a block is given back, to the head of its list
module _ (arena : Arena) (s : List ℕ) (f : Blocks) (b first : ℕ) (eh : slice_get s (head_of arena b) ≡ Some first)
    (lt_b : b < arena.blocks) (out : set.contains f b ≡ false) (hold : FreeListsHold arena s f) where
  abbrev t_gave : List ℕ
  t_gave = slice_set s (block_at arena b) first

  abbrev u_gave : List ℕ
  u_gave = slice_set t_gave (head_of arena b) (b + 1)

  long_t : length t_gave ≡ length s
  long_t = length-set s (block_at arena b) first

  heads_gave : {a : ℕ} → IsHead arena a → a ≢ head_of arena b → slice_get u_gave a ≡ slice_get s a
  heads_gave {a} head ne = get_set_other t_gave (head_of arena b) a (b + 1) ne
      ∙ get_set_other s (block_at arena b) a first (λ e. no_head arena s b a hold.laid_out lt_b head (sym e))

  words_gave : (d : ℕ) → d < arena.blocks → set.contains f d ≡ true → slice_get u_gave (block_at arena d) ≡ slice_get s (block_at arena d)
  words_gave d lt m =
      get_set_other t_gave (head_of arena b) (block_at arena d) (b + 1) (no_head arena s d (head_of arena b) hold.laid_out lt (is_head arena b))
      ∙ get_set_other s (block_at arena b) (block_at arena d) first (λ e. let same : d ≡ b = omega arith in
      true≢false (sym m ∙ ap (set.contains f) same ∙ out))

  mine_gave : (l : FreeListHolds arena s f (b % HEADS)) → FreeListHolds arena u_gave (set.insert f b) (b % HEADS)
  mine_gave l =
      let not_listed : set.contains (blocks_of l.order) b ≡ false = sym (l.all b refl) ∙ out in
      let link : slice_get u_gave (block_at arena b) ≡ slice_get s (head_of arena b) =
      get_set_other t_gave (head_of arena b) (block_at arena b) (b + 1)
      (no_head arena s b (head_of arena b) hold.laid_out lt_b (is_head arena b))
      ∙ get_set_same s (block_at arena b) first (block_in arena s b hold.laid_out lt_b) ∙ sym eh in
      record {
        order = b ∷ l.order;
        list = (
          get_set_same t_gave (head_of arena b) (b + 1) (omega (arith, head_in b hold.laid_out, long_t)),
          lt_b,
          list_kept arena s u_gave (head_of arena b) (block_at arena b) l.order link
              (λ d m. words_gave d (list_below arena s (head_of arena b) l.order d l.list m) (listed_free d l m)) l.list,
        );
        once = distinct_more b l.order not_listed l.once;
        own = λ d m. elim (in_or (blocks_of l.order) b d m) [ inl e ↦ ap (λ k. k % HEADS) e | inr k ↦ l.own d k ];
        all = λ d e. dite (ℕ_discrete d b)
            (λ same. ap (set.contains (set.insert f b)) same ∙ in_here f b
            ∙ sym (ap (set.contains (blocks_of (b ∷ l.order))) same ∙ in_here (blocks_of l.order) b))
            (λ ne. contains-insert_other f b d ne ∙ l.all d e ∙ sym (contains-insert_other (blocks_of l.order) b d ne));
      }

  lists_gave : (h : ℕ) → h < HEADS → FreeListHolds arena u_gave (set.insert f b) h
  lists_gave h lt = dite (ℕ_discrete h (b % HEADS))
      (λ same. subst (FreeListHolds arena u_gave (set.insert f b)) (sym same) (mine_gave (list_of hold b)))
      (λ ne.
      let l : FreeListHolds arena s f h = hold.lists h lt in
      let apart : arena.heads + h ≢ head_of arena b = λ e. ne (omega arith) in
      record {
        order = l.order;
        list = other_list u_gave l
            (heads_gave (record { low = omega arith; high = omega arith }) apart) (λ d own lt_d m. words_gave d lt_d m);
        once = l.once;
        own = l.own;
        all = λ d e. contains-insert_other f b d (λ same. ne (sym e ∙ ap (λ k. k % HEADS) same)) ∙ l.all d e;
      })

  pub gave : FreeListsHold arena (slice_set (slice_set s (block_at arena b) first) (head_of arena b) (b + 1)) (set.insert f b)
  gave = record { laid_out = laid_kept arena s u_gave (length-set t_gave (head_of arena b) (b + 1) ∙ long_t) hold.laid_out; lists = lists_gave }
