-- A tree hung at the end of a path, by writing the word there.
use Rattle.txn_tree_map.proofs.Common.{◌≡◌, ◌≢◌, ℕ, ◌+◌, ◌<◌, ◌≤◌, Bool, true, false, List, [], ◌∷◌, ◌++◌, length, slice_get, slice_set, ◌⊎◌, inl, inr, refl}
use Rattle.txn_tree_map.proofs.Common.{sym, ap, ◌∙◌, subst, arith, if◌then◌else◌, length-set, slice_get_within, get_set_same, get_set_other, KeepsOthers, Arena}
use Rattle.txn_tree_map.proofs.Common.{block_at, IsInBlock, times_in, times-append, one_here, Tree, name_of, cells_of, IsSpelled, Leaf, Step, Path}
use Rattle.txn_tree_map.proofs.Common.{place_at_end, before_of, after_of, IsHung}
use Rattle.txn_tree_map.proofs.Plugs.{whole_of, plug}
use Rattle.txn_tree_map.proofs.Held.Trees.{count_in, count_on, times_cells, cells_plug, count_plug, SameIn, spelled_stays, hung_again, spelled_whole}
use Rattle.txn_tree_map.proofs.Held.Places.{hung_name}

-- how often a block stands left and right of a place
pub times_around : (b : ℕ) (path : Path) → times_in b (before_of path) + times_in b (after_of path) ≡ count_on b path
times_around b path =
    let same : times_in b (cells_of (plug path Leaf)) ≡ times_in b (before_of path ++ after_of path) = ap (times_in b) (cells_plug path Leaf) in
    omega (arith, times_cells b (plug path Leaf), count_plug b path Leaf, times-append b (before_of path) (after_of path))

-- the place at the end of a path is its root, or in one of its blocks
pub place_mine : (arena : Arena) (root : ℕ) (path : Path) → (place_at_end arena root path ≡ root)
    ⊎ ((d : ℕ) × (1 ≤ count_on d path) × ((place_at_end arena root path ≡ block_at arena d + 2) ⊎ (place_at_end arena root path ≡ block_at arena d + 3)))
place_mine arena root [] = inl refl
place_mine arena root (st ∷ path) =
    inr (st.cell.block, omega (arith, one_here st.cell.block st.cell refl), at st.left)
  where
    at : (left : Bool) → (block_at arena st.cell.block + (if left then 2 else 3) ≡ block_at arena st.cell.block + 2)
        ⊎ (block_at arena st.cell.block + (if left then 2 else 3) ≡ block_at arena st.cell.block + 3)
    at true = inl refl
    at false = inr refl

pub named_block : {arena : Arena} {b : ℕ} (d : ℕ) {a : ℕ} → IsInBlock arena b a → (a ≡ block_at arena d + 2) ⊎ (a ≡ block_at arena d + 3) → b ≡ d
named_block d h (inl e) = omega (arith, h.low, h.high)
named_block d h (inr e) = omega (arith, h.low, h.high)

module _ (arena : Arena) (s : List ℕ) (root : ℕ) (path : Path) (x m : ℕ) (hung : IsHung arena s root path x) where
  abbrev pub hole : ℕ
  hole = place_at_end arena root path

  pub hole_within : hole < length s
  hole_within = slice_get_within s hole x (hung_name arena s root path x hung)

  -- blocks that are none of the path's, and have not its root, keep their words
  pub hole_apart : (count : ℕ → ℕ) → ((b : ℕ) → count_on b path + count b ≤ 1)
      → ((b : ℕ) → 1 ≤ count b → ¬ IsInBlock arena b root) → {b a : ℕ} → 1 ≤ count b → IsInBlock arena b a → a ≢ hole
  hole_apart count once out {b} k mine e = elim (place_mine arena root path) [
    | inl at ↦ out b k (subst (IsInBlock arena b) (e ∙ at) mine)
    | inr d ↦
        let same : b ≡ d.0 = named_block d.0 mine (rw e d.2) in
        let here : 1 ≤ count d.0 = subst (λ y. 1 ≤ count y) same k in
        absurd (omega (arith, once d.0, d.1))
  ]

  pub same_in : (count : ℕ → ℕ) → ((b : ℕ) → count_on b path + count b ≤ 1)
      → ((b : ℕ) → 1 ≤ count b → ¬ IsInBlock arena b root) → SameIn arena s (slice_set s hole m) count
  same_in count once out b a k mine = get_set_other s hole a m (hole_apart count once out k mine)

  -- a word in none of the path's blocks stays
  pub same_root : (q : ℕ) → q ≢ root → ((b : ℕ) → 1 ≤ count_on b path → ¬ IsInBlock arena b q) → slice_get (slice_set s hole m) q ≡ slice_get s q
  same_root q ne out = get_set_other s hole q m (λ e. elim (place_mine arena root path) [
    | inl at ↦ ne (e ∙ at)
    | inr d ↦ out d.0 d.1 (omega (arith, d.2))
  ])

  -- the path is hung as before, and its last word has the new name
  pub hung_here : ((b : ℕ) → count_on b path ≤ 1) → ((b : ℕ) → 1 ≤ count_on b path → ¬ IsInBlock arena b root) → IsHung arena (slice_set s hole m) root path m
  hung_here once out = hung_again arena s (slice_set s hole m) root path x m once out
      (get_set_other s hole root m)
      (λ b a k mine ne. get_set_other s hole a m ne)
      (get_set_same s hole m hole_within) hung

-- the node of a step hung there, and the path goes on into it
pub hung_step : (arena : Arena) (s : List ℕ) (root : ℕ) (path : Path) (x : ℕ) (st : Step) (below : Tree)
    → IsHung arena s root path x → IsSpelled arena s (whole_of st below)
    → ((b : ℕ) → count_on b path + count_in b (whole_of st below) ≤ 1)
    → ((b : ℕ) → 1 ≤ count_on b path + count_in b (whole_of st below) → ¬ IsInBlock arena b root)
    → IsHung arena (slice_set s (place_at_end arena root path) (st.cell.block + 1)) root (st ∷ path) (name_of below)
    × IsSpelled arena (slice_set s (place_at_end arena root path) (st.cell.block + 1)) below
hung_step arena s root path x st below hung spelled once out =
    let t : List ℕ = slice_set s (place_at_end arena root path) (st.cell.block + 1) in
    let whole : IsSpelled arena t (whole_of st below) =
    spelled_stays arena s t (whole_of st below) (same_in arena s root path x (st.cell.block + 1) hung
    (λ b. count_in b (whole_of st below)) once (λ b k. out b (omega arith))) spelled in
    let parts = spelled_whole arena t st below whole in
    let here : IsHung arena t root path (st.cell.block + 1) =
    hung_here arena s root path x (st.cell.block + 1) hung (λ b. omega (arith, once b)) (λ b k. out b (omega arith)) in
    ((parts.0, parts.1, here), parts.2)

-- a word of one's own is written
pub keeps_set : {IsOwn : ℕ → Type 0} {old s : List ℕ} {a : ℕ} (m : ℕ) → KeepsOthers IsOwn old s → IsOwn a → KeepsOthers IsOwn old (slice_set s a m)
keeps_set {IsOwn} {s} {a} m k own = record {
  count = length-set s a m ∙ k.count;
  same = λ b no. get_set_other s a b m (λ e. no (subst IsOwn (sym e) own)) ∙ k.same b no;
}

pub keeps_none : (IsOwn : ℕ → Type 0) (s : List ℕ) → KeepsOthers IsOwn s s
keeps_none IsOwn s = record { count = refl; same = λ b no. refl }

pub keeps_then : {IsOwn : ℕ → Type 0} {r s t : List ℕ} → KeepsOthers IsOwn r s → KeepsOthers IsOwn s t → KeepsOthers IsOwn r t
keeps_then h k = record { count = k.count ∙ h.count; same = λ b no. k.same b no ∙ h.same b no }
