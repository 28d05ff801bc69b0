-- A node hung at the end of a path by one write, where the path goes on to one side below it.
use Rattle.txn_tree_map.proofs.Common.{◌≡◌, ◌≢◌, ℕ, ◌+◌, ◌≤◌, Bool, true, false, List, ◌∷◌, length, slice_get, slice_set, Some, sym, ap, ◌∙◌, subst}
use Rattle.txn_tree_map.proofs.Common.{if◌then◌else◌, KeepsOthers, Arena, block_at, IsInBlock, Cell, Tree, name_of, rank_of, cells_of, HasNode, IsSpelled}
use Rattle.txn_tree_map.proofs.Common.{IsHeap, Step, Path, place_at_end, IsHung, IsHigh, Hangs}
use Rattle.txn_tree_map.proofs.Plugs.{whole_of}
use Rattle.txn_tree_map.proofs.Held.Trees.{count_in, count_on, SameIn}
use Rattle.txn_tree_map.proofs.Held.Places.{high_whole}
use Rattle.txn_tree_map.proofs.Held.Hanging.{same_in, same_root, hung_step, keeps_set}
use Rattle.txn_tree_map.proofs.Searches.SearchSteps.{IsNode, node_whole, child_shorter, step_down, child_of}

-- where the word that names the subtree on this side stands in a block
abbrev pub inner : Bool → ℕ
inner left = if left then 2 else 3

-- a node's word for one side names the subtree there
child_there : (arena : Arena) (s : List ℕ) (left : Bool) (l r : Tree) (c : Cell) → HasNode arena s c (name_of l) (name_of r)
    → slice_get s (block_at arena c.block + inner left) ≡ Some (name_of (child_of left l r))
child_there arena s true l r c h = h.left_there
child_there arena s false l r c h = h.right_there

-- the tree's top is hung at the end of the path, and what is on this side of it hangs below
pub record Descends (arena : Arena) (root : ℕ) (path : Path) (side : Bool) (whole : Tree) (b k next : ℕ) (s t : List ℕ) : Type 0 where
  pub node : IsNode whole b k
  pub open node use *
  pub hung : IsHung arena t root (step_down side left cell right ∷ path) (name_of (child_of side left right))
  pub spelled : IsSpelled arena t (child_of side left right)
  pub is_next : name_of (child_of side left right) ≡ next
  pub at : block_at arena b + inner side ≡ place_at_end arena root (step_down side left cell right ∷ path)
  pub high : (top : ℕ) → IsHigh top path (rank_of whole) → IsHeap whole
      → IsHigh top (step_down side left cell right ∷ path) (rank_of (child_of side left right)) × IsHeap (child_of side left right)
  pub shorter : length (cells_of (child_of side left right)) + 1 ≤ length (cells_of whole)
  pub stays : (count : ℕ → ℕ) → ((e : ℕ) → count_on e path + count e ≤ 1)
      → ((e : ℕ) → 1 ≤ count e → ¬ IsInBlock arena e root) → SameIn arena s t count
  pub stays_at : (q : ℕ) → q ≢ root → ((e : ℕ) → 1 ≤ count_on e path → ¬ IsInBlock arena e q) → slice_get t q ≡ slice_get s q

pub descends : (arena : Arena) (root : ℕ) (path : Path) (has : ℕ) (side : Bool) {whole : Tree} {b k place name next : ℕ} {s t : List ℕ}
    → IsNode whole b k → name ≡ b + 1 → place ≡ place_at_end arena root path → IsHung arena s root path has → IsSpelled arena s whole
    → ((e : ℕ) → count_on e path + count_in e whole ≤ 1) → ((e : ℕ) → 1 ≤ count_on e path + count_in e whole → ¬ IsInBlock arena e root)
    → Hangs place name (block_at arena b + inner side) next s t → Descends arena root path side whole b k next s t
descends arena root path has side {whole} {s} {t} node is_name at hung spelled once out hangs =
    let st : Step = step_down side node.left node.cell node.right in
    let below : Tree = child_of side node.left node.right in
    let is : whole ≡ whole_of st below = node.is ∙ node_whole side node.left node.right node.cell in
    let u : List ℕ = slice_set s (place_at_end arena root path) (node.cell.block + 1) in
    let same : u ≡ t = cc (hangs.changed, node.is_block) in
    let parts = hung_step arena s root path has st below hung (subst (IsSpelled arena s) is spelled)
    (λ e. subst (λ z. count_on e path + count_in e z ≤ 1) is (once e))
    (λ e m. out e (subst (λ z. 1 ≤ count_on e path + count_in e z) (sym is) m)) in
    let there = child_there arena s side node.left node.right node.cell (subst (IsSpelled arena s) node.is spelled).0 in
    record {
      node = node;
      hung = subst (λ z. IsHung arena z root (st ∷ path) (name_of below)) same parts.0;
      spelled = subst (λ z. IsSpelled arena z below) same parts.1;
      is_next = cc (there, hangs.there, node.is_block);
      at = ap (λ e. block_at arena e + inner side) (sym node.is_block);
      high = λ top high heap. high_whole top st path below (subst (λ z. IsHigh top path (rank_of z)) is high) (subst IsHeap is heap);
      shorter = subst (λ z. length (cells_of below) + 1 ≤ length (cells_of z)) (sym node.is) (child_shorter side node.left node.right node.cell);
      stays = λ count few far. subst (λ z. SameIn arena s z count) same (same_in arena s root path has (node.cell.block + 1) hung count few far);
      stays_at = λ q ne far. subst (λ z. slice_get z q ≡ slice_get s q) same (same_root arena s root path has (node.cell.block + 1) hung q ne far);
    }

-- what is written is a word of one's own
pub keeps_hung : {IsOwn : ℕ → Type 0} {place name inner next : ℕ} {old s t : List ℕ} → Hangs place name inner next s t
    → KeepsOthers IsOwn old s → IsOwn place → KeepsOthers IsOwn old t
keeps_hung {IsOwn} {name} {old} hangs kept own = subst (KeepsOthers IsOwn old) (sym hangs.changed) (keeps_set name kept own)
