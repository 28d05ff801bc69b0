-- The steps of a search down the tree, in one word list.
use Rattle.txn_tree_map.proofs.Common.{◌≡◌, ◌≢◌, ℕ, ◌+◌, ◌^◌, ◌<◌, ◌≤◌, Bool, true, false, nat_lt, List, [], ◌∷◌, ◌++◌, length, slice_get, Some, None, refl}
use Rattle.txn_tree_map.proofs.Common.{sym, ap, ◌∙◌, subst, arith, rules, if◌then◌else◌, append_assoc, length-append, same_Some, AllByRecursion, Arena}
use Rattle.txn_tree_map.proofs.Common.{block_at, Cell, Entries, Blocks, value_of, all_append, all_first, all_last, all_map, TreeMap, Tree, priority_of, name_of}
use Rattle.txn_tree_map.proofs.Common.{rank_of, cells_of, IsSpelled, IsAbove, IsRising, TreeHolds, Leaf, Node, Step, Path, before_of, after_of, IsHigh, IsBelow}
use Rattle.txn_tree_map.proofs.Common.{HangsAt, HasTop, IsNamed, IsFoundAt, IsMissing}
use Rattle.txn_tree_map.proofs.Plugs.{whole_of}
use Rattle.txn_tree_map.proofs.Searches.Passed.{IsPassed}
use Rattle.txn_tree_map.proofs.Held.Rising.{above_more, below_more, rising_below, rising_above, value_there, value_between}
use Rattle.txn_tree_map.proofs.Held.Places.{at_step, at_room, at_name, at_value}
use Rattle.std.specs.FinMap as entry_map

-- a tree whose name is 0, or that has no cells, is a leaf
pub leaf_named : (tree : Tree) → name_of tree ≡ 0 → tree ≡ Leaf
leaf_named Leaf e = refl
leaf_named (Node left c right) e = absurd (omega arith)

pub leaf_short : (tree : Tree) → length (cells_of tree) ≡ 0 → tree ≡ Leaf
leaf_short Leaf e = refl
leaf_short (Node left c right) e = absurd (omega (arith, length-append (cells_of left) (c ∷ cells_of right)))

-- a tree with this block and key on top
pub record IsNode (tree : Tree) (block key : ℕ) : Type 0 where
  pub left : Tree
  pub cell : Cell
  pub right : Tree
  pub is : tree ≡ Node left cell right
  pub is_block : cell.block ≡ block
  pub is_key : cell.key ≡ key

pub node_named : (arena : Arena) (s : List ℕ) (tree : Tree) (b k : ℕ) → name_of tree ≡ b + 1 → IsSpelled arena s tree
    → slice_get s (block_at arena b) ≡ Some k → IsNode tree b k
node_named arena s Leaf b k e h there = absurd (omega arith)
node_named arena s (Node left c right) b k e h there =
    let same : c.block ≡ b = omega arith in
    record {
      left = left;
      cell = c;
      right = right;
      is = refl;
      is_block = same;
      is_key = same_Some c.key k (sym h.0.key ∙ ap (λ d. slice_get s (block_at arena d)) same ∙ there);
    }

-- the step down from a node, and what hangs below it
abbrev pub step_down : Bool → Tree → Cell → Tree → Step
step_down left l c r = record { left = left; cell = c; other = (if left then r else l) }

abbrev pub child_of : Bool → Tree → Tree → Tree
child_of left l r = if left then l else r

pub node_whole : (left : Bool) (l r : Tree) (c : Cell) → Node l c r ≡ whole_of (step_down left l c r) (child_of left l r)
node_whole true l r c = refl
node_whole false l r c = refl

pub child_shorter : (left : Bool) (l r : Tree) (c : Cell) → length (cells_of (child_of left l r)) + 1 ≤ length (cells_of (Node l c r))
child_shorter true l r c = omega (arith, length-append (cells_of l) (c ∷ cells_of r))
child_shorter false l r c = omega (arith, length-append (cells_of l) (c ∷ cells_of r))

-- a node between the cells around it
pub record NodeOrder (path : Path) (l r : Tree) (c : Cell) : Type 0 where
  pub before : IsBelow c.key (before_of path)
  pub left : IsBelow c.key (cells_of l)
  pub right : IsAbove c.key (cells_of r)
  pub after : IsAbove c.key (after_of path)

pub around_node : (path : Path) (l r : Tree) (c : Cell) → before_of path ++ (cells_of (Node l c r) ++ after_of path)
    ≡ (before_of path ++ cells_of l) ++ c ∷ (cells_of r ++ after_of path)
around_node path l r c = simp append_assoc

pub node_order : (path : Path) (l r : Tree) (c : Cell) → IsRising (before_of path ++ (cells_of (Node l c r) ++ after_of path)) → NodeOrder path l r c
node_order path l r c h =
    let xs = before_of path in
    let ys = after_of path in
    let rising : IsRising ((xs ++ cells_of l) ++ c ∷ (cells_of r ++ ys)) = subst IsRising (around_node path l r c) h in
    let below : IsBelow c.key (xs ++ cells_of l) = rising_below (xs ++ cells_of l) (cells_of r ++ ys) c rising in
    let above : IsAbove c.key (cells_of r ++ ys) = rising_above (xs ++ cells_of l) (cells_of r ++ ys) c rising in
    record {
      before = all_first (λ d. d.key < c.key) xs (cells_of l) below;
      left = all_last (λ d. d.key < c.key) xs (cells_of l) below;
      right = all_first (λ d. c.key < d.key) (cells_of r) ys above;
      after = all_last (λ d. c.key < d.key) (cells_of r) ys above;
    }

-- the cells around a child, if the key is on its side of the node
pub low_down : (left : Bool) (key : ℕ) (path : Path) (l r : Tree) (c : Cell) → IsBelow key (before_of path)
    → IsBelow c.key (cells_of l) → (left ≡ false → c.key < key) → IsBelow key (before_of (step_down left l c r ∷ path))
low_down true key path l r c low order side = all_append (λ d. d.key < key) (before_of path) [] low tt
low_down false key path l r c low order side =
    let lt : c.key < key = side refl in
    all_append (λ d. d.key < key) (before_of path) (cells_of l ++ c ∷ []) low
    (all_append (λ d. d.key < key) (cells_of l) (c ∷ []) (below_more c.key key (cells_of l) (omega arith) order) (lt, tt))

pub high_down : (left : Bool) (key : ℕ) (path : Path) (l r : Tree) (c : Cell) → IsAbove key (after_of path)
    → IsAbove c.key (cells_of r) → (left ≡ true → key < c.key) → IsAbove key (after_of (step_down left l c r ∷ path))
high_down false key path l r c high order side = high
high_down true key path l r c high order side =
    let lt : key < c.key = side refl in
    all_append (λ d. key < d.key) (c ∷ cells_of r) (after_of path) (lt, above_more key c.key (cells_of r) (omega arith) order) high

floor_down : (left : Bool) (top floor : ℕ) (path : Path) (l r : Tree) (c : Cell) (n : ℕ) → floor ≤ priority_of c.key
    → IsHigh top (step_down left l c r ∷ path) n → IsHigh top (step_down left l c r ∷ path) floor
floor_down left top floor path l r c n le h = (le, h.1, h.2, h.3)

side_left : (key k : ℕ) → nat_lt key k ≡ true → key < k
side_left key k e = grind (arith, rules, e)

side_right : (key k : ℕ) → nat_lt key k ≡ false → k ≢ key → k < key
side_right key k e ne = grind (arith, rules, e, ne)

-- all keys from the least one on stand right of a place to the left of such a node
pub from_down : (least : ℕ) (path : Path) (l r : Tree) (c : Cell) → least ≤ c.key → IsAbove c.key (cells_of r)
    → AllByRecursion (λ d. least ≤ d.key) (after_of path) → AllByRecursion (λ d. least ≤ d.key) (after_of (step_down true l c r ∷ path))
from_down least path l r c le order high = all_append (λ d. least ≤ d.key) (c ∷ cells_of r) (after_of path)
    (le, all_map (λ d. c.key < d.key) (λ d. least ≤ d.key) (cells_of r) (λ d m. omega arith) order) high

-- one step down, to one side of a node that stands at a place in the map's tree
pub record StepsDown (map : TreeMap) (path : Path) (rest : Tree) (side : Bool) (b k : ℕ) (s : List ℕ) : Type 0 where
  pub node : IsNode rest b k
  pub open node use *
  pub order : NodeOrder path left right cell
  pub is_at : HangsAt map (step_down side left cell right ∷ path) (child_of side left right) s
  pub at : block_at map.arena b + (if side then 2 else 3) ≡ block_at map.arena cell.block + (if side then 2 else 3)
  pub shorter : length (cells_of (child_of side left right)) + 1 ≤ length (cells_of rest)

pub steps_down : {map : TreeMap} {path : Path} {rest : Tree} {b k : ℕ} {s : List ℕ} (side : Bool)
    → HangsAt map path rest s → IsNode rest b k → StepsDown map path rest side b k s
steps_down {map} {path} side m node =
    let l : Tree = node.left in
    let c : Cell = node.cell in
    let r : Tree = node.right in
    record {
      node = node;
      order = node_order path l r c (subst (λ t. IsRising (before_of path ++ (cells_of t ++ after_of path))) node.is m.search);
      is_at = at_step m (step_down side l c r) (child_of side l r) (node.is ∙ node_whole side l r c);
      at = ap (λ d. block_at map.arena d + (if side then 2 else 3)) (sym node.is_block);
      shorter = subst (λ z. length (cells_of (child_of side l r)) + 1 ≤ length (cells_of z)) (sym node.is) (child_shorter side l r c);
    }

module _ {map : TreeMap} (key floor : ℕ) {s : List ℕ} where
  -- the search begins at the root
  pub passed_tree : {tree : Tree} → HangsAt map [] tree s → floor ≤ 2 ^ 64 → IsPassed map key floor map.root 0 s
  passed_tree {tree} m le = record {
    path = [];
    rest = tree;
    is_at = m;
    at = refl;
    low = tt;
    high = tt;
    higher = le;
    count = omega (arith, at_room map s [] tree m, length-append (cells_of tree) []);
  }

  pub passed_top : {p n : ℕ} → IsPassed map key floor p n s → HasTop map p s
  passed_top h = record {
    laid = h.is_at.laid;
    tree = h.rest;
    head = (ap (slice_get s) h.at ∙ at_name h.is_at, h.is_at.spelled);
  }

  passed_leaf : {p n : ℕ} → (h : IsPassed map key floor p n s) → h.rest ≡ Leaf → IsMissing map key s
  passed_leaf h e = record { path = h.path; is_at = subst (λ t. HangsAt map h.path t s) e h.is_at; low = h.low; high = h.high }

  pub rest_name : {p n : ℕ} (m : ℕ) (h : IsPassed map key floor p n s) → slice_get s p ≡ Some m → name_of h.rest ≡ m
  rest_name m h e = same_Some (name_of h.rest) m (sym (at_name h.is_at) ∙ ap (slice_get s) (sym h.at) ∙ e)

  -- no more nodes hang there
  pub passed_end : {p n : ℕ} → IsPassed map key floor p n s → slice_get s p ≡ Some 0 → IsMissing map key s
  passed_end h e = passed_leaf h (leaf_named h.rest (rest_name 0 h e))

  pub passed_all : {p n : ℕ} → map.arena.blocks ≤ n → IsPassed map key floor p n s → IsMissing map key s
  passed_all le h = passed_leaf h (leaf_short h.rest (omega (arith, h.count)))

  pub passed_node : {p n : ℕ} (b k : ℕ) (h : IsPassed map key floor p n s) → IsNamed map p b k s → IsNode h.rest b k
  passed_node b k h named = node_named map.arena s h.rest b k (rest_name (b + 1) h named.0) h.is_at.spelled named.1

  pub passed_found : {p n : ℕ} (b k : ℕ) → IsPassed map key floor p n s → IsNamed map p b k s → k ≡ key → IsFoundAt map key p b s
  passed_found b k h named e =
      let node : IsNode h.rest b k = passed_node b k h named in
      record {
        path = h.path;
        left = node.left;
        cell = node.cell;
        right = node.right;
        is_at = subst (λ t. HangsAt map h.path t s) node.is h.is_at;
        at = h.at;
        is_block = node.is_block;
        is_key = node.is_key ∙ e;
      }

  -- a node whose key is another is passed
  pub passed_down : {p n : ℕ} (b k : ℕ) → IsPassed map key floor p n s → IsNamed map p b k s → k ≢ key → floor ≤ priority_of k
      → IsPassed map key floor (block_at map.arena b + (if nat_lt key k then 2 else 3)) (n + 1) s
  passed_down {n} b k h named ne le =
      let left : Bool = nat_lt key k in
      let n = steps_down left h.is_at (passed_node b k h named) in
      record {
        path = step_down left n.left n.cell n.right ∷ h.path;
        rest = child_of left n.left n.right;
        is_at = n.is_at;
        at = n.at;
        low = low_down left key h.path n.left n.right n.cell h.low n.order.left (λ e. omega (arith, side_right key k e ne, n.is_key));
        high = high_down left key h.path n.left n.right n.cell h.high n.order.right (λ e. omega (arith, side_left key k e, n.is_key));
        higher = floor_down left (2 ^ 64) floor h.path n.left n.right n.cell (rank_of (child_of left n.left n.right))
            (omega (arith, ap priority_of n.is_key)) n.is_at.high;
        count = omega (arith, h.count, n.shorter);
      }

module _ {map : TreeMap} {key : ℕ} {s : List ℕ} where
  -- what a map that is held there says of the key
  pub missing_value : {f : Entries} {u : Blocks} → IsMissing map key s → TreeHolds map s f u → entry_map.get f key ≡ None
  missing_value h hold = at_value h.is_at hold key ∙ value_between key (before_of h.path) (after_of h.path) h.low h.high

  pub found_key : {p b : ℕ} → IsFoundAt map key p b s → slice_get s (block_at map.arena b) ≡ Some key
  found_key h = ap (λ d. slice_get s (block_at map.arena d)) (sym h.is_block) ∙ h.is_at.spelled.0.key ∙ ap Some h.is_key

  pub found_value : {f : Entries} {u : Blocks} {p b : ℕ} (x : ℕ) → IsFoundAt map key p b s
      → slice_get s (block_at map.arena b + 1) ≡ Some x → TreeHolds map s f u → entry_map.get f key ≡ Some x
  found_value x h there hold =
      let order = node_order h.path h.left h.right h.cell h.is_at.search in
      let is_value : h.cell.value ≡ x = same_Some h.cell.value x (sym h.is_at.spelled.0.value
      ∙ ap (λ d. slice_get s (block_at map.arena d + 1)) h.is_block ∙ there) in
      at_value h.is_at hold key
      ∙ ap (value_of key) (around_node h.path h.left h.right h.cell)
      ∙ value_there key (before_of h.path ++ cells_of h.left) (cells_of h.right ++ after_of h.path) h.cell h.is_key
      (all_append (λ d. d.key < key) (before_of h.path) (cells_of h.left)
      (subst (λ k. IsBelow k (before_of h.path)) h.is_key order.before) (subst (λ k. IsBelow k (cells_of h.left)) h.is_key order.left))
      ∙ ap Some is_value
