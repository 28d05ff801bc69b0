-- Trees and paths in one word list: what stays of them while words stay, and how often a block stands in them.
use Rattle.txn_tree_map.proofs.Common.{◌≡◌, ◌≢◌, ℕ, ◌+◌, ◌<◌, ◌≤◌, Bool, true, false, List, [], ◌∷◌, ◌++◌, slice_get, Some, refl, sym, ap, ◌∙◌, subst, arith}
use Rattle.txn_tree_map.proofs.Common.{if◌then◌else◌, append_assoc, append-nil, same_Some, AllByRecursion, Arena, block_at, IsInBlock, Cell, all_append, one_in}
use Rattle.txn_tree_map.proofs.Common.{one_here, times_in, times-append, Tree, name_of, cells_of, HasNode, IsSpelled, Leaf, Node, Step, Path, place_at_end}
use Rattle.txn_tree_map.proofs.Common.{before_of, after_of, IsHung}
use Rattle.txn_tree_map.proofs.Plugs.{whole_of, plug}

-- how often a block stands in a tree, and on a path
abbrev pub count_in : ℕ → Tree → ℕ
count_in b Leaf = 0
count_in b (Node left c right) = count_in b left + one_in b c + count_in b right

abbrev pub count_on : ℕ → Path → ℕ
count_on b [] = 0
count_on b (st ∷ path) = one_in b st.cell + count_in b st.other + count_on b path

pub times_cells : (b : ℕ) (tree : Tree) → times_in b (cells_of tree) ≡ count_in b tree
times_cells b Leaf = refl
times_cells b (Node left c right) =
    omega (arith, times-append b (cells_of left) (c ∷ cells_of right), times_cells b left, times_cells b right)

-- a node of a step has as much as its parts
pub count_whole : (b : ℕ) (st : Step) (tree : Tree) → count_in b (whole_of st tree) ≡ one_in b st.cell + count_in b st.other + count_in b tree
count_whole b st tree = at (st.left)
  where
    at : (left : Bool) → count_in b (if left then Node tree st.cell st.other else Node st.other st.cell tree)
        ≡ one_in b st.cell + count_in b st.other + count_in b tree
    at true = omega arith
    at false = omega arith

-- the cells of a step's node
cells_whole : (left : Bool) (c : Cell) (other tree : Tree) → cells_of (if left then Node tree c other else Node other c tree)
    ≡ (if left then [] else cells_of other ++ c ∷ []) ++ (cells_of tree ++ (if left then c ∷ cells_of other else []))
cells_whole true c other tree = refl
cells_whole false c other tree = ap (λ xs. cells_of other ++ c ∷ xs) (sym (append-nil (cells_of tree)))
    ∙ sym (append_assoc (cells_of other) (c ∷ []) (cells_of tree ++ []))

-- the cells of a whole, from left to right
around : (xs ls cs rs ys : List Cell) → xs ++ ((ls ++ (cs ++ rs)) ++ ys) ≡ (xs ++ ls) ++ (cs ++ (rs ++ ys))
around xs ls cs rs ys =
    ap (λ z. xs ++ z) (append_assoc ls (cs ++ rs) ys ∙ ap (λ z. ls ++ z) (append_assoc cs rs ys)) ∙ sym (append_assoc xs ls (cs ++ (rs ++ ys)))

pub cells_step : (st : Step) (path : Path) (tree : Tree)
    → before_of path ++ (cells_of (whole_of st tree) ++ after_of path) ≡ before_of (st ∷ path) ++ (cells_of tree ++ after_of (st ∷ path))
cells_step st path tree =
    ap (λ z. before_of path ++ (z ++ after_of path)) (cells_whole st.left st.cell st.other tree)
    ∙ around (before_of path) (if st.left then [] else cells_of st.other ++ st.cell ∷ []) (cells_of tree)
    (if st.left then st.cell ∷ cells_of st.other else []) (after_of path)

pub cells_plug : (path : Path) (tree : Tree) → cells_of (plug path tree) ≡ before_of path ++ (cells_of tree ++ after_of path)
cells_plug [] tree = sym (append-nil (cells_of tree))
cells_plug (st ∷ path) tree = cells_plug path (whole_of st tree) ∙ cells_step st path tree

pub count_plug : (b : ℕ) (path : Path) (tree : Tree) → count_in b (plug path tree) ≡ count_on b path + count_in b tree
count_plug b [] tree = omega arith
count_plug b (st ∷ path) tree =
    omega (arith, count_plug b path (whole_of st tree), count_whole b st tree)

module _ (arena : Arena) (s : List ℕ) where
  -- what holds of each cell with a node holds of each cell of a spelled tree and of a hung path
  module _ (P : Cell → Type 0) (step : (c : Cell) (x y : ℕ) → HasNode arena s c x y → P c) where
    pub all_tree : (tree : Tree) → IsSpelled arena s tree → AllByRecursion P (cells_of tree)
    all_tree Leaf h = tt
    all_tree (Node left c right) h = all_append P (cells_of left) (c ∷ cells_of right) (all_tree left h.1) (step c _ _ h.0, all_tree right h.2)

    pub all_before : (root : ℕ) (path : Path) (name : ℕ) → IsHung arena s root path name → AllByRecursion P (before_of path)
    all_before root [] name h = tt
    all_before root (st ∷ path) name h = all_append P (before_of path) _ (all_before root path (st.cell.block + 1) h.2) (at st.left)
      where
        at : (left : Bool) → AllByRecursion P (if left then [] else cells_of st.other ++ st.cell ∷ [])
        at true = tt
        at false = all_append P (cells_of st.other) (st.cell ∷ []) (all_tree st.other h.1) (step st.cell _ _ h.0, tt)

    pub all_after : (root : ℕ) (path : Path) (name : ℕ) → IsHung arena s root path name → AllByRecursion P (after_of path)
    all_after root [] name h = tt
    all_after root (st ∷ path) name h = all_append P _ (after_of path) (at st.left) (all_after root path (st.cell.block + 1) h.2)
      where
        at : (left : Bool) → AllByRecursion P (if left then st.cell ∷ cells_of st.other else [])
        at true = (step st.cell _ _ h.0, all_tree st.other h.1)
        at false = tt

  -- a spelled node of a step is the step and what hangs below it
  pub spelled_whole : (st : Step) (tree : Tree) → IsSpelled arena s (whole_of st tree)
      → HasNode arena s st.cell (if st.left then name_of tree else name_of st.other)
      (if st.left then name_of st.other else name_of tree) × IsSpelled arena s st.other × IsSpelled arena s tree
  spelled_whole st tree h = at (st.left) h
    where
      at : (left : Bool) → IsSpelled arena s (if left then Node tree st.cell st.other else Node st.other st.cell tree)
          → HasNode arena s st.cell (if left then name_of tree else name_of st.other)
          (if left then name_of st.other else name_of tree) × IsSpelled arena s st.other × IsSpelled arena s tree
      at true k = (k.0, k.2, k.1)
      at false k = (k.0, k.1, k.2)

  pub whole_spelled : (st : Step) (tree : Tree)
      → HasNode arena s st.cell (if st.left then name_of tree else name_of st.other)
      (if st.left then name_of st.other else name_of tree) → IsSpelled arena s st.other → IsSpelled arena s tree
      → IsSpelled arena s (whole_of st tree)
  whole_spelled st tree node other below = at (st.left) node
    where
      at : (left : Bool) → HasNode arena s st.cell (if left then name_of tree else name_of st.other) (if left then name_of st.other else name_of tree)
          → IsSpelled arena s (if left then Node tree st.cell st.other else Node st.other st.cell tree)
      at true k = (k, below, other)
      at false k = (k, other, below)

  pub name_whole : (st : Step) (tree : Tree) → name_of (whole_of st tree) ≡ st.cell.block + 1
  name_whole st tree = at (st.left)
    where
      at : (left : Bool) → name_of (if left then Node tree st.cell st.other else Node st.other st.cell tree) ≡ st.cell.block + 1
      at true = refl
      at false = refl

  -- a hung path and a spelled tree at its end are a whole
  pub hung_plug : (root : ℕ) (path : Path) (tree : Tree) → IsHung arena s root path (name_of tree)
      → IsSpelled arena s tree → (slice_get s root ≡ Some (name_of (plug path tree))) × IsSpelled arena s (plug path tree)
  hung_plug root [] tree hung spelled = (hung, spelled)
  hung_plug root (st ∷ path) tree hung spelled =
      hung_plug root path (whole_of st tree) (subst (IsHung arena s root path) (sym (name_whole st tree)) hung.2)
      (whole_spelled st tree hung.0 hung.1 spelled)

  -- a name heads one tree
  pub one_tree : (t u : Tree) → name_of t ≡ name_of u → IsSpelled arena s t → IsSpelled arena s u → t ≡ u
  one_tree Leaf Leaf e h k = refl
  one_tree Leaf (Node left c right) e h k = absurd (omega arith)
  one_tree (Node left c right) Leaf e h k = absurd (omega arith)
  one_tree (Node left c right) (Node left' d right') e h k =
      let same : c.block ≡ d.block = omega arith in
      let at : (j : ℕ) → slice_get s (block_at arena c.block + j) ≡ slice_get s (block_at arena d.block + j) =
      λ j. ap (λ b. slice_get s (block_at arena b + j)) same in
      let keys : c.key ≡ d.key = same_Some c.key d.key (sym h.0.key ∙ ap (λ b. slice_get s (block_at arena b)) same ∙ k.0.key) in
      let values : c.value ≡ d.value = same_Some c.value d.value (sym h.0.value ∙ at 1 ∙ k.0.value) in
      let lefts : left ≡ left' = one_tree left left' (same_Some (name_of left) (name_of left') (sym h.0.left_there ∙ at 2 ∙ k.0.left_there)) h.1 k.1 in
      let rights : right ≡ right' = one_tree right right' (same_Some (name_of right) (name_of right') (sym h.0.right_there ∙ at 3 ∙ k.0.right_there)) h.2 k.2 in
      λ i. Node (lefts i) (record { block = same i; key = keys i; value = values i }) (rights i)

-- words that stay keep what they spell
module _ (arena : Arena) (s t : List ℕ) where
  pub node_stays : {c : Cell} {x y : ℕ} → ((a : ℕ) → IsInBlock arena c.block a → slice_get t a ≡ slice_get s a) → HasNode arena s c x y → HasNode arena t c x y
  node_stays {c} same h = record {
    below = h.below;
    key = same (block_at arena c.block) (omega arith) ∙ h.key;
    value = same (block_at arena c.block + 1) (omega arith) ∙ h.value;
    left_there = same (block_at arena c.block + 2) (omega arith) ∙ h.left_there;
    right_there = same (block_at arena c.block + 3) (omega arith) ∙ h.right_there;
  }

  -- the words of each block of a tree, or of a path
  abbrev pub SameIn : (ℕ → ℕ) → Type 0
  SameIn count = (b a : ℕ) → 1 ≤ count b → IsInBlock arena b a → slice_get t a ≡ slice_get s a

  pub spelled_stays : (tree : Tree) → SameIn (λ b. count_in b tree) → IsSpelled arena s tree → IsSpelled arena t tree
  spelled_stays Leaf same h = tt
  spelled_stays (Node left c right) same h = (
    node_stays (λ a k. same c.block a (omega (arith, one_here c.block c refl)) k) h.0,
    spelled_stays left (λ b a m k. same b a (omega arith) k) h.1,
    spelled_stays right (λ b a m k. same b a (omega arith) k) h.2,
  )

  pub hung_stays : (root : ℕ) (path : Path) (name : ℕ) → slice_get t root ≡ slice_get s root
      → SameIn (λ b. count_on b path) → IsHung arena s root path name → IsHung arena t root path name
  hung_stays root [] name at same h = at ∙ h
  hung_stays root (st ∷ path) name at same h = (
    node_stays (λ a k. same st.cell.block a (omega (arith, one_here st.cell.block st.cell refl)) k) h.0,
    spelled_stays st.other (λ b a m k. same b a (omega arith) k) h.1,
    hung_stays root path (st.cell.block + 1) at (λ b a m k. same b a (omega arith) k) h.2,
  )

  -- a node with another name on one side
  node_again : (left : Bool) {c : Cell} (n m o : ℕ)
      → ((a : ℕ) → IsInBlock arena c.block a → a ≢ block_at arena c.block + (if left then 2 else 3) → slice_get t a ≡ slice_get s a)
      → slice_get t (block_at arena c.block + (if left then 2 else 3)) ≡ Some m
      → HasNode arena s c (if left then n else o) (if left then o else n) → HasNode arena t c (if left then m else o) (if left then o else m)
  node_again true {c} n m o same there h = record {
    below = h.below;
    key = same (block_at arena c.block) (omega arith) (λ e. omega arith) ∙ h.key;
    value = same (block_at arena c.block + 1) (omega arith) (λ e. omega arith) ∙ h.value;
    left_there = there;
    right_there = same (block_at arena c.block + 3) (omega arith) (λ e. omega arith) ∙ h.right_there;
  }
  node_again false {c} n m o same there h = record {
    below = h.below;
    key = same (block_at arena c.block) (omega arith) (λ e. omega (arith, e)) ∙ h.key;
    value = same (block_at arena c.block + 1) (omega arith) (λ e. omega (arith, e)) ∙ h.value;
    left_there = same (block_at arena c.block + 2) (omega arith) (λ e. omega (arith, e)) ∙ h.left_there;
    right_there = there;
  }

  side_low : (left : Bool) → (if left then 2 else 3) < 4
  side_low true = omega arith
  side_low false = omega arith

  -- the path is hung as before, and its last word names another tree
  pub hung_again : (root : ℕ) (path : Path) (n m : ℕ)
      → ((b : ℕ) → count_on b path ≤ 1) → ((b : ℕ) → 1 ≤ count_on b path → ¬ IsInBlock arena b root)
      → (root ≢ place_at_end arena root path → slice_get t root ≡ slice_get s root)
      → ((b a : ℕ) → 1 ≤ count_on b path → IsInBlock arena b a → a ≢ place_at_end arena root path → slice_get t a ≡ slice_get s a)
      → slice_get t (place_at_end arena root path) ≡ Some m → IsHung arena s root path n → IsHung arena t root path m
  hung_again root [] n m once outside at same there h = there
  hung_again root (st ∷ path) n m once outside at same there h =
      let c : Cell = st.cell in
      let low = side_low st.left in
      let one : one_in c.block c ≡ 1 = one_here c.block c refl in
      let elsewhere : (b a : ℕ) → 1 ≤ count_in b st.other + count_on b path → IsInBlock arena b a
      → a ≢ block_at arena c.block + (if st.left then 2 else 3) = λ b a k mine e.
      let same_block : b ≡ c.block = omega (arith, mine.low, mine.high) in
      let again : 1 ≤ count_in c.block st.other + count_on c.block path = subst (λ d. 1 ≤ count_in d st.other + count_on d path) same_block k in
      omega (arith, once c.block) in (
        node_again st.left n m (name_of st.other) (λ a k ne. same c.block a (omega arith) k ne) there h.0,
        spelled_stays st.other (λ b a k mine. same b a (omega arith) mine (elsewhere b a (omega arith) mine)) h.1,
        hung_stays root path (c.block + 1)
            (at (λ e. outside c.block (omega arith) (omega arith)))
            (λ b a k mine. same b a (omega arith) mine (elsewhere b a (omega arith) mine)) h.2,
      )
