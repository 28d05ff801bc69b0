-- A tree whose nodes are visited from the top down, with the names of the subtrees that are left on a list.
use Rattle.txn_books.proofs.Common.{◌≡◌, ◌≢◌, ℕ, ◌+◌, ◌-◌, ◌<◌, ◌≤◌, List, [], ◌∷◌, ◌++◌, length, slice_get, Option, Some, None, refl, sym, ap, ◌∙◌, subst}
use Rattle.txn_books.proofs.Common.{arith, length-append, append_assoc, dite, ℕ_discrete, AllByRecursion, nat_cmp, append-nil, length-map, same_Some, Arena}
use Rattle.txn_books.proofs.Common.{block_at, Cell, Entries, Blocks, value_of, HasKeysOnce, value_first, value_later, TreeMap, Tree, name_of, TreeHolds, Leaf}
use Rattle.txn_books.proofs.Common.{AddsUp, entries_in}
use Rattle.txn_tree_map.proofs.Common.{all_first, all_last, all_map, value_less, cells_of, HasNode, IsSpelled, IsRising, IsAbove, Node, IsBelow}
use Rattle.txn_alloc.proofs.Maps.Cells.{value_none}
use Rattle.txn_tree_map.proofs.Held.Rising.{rising_first, rising_last, rising_below, rising_above, above_other, below_other, above_more, value_there}
use Rattle.txn_tree_map.proofs.Held.Places.{at_tree, at_room}
use Rattle.txn_books.proofs.ReadOff.Adding.{or_else, or_none, adds_cells}
use Rattle.std.specs.FinMap as entry_map

-- the cells of a tree, each before those below it, and then others
abbrev pub down : Tree → List Cell → List Cell
down Leaf cs = cs
down (Node left c right) cs = c ∷ down left (down right cs)

-- the cells of trees, one tree after another
abbrev pub down_all : List Tree → List Cell
down_all [] = []
down_all (tree ∷ trees) = down tree (down_all trees)

-- the names of the trees, that of the first at the end
abbrev pub names_of : List Tree → List ℕ
names_of [] = []
names_of (tree ∷ trees) = names_of trees ++ name_of tree ∷ []

abbrev pub AreSpelled : Arena → List ℕ → List Tree → Type 0
AreSpelled arena words [] = Unit {0}
AreSpelled arena words (tree ∷ trees) = IsSpelled arena words tree × AreSpelled arena words trees

-- what is listed, and then the entries of the trees that these names head, are the whole
pub record Visits (arena : Arena) (words names : List ℕ) (listed whole : List (ℕ × ℕ)) : Type 0 where
  pub trees : List Tree
  pub named : names ≡ names_of trees
  pub spelled : AreSpelled arena words trees
  pub all : listed ++ entries_in (down_all trees) ≡ whole

-- a list with a last element has some
no_end : {A : Type 0} (xs : List ℕ) (a : ℕ) → xs ++ a ∷ [] ≡ [] → A
no_end [] a e = absurd (cc)
no_end (x ∷ xs) a e = absurd (cc)

-- a list and its last element
one_end : (xs ys : List ℕ) (a b : ℕ) → xs ++ a ∷ [] ≡ ys ++ b ∷ [] → (xs ≡ ys) × (a ≡ b)
one_end [] [] a b e = (refl, cc)
one_end [] (y ∷ ys) a b e = no_end ys b (let none : ys ++ b ∷ [] ≡ [] = cc in none)
one_end (x ∷ xs) [] a b e = no_end xs a (let none : xs ++ a ∷ [] ≡ [] = cc in none)
one_end (x ∷ xs) (y ∷ ys) a b e =
    let first : x ≡ y = cc in
    let rest = one_end xs ys a b (let tails : xs ++ a ∷ [] ≡ ys ++ b ∷ [] = cc in tails) in
    ((λ i. first i ∷ rest.0 i), rest.1)

-- what a name of some block tells, after which these names are left
pub record Tops (arena : Arena) (words rest : List ℕ) (name : ℕ) (listed whole : List (ℕ × ℕ)) : Type 0 where
  pub left : Tree
  pub right : Tree
  pub cell : Cell
  pub trees : List Tree
  pub block : cell.block ≡ name - 1
  pub node : HasNode arena words cell (name_of left) (name_of right)
  pub spelled_left : IsSpelled arena words left
  pub spelled_right : IsSpelled arena words right
  pub others : rest ≡ names_of trees
  pub spelled : AreSpelled arena words trees
  pub all : listed ++ entries_in (cell ∷ down left (down right (down_all trees))) ≡ whole

module _ {arena : Arena} {words names : List ℕ} {listed whole : List (ℕ × ℕ)} where
  -- if no name is left, all are listed
  pub visits_end : names ≡ [] → Visits arena words names listed whole → listed ≡ whole
  visits_end none h = at (h.trees) h.named h.all
    where
      at : (trees : List Tree) → names ≡ names_of trees → listed ++ entries_in (down_all trees) ≡ whole → listed ≡ whole
      at [] named all = sym (append-nil listed) ∙ all
      at (tree ∷ trees) named all = no_end (names_of trees) (name_of tree) (sym named ∙ none)

  module _ (rest : List ℕ) (name : ℕ) (last : names ≡ rest ++ name ∷ []) where
    -- a name of none is dropped
    pub visits_none : name ≡ 0 → Visits arena words names listed whole → Visits arena words rest listed whole
    visits_none none h = at (h.trees) h.named h.spelled h.all
      where
        at : (trees : List Tree) → names ≡ names_of trees → AreSpelled arena words trees
            → listed ++ entries_in (down_all trees) ≡ whole → Visits arena words rest listed whole
        at [] named spelled all = no_end rest name (sym last ∙ named)
        at (Leaf ∷ trees) named spelled all = record {
          trees = trees;
          named = (one_end rest (names_of trees) name 0 (sym last ∙ named)).0;
          spelled = spelled.1;
          all = all;
        }
        at (Node left c right ∷ trees) named spelled all =
            let e : name ≡ c.block + 1 = (one_end rest (names_of trees) name (c.block + 1) (sym last ∙ named)).1 in
            absurd (omega (arith, e, none))

    tops : name ≢ 0 → Visits arena words names listed whole → Tops arena words rest name listed whole
    tops some h = at (h.trees) h.named h.spelled h.all
      where
        at : (trees : List Tree) → names ≡ names_of trees → AreSpelled arena words trees → listed ++ entries_in (down_all trees) ≡ whole
            → Tops arena words rest name listed whole
        at [] named spelled all = no_end rest name (sym last ∙ named)
        at (Leaf ∷ trees) named spelled all = absurd (some (one_end rest (names_of trees) name 0 (sym last ∙ named)).1)
        at (Node left c right ∷ trees) named spelled all =
            let e = one_end rest (names_of trees) name (c.block + 1) (sym last ∙ named) in
            let same : name ≡ c.block + 1 = e.1 in
            record {
              left = left;
              right = right;
              cell = c;
              trees = trees;
              block = omega (arith, same);
              node = spelled.0.0;
              spelled_left = spelled.0.1;
              spelled_right = spelled.0.2;
              others = e.0;
              spelled = spelled.1;
              all = all;
            }

    pub visits_below : name ≢ 0 → Visits arena words names listed whole → (name ≤ arena.blocks) × (length listed + 1 ≤ length whole)
    visits_below some h =
        let t = tops some h in
        let below : t.cell.block < arena.blocks = t.node.below in
        let block : t.cell.block ≡ name - 1 = t.block in
        let cs : List Cell = t.cell ∷ down t.left (down t.right (down_all t.trees)) in
        let long : length listed + length (entries_in cs) ≡ length whole = sym (length-append listed (entries_in cs)) ∙ ap length t.all in
        (omega (arith, below, block, some), omega (arith, long))

    -- a node is listed, and its subtrees are left
    pub visits_node : (key value left right : ℕ) → name ≢ 0 → slice_get words (block_at arena (name - 1)) ≡ Some key
        → slice_get words (block_at arena (name - 1) + 1) ≡ Some value
        → slice_get words (block_at arena (name - 1) + 2) ≡ Some left → slice_get words (block_at arena (name - 1) + 3) ≡ Some right
        → Visits arena words names listed whole → Visits arena words ((rest ++ right ∷ []) ++ left ∷ []) (listed ++ (key, value) ∷ []) whole
    visits_node key value left right some first second third fourth h =
        let t = tops some h in
        let back : name - 1 ≡ t.cell.block = sym t.block in
        let at : (j : ℕ) → slice_get words (block_at arena t.cell.block + j)
        ≡ slice_get words (block_at arena (name - 1) + j) = λ j. ap (λ b. slice_get words (block_at arena b + j)) (sym back) in
        let keys : t.cell.key ≡ key = same_Some t.cell.key key (sym t.node.key ∙ ap (λ b. slice_get words (block_at arena b)) (sym back) ∙ first) in
        let values : t.cell.value ≡ value = same_Some t.cell.value value (sym t.node.value ∙ at 1 ∙ second) in
        let lefts : left ≡ name_of t.left = same_Some left (name_of t.left) (sym third ∙ sym (at 2) ∙ t.node.left_there) in
        let rights : right ≡ name_of t.right = same_Some right (name_of t.right) (sym fourth ∙ sym (at 3) ∙ t.node.right_there) in
        record {
          trees = t.left ∷ t.right ∷ t.trees;
          named = λ i. (t.others i ++ rights i ∷ []) ++ lefts i ∷ [];
          spelled = (t.spelled_left, (t.spelled_right, t.spelled));
          all = append_assoc listed ((key, value) ∷ []) (entries_in (down t.left (down t.right (down_all t.trees))))
              ∙ (λ i. listed ++ (sym keys i, sym values i) ∷ entries_in (down t.left (down t.right (down_all t.trees)))) ∙ t.all;
        }

-- the first visit is that of the whole tree
pub visits_all : (arena : Arena) (words : List ℕ) (tree : Tree) (name : ℕ) → name ≡ name_of tree → IsSpelled arena words tree
    → Visits arena words (name ∷ []) [] (entries_in (down tree []))
visits_all arena words tree name e spelled = record { trees = tree ∷ []; named = ap (λ n. n ∷ []) e; spelled = (spelled, tt); all = refl }

-- what two lists of cells say of a key
value_append : (key : ℕ) (xs ys : List Cell) → value_of key (xs ++ ys) ≡ or_else (value_of key xs) (value_of key ys)
value_append key [] ys = refl
value_append key (c ∷ xs) ys = dite (ℕ_discrete c.key key)
    (λ e. value_first key c (xs ++ ys) e ∙ ap (λ p. or_else p (value_of key ys)) (sym (value_first key c xs e)))
    (λ ne. value_later key c (xs ++ ys) ne ∙ value_append key xs ys ∙ ap (λ p. or_else p (value_of key ys)) (sym (value_later key c xs ne)))

or_assoc : (o p q : Option ℕ) → or_else o (or_else p q) ≡ or_else (or_else o p) q
or_assoc None p q = refl
or_assoc (Some x) p q = refl

-- cells say the same of a key in that order
value_down : (key : ℕ) (tree : Tree) (cs : List Cell) → IsRising (cells_of tree)
    → value_of key (down tree cs) ≡ or_else (value_of key (cells_of tree)) (value_of key cs)
value_down key Leaf cs rising = refl
value_down key (Node left c right) cs rising = dite (ℕ_discrete c.key key)
    (λ e. value_first key c (down left (down right cs)) e
    ∙ ap (λ p. or_else p (value_of key cs))
    (sym (value_there key (cells_of left) (cells_of right) c e
    (subst (λ k. IsBelow k (cells_of left)) e (rising_below (cells_of left) (cells_of right) c rising)))))
    (λ ne. value_later key c (down left (down right cs)) ne
    ∙ value_down key left (down right cs) (rising_first (cells_of left) (c ∷ cells_of right) rising)
    ∙ ap (λ p. or_else (value_of key (cells_of left)) p) (value_down key right cs (rising_last (cells_of left) (c ∷ cells_of right) rising).1)
    ∙ or_assoc (value_of key (cells_of left)) (value_of key (cells_of right)) (value_of key cs)
    ∙ ap (λ p. or_else p (value_of key cs)) (sym (value_append key (cells_of left) (cells_of right)) ∙ value_less key (cells_of left) (cells_of right) c ne))

both_all : (P Q : Cell → Type 0) (xs : List Cell) → AllByRecursion P xs → AllByRecursion Q xs → AllByRecursion (λ c. P c × Q c) xs
both_all P Q [] h k = tt
both_all P Q (x ∷ xs) h k = ((h.0, k.0), both_all P Q xs h.1 k.1)

-- and each key stands once
once_down : (tree : Tree) (cs : List Cell) → IsRising (cells_of tree) → HasKeysOnce cs
    → AllByRecursion (λ d. value_of d.key cs ≡ None) (cells_of tree) → HasKeysOnce (down tree cs)
once_down Leaf cs rising once apart = once
once_down (Node left c right) cs rising once apart =
    let ls : List Cell = cells_of left in
    let rs : List Cell = cells_of right in
    let rising_left : IsRising ls = rising_first ls (c ∷ rs) rising in
    let rising_right : IsRising rs = (rising_last ls (c ∷ rs) rising).1 in
    let below : IsBelow c.key ls = rising_below ls rs c rising in
    let above : IsAbove c.key rs = rising_above ls rs c rising in
    let apart_left : AllByRecursion (λ d. value_of d.key cs ≡ None) ls = all_first (λ d. value_of d.key cs ≡ None) ls (c ∷ rs) apart in
    let apart_rest : AllByRecursion (λ d. value_of d.key cs ≡ None) (c ∷ rs) = all_last (λ d. value_of d.key cs ≡ None) ls (c ∷ rs) apart in (
      value_down c.key left (down right cs) rising_left
          ∙ ap (λ p. or_else p (value_of c.key (down right cs))) (value_none c.key ls (below_other c.key ls below))
          ∙ value_down c.key right cs rising_right
          ∙ ap (λ p. or_else p (value_of c.key cs)) (value_none c.key rs (above_other c.key rs above))
          ∙ apart_rest.0,
      once_down left (down right cs) rising_left (once_down right cs rising_right once apart_rest.1)
          (all_map (λ d. (d.key < c.key) × (value_of d.key cs ≡ None)) (λ d. value_of d.key (down right cs) ≡ None) ls
          (λ d h. value_down d.key right cs rising_right
          ∙ ap (λ p. or_else p (value_of d.key cs)) (value_none d.key rs (above_other d.key rs (above_more d.key c.key rs (omega (arith, h.0)) above)))
          ∙ h.1)
          (both_all (λ d. d.key < c.key) (λ d. value_of d.key cs ≡ None) ls below apart_left)),
    )

length_down : (tree : Tree) (cs : List Cell) → length (down tree cs) ≡ length (cells_of tree) + length cs
length_down Leaf cs = omega arith
length_down (Node left c right) cs =
    let outer : length (down left (down right cs)) ≡ length (cells_of left) + length (down right cs) = length_down left (down right cs) in
    let inner : length (down right cs) ≡ length (cells_of right) + length cs = length_down right cs in
    let whole : length (cells_of left ++ c ∷ cells_of right) ≡ length (cells_of left) + length (c ∷ cells_of right) =
    length-append (cells_of left) (c ∷ cells_of right) in
    omega (arith, outer, inner, whole)

none_apart : (xs : List Cell) → AllByRecursion (λ d. value_of d.key [] ≡ None) xs
none_apart [] = tt
none_apart (x ∷ xs) = (refl, none_apart xs)

module _ {map : TreeMap} {words : List ℕ} {entries : Entries} {used : Blocks} (h : TreeHolds map words entries used) where
  -- so they are the entries of the map
  pub down_adds : AddsUp entry_map.empty (entries_in (down h.tree [])) entries
  down_adds = adds_cells (down h.tree []) entry_map.empty entries
      (once_down h.tree [] h.search tt (none_apart (cells_of h.tree)))
      (λ key some. entry_map.get-empty nat_cmp key)
      (λ key.
      h.entries_are key ∙ sym (or_none (value_of key (cells_of h.tree))) ∙ sym (value_down key h.tree [] h.search)
      ∙ sym (or_none (value_of key (down h.tree []))) ∙ ap (λ p. or_else (value_of key (down h.tree [])) p) (sym (entry_map.get-empty nat_cmp key)))

  pub down_few : length (entries_in (down h.tree [])) ≤ map.arena.blocks
  down_few =
      let room : length (cells_of h.tree ++ []) ≤ map.arena.blocks = at_room map words [] h.tree (at_tree map words entries used h) in
      let same : length (cells_of h.tree ++ []) ≡ length (cells_of h.tree) = ap length (append-nil (cells_of h.tree)) in
      let long : length (down h.tree []) ≡ length (cells_of h.tree) + 0 = length_down h.tree [] in
      let entries_long : length (entries_in (down h.tree [])) ≡ length (down h.tree []) = length-map (down h.tree []) (λ d. (d.key, d.value)) in
      omega (arith, room, same, long, entries_long)
