-- The steps of a walk through the nodes in the order of their keys, in one word list.
use Rattle.txn_tree_map.proofs.Common.{◌≡◌, ℕ, ◌+◌, ◌<◌, ◌≤◌, Bool, true, false, nat_lt, nat_le, List, [], ◌∷◌, ◌++◌, length, slice_get, Some, None, inl, inr}
use Rattle.txn_tree_map.proofs.Common.{refl, sym, ap, ◌∙◌, subst, arith, rules, ◌/◌, drop, if◌then◌else◌, append_assoc, length-append, true≢false, append-nil}
use Rattle.txn_tree_map.proofs.Common.{length-drop, nat_tests, same_Some, block_at, Cell, all_map, TreeMap, Named, Walk, KEPT, Tree, name_of, cells_of, Leaf}
use Rattle.txn_tree_map.proofs.Common.{Node, Path, before_of, after_of, HangsAt, HasTop, IsNamed, IsPlace, IsPlaceOrKey, IsLink, IsFirstFrom, IsWalk}
use Rattle.std.proofs.Common.{◌==◌, take}
use Rattle.std.proofs.lemmas.List.{same_from_push, take-append-drop, length-take}
use Rattle.txn_tree_map.proofs.Plugs.{whole_of, plug}
use Rattle.txn_tree_map.specs.Walks.{lefts_of, Keeps}
use Rattle.txn_tree_map.proofs.Held.Rising.{below_more}
use Rattle.txn_tree_map.proofs.Held.Trees.{cells_plug}
use Rattle.txn_tree_map.proofs.Held.Places.{at_up, at_room, at_name, at_root}
use Rattle.txn_tree_map.proofs.Searches.SearchSteps.{IsNode, node_named, leaf_named, leaf_short, step_down, steps_down, from_down, low_down}
use Rattle.txn_tree_map.proofs.Searches.Links.{at_link, node_link}

-- a list that ends in an element is not empty
no_end : (ns : List Named) (n : Named) → ns ++ n ∷ [] ≡ [] → ⊥
no_end ns n e = let long : length (ns ++ n ∷ []) ≡ 0 = ap length e in omega (arith, length-append ns (n ∷ []))

-- a walk that makes room, and then keeps a node
pub keeps_one : (node : Named) (old mid new : Walk)
    → mid.kept.items ≡ (if length old.kept.items == KEPT then drop (KEPT / 2) old.kept.items else old.kept.items)
    → mid.whole ≡ (if length old.kept.items == KEPT then false else old.whole) → new.kept.items ≡ mid.kept.items ++ node ∷ [] → new.whole ≡ mid.whole
    → Keeps node old new
keeps_one node old mid new kept whole put same = go (length old.kept.items == KEPT) refl kept whole
  where
    go : (full : Bool) → (length old.kept.items == KEPT) ≡ full → mid.kept.items ≡ (if full then drop (KEPT / 2) old.kept.items else old.kept.items)
        → mid.whole ≡ (if full then false else old.whole) → Keeps node old new
    go true e k w =
        let long : length old.kept.items ≡ KEPT = grind (arith, nat_tests, e) in
        record {
          gone = take (KEPT / 2) old.kept.items;
          near = drop (KEPT / 2) old.kept.items;
          before = sym (take-append-drop (KEPT / 2) old.kept.items);
          after = put ∙ ap (λ z. z ++ node ∷ []) k;
          half = inr (omega (arith, length-take (KEPT / 2) old.kept.items), omega (arith, length-drop (KEPT / 2) old.kept.items));
          whole = λ q. absurd (true≢false (sym q ∙ same ∙ w));
        }
    go false e k w = record {
      gone = [];
      near = old.kept.items;
      before = refl;
      after = put ∙ ap (λ z. z ++ node ∷ []) k;
      half = inl refl;
      whole = λ q. (refl, sym w ∙ sym same ∙ q);
    }

-- a walk that keeps none after one node more, has kept none and is as whole as before
pub keeps_whole : (least : ℕ) (node : Named) (old new : Walk) (whole : Bool) → (node.key < least → new ≡ old) → (least ≤ node.key → Keeps node old new)
    → (old.kept.items ≡ [] → old.whole ≡ whole) → new.kept.items ≡ [] → new.whole ≡ whole
keeps_whole least node old new whole low kept before none = go (nat_lt node.key least) refl
  where
    go : (t : Bool) → nat_lt node.key least ≡ t → new.whole ≡ whole
    go true e =
        let same : new ≡ old = low (grind (arith, rules, e)) in
        ap (λ z. z.whole) same ∙ before (ap (λ z. z.kept.items) (sym same) ∙ none)
    go false e =
        let k = kept (grind (arith, rules, e)) in
        absurd (no_end k.near node (sym k.after ∙ none))

-- a path that nowhere goes to the left has no cells right of its place
none_left : (path : Path) → lefts_of path ≡ [] → after_of path ≡ []
none_left [] e = refl
none_left (st ∷ path) e = go st.left e (none_left path)
  where
    named : Named
    named = record { block = st.cell.block; key = st.cell.key }

    go : (left : Bool) → lefts_of path ++ (if left then named ∷ [] else []) ≡ [] → (lefts_of path ≡ [] → after_of path ≡ [])
        → (if left then st.cell ∷ cells_of st.other else []) ++ after_of path ≡ []
    go true k rest = absurd (no_end (lefts_of path) named k)
    go false k rest = rest (sym (append-nil (lefts_of path)) ∙ k)

-- what is kept after one node more, behind what was dropped
kept_on : (dropped gone near : List Named) (node there : Named) (lefts old new : List Named) → lefts ≡ dropped ++ old
    → old ≡ gone ++ near → new ≡ near ++ node ∷ [] → there ≡ node → lefts ++ there ∷ [] ≡ (dropped ++ gone) ++ new
kept_on dropped gone near node there lefts old new e before after same =
    ap (λ z. z ++ there ∷ []) (e ∙ ap (λ z. dropped ++ z) before ∙ sym (append_assoc dropped gone near))
    ∙ append_assoc (dropped ++ gone) near (there ∷ [])
    ∙ ap (λ z. (dropped ++ gone) ++ (near ++ z ∷ [])) same ∙ ap (λ z. (dropped ++ gone) ++ z) (sym after)

-- the lowest node at which a path goes to the left: what is above it, and the cells from it on
record IsTurn (map : TreeMap) (s : List ℕ) (highs : List Cell) (ns : List Named) (n : Named) : Type 0 where
  pub above : Path
  pub left : Tree
  pub cell : Cell
  pub right : Tree
  pub is_at : HangsAt map above (Node left cell right) s
  pub is_block : cell.block ≡ n.block
  pub is_key : cell.key ≡ n.key
  pub lefts : lefts_of above ≡ ns
  pub cells : highs ≡ cell ∷ (cells_of right ++ after_of above)

module _ {map : TreeMap} {s : List ℕ} where
  room_below : {path : Path} {tree : Tree} → HangsAt map path tree s → length (cells_of tree) ≤ map.arena.blocks
  room_below {path} {tree} m =
      omega (arith, at_room map s path tree m, length-append (before_of path) (cells_of tree ++ after_of path), length-append (cells_of tree) (after_of path))

  turn : (path : Path) (tree : Tree) (ns : List Named) (n : Named) → HangsAt map path tree s → lefts_of path ≡ ns ++ n ∷ [] → IsTurn map s (after_of path) ns n
  turn [] tree ns n m e = absurd (no_end ns n (sym e))
  turn (st ∷ path) tree ns n m e = go st.left (at_up st path m) e (turn path (whole_of st tree) ns n (at_up st path m))
    where
      named : Named
      named = record { block = st.cell.block; key = st.cell.key }

      go : (left : Bool) → HangsAt map path (if left then Node tree st.cell st.other else Node st.other st.cell tree) s
          → lefts_of path ++ (if left then named ∷ [] else []) ≡ ns ++ n ∷ [] → (lefts_of path ≡ ns ++ n ∷ [] → IsTurn map s (after_of path) ns n)
          → IsTurn map s ((if left then st.cell ∷ cells_of st.other else []) ++ after_of path) ns n
      go true up k rest =
          let same = same_from_push (lefts_of path) ns named n k in
          record {
            above = path;
            left = tree;
            cell = st.cell;
            right = st.other;
            is_at = up;
            is_block = ap (λ d. d.block) same.1;
            is_key = ap (λ d. d.key) same.1;
            lefts = same.0;
            cells = refl;
          }
      go false up k rest = rest (sym (append-nil (lefts_of path)) ∙ k)

  module _ (walk : Walk) (least : ℕ) where
    -- at the root
    pub walk_root : {tree : Tree} → HangsAt map [] tree s → walk.place ≡ map.root → walk.kept.items ≡ [] → IsWalk map walk least 0 s
    walk_root {tree} m place none = record {
      path = [];
      rest = tree;
      is_at = m;
      at = place;
      low = tt;
      high = tt;
      dropped = [];
      kept = sym none;
      whole = λ w. refl;
      count = omega (arith, room_below m);
    }

    module _ {n : ℕ} (h : IsWalk map walk least n s) where
      pub walk_tree : HangsAt map [] (plug h.path h.rest) s
      walk_tree = at_root h.is_at

      pub walk_top : HasTop map walk.place s
      walk_top = record {
        laid = h.is_at.laid;
        tree = h.rest;
        head = (ap (slice_get s) h.at ∙ at_name h.is_at, h.is_at.spelled);
      }

      walk_name : (m : ℕ) → slice_get s walk.place ≡ Some m → name_of h.rest ≡ m
      walk_name m e = same_Some (name_of h.rest) m (sym (at_name h.is_at) ∙ ap (slice_get s) (sym h.at) ∙ e)

      -- the words that are read at its place
      pub walk_place : (a : ℕ) → IsPlace walk.place s a → IsLink map s a
      walk_place a e = subst (IsLink map s) (sym (e ∙ h.at)) (at_link h.is_at)

      walk_node : (b k : ℕ) → IsNamed map walk.place b k s → IsNode h.rest b k
      walk_node b k named = node_named map.arena s h.rest b k (walk_name (b + 1) named.0) h.is_at.spelled named.1

      pub walk_near : (b k : ℕ) → IsNamed map walk.place b k s → (a : ℕ) → IsPlaceOrKey map walk.place b s a → IsLink map s a
      walk_near b k named a (inl e) = walk_place a e
      walk_near b k named a (inr e) = subst (IsLink map s) (sym e) (node_link h.is_at (walk_node b k named))

      -- nothing is left below it
      walk_over : map.arena.blocks + length (cells_of h.rest) ≤ map.arena.blocks → IsWalk map walk least map.arena.blocks s
      walk_over le = record {
        path = h.path;
        rest = h.rest;
        is_at = h.is_at;
        at = h.at;
        low = h.low;
        high = h.high;
        dropped = h.dropped;
        kept = h.kept;
        whole = h.whole;
        count = le;
      }

      pub walk_end : slice_get s walk.place ≡ Some 0 → IsWalk map walk least map.arena.blocks s
      walk_end e =
          let none : length (cells_of h.rest) ≡ 0 = ap (λ t. length (cells_of t)) (leaf_named h.rest (walk_name 0 e)) in
          walk_over (omega arith)

      pub walk_all : map.arena.blocks ≤ n → IsWalk map walk least map.arena.blocks s
      walk_all le = walk_over (omega (arith, h.count))

      -- down one node
      pub walk_down : (mid next : Walk) (b k : ℕ) → IsNamed map walk.place b k s → mid.kept ≡ walk.kept → mid.whole ≡ walk.whole
          → next.place ≡ block_at map.arena b + (if nat_le least k then 2 else 3)
          → (k < least → next ≡ mid) → (least ≤ k → Keeps (record { block = b; key = k }) mid next) → IsWalk map next least (n + 1) s
      walk_down mid next b k named mid_kept mid_whole place lower keeps =
          go (nat_le least k) refl (walk_node b k named)
        where
          go : (t : Bool) → nat_le least k ≡ t → IsNode h.rest b k → IsWalk map next least (n + 1) s
          go true e node =
              let le : least ≤ k = grind (arith, rules, e) in
              let keep = keeps le in
              let d = steps_down true h.is_at node in
              record {
                path = step_down true d.left d.cell d.right ∷ h.path;
                rest = d.left;
                is_at = d.is_at;
                at = place ∙ ap (λ t. block_at map.arena b + (if t then 2 else 3)) e ∙ d.at;
                low = low_down true least h.path d.left d.right d.cell h.low d.order.left (λ e. absurd (cc));
                high = from_down least h.path d.left d.right d.cell (omega (arith, d.is_key)) d.order.right h.high;
                dropped = h.dropped ++ keep.gone;
                kept = kept_on h.dropped keep.gone keep.near (record { block = b; key = k }) (record { block = d.cell.block; key = d.cell.key })
                    (lefts_of h.path) walk.kept.items next.kept.items h.kept (ap (λ z. z.items) (sym mid_kept) ∙ keep.before) keep.after
                    (cc (d.is_block, d.is_key));
                whole = λ w. ap (λ z. z ++ keep.gone) (h.whole (sym mid_whole ∙ (keep.whole w).1)) ∙ (keep.whole w).0;
                count = omega (arith, h.count, d.shorter);
              }
          go false e node =
              let lt : k < least = grind (arith, rules, e) in
              let same : next ≡ mid = lower lt in
              let d = steps_down false h.is_at node in
              record {
                path = step_down false d.left d.cell d.right ∷ h.path;
                rest = d.right;
                is_at = d.is_at;
                at = place ∙ ap (λ t. block_at map.arena b + (if t then 2 else 3)) e ∙ d.at;
                low = low_down false least h.path d.left d.right d.cell h.low d.order.left (λ side. omega (arith, d.is_key));
                high = h.high;
                dropped = h.dropped;
                kept = append-nil (lefts_of h.path) ∙ h.kept ∙ ap (λ z. h.dropped ++ z) (ap (λ z. z.items) (sym mid_kept) ∙ ap (λ z. z.kept.items) (sym same));
                whole = λ w. h.whole (sym mid_whole ∙ ap (λ z. z.whole) (sym same) ∙ w);
                count = omega (arith, h.count, d.shorter);
              }

    -- if nothing is left below it, the nearest node that it keeps is next
    module _ (h : IsWalk map walk least map.arena.blocks s) where
      leaf : h.rest ≡ Leaf
      leaf = leaf_short h.rest (omega (arith, h.count))

      cells_there : cells_of (plug h.path h.rest) ≡ before_of h.path ++ after_of h.path
      cells_there = cells_plug h.path h.rest ∙ ap (λ t. before_of h.path ++ (cells_of t ++ after_of h.path)) leaf

      pub walk_none : walk.kept.items ≡ [] → walk.whole ≡ true → IsFirstFrom map least None s
      walk_none none whole = record {
        tree = plug h.path h.rest;
        is_at = at_root h.is_at;
        lows = before_of h.path;
        highs = after_of h.path;
        cells = cells_there;
        low = h.low;
        high = h.high;
        first = none_left h.path (h.kept ∙ ap (λ z. z ++ walk.kept.items) (h.whole whole) ∙ none);
      }

      module _ (near : List Named) (node : Named) (e : walk.kept.items ≡ near ++ node ∷ []) where
        turned : IsTurn map s (after_of h.path) (h.dropped ++ near) node
        turned = turn h.path h.rest (h.dropped ++ near) node h.is_at
            (h.kept ∙ ap (λ z. h.dropped ++ z) e ∙ sym (append_assoc h.dropped near (node ∷ [])))

        pub walk_first : IsFirstFrom map least (Some node) s
        walk_first = record {
          tree = plug h.path h.rest;
          is_at = at_root h.is_at;
          lows = before_of h.path;
          highs = after_of h.path;
          cells = cells_there;
          low = h.low;
          high = h.high;
          first = (turned.cell, cells_of turned.right ++ after_of turned.above, turned.cells, turned.is_block, turned.is_key);
        }

        pub walk_behind : (next : Walk) → next.place ≡ block_at map.arena node.block + 3 → next.kept.items ≡ near → next.whole ≡ walk.whole
            → IsWalk map next (node.key + 1) 0 s
        walk_behind next place kept whole =
            let t = turned in
            let d = steps_down false t.is_at (record { left = t.left; cell = t.cell; right = t.right; is = refl; is_block = t.is_block; is_key = t.is_key }) in
            record {
              path = step_down false d.left d.cell d.right ∷ t.above;
              rest = d.right;
              is_at = d.is_at;
              at = place ∙ d.at;
              low = low_down false (node.key + 1) t.above d.left d.right d.cell
                  (below_more d.cell.key (node.key + 1) (before_of t.above) (omega (arith, d.is_key)) d.order.before) d.order.left
                  (λ side. omega (arith, d.is_key));
              high = all_map (λ z. d.cell.key < z.key) (λ z. node.key + 1 ≤ z.key) (after_of t.above) (λ z m. omega (arith, d.is_key)) d.order.after;
              dropped = h.dropped;
              kept = append-nil (lefts_of t.above) ∙ t.lefts ∙ ap (λ z. h.dropped ++ z) (sym kept);
              whole = λ w. h.whole (sym whole ∙ w);
              count = omega (arith, room_below d.is_at);
            }
