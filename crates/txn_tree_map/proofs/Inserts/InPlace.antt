-- Another value at a key whose block is known.
use Rattle.txn_tree_map.proofs.Common.{◌≡◌, ℕ, ◌+◌, ◌^◌, ◌≤◌, true, false, List, [], ◌∷◌, ◌++◌, ◌⊎◌, slice_get, slice_set, Some, inl, inr, refl, sym, ap, ◌∙◌}
use Rattle.txn_tree_map.proofs.Common.{subst, arith, dite, ℕ_discrete, same_Some, after, Fits, SomeFits, get_set_other, EndsWithWrite, InEachState, LeadsTo}
use Rattle.txn_tree_map.proofs.Common.{after_write_end, fits_write_end, block_at, Cell, has_block, IsUsedIn, HasMapApart, laid_block, TreeMap, Tree, cells_of}
use Rattle.txn_tree_map.proofs.Common.{tree_part, Leaf, Node, Path, place_at_end, HangsAt, IsFoundAt, HasKeyIn}
use Rattle.txn_alloc.proofs.Common.{each_from}
use Rattle.history_model.specs.declared.shape.Shape.{Ghosts as Shapes}
use Rattle.txn_words.specs.declared.words.Words.{Ghosts as AnyWords}
use Rattle.txn_alloc.proofs.Maps.Cells.{first_block, later_block}
use Rattle.txn_tree_map.specs.Stored.{KeepsBlocks, Sets}
use Rattle.txn_tree_map.proofs.Held.Places.{at_step, at_tree}
use Rattle.txn_tree_map.proofs.Searches.SearchSteps.{step_down, node_whole, found_value}
use Rattle.txn_tree_map.proofs.Searches.Gets.{uses_below}
use Rattle.txn_tree_map.proofs.Inserts.Values.{inserted_old, valued_holds}
use Rattle.std.specs.FinMap as entry_map

-- a block of two lists together is one of either
has_either : (b : ℕ) (xs ys : List Cell) → has_block b (xs ++ ys) ≡ true → (has_block b xs ≡ true) ⊎ (has_block b ys ≡ true)
has_either b [] ys has = inr has
has_either b (x ∷ xs) ys has = dite (ℕ_discrete x.block b)
    (λ e. inl (first_block b x xs e))
    (λ ne. elim (has_either b xs ys (sym (later_block b x (xs ++ ys) ne) ∙ has)) [ inl k ↦ inl (later_block b x xs ne ∙ k) | inr k ↦ inr k ])

-- a place where the key is found, in this block
pub record FoundSomewhere (map : TreeMap) (key block : ℕ) (words : List ℕ) : Type 0 where
  pub place : ℕ
  pub found : IsFoundAt map key place block words

module _ (map : TreeMap) (key b : ℕ) (s : List ℕ) (there : slice_get s (block_at map.arena b) ≡ Some key) where
  -- going down to the block
  found_below : (tree : Tree) {path : Path} → HangsAt map path tree s → has_block b (cells_of tree) ≡ true → FoundSomewhere map key b s
  found_below Leaf m has = absurd (cc)
  found_below (Node left c right) {path} m has = dite (ℕ_discrete c.block b)
      (λ e. record {
        place = place_at_end map.arena map.root path;
        found = record {
          path = path;
          left = left;
          cell = c;
          right = right;
          is_at = m;
          at = refl;
          is_block = e;
          is_key = same_Some c.key key (sym m.spelled.0.key ∙ ap (λ d. slice_get s (block_at map.arena d)) e ∙ there);
        };
      })
      (λ ne. elim (has_either b (cells_of left) (c ∷ cells_of right) has) [
        | inl in_left ↦ found_below left
            (at_step m (step_down true left c right) left (node_whole true left right c)) in_left
        | inr in_rest ↦ found_below right
            (at_step m (step_down false left c right) right (node_whole false left right c))
            (sym (later_block b c (cells_of right) ne) ∙ in_rest)
      ])

  -- a used block that has the key is where a search finds it
  pub found_in : IsUsedIn (tree_part map) s b → FoundSomewhere map key b s
  found_in used =
      let hold = used.2 in
      found_below hold.tree (at_tree map s used.0 used.1 hold) (sym (hold.used_are b) ∙ used.3)

module _ (map : TreeMap) (key b : ℕ) (s : List ℕ) (held : HasKeyIn map key b s) (x : ℕ) where
  at : FoundSomewhere map key b s
  at = found_in map key b s held.1 held.0

  pub in_place : Sets map key x s (slice_set s (block_at map.arena b + 1) x)
  in_place = (
    (at.found).cell.value,
    λ f u v hold. record {
      present = found_value (at.found).cell.value at.found
          (ap (λ d. slice_get s (block_at map.arena d + 1)) (sym (at.found).is_block) ∙ (at.found).is_at.spelled.0.value) hold.map;
      left = inserted_old x at.found hold;
    },
  )

  -- each key stands where it stood
  pub keeps_blocks : KeepsBlocks map s (slice_set s (block_at map.arena b + 1) x)
  keeps_blocks k d other =
      let u = other.0 in (
        (entry_map.insert u.0 key x, u.1, valued_holds x at.found u.2, u.3),
        get_set_other s (block_at map.arena b + 1) (block_at map.arena d) x (λ e. omega arith) ∙ other.1,
      )

  pub still_apart : HasMapApart (tree_part map) s → HasMapApart (tree_part map) (slice_set s (block_at map.arena b + 1) x)
  still_apart order = record {
    entries = entry_map.insert order.entries key x;
    used = order.used;
    free = order.free;
    holds = inserted_old x at.found order.holds;
  }

-- a block that is used in each fitting state lies in the words
pub lies_in : {W S O : Type 0} {words : AnyWords W S O} {shapes : Shapes S} (map : TreeMap) (key b : ℕ) {w : W}
    → SomeFits (shapes.word_count (words.shape w)) (shapes.good (words.shape w)) (words.trace w)
    → InEachState words shapes w (HasMapApart (tree_part map)) → InEachState words shapes w (HasKeyIn map key b)
    → (block_at map.arena b + 4 ≤ shapes.word_count (words.shape w)) × (shapes.word_count (words.shape w) ≤ 2 ^ 64)
lies_in map key b some order held =
    laid_block map.arena _ _ _ some b (record { at = λ s fit. (order.at s fit).holds.map.laid.arena })
    (uses_below map _ b (held.at some.0 some.1).0)

module _ {W S O : Type 0} {words : AnyWords W S O} {shapes : Shapes S} (map : TreeMap) (key b x q : ℕ) {v : W} (w : W) (same : words.shape w ≡ words.shape v)
    (is_value : q ≡ block_at map.arena b + 1) (held : InEachState words shapes v (HasKeyIn map key b))
    (e : EndsWithWrite (words.trace v) (words.trace w) q x) where
  fits_before : {s : List ℕ} → Fits (shapes.word_count (words.shape v)) (shapes.good (words.shape v)) (words.trace w) s
      → Fits (shapes.word_count (words.shape v)) (shapes.good (words.shape v)) (words.trace v) s
  fits_before {s} fit = fits_write_end _ _ (words.trace v) (words.trace w) q x s e fit

  left : (s : List ℕ) → after (words.trace w) s ≡ slice_set (after (words.trace v) s) (block_at map.arena b + 1) x
  left s = after_write_end (words.trace v) (words.trace w) q x s e ∙ ap (λ z. slice_set (after (words.trace v) s) z x) is_value

  -- what the write leads to in every fitting state
  pub set_in_place : LeadsTo words shapes v w (Sets map key x)
  set_in_place = record {
    at = λ s fit. subst (Sets map key x (after (words.trace v) s)) (sym (left s))
        (in_place map key b (after (words.trace v) s) (held.at s (fits_before fit)) x);
  }

  pub set_keeps : LeadsTo words shapes v w (KeepsBlocks map)
  set_keeps = record {
    at = λ s fit. subst (KeepsBlocks map (after (words.trace v) s)) (sym (left s))
        (keeps_blocks map key b (after (words.trace v) s) (held.at s (fits_before fit)) x);
  }

  pub set_apart : InEachState words shapes v (HasMapApart (tree_part map)) → InEachState words shapes w (HasMapApart (tree_part map))
  set_apart order = each_from words shapes v w _ same (record {
    at = λ s fit. subst (HasMapApart (tree_part map)) (sym (left s))
        (still_apart map key b (after (words.trace v) s) (held.at s (fits_before fit)) x (order.at s (fits_before fit)));
  })
