-- A key that was absent, put into a block that was taken out of its list before.
use Rattle.txn_books.proofs.Common.{◌≡◌, ℕ, inl, inr, true, List, None, sym, ap, ◌∙◌, subst, arith, true≢false, KeepsOthers, Arena, New, IsHead, Entries}
use Rattle.txn_books.proofs.Common.{Blocks, Part, HoldsApart, HasMapApart, IsOwn, one_set, in_here, free_unused, TreeMap, tree_part, ChainMap, chain_part}
use Rattle.txn_books.proofs.Common.{ClearingBooks, BooksShape, arena_of, tree_of, chains_of, chained, Stands}
use Rattle.txn_hash_map.proofs.Common.{Lacks, IsUsedIn, out_itself}
use Rattle.txn_alloc.proofs.Sets.{out_less}
use Rattle.txn_alloc.proofs.Maps.Parts.{IsOne, used_of, new_not_full}
use Rattle.txn_tree_map.proofs.Maps.{tree_headed}
use Rattle.txn_hash_map.proofs.Changes.{chains_headed}
use Rattle.txn_books.specs.Inner.Building.{IsTaken}
use Rattle.txn_books.proofs.OneState.States.{tree_apart, chains_apart}
use Rattle.txn_books.proofs.OnBooks.Calls.{IsPut}
use Rattle.std.specs.FinSet as set
use Rattle.std.specs.FinMap as entry_map
use Rattle.txn_tree_map.proofs.Inserts.InsertCalls as trees
use Rattle.txn_hash_map.proofs.Inserts as chains

-- heads alone were written
pub heads_kept : (arena : Arena) (b : ℕ) (x r : List ℕ) → IsTaken arena b x r → KeepsOthers (IsHead arena) x r
heads_kept arena b x r taken = record {
  count = taken.kept.count;
  same = λ a no. taken.kept.same a (λ e. no (record { low = omega (arith, e); high = omega (arith, e) }));
}

-- a map stands while heads alone are written
abbrev StandsHeaded : Part → Type 0
StandsHeaded part = (s t : List ℕ) (f : Entries) (u v : Blocks) → HoldsApart part s f u v → KeepsOthers (IsHead part.arena) s t → part.Holds t f u

tree_stays : (map : TreeMap) → StandsHeaded (tree_part map)
tree_stays map s t f u v hold kept = tree_headed map s t f u hold.map kept

chains_stay : (map : ChainMap) → StandsHeaded (chain_part map)
chains_stay map s t f u v hold kept = chains_headed map s t f u v hold kept

-- a block that was free beside a map was taken out of its list
pub record IsTakenBy (part : Part) (b : ℕ) (x r : List ℕ) (f : Entries) (u v : Blocks) : Type 0 where
  pub one : IsOne part
  pub headed : StandsHeaded part
  pub taken : IsTaken part.arena b x r
  pub hold : HoldsApart part x f u v

module _ {shape : BooksShape} {x r : List ℕ} {books : ClearingBooks} {b : ℕ} (stand : Stands shape x books) (taken : IsTaken (arena_of shape) b x r) where
  -- as beside the accounts, and beside the chains
  pub tree_taken : IsTakenBy (tree_part (tree_of shape)) b x r books.accounts stand.parts.tree_used stand.parts.free
  tree_taken = record { one = trees.is_one (tree_of shape); headed = tree_stays (tree_of shape); taken = taken; hold = tree_apart shape x books stand }

  pub chains_taken : IsTakenBy (chain_part (chains_of shape)) b x r (chained books) stand.parts.chain_used stand.parts.free
  chains_taken =
      record { one = chains.is_one (chains_of shape); headed = chains_stay (chains_of shape); taken = taken; hold = chains_apart shape x books stand }

module _ {part : Part} {b : ℕ} {x r : List ℕ} {f : Entries} {u v : Blocks} (t : IsTakenBy part b x r f u v) where
  -- the map beside the other free blocks
  pub apart_taken : HoldsApart part r f u (set.remove v b)
  apart_taken = record {
    map = t.headed x r f u v t.hold (heads_kept part.arena b x r t.taken);
    free_lists = (t.taken.takes v t.hold.free_lists).left;
    apart = λ d m. out_less v b d (t.hold.apart d m);
  }

  pub order_taken : HasMapApart part r
  order_taken = record { entries = f; used = u; free = set.remove v b; holds = apart_taken }

  -- the block is in no list
  pub lacks_taken : Lacks part.arena b r
  lacks_taken free held = ap (λ w. set.contains w b) (one_set part.arena r free (set.remove v b) held apart_taken.free_lists) ∙ out_itself v b

  -- a key that was absent still is, whichever map says so
  pub absent_taken : (key : ℕ) → entry_map.get f key ≡ None → (g : Entries) (w : Blocks) → part.Holds r g w → entry_map.get g key ≡ None
  absent_taken key none g w held = subst (λ m. entry_map.get m key ≡ None) (t.one r f g u w apart_taken.map held).0 none

  was_free : set.contains v b ≡ true
  was_free = (t.taken.takes v t.hold.free_lists).was_free

  -- the same blocks are used
  used_before : (d : ℕ) → IsUsedIn part r d → IsUsedIn part x d
  used_before d uses = (f, u, t.hold.map, used_of part t.one r f u d apart_taken.map uses)

  used_after : (d : ℕ) → IsUsedIn part x d → IsUsedIn part r d
  used_after d uses = (f, u, apart_taken.map, used_of part t.one x f u d t.hold.map uses)

  unused_before : ¬ IsUsedIn part x b
  unused_before uses = true≢false (sym (used_of part t.one x f u b t.hold.map uses) ∙ free_unused part x f u v b t.hold was_free)

  pub unused_taken : ¬ IsUsedIn part r b
  unused_taken uses = unused_before (used_before b uses)

  module _ (key value : ℕ) (y : List ℕ) (absent : entry_map.get f key ≡ None)
      (puts : (g : Entries) (w free : Blocks) → HoldsApart part r g w free → HoldsApart part y (entry_map.insert g key value) (set.insert w b) free)
      (own : KeepsOthers (IsOwn part key r y) r y) where
    uses : IsUsedIn part y b
    uses = (entry_map.insert f key value, set.insert u b, (puts f u (set.remove v b) apart_taken).map, in_here u b)

    -- what the put may write is what both together may write
    wider : (a : ℕ) → IsOwn part key r y a → IsOwn part key x y a
    wider a (inl root) = inl root
    wider a (inr (inl (d, inl before, mine))) = inr (inl (d, inl (used_before d before), mine))
    wider a (inr (inl (d, inr after, mine))) = inr (inl (d, inr after, mine))
    wider a (inr (inr (d, inl moved, head))) = inr (inr (d, inl (used_before d moved.0, moved.1), head))
    wider a (inr (inr (d, inr moved, head))) = inr (inr (d, inr (moved.0, λ k. moved.1 (used_after d k)), head))

    -- the two calls together are an insert of a new key
    pub put_taken : IsPut part key value New x y
    put_taken = record {
      inserts = λ g w free held. record {
        absent = subst (λ m. entry_map.get m key ≡ None) (t.one x f g u w t.hold.map held.map).0 absent;
        block = b;
        was_free = (t.taken.takes free held.free_lists).was_free;
        left = puts g w (set.remove free b) (record {
          map = t.headed x r g w free held (heads_kept part.arena b x r t.taken);
          free_lists = (t.taken.takes free held.free_lists).left;
          apart = λ d m. out_less free b d (held.apart d m);
        });
      };
      full = λ e. absurd (new_not_full e);
      keeps = record {
        count = own.count ∙ t.taken.kept.count;
        same = λ a no. own.same a (λ k. no (wider a k)) ∙ t.taken.kept.same a (λ e. no (inr (inr (b, inr (uses, unused_before), e))));
      };
    }
