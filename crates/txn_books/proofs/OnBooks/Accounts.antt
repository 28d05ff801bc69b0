-- What calls on the tree of accounts say of books.
use Rattle.txn_books.proofs.Common.{◌≡◌, ℕ, ◌<◌, ◌≤◌, false, not, ◌&&◌, inl, inr, Option, Some, None, IsSome, is_some, IfSome, List, Result, refl, sym, ap, ◌∙◌}
use Rattle.txn_books.proofs.Common.{subst, arith, nat_cmp_total, GREATEST_CASH, ClearingBooks, used, put_cash, is_full, AreInRange, IsAccountNumber, after}
use Rattle.txn_books.proofs.Common.{Begins, fits_begins, Stop, GoesOn, InEachState, LeadsTo, KeepsOthers, state_after, only_keeps, Put, Old, HasMap}
use Rattle.txn_books.proofs.Common.{HasMapApart, Finds, held, HasKeyIn, KeepsBlocks, tree_part, BooksShape, tree_of, Stands, IsGoodFor, OfModel, Tells, Changes}
use Rattle.txn_books.proofs.Common.{ChangesWithRoom, had_room}
use Rattle.books_model.proofs.Common.{holds_any, cash_between}
use Rattle.txn_ring.proofs.Common.{WritesOnly}
use Rattle.books_model.proofs.Drafts.{closed-in_range}
use Rattle.books_model.proofs.InRange.{put_cash-in_range, used_after_insert, change-in_range}
use Rattle.history_model.specs.declared.shape.Shape.{Ghosts as Shapes}
use Rattle.txn_words.specs.declared.words.Words.{Ghosts as AnyWords}
use Rattle.txn_alloc.specs.EntryMaps.{SumsRange}
use Rattle.txn_tree_map.specs.Stored.{IsValueOf, Sets}
use Rattle.txn_books.proofs.OneState.ChainedChanges.{remove_absent}
use Rattle.txn_books.proofs.OneState.Parts.{good_parts, some_tree, cut_leaves}
use Rattle.txn_books.proofs.OneState.States.{tree_apart}
use Rattle.txn_books.proofs.OneState.Standing.{accounts_left}
use Rattle.txn_books.proofs.OnBooks.Calls.{IsPut, IsCut}
use Rattle.txn_books.proofs.OnBooks.Putting.{PutsIn, put_in}
use Rattle.std.specs.FinMap as map

-- an account's cash is in range
pub cash_most : (books : ClearingBooks) → AreInRange books → (a : ℕ) (answer : Option ℕ)
    → answer ≡ map.get books.accounts a → IfSome answer (λ cash. cash ≤ GREATEST_CASH)
cash_most books range a None e = tt
cash_most books range a (Some cash) e = (range.accounts a cash (sym e)).1

module _ (shape : BooksShape) where
  pub tree_apart_there : (x : List ℕ) → IsGoodFor shape x → HasMapApart (tree_part (tree_of shape)) x
  tree_apart_there x good = some_tree shape x (good_parts shape x good)

  pub tree_there : (x : List ℕ) → IsGoodFor shape x → HasMap (tree_part (tree_of shape)) x
  tree_there x good = held (tree_apart_there x good)

  pub tells_cash : (a : ℕ) (answer : Option ℕ) (x y : List ℕ) → Finds (tree_part (tree_of shape)) a answer x y
      → Tells (Stands shape) (λ books. map.get books.accounts a) answer x y
  tells_cash a answer x y finds =
      record { same = finds.same; told = λ books stand. finds.found books.accounts stand.parts.tree_used (tree_apart shape x books stand).map }

  pub tells_between : (low high total : ℕ) (x y : List ℕ) → SumsRange (tree_part (tree_of shape)) low high total x y
      → Tells (Stands shape) (λ books. cash_between books low high) total x y
  tells_between low high total x y sums =
      record { same = sums.same; told = λ books stand. sums.sum books.accounts stand.parts.tree_used (tree_apart shape x books stand).map }

-- the books with other cash of an account, or with one account more if there is room, are in range
cash-in_range : (books : ClearingBooks) (a v : ℕ) → AreInRange books → v ≤ GREATEST_CASH → (map.get books.accounts a ≡ None → IsAccountNumber a)
    → (map.get books.accounts a ≡ None → used books < books.blocks) → AreInRange (put_cash books a v)
cash-in_range books a v range fits number room = at (map.get books.accounts a) refl
  where
    at : (o : Option ℕ) → map.get books.accounts a ≡ o → AreInRange (put_cash books a v)
    at None none = put_cash-in_range books a v range (number none) fits (omega (arith, room none, used_after_insert books a v none))
    at (Some was) there = change-in_range books a v range (subst IsSome (sym there) refl) fits

module _ (shape : BooksShape) (a v : ℕ) (fits : v ≤ GREATEST_CASH) where
  account_in : PutsIn shape (tree_part (tree_of shape)) a v (λ books. map.get books.accounts a)
      (λ books. map.get books.accounts a ≡ None → IsAccountNumber a) (λ books. put_cash books a v)
  account_in = record {
    entries = λ books. books.accounts;
    blocks = λ words books stand. stand.parts.tree_used;
    apart = tree_apart shape;
    at_key = λ words books stand may. refl;
    changed = λ old new books stand may room left keeps.
        accounts_left shape old new a books stand _ left keeps (cash-in_range books a v stand.range fits may room);
  }

  -- what an insert of an account did to the books
  pub account_put : (put : Put) (x y : List ℕ) → OfModel (Stands shape) (λ books. map.get books.accounts a ≡ None → IsAccountNumber a) x
      → IsPut (tree_part (tree_of shape)) a v put x y
      → ChangesWithRoom (Stands shape) (λ books. not (is_some (map.get books.accounts a)) && is_full books) (λ books. put_cash books a v) (had_room put) x y
  account_put = put_in account_in

-- and of one that was absent
pub account_opened : (shape : BooksShape) (a : ℕ) → IsAccountNumber a → (put : Put) (x y : List ℕ)
    → OfModel (Stands shape) (λ books. map.get books.accounts a ≡ None) x
    → IsPut (tree_part (tree_of shape)) a 0 put x y → ChangesWithRoom (Stands shape) is_full (λ books. put_cash books a 0) (had_room put) x y
account_opened shape a number put x y absent did =
    let k = account_put shape a 0 (omega arith) put x y (λ books stand none. number) did in
    record { answer = λ books stand. k.answer books stand ∙ ap (λ (o : Option ℕ). not (not (is_some o) && is_full books)) (absent books stand); left = k.left }

-- what a write of an account's cash in its block did
pub balance_set : (shape : BooksShape) (a v block : ℕ) → v ≤ GREATEST_CASH → (x y : List ℕ) → HasKeyIn (tree_of shape) a block x
    → KeepsOthers (IsValueOf (tree_of shape) block) x y → Sets (tree_of shape) a v x y
    → Changes (Stands shape) (λ books. put_cash books a v) x y
balance_set shape a v block fits x y held kept sets =
    let present : (books : ClearingBooks) → Stands shape x books → map.get books.accounts a ≡ Some sets.0 = λ books stand.
    (sets.1 books.accounts stand.parts.tree_used stand.parts.free (tree_apart shape x books stand)).present in
    (account_put shape a v fits (Old sets.0) x y (λ books stand none. let no : None ≡ Some sets.0 = sym none ∙ present books stand in absurd (cc))
    (record {
      inserts = sets.1;
      full = λ e. absurd (cc);
      keeps = record {
        count = kept.count;
        same = λ c out. kept.same c (λ e. out (inr (inl (block, inl held.0, record { low = omega (arith, e); high = omega (arith, e) }))));
      };
    })).left

module _ {W S O : Type 0} (words : AnyWords W S O) (shapes : Shapes S) (shape : BooksShape) (v w : W) where
  pub leads_balance : (a amount block : ℕ) → amount ≤ GREATEST_CASH → Begins (words.trace v) (words.trace w)
      → InEachState words shapes v (HasKeyIn (tree_of shape) a block) → LeadsTo words shapes v w (Sets (tree_of shape) a amount)
      → WritesOnly words v w (IsValueOf (tree_of shape) block)
      → LeadsTo words shapes v w (Changes (Stands shape) (λ books. put_cash books a amount))
  leads_balance a amount block fits begins held sets frame = record {
    at = λ s fit. balance_set shape a amount block fits (after (words.trace v) s) (after (words.trace w) s)
        (held.at s (fits_begins _ _ (words.trace v) (words.trace w) s begins fit))
        (only_keeps (IsValueOf (tree_of shape) block) (words.trace v) (words.trace w) s frame.appended) (sets.at s fit);
  }

module _ {W S O A : Type 0} {words : AnyWords W S O} {shapes : Shapes S} {v w : W} {r : Result A Stop} (goes : GoesOn words v w r)
    (shape : BooksShape) (a block : ℕ) (held : InEachState words shapes v (HasKeyIn (tree_of shape) a block)) where
  -- an account stands where it stood, after a call that keeps all blocks, and after one that tells something alone
  pub held_kept : LeadsTo words shapes v w (KeepsBlocks (tree_of shape)) → InEachState words shapes w (HasKeyIn (tree_of shape) a block)
  held_kept keeps = state_after words shapes v w (HasKeyIn (tree_of shape) a block) (HasKeyIn (tree_of shape) a block)
      (KeepsBlocks (tree_of shape)) goes.shape goes.begins held keeps (λ x y there kept. kept a block there)

  pub held_told : {B : Type 0} {says : ClearingBooks → B} {answer : B} → LeadsTo words shapes v w (Tells (Stands shape) says answer)
      → InEachState words shapes w (HasKeyIn (tree_of shape) a block)
  held_told {B} {says} {answer} told =
      state_after words shapes v w (HasKeyIn (tree_of shape) a block) (HasKeyIn (tree_of shape) a block)
      (Tells (Stands shape) says answer) goes.shape goes.begins held told
      (λ x y there t. subst (HasKeyIn (tree_of shape) a block) (sym t.same) there)

-- what a removal of an account that holds nothing did
pub account_removed : (shape : BooksShape) (a : ℕ) (answer : Option ℕ) (x y : List ℕ)
    → OfModel (Stands shape) (λ books. holds_any books a ≡ false) x → IsCut (tree_part (tree_of shape)) a answer x y
    → Changes (Stands shape) (λ books. record books { accounts = map.remove books.accounts a }) x y
account_removed shape a None x y nothing cut = λ books stand.
    let none : map.get books.accounts a ≡ None = sym (cut.removes.found books.accounts stand.parts.tree_used (tree_apart shape x books stand).map) in
    subst (λ m. Stands shape y (record books { accounts = m }))
    (sym (remove_absent nat_cmp_total map.nat_cmp-IsAntisymmetric books.accounts a none)) (subst (λ z. Stands shape z books) (sym cut.removes.same) stand)
account_removed shape a (Some was) x y nothing cut = λ books stand.
    accounts_left shape x y a books stand _ (cut_leaves _ x y _ _ _ (tree_apart shape x books stand) a was cut.removes) cut.keeps
    (closed-in_range books a stand.range (nothing books stand))
