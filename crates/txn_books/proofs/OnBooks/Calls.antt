-- From what a call on books answered and did to what holds after it.
use Rattle.txn_books.proofs.Common.{◌≡◌, ℕ, Bool, false, List, Option, Some, Result, Ok, Err, IfOk, if◌then◌else◌, sym, subst, after, Begins, fits_begins}
use Rattle.txn_books.proofs.Common.{KeepsOthers, Stop, GoesOn, InEachState, LeadsTo, IfOk-weaker, AreInRange, only_keeps, Put, Full, Part, IsOwn, Inserts}
use Rattle.txn_books.proofs.Common.{Removes, state_after, ClearingBooks, Ring, BooksShape, Stands, IsGoodFor, Tells, Changes, ChangesWithRoom, TellsAndChanges}
use Rattle.txn_hash_map.proofs.Common.{SomeFits}
use Rattle.txn_tree_map.proofs.Common.{WritesWithin}
use Rattle.txn_alloc.proofs.Common.{LacksRoom}
use Rattle.history_model.specs.declared.shape.Shape.{Ghosts as Shapes}
use Rattle.txn_words.specs.declared.words.Words.{Ghosts as AnyWords}
use Rattle.txn_ring.specs.Queues as rings

-- words that stand for books of which this holds
abbrev pub SomeBooks : BooksShape → (ClearingBooks → Type 0) → List ℕ → Type 0
SomeBooks shape P words = (books : ClearingBooks) × Stands shape words books × P books

-- from state to state: what an insert into a map did, why it found no room if it did not, and that other words stay
pub record IsPut (part : Part) (key x : ℕ) (put : Put) (old new : List ℕ) : Type 0 where
  pub inserts : Inserts part key x put old new
  pub full : put ≡ Full → LacksRoom part key old
  pub keeps : KeepsOthers (IsOwn part key old new) old new

-- and a removal
pub record IsCut (part : Part) (key : ℕ) (answer : Option ℕ) (old new : List ℕ) : Type 0 where
  pub removes : Removes part key answer old new
  pub keeps : KeepsOthers (IsOwn part key old new) old new

-- from state to state: what a push did, why it was refused if it was, and that other words stay
pub record IsPushed (ring : Ring) (item : ℕ × ℕ) (answer : Bool) (old new : List ℕ) : Type 0 where
  pub pushes : rings.Pushes ring item answer old new
  pub full : answer ≡ false → rings.IsFull ring old
  pub keeps : KeepsOthers (rings.IsOwn ring) old new

-- and a pop that found an item
pub record IsPopped (ring : Ring) (item : ℕ × ℕ) (old new : List ℕ) : Type 0 where
  pub pops : rings.Pops ring (Some item) old new
  pub keeps : KeepsOthers (rings.IsOwn ring) old new

-- two facts of an answer
pub ok_both : {A E : Type 0} (P Q : A → Type 0) (r : Result A E) → IfOk r P → IfOk r Q → IfOk r (λ x. P x × Q x)
ok_both P Q (Ok x) h k = (h, k)
ok_both P Q (Err e) h k = tt

module _ {W S O : Type 0} {words : AnyWords W S O} {shapes : Shapes S} {v w : W} where
  -- a call's relation says less too
  pub leads_less : {R T : List ℕ → List ℕ → Type 0} → ((x y : List ℕ) → R x y → T x y) → LeadsTo words shapes v w R → LeadsTo words shapes v w T
  leads_less less h = record { at = λ s fit. less (after (words.trace v) s) (after (words.trace w) s) (h.at s fit) }

  -- and with what held before it
  pub leads_when : {P : List ℕ → Type 0} {R T : List ℕ → List ℕ → Type 0}
      → Begins (words.trace v) (words.trace w) → InEachState words shapes v P → ((x y : List ℕ) → P x → R x y → T x y)
      → LeadsTo words shapes v w R → LeadsTo words shapes v w T
  leads_when begins each less h =
      record {
        at = λ s fit. less (after (words.trace v) s) (after (words.trace w) s)
            (each.at s (fits_begins _ _ (words.trace v) (words.trace w) s begins fit)) (h.at s fit);
      }

  -- two relations of a call
  pub leads_both : {R T : List ℕ → List ℕ → Type 0} → LeadsTo words shapes v w R → LeadsTo words shapes v w T
      → LeadsTo words shapes v w (λ x y. R x y × T x y)
  leads_both h k = record { at = λ s fit. (h.at s fit, k.at s fit) }

  -- what an insert into a map did, in each state
  pub leads_put : {part : Part} {key x : ℕ} {put : Put} → LeadsTo words shapes v w (Inserts part key x put)
      → (put ≡ Full → LeadsTo words shapes v w (λ before _. LacksRoom part key before))
      → WritesWithin words shapes v w (IsOwn part key) → LeadsTo words shapes v w (IsPut part key x put)
  leads_put inserts full own = record {
    at = λ s fit. record { inserts = inserts.at s fit; full = λ e. (full e).at s fit; keeps = only_keeps _ (words.trace v) (words.trace w) s (own.at s fit) };
  }

  -- and what a removal did
  pub leads_cut : {part : Part} {key : ℕ} {answer : Option ℕ}
      → LeadsTo words shapes v w (Removes part key answer) → WritesWithin words shapes v w (IsOwn part key) → LeadsTo words shapes v w (IsCut part key answer)
  leads_cut removes own =
      record { at = λ s fit. record { removes = removes.at s fit; keeps = only_keeps _ (words.trace v) (words.trace w) s (own.at s fit) } }

  -- what a push did, and a pop
  pub leads_pushed : {ring : Ring} {item : ℕ × ℕ} {answer : Bool}
      → LeadsTo words shapes v w (rings.Pushes ring item answer) → (answer ≡ false → LeadsTo words shapes v w (λ before _. rings.IsFull ring before))
      → LeadsTo words shapes v w (KeepsOthers (rings.IsOwn ring)) → LeadsTo words shapes v w (IsPushed ring item answer)
  leads_pushed pushes full keeps =
      record { at = λ s fit. record { pushes = pushes.at s fit; full = λ e. (full e).at s fit; keeps = keeps.at s fit } }

  pub leads_popped : {ring : Ring} {item : ℕ × ℕ} → LeadsTo words shapes v w (rings.Pops ring (Some item))
      → LeadsTo words shapes v w (KeepsOthers (rings.IsOwn ring)) → LeadsTo words shapes v w (IsPopped ring item)
  leads_popped pops keeps = record { at = λ s fit. record { pops = pops.at s fit; keeps = keeps.at s fit } }

-- what holds in each state holds in one
pub in_some : {W S O : Type 0} {words : AnyWords W S O} {shapes : Shapes S} {w : W} {P : List ℕ → Type 0}
    → SomeFits (shapes.word_count (words.shape w)) (shapes.good (words.shape w)) (words.trace w) → InEachState words shapes w P → (s : List ℕ) × P s
in_some {words = words} {w = w} some h = (after (words.trace w) some.0, h.at some.0 some.1)

module _ {W S O A : Type 0} {words : AnyWords W S O} {shapes : Shapes S} {shape : BooksShape} {v w : W} {r : Result A Stop} (goes : GoesOn words v w r)
    (stand : InEachState words shapes v (IsGoodFor shape)) where
  -- books stand after a call that leads from books to books
  still_good : (R : List ℕ → List ℕ → Type 0) → ((x y : List ℕ) → IsGoodFor shape x → R x y → IsGoodFor shape y)
      → LeadsTo words shapes v w R → InEachState words shapes w (IsGoodFor shape)
  still_good R keeps leads = state_after words shapes v w (IsGoodFor shape) (IsGoodFor shape) R goes.shape goes.begins stand leads keeps

  -- as after a change, after one that needs room, and after one that tells something
  pub changed_stands : (change : ClearingBooks → ClearingBooks)
      → LeadsTo words shapes v w (Changes (Stands shape) change) → InEachState words shapes w (IsGoodFor shape)
  changed_stands change = still_good (Changes (Stands shape) change) (λ x y good c. (change good.0, c good.0 good.1))

  pub room_stands : {lacks : ClearingBooks → Bool} {change : ClearingBooks → ClearingBooks} {had_room : Bool}
      → LeadsTo words shapes v w (ChangesWithRoom (Stands shape) lacks change had_room) → InEachState words shapes w (IsGoodFor shape)
  room_stands {lacks} {change} {had_room} = still_good (ChangesWithRoom (Stands shape) lacks change had_room)
      (λ x y good c. (if had_room then change good.0 else good.0, c.left good.0 good.1))

  pub told_stands : {B : Type 0} {says : ClearingBooks → B} {change : ClearingBooks → ClearingBooks} {answer : B}
      → LeadsTo words shapes v w (TellsAndChanges (Stands shape) says change answer) → InEachState words shapes w (IsGoodFor shape)
  told_stands {B} {says} {change} {answer} = still_good (TellsAndChanges (Stands shape) says change answer)
      (λ x y good c. (change good.0, c.left good.0 good.1))

-- after a look that answered: books stand, and what is so of all that they may say is so of the answer
module _ {W S O A B : Type 0} {words : AnyWords W S O} {shapes : Shapes S} {shape : BooksShape} {v w : W} {r : Result A Stop} (goes : GoesOn words v w r)
    (stand : InEachState words shapes v (IsGoodFor shape)) (says : ClearingBooks → B) (value : A → B)
    (told : IfOk r (λ answer. LeadsTo words shapes v w (Tells (Stands shape) says (value answer)))) where
  pub told_stand : IfOk r (λ answer. InEachState words shapes w (IsGoodFor shape))
  told_stand = IfOk-weaker r _ _ (λ answer. still_good goes stand (Tells (Stands shape) says (value answer))
      (λ x y good t. subst (IsGoodFor shape) (sym t.same) good)) told

  pub told_fits : (P : B → Type 0) → SomeFits (shapes.word_count (words.shape w)) (shapes.good (words.shape w)) (words.trace w)
      → ((books : ClearingBooks) → AreInRange books → P (says books)) → IfOk r (λ answer. P (value answer))
  told_fits P fits is = IfOk-weaker r _ _ (λ answer here.
      let some = in_some fits (state_after words shapes v w (IsGoodFor shape) (SomeBooks shape (λ books. value answer ≡ says books))
      (Tells (Stands shape) says (value answer)) goes.shape goes.begins stand here
      (λ x y good t. (good.0, subst (λ z. Stands shape z good.0) (sym t.same) good.1, t.told good.0 good.1))) in
      subst P (sym some.1.2) (is some.1.0 some.1.1.range)) told
