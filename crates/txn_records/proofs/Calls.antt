-- What calls on the trees say of records.
use Rattle.txn_records.proofs.Common.{◌≡◌, ℕ, ◌<◌, true, false, List, Option, Some, None, IfSome, is_some, refl, sym, ap, ◌∙◌, Records, IsRank, data_at_rank}
use Rattle.txn_records.proofs.Common.{Tells, TellsAndChanges, Put, New, Old, Full, removed_here, removed_there, Turns, RecordShape, RANK_STEP, index_key_of}
use Rattle.txn_records.proofs.Common.{Trees, HasTrees, HasSomeTrees, IsGoodFor, Stands, rank_in, first_in, first_key_in, PutsRecord, first_key, first_entry}
use Rattle.txn_stores.proofs.Common.{Begins, InEachState, LeadsTo}
use Rattle.txn_alloc.proofs.Common.{state_after}
use Rattle.history_model.specs.declared.shape.Shape.{Ghosts as Shapes}
use Rattle.txn_words.specs.declared.words.Words.{Ghosts as AnyWords}
use Rattle.txn_records.specs.Access.{UnlessNoRoom}
use Rattle.txn_records.proofs.Keys.{key_first, entry_first}
use Rattle.txn_records.proofs.Held.{rank_range, no_record, some_record, range_removed, cut_held, dropped, dropped_held}
use Rattle.std.specs.FinMap as finite

module _ (shape : RecordShape) where
  pub good_trees : (x : List ℕ) → IsGoodFor shape x → HasSomeTrees shape x
  good_trees x good = (good.1.trees, good.1.parts)

  pub tells_rank : (id : ℕ) (answer : Option ℕ) (x y : List ℕ) → Tells (HasTrees shape) (λ trees. finite.get trees.ranks id) answer x y
      → Tells (Stands shape) (λ records. rank_in (finite.get records id)) answer x y
  tells_rank id answer x y t = record { same = t.same; told = λ records stand. t.told stand.trees stand.parts ∙ stand.held.ranks id }

  pub tells_data : (rank id : ℕ) → id < RANK_STEP → (answer : Option ℕ) (x y : List ℕ)
      → Tells (HasTrees shape) (λ trees. finite.get trees.index (index_key_of rank id)) answer x y
      → Tells (Stands shape) (λ records. data_at_rank rank (finite.get records id)) answer x y
  tells_data rank id lt answer x y t = record { same = t.same; told = λ records stand. t.told stand.trees stand.parts ∙ stand.held.index rank id lt }

  -- the first key from one on
  pub tells_key : (key : ℕ) (answer : Option ℕ) (x y : List ℕ) → Tells (HasTrees shape) (λ trees. first_key_in key trees.index) answer x y
      → Tells (Stands shape) (first_key key) answer x y
  tells_key key answer x y t = record {
    same = t.same;
    told = λ records stand. t.told stand.trees stand.parts ∙ key_first key records stand.trees stand.range stand.held;
  }

  -- the first entry from a key on
  pub tells_entry : (key : ℕ) (answer : Option (ℕ × ℕ)) (x y : List ℕ) → Tells (HasTrees shape) (λ trees. first_in key trees.index) answer x y
      → Tells (Stands shape) (first_entry key) answer x y
  tells_entry key answer x y t = record {
    same = t.same;
    told = λ records stand. t.told stand.trees stand.parts ∙ entry_first key records stand.trees stand.range stand.held;
  }

  -- a rank that is told is in range
  pub rank_told : (id : ℕ) (answer : Option ℕ) → (x : List ℕ) × (y : List ℕ) × IsGoodFor shape x
      × Tells (Stands shape) (λ records. rank_in (finite.get records id)) answer x y → IfSome answer IsRank
  rank_told id answer some = rank_range some.2.0 some.2.1.range id answer (some.3.told some.2.0 some.2.1)

  -- a rank that is taken out was in range
  pub cut_range : (id : ℕ) (answer : Option ℕ) → (x : List ℕ) × (y : List ℕ) × IsGoodFor shape x
      × TellsAndChanges (HasTrees shape) (λ trees. finite.get trees.ranks id) (λ trees. record trees { ranks = finite.remove trees.ranks id }) answer x y
      → IfSome answer IsRank
  cut_range id answer some =
      let stand = some.2.1 in
      rank_range some.2.0 stand.range id answer (some.3.told stand.trees stand.parts ∙ stand.held.ranks id)

  module _ (id : ℕ) (lt : id < RANK_STEP) (x y : List ℕ) where
    -- a record that was not there
    pub not_dropped : TellsAndChanges (HasTrees shape) (λ trees. finite.get trees.ranks id)
        (λ trees. record trees { ranks = finite.remove trees.ranks id }) None x y
        → TellsAndChanges (Stands shape) (λ records. finite.contains_key records id) (λ records. finite.remove records id) false x y
    not_dropped t = record {
      told = λ records stand. ap is_some (sym (absent records stand));
      left = λ records stand. record {
        trees = record stand.trees { ranks = finite.remove stand.trees.ranks id };
        parts = t.left stand.trees stand.parts;
        held = cut_held stand.trees (record stand.trees { ranks = finite.remove stand.trees.ranks id }) records stand.held id lt
            (λ q ne. removed_there stand.trees.ranks id q ne) (λ r q below ne. refl) (removed_here stand.trees.ranks id)
            (λ r. stand.held.index r id lt ∙ ap (data_at_rank r) (absent records stand));
        range = range_removed records id stand.range;
      };
    }
      where
        absent : (records : Records) → Stands shape x records → finite.get records id ≡ None
        absent records stand = no_record (finite.get records id) (sym (stand.held.ranks id) ∙ sym (t.told stand.trees stand.parts))

    -- one that was there left both trees
    pub is_dropped : (rank : ℕ) (answer : Option ℕ) → Turns (HasTrees shape) (λ trees last. (here : Trees)
        × ((Some rank ≡ finite.get trees.ranks id) × (here ≡ record trees { ranks = finite.remove trees.ranks id }))
        × (answer ≡ finite.get here.index (index_key_of rank id))
        × (last ≡ record here { index = finite.remove here.index (index_key_of rank id) })) x y
        → TellsAndChanges (Stands shape) (λ records. finite.contains_key records id) (λ records. finite.remove records id) true x y
    is_dropped rank answer t = record {
      told = λ records stand.
          let k = t.at stand.trees stand.parts in
          ap is_some (sym (some_record (finite.get records id) rank (sym (stand.held.ranks id) ∙ sym k.2.1.0)).1);
      left = λ records stand.
          let k = t.at stand.trees stand.parts in
          let both : k.0 ≡ dropped rank id stand.trees =
          k.2.3 ∙ ap (λ (h : Trees). record h { index = finite.remove h.index (index_key_of rank id) }) k.2.1.1 in
          record {
            trees = k.0;
            parts = k.1;
            held = rw both
                (dropped_held stand.trees records rank id lt stand.held (sym k.2.1.0));
            range = range_removed records id stand.range;
          };
    }

-- what a put that was done leaves stands for records
module _ {W S O : Type 0} (words : AnyWords W S O) (shapes : Shapes S) (shape : RecordShape) {v w : W}
    (kept : words.shape w ≡ words.shape v) (begins : Begins (words.trace v) (words.trace w))
    (stand : InEachState words shapes v (IsGoodFor shape)) (id rank content : ℕ) where
  pub put_stands : (was : ℕ) → LeadsTo words shapes v w (PutsRecord shape id rank content (Old was)) → InEachState words shapes w (IsGoodFor shape)
  put_stands was did = state_after words shapes v w (IsGoodFor shape) (IsGoodFor shape) (PutsRecord shape id rank content (Old was)) kept begins stand did
      (λ x y good p. (finite.insert good.0 id (rank, content), p.left good.0 good.1))

  pub new_stands : (put : Put) → LeadsTo words shapes v w (PutsRecord shape id rank content put)
      → UnlessNoRoom put (InEachState words shapes w (IsGoodFor shape))
  new_stands New did = state_after words shapes v w (IsGoodFor shape) (IsGoodFor shape) (PutsRecord shape id rank content New) kept begins stand did
      (λ x y good p. (finite.insert good.0 id (rank, content), p.left good.0 good.1))
  new_stands (Old was) did = put_stands was did
  new_stands Full did = tt
