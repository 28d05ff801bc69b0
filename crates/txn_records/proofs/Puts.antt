-- A record that is put, from what was done to the trees.
use Rattle.txn_records.proofs.Common.{◌≡◌, ◌≢◌, ℕ, ◌+◌, ◌*◌, ◌<◌, ◌≤◌, Bool, true, false, ◌==◌, nat_lt, List, Option, Some, None, refl, sym, ap, ◌∙◌, subst}
use Rattle.txn_records.proofs.Common.{arith, eqb-true, ne_eqb, dite, ℕ_discrete, nat_tests, nat_cmp_total, len_after_insert, GREATEST_DATA, Records}
use Rattle.txn_records.proofs.Common.{is_store_full, IsId, IsRank, data_at_rank, TellsAndChanges, Put, New, Old, Full, Entries, removed_here, removed_there}
use Rattle.txn_records.proofs.Common.{inserted_here, inserted_there, Turns, RecordShape, RANK_STEP, index_key_of, Trees, HasTrees, HoldRecords, Stands, rank_in}
use Rattle.txn_records.proofs.Common.{is_used_up, put_answer, put_by, PutsRecord}
use Rattle.std.proofs.Common.{IsSome}
use Rattle.books_model.proofs.Maps.Trees.{len_after_change}
use Rattle.txn_words.specs.Access.{OfModel}
use Rattle.txn_records.proofs.Held.{id_below, keys_differ, no_record, some_record, data_here, data_elsewhere, range_inserted, put_held}
use Rattle.txn_records.proofs.Lengths.{lengths, one_less}
use Rattle.txn_records.proofs.Sides.{trees_counted}
use Rattle.std.specs.FinMap as finite

-- the answers to a new key
new_answer : (put : Put) (b : Bool) → put ≢ Full → put ≡ put_answer None b → (put ≡ New) × (b ≡ false)
new_answer put true had e = absurd (had e)
new_answer put false had e = (e, refl)

full_answer : (b : Bool) → Full ≡ put_answer None b → b ≡ true
full_answer true e = refl
full_answer false e = absurd (cc)

-- with one block left a record's second key finds none, exactly if the store is full
last_block : (a n blocks : ℕ) → a ≡ n + 1 + n → n + n < blocks → (a == blocks) ≡ nat_lt blocks (2 * n + 2)
last_block a n blocks e lt = dite (ℕ_discrete a blocks) (λ same. grind (arith, nat_tests, same, e, lt)) (λ other. grind (arith, nat_tests, other, e, lt))

module _ {shape : RecordShape} {words : List ℕ} {records : Records} (stand : Stands shape words records) where
  -- each tree has as many entries as there are records, and no more than there are blocks
  as_many : (finite.len stand.trees.ranks ≡ finite.len records) × (finite.len stand.trees.index ≡ finite.len records)
  as_many = lengths (finite.len records) _ _ refl stand.range stand.held

  at_most : finite.len stand.trees.ranks + finite.len stand.trees.index ≤ shape.blocks
  at_most = omega (arith, trees_counted stand.parts)

-- the trees with a record in them
placed : Entries → Entries → ℕ → ℕ → ℕ → Trees
placed ranks base id rank content = record { ranks = ranks; index = finite.insert base (index_key_of rank id) content }

module _ (trees : Trees) (records : Records) (held : HoldRecords trees records) (id rank content : ℕ) (lt : id < RANK_STEP) (ranks base : Entries) where
  placed_held : finite.get ranks id ≡ Some rank → ((q : ℕ) → q ≢ id → finite.get ranks q ≡ finite.get trees.ranks q)
      → ((r q : ℕ) → q < RANK_STEP → q ≢ id → finite.get base (index_key_of r q) ≡ finite.get trees.index (index_key_of r q))
      → ((r : ℕ) → r ≢ rank → finite.get base (index_key_of r id) ≡ None)
      → HoldRecords (record { ranks = ranks; index = finite.insert base (index_key_of rank id) content }) (finite.insert records id (rank, content))
  placed_held rank_here ranks_there base_there gone =
      put_held trees (record { ranks = ranks; index = finite.insert base (index_key_of rank id) content }) records held id lt ranks_there
      (λ r q below ne. inserted_there base (index_key_of rank id) content (index_key_of r q) (λ e. ne (keys_differ r q rank id below lt e).1)
      ∙ base_there r q below ne)
      rank content rank_here (inserted_here base (index_key_of rank id) content)
      (λ r ne. inserted_there base (index_key_of rank id) content (index_key_of r id) (λ e. ne (keys_differ r id rank id lt lt e).0) ∙ gone r ne)

module _ (shape : RecordShape) (id rank content : ℕ) (is : IsId id) (fits : content ≤ GREATEST_DATA) (x y : List ℕ) where
  abbrev key : ℕ
  key = index_key_of rank id

  -- a new record's first key found no block
  pub full_at_once : OfModel (Stands shape) (λ records. rank_in (finite.get records id) ≡ None) x
      → TellsAndChanges (HasTrees shape) (λ trees. put_answer (finite.get trees.ranks id) (is_used_up shape trees))
      (λ trees. record trees { ranks = put_by Full id rank trees.ranks }) Full x y → PutsRecord shape id rank content Full x y
  full_at_once absent t = record {
    answer = λ records stand.
        let told : Full ≡ put_answer None (is_used_up shape stand.trees) = t.told stand.trees stand.parts
        ∙ ap (λ o. put_answer o (is_used_up shape stand.trees)) (stand.held.ranks id ∙ absent records stand) in
        let all : finite.len stand.trees.ranks + finite.len stand.trees.index ≡ shape.blocks = eqb-true _ _ (full_answer _ told) in
        let n = as_many stand in
        let full : is_store_full shape.blocks records ≡ true = grind (arith, nat_tests, all, n.0, n.1) in
        sym (ap (λ o. put_answer o (is_store_full shape.blocks records)) (absent records stand) ∙ ap (put_answer None) full);
    left = tt;
  }

  -- its second key was put too, or found none
  module _ (ranked : IsRank rank) (absent : OfModel (Stands shape) (λ records. rank_in (finite.get records id) ≡ None) x) (first : Put)
      (had : first ≢ Full) where
    abbrev Both : Put → Type 0
    Both put = Turns (HasTrees shape) (λ trees last. (here : Trees)
        × ((first ≡ put_answer (finite.get trees.ranks id) (is_used_up shape trees)) × (here ≡ record trees { ranks = put_by first id rank trees.ranks }))
        × (put ≡ put_answer (finite.get here.index key) (is_used_up shape here))
        × (last ≡ record here { index = put_by put key content here.index })) x y

    module _ (records : Records) (stand : Stands shape x records) where
      nothing : finite.get records id ≡ None
      nothing = no_record (finite.get records id) (absent records stand)

      lt : id < RANK_STEP
      lt = id_below id is

      -- what the first put came to
      first_was : first ≡ put_answer (finite.get stand.trees.ranks id) (is_used_up shape stand.trees)
          → (first ≡ New) × (is_used_up shape stand.trees ≡ false)
      first_was told = new_answer first (is_used_up shape stand.trees) had
          (told ∙ ap (λ o. put_answer o (is_used_up shape stand.trees)) (stand.held.ranks id ∙ absent records stand))

      abbrev with_rank : Trees
      with_rank = record stand.trees { ranks = finite.insert stand.trees.ranks id rank }

      -- what the second answers
      second_answer : is_used_up shape stand.trees ≡ false → put_answer (finite.get with_rank.index key) (is_used_up shape with_rank)
          ≡ put_answer (rank_in (finite.get records id)) (is_store_full shape.blocks records)
      second_answer left =
          let n = as_many stand in
          let some : finite.len records + finite.len records < shape.blocks = grind (arith, nat_tests, left, n.0, n.1, at_most stand) in
          let longer : finite.len with_rank.ranks ≡ finite.len stand.trees.ranks + 1 =
          len_after_insert nat_cmp_total stand.trees.ranks id rank (stand.held.ranks id ∙ absent records stand) in
          ap (λ o. put_answer o (is_used_up shape with_rank)) (stand.held.index rank id lt ∙ ap (data_at_rank rank) nothing)
          ∙ ap (put_answer None) (last_block (finite.len with_rank.ranks + finite.len with_rank.index) (finite.len records) shape.blocks
          (omega (arith, longer, n.0, n.1)) some)
          ∙ sym (ap (λ o. put_answer o (is_store_full shape.blocks records)) (absent records stand))

      -- what is left
      new_held : HoldRecords (record { ranks = finite.insert stand.trees.ranks id rank; index = finite.insert stand.trees.index key content })
          (finite.insert records id (rank, content))
      new_held = placed_held stand.trees records stand.held id rank content lt (finite.insert stand.trees.ranks id rank) stand.trees.index
          (inserted_here stand.trees.ranks id rank) (λ q ne. inserted_there stand.trees.ranks id rank q ne) (λ r q below ne. refl)
          (λ r ne. stand.held.index r id lt ∙ ap (data_at_rank r) nothing)

    answers : (put : Put) → Both put → (records : Records) → Stands shape x records
        → put ≡ put_answer (rank_in (finite.get records id)) (is_store_full shape.blocks records)
    answers put t records stand =
        let k = t.at stand.trees stand.parts in
        let was = first_was records stand k.2.1.0 in
        let here : k.2.0 ≡ with_rank records stand = k.2.1.1 ∙ ap (λ p. record stand.trees { ranks = put_by p id rank stand.trees.ranks }) was.0 in
        k.2.2 ∙ ap (λ (h : Trees). put_answer (finite.get h.index key) (is_used_up shape h)) here ∙ second_answer records stand was.1

    new_stands : (put : Put) → Both put → ((entries : Entries) → put_by put key content entries ≡ finite.insert entries key content)
        → (records : Records) → Stands shape x records → Stands shape y (finite.insert records id (rank, content))
    new_stands put t inserts records stand =
        let k = t.at stand.trees stand.parts in
        let was = first_was records stand k.2.1.0 in
        let here : k.2.0 ≡ with_rank records stand = k.2.1.1 ∙ ap (λ p. record stand.trees { ranks = put_by p id rank stand.trees.ranks }) was.0 in
        let last : k.0 ≡ record { ranks = finite.insert stand.trees.ranks id rank; index = finite.insert stand.trees.index key content } =
        k.2.3 ∙ ap (λ (h : Trees). record h { index = put_by put key content h.index }) here
        ∙ ap (λ (e : Entries). record { ranks = finite.insert stand.trees.ranks id rank; index = e }) (inserts stand.trees.index) in
        record {
          trees = k.0;
          parts = k.1;
          held = rw last (new_held records stand);
          range = range_inserted records id rank content stand.range is ranked fits;
        }

    pub new_put : (put : Put) → Both put → PutsRecord shape id rank content put x y
    new_put New t = record { answer = answers New t; left = new_stands New t (λ entries. refl) }
    new_put (Old was) t = record { answer = answers (Old was) t; left = new_stands (Old was) t (λ entries. refl) }
    new_put Full t = record { answer = answers Full t; left = tt }

  -- a record that had a rank is answered with it
  old_answer : (records : Records) (was : ℕ) → rank_in (finite.get records id) ≡ Some was
      → Old was ≡ put_answer (rank_in (finite.get records id)) (is_store_full shape.blocks records)
  old_answer records was known = sym (ap (λ o. put_answer o (is_store_full shape.blocks records)) known)

  -- its data alone was written
  pub data_set : OfModel (Stands shape) (λ records. rank_in (finite.get records id) ≡ Some rank) x → (put : Put)
      → TellsAndChanges (HasTrees shape) (λ trees. put_answer (finite.get trees.index key) (is_used_up shape trees))
      (λ trees. record trees { index = put_by put key content trees.index }) put x y → PutsRecord shape id rank content (Old rank) x y
  data_set known put t = record {
    answer = λ records stand. old_answer records rank (known records stand);
    left = λ records stand.
        let lt : id < RANK_STEP = id_below id is in
        let some = some_record (finite.get records id) rank (known records stand) in
        let found : finite.get stand.trees.index key ≡ Some some.0 =
        stand.held.index rank id lt ∙ ap (data_at_rank rank) some.1 ∙ data_here rank some.0 in
        let old : put ≡ Old some.0 = t.told stand.trees stand.parts ∙ ap (λ o. put_answer o (is_used_up shape stand.trees)) found in
        let inserts : put_by put key content stand.trees.index ≡ finite.insert stand.trees.index key content =
        ap (λ p. put_by p key content stand.trees.index) old in
        record {
          trees = record stand.trees { index = put_by put key content stand.trees.index };
          parts = t.left stand.trees stand.parts;
          held = subst (λ (e : Entries). HoldRecords (record stand.trees { index = e }) (finite.insert records id (rank, content))) (sym inserts)
              (placed_held stand.trees records stand.held id rank content lt stand.trees.ranks stand.trees.index
              (stand.held.ranks id ∙ known records stand) (λ q ne. refl) (λ r q below ne. refl)
              (λ r ne. stand.held.index r id lt ∙ data_elsewhere (finite.get records id) rank r (known records stand) ne));
          range = range_inserted records id rank content stand.range is (stand.range id rank some.0 some.1).1 fits;
        };
  }

  -- its old key left the index, and its new one joined it
  module _ (ranked : IsRank rank) (was : ℕ) (other : was ≢ rank)
      (known : OfModel (Stands shape) (λ records. rank_in (finite.get records id) ≡ Some was) x) (first second : Put) (gone : Option ℕ) where
    abbrev Moves : Type 0
    Moves = Turns (HasTrees shape) (λ trees last. (there : Trees)
        × ((here : Trees)
        × ((first ≡ put_answer (finite.get trees.ranks id) (is_used_up shape trees)) × (here ≡ record trees { ranks = put_by first id rank trees.ranks }))
        × (gone ≡ finite.get here.index (index_key_of was id))
        × (there ≡ record here { index = finite.remove here.index (index_key_of was id) }))
        × (second ≡ put_answer (finite.get there.index key) (is_used_up shape there))
        × (last ≡ record there { index = put_by second key content there.index })) x y

    module _ (records : Records) (stand : Stands shape x records) where
      below : id < RANK_STEP
      below = id_below id is

      abbrev base : Entries
      base = finite.remove stand.trees.index (index_key_of was id)

      abbrev middle : Trees
      middle = record { ranks = finite.insert stand.trees.ranks id rank; index = base }

      -- the new key is in the index no more than any other of the record
      base_gone : (r : ℕ) → finite.get base (index_key_of r id) ≡ None
      base_gone r = dite (ℕ_discrete r was)
          (λ e. rw e (removed_here stand.trees.index (index_key_of was id)))
          (λ ne. removed_there stand.trees.index (index_key_of was id) (index_key_of r id) (λ e. ne (keys_differ r id was id below below e).0)
          ∙ stand.held.index r id below ∙ data_elsewhere (finite.get records id) was r (known records stand) ne)

      -- so the block that it had is left
      room : is_used_up shape middle ≡ false
      room =
          let n = as_many stand in
          let some = some_record (finite.get records id) was (known records stand) in
          let had : finite.get stand.trees.index (index_key_of was id) ≡ Some some.0 =
          stand.held.index was id below ∙ ap (data_at_rank was) some.1 ∙ data_here was some.0 in
          let kept : finite.len middle.ranks ≡ finite.len stand.trees.ranks = len_after_change nat_cmp_total stand.trees.ranks id rank
          (subst IsSome (sym (stand.held.ranks id ∙ known records stand)) refl) in
          ne_eqb (finite.len middle.ranks + finite.len middle.index) shape.blocks
          (λ e. absurd (omega (arith, e, kept, one_less stand.trees.index (index_key_of was id) some.0 had, at_most stand)))

      moved_held : HoldRecords (record { ranks = finite.insert stand.trees.ranks id rank; index = finite.insert base key content })
          (finite.insert records id (rank, content))
      moved_held = placed_held stand.trees records stand.held id rank content below (finite.insert stand.trees.ranks id rank) base
          (inserted_here stand.trees.ranks id rank) (λ q ne. inserted_there stand.trees.ranks id rank q ne)
          (λ r q lt ne. removed_there stand.trees.index (index_key_of was id) (index_key_of r q) (λ e. ne (keys_differ r q was id lt below e).1))
          (λ r ne. base_gone r)

    pub moved : Moves → PutsRecord shape id rank content (Old was) x y
    moved t = record {
      answer = λ records stand. old_answer records was (known records stand);
      left = λ records stand.
          let k = t.at stand.trees stand.parts in
          let old : first ≡ Old was = k.2.1.1.0
          ∙ ap (λ o. put_answer o (is_used_up shape stand.trees)) (stand.held.ranks id ∙ known records stand) in
          let there : k.2.0 ≡ middle records stand = k.2.1.3
          ∙ ap (λ (h : Trees). record h { index = finite.remove h.index (index_key_of was id) })
          (k.2.1.1.1 ∙ ap (λ p. record stand.trees { ranks = put_by p id rank stand.trees.ranks }) old) in
          let new : second ≡ New = k.2.2
          ∙ ap (λ (h : Trees). put_answer (finite.get h.index key) (is_used_up shape h)) there
          ∙ ap (λ o. put_answer o (is_used_up shape (middle records stand))) (base_gone records stand rank)
          ∙ ap (put_answer None) (room records stand) in
          let last : k.0 ≡ record { ranks = finite.insert stand.trees.ranks id rank; index = finite.insert (base records stand) key content } =
          k.2.3 ∙ ap (λ (h : Trees). record h { index = put_by second key content h.index }) there
          ∙ ap (λ p. record (middle records stand) { index = put_by p key content (base records stand) }) new in
          record {
            trees = k.0;
            parts = k.1;
            held = rw last (moved_held records stand);
            range = range_inserted records id rank content stand.range is ranked fits;
          };
    }
