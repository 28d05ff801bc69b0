-- What an insert into a map says of books, if the books say under which key they hold it.
use Rattle.txn_books.proofs.Common.{◌≡◌, ℕ, ◌<◌, Bool, true, false, not, ◌&&◌, ◌==◌, List, Option, Some, None, is_some, refl, sym, ap, ◌∙◌, subst, arith}
use Rattle.txn_books.proofs.Common.{nat_tests, ClearingBooks, used, is_full, KeepsOthers, OfModel, ChangesWithRoom, Put, New, Old, Full, Entries, Blocks, Part}
use Rattle.txn_books.proofs.Common.{HoldsApart, IsOwn, BooksShape, Stands, had_room}
use Rattle.txn_books.proofs.OneState.Parts.{Leaves, put_leaves}
use Rattle.txn_books.proofs.OneState.States.{has_room, no_room}
use Rattle.txn_books.proofs.OnBooks.Calls.{IsPut}
use Rattle.std.specs.FinMap as map

-- the answer of an insert, by whether the key was there and whether the books are full
room_new : (there : Bool) (n blocks : ℕ) → n < blocks → true ≡ not (not there && (n == blocks))
room_new there n blocks lt = at there (n == blocks) (grind (arith, nat_tests, lt))
  where
    at : (there full : Bool) → full ≡ false → true ≡ not (not there && full)
    at true full e = refl
    at false full e = ap not (sym e)

room_old : (o : Option ℕ) (was : ℕ) → o ≡ Some was → (full : Bool) → true ≡ not (not (is_some o) && full)
room_old o was e full = ap (λ (p : Option ℕ). not (not (is_some p) && full)) (sym e)

room_full : (o : Option ℕ) (n blocks : ℕ) → o ≡ None → n ≡ blocks → false ≡ not (not (is_some o) && (n == blocks))
room_full o n blocks none e =
    let test : (n == blocks) ≡ true = grind (arith, nat_tests, e) in
    ap not (sym test) ∙ ap (λ (p : Option ℕ). not (not (is_some p) && (n == blocks))) (sym none)

-- a map of the books, which says at the key what they say, and what they are with another value there
pub record PutsIn (shape : BooksShape) (part : Part) (key value : ℕ) (present : ClearingBooks → Option ℕ)
    (May : ClearingBooks → Type 0) (change : ClearingBooks → ClearingBooks) : Type 0 where
  pub entries : ClearingBooks → Entries
  pub blocks : (words : List ℕ) (books : ClearingBooks) → Stands shape words books → Blocks
  pub apart : (words : List ℕ) (books : ClearingBooks) (stand : Stands shape words books)
      → HoldsApart part words (entries books) (blocks words books stand) stand.parts.free
  pub at_key : (words : List ℕ) (books : ClearingBooks) → Stands shape words books → May books → map.get (entries books) key ≡ present books
  pub changed : (old new : List ℕ) (books : ClearingBooks) (stand : Stands shape old books) → May books
      → (present books ≡ None → used books < books.blocks)
      → Leaves part new (map.insert (entries books) key value) (blocks old books stand) stand.parts.free
      → KeepsOthers (IsOwn part key old new) old new → Stands shape new (change books)

-- an insert changes the books so, if they had room
pub put_in : {shape : BooksShape} {part : Part} {key value : ℕ} {present : ClearingBooks → Option ℕ} {May : ClearingBooks → Type 0}
    {change : ClearingBooks → ClearingBooks} → PutsIn shape part key value present May change
    → (put : Put) (old new : List ℕ) → OfModel (Stands shape) May old → IsPut part key value put old new
    → ChangesWithRoom (Stands shape) (λ books. not (is_some (present books)) && is_full books) change (had_room put) old new
put_in {shape} {part} {key} {value} {present} puts New old new may put = record {
  answer = λ books stand. room_new (is_some (present books)) (used books) books.blocks (room books stand);
  left = λ books stand. puts.changed old new books stand (may books stand) (λ none. room books stand)
      (put_leaves part old new _ _ _ (puts.apart old books stand) key value New refl put.inserts) put.keeps;
}
  where
    room : (books : ClearingBooks) → Stands shape old books → used books < books.blocks
    room books stand = let k = put.inserts _ _ _ (puts.apart old books stand) in has_room stand.parts stand.range k.block k.was_free
put_in {shape} {part} {key} {value} {present} puts (Old was) old new may put = record {
  answer = λ books stand. room_old (present books) was (there books stand) (is_full books);
  left = λ books stand. puts.changed old new books stand (may books stand) (λ none. let no : None ≡ Some was = sym none ∙ there books stand in absurd (cc))
      (put_leaves part old new _ _ _ (puts.apart old books stand) key value (Old was) refl put.inserts) put.keeps;
}
  where
    there : (books : ClearingBooks) → Stands shape old books → present books ≡ Some was
    there books stand = sym (puts.at_key old books stand (may books stand)) ∙ (put.inserts _ _ _ (puts.apart old books stand)).present
put_in {shape} {part} {key} {value} {present} puts Full old new may put = record {
  answer = λ books stand.
      let lacks = put.full refl _ _ _ (puts.apart old books stand) in
      room_full (present books) (used books) books.blocks (sym (puts.at_key old books stand (may books stand)) ∙ lacks.0)
      (no_room stand.parts stand.range lacks.1);
  left = λ books stand. subst (λ z. Stands shape z books) (sym put.inserts) stand;
}
