-- What one call on words in a plain list leaves of books that the words stood for.
use Rattle.txn_books.proofs.Common.{◌≡◌, ℕ, ◌<◌, ◌≤◌, Bool, true, false, not, ◌==◌, if◌then◌else◌, List, [], ◌++◌, length, take, drop, None, sym, ap, ◌∙◌}
use Rattle.txn_books.proofs.Common.{subst, arith, nat_tests, Fits, IsGood, length-after, ClearingBooks, put_quantity, put_position, BooksShape, words_of}
use Rattle.txn_books.proofs.Common.{Stands, IsGoodFor, ChangesWithRoom, IsBuilt}
use Rattle.std.proofs.Math.Seq.{take-append_seam}
use Rattle.history_model.specs.Traces.{after}
use Rattle.txn_words.specs.Plainly.{PlainView, IsSoundPlain}
use Rattle.txn_books.proofs.OneState.Whole.{one_books}
use Rattle.std.specs.FinMap as entry_map

-- words that stand for books are good
pub built_good : (shape : BooksShape) (words : List ℕ) (books : ClearingBooks) → IsBuilt shape words books → IsGood (words_of shape) (IsGoodFor shape) words
built_good shape words books built = record { count = built.count; good = (books, built.stands) }

-- a call on a list that nothing was done to yet leads from the list to what is left of it
pub led : (R : List ℕ → List ℕ → Type 0) (shape : BooksShape) (words : List ℕ) (v w : PlainView BooksShape)
    → v ≡ record { shape = shape; origin = words; trace = []; stop = None }
    → w.shape ≡ v.shape → w.origin ≡ v.origin → IsSoundPlain (words_of w.shape) (IsGoodFor w.shape) w
    → ((s : List ℕ) → Fits (words_of v.shape) (IsGoodFor v.shape) w.trace s → R (after v.trace s) (after w.trace s))
    → R words (after w.trace w.origin)
unfolding after
led R shape words v w view shapes origins sound leads =
    let fits : Fits (words_of v.shape) (IsGoodFor v.shape) w.trace w.origin = subst (λ z. Fits (words_of z) (IsGoodFor z) w.trace w.origin) shapes sound.fits in
    let first : after v.trace w.origin ≡ words = ap (λ (z : PlainView BooksShape). after z.trace w.origin) view
    ∙ origins ∙ ap (λ (z : PlainView BooksShape). z.origin) view in
    subst (λ z. R z (after w.trace w.origin)) first (leads w.origin fits)

-- before it what holds of all good words holds in each state
pub fresh : (P : List ℕ → Type 0) (shape : BooksShape) (words : List ℕ) (v : PlainView BooksShape)
    → v ≡ record { shape = shape; origin = words; trace = []; stop = None } → ((x : List ℕ) → IsGoodFor shape x → P x)
    → (s : List ℕ) → Fits (words_of v.shape) (IsGoodFor v.shape) v.trace s → P (after v.trace s)
unfolding after
fresh P shape words v view step s fit =
    let first : after v.trace s ≡ s = ap (λ (z : PlainView BooksShape). after z.trace s) view in
    subst P (sym first) (step s (subst (λ z. IsGoodFor z s) (ap (λ (z : PlainView BooksShape). z.shape) view) fit.good))

-- as many words are left
pub as_many : (shape : BooksShape) (words : List ℕ) (v w : PlainView BooksShape)
    → v ≡ record { shape = shape; origin = words; trace = []; stop = None } → w.origin ≡ v.origin
    → length (after w.trace w.origin) ≡ length words
as_many shape words v w view origins = length-after w.trace w.origin ∙ ap length origins ∙ ap (λ (z : PlainView BooksShape). length z.origin) view

-- what is left of words that were all written
pub all_written : (n : ℕ) (new old : List ℕ) → n ≡ length new → take n (new ++ drop (length new) old) ≡ new
all_written n new old long = ap (λ m. take m (new ++ drop (length new) old)) long ∙ take-append_seam new _

-- what is built of the one books that the words stand for is built of any
pub built_of : (shape : BooksShape) (words left : List ℕ) (change : ClearingBooks
    → ClearingBooks) (books : ClearingBooks) → IsBuilt shape words books → length left ≡ length words → Stands shape left (change books)
    → (others : ClearingBooks) → IsBuilt shape words others → IsBuilt shape left (change others)
built_of shape words left change books built long stands others theirs = record {
  count = long ∙ built.count;
  stands = subst (λ b. Stands shape left (change b)) (one_books shape words books others built.stands theirs.stands) stands;
}

-- a change that finds room
pub roomy : (shape : BooksShape) (lacks : ClearingBooks → Bool) (change : ClearingBooks → ClearingBooks) (had : Bool)
    (x y : List ℕ) → ChangesWithRoom (Stands shape) lacks change had x y
    → (books : ClearingBooks) → Stands shape x books → lacks books ≡ false → Stands shape y (change books)
roomy shape lacks change had x y changes books stand room =
    let is : had ≡ true = changes.answer books stand ∙ ap not room in
    subst (λ b. Stands shape y (if b then change books else books)) is (changes.left books stand)

pub call_room : (books : ClearingBooks) → length books.calls < books.ring → (length books.calls == books.ring) ≡ false
call_room books lt = grind (arith, nat_tests, lt)

-- a quantity that is put in is not 0
pub quantity_is : (books : ClearingBooks) (a i quantity : ℕ) → 1 ≤ quantity → put_position books a i quantity ≡ put_quantity books a i quantity
quantity_is books a i quantity some =
    let is : (quantity == 0) ≡ false = grind (arith, nat_tests, some) in
    ap (λ t. record books { positions = (if t then entry_map.remove books.positions (a, i) else entry_map.insert books.positions (a, i) quantity) }) is
