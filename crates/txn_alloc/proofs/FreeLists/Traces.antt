-- What holds in every fitting state at once, as blocks are taken and given back.
use Rattle.txn_alloc.proofs.Common.{◌≡◌, ◌≢◌, ℕ, ◌+◌, ◌<◌, ◌≤◌, List, [], ◌∷◌, ◌++◌, length, slice_get, slice_set, Option, Some, None, sym, ap, ◌∙◌, subst}
use Rattle.txn_alloc.proofs.Common.{arith, true≢false, Read, Trace, after, Fits, SomeFits, InEach, Leads, read_there, after_read, fits_front, EndsWithWrite}
use Rattle.txn_alloc.proofs.Common.{after_write_end, fits_write_end, Arena, block_at, head_of, IsLaidOut, IsInOrder, FreeListsHold, HasNone, Lacks, TakesBlock}
use Rattle.txn_alloc.proofs.Common.{Takes, Gives}
use Rattle.txn_words.proofs.Common.{length-after}
use Rattle.std.proofs.Common.{◌^◌}
use Rattle.txn_alloc.proofs.Sets.{out_both, out_less, out_itself, out_empty}
use Rattle.txn_alloc.proofs.FreeLists.Lists.{one_set, head_in, block_in, gave}
use Rattle.std.specs.FinSet as set

-- where an arena lies among n words
pub record Lies (arena : Arena) (n : ℕ) : Type 0 where
  pub head : (number : ℕ) → head_of arena number < n
  pub block : (b : ℕ) → b < arena.blocks → block_at arena b < n
  pub small : n ≤ 2 ^ 64

-- a block of an arena that is laid out so in every state
pub laid_block : (arena : Arena) (n : ℕ) (G : List ℕ → Type 0) (t : Trace) → SomeFits n G t → (b : ℕ)
    → InEach n G t (IsLaidOut arena) → b < arena.blocks → (block_at arena b + 4 ≤ n) × (n ≤ 2 ^ 64)
laid_block arena n G t some b laid lt =
    let s : List ℕ = after t some.0 in
    let l : IsLaidOut arena s = laid.at some.0 some.1 in
    let long : length s ≡ n = length-after t some.0 ∙ some.1.count in
    (omega (arith, l.blocks b lt), omega (arith, l.places))

module _ (arena : Arena) (n : ℕ) (G : List ℕ → Type 0) (t : Trace) where
  pub lies : InEach n G t (IsInOrder arena) → SomeFits n G t → Lies arena n
  lies order some =
      let s : List ℕ = after t some.0 in
      let l : IsLaidOut arena s = ((order.at some.0 some.1).1).laid_out in
      let long : length s ≡ n = length-after t some.0 ∙ some.1.count in
      record {
        head = λ number. omega (arith, head_in number l);
        block = λ b lt. omega (arith, block_in arena s b l lt);
        small = omega (arith, l.places);
      }

  -- a block was given back
  pub gives_back : (u v w : Trace) (b h p q x : ℕ) → p ≡ head_of arena b → u ≡ t ++ Read p h ∷ [] → q ≡ block_at arena b
      → EndsWithWrite u v q h → x ≡ b + 1 → EndsWithWrite v w p x
      → b < arena.blocks → InEach n G t (Lacks arena b) → Leads n G t w (Gives arena b)
  gives_back u v w b h p q x is_p read is_q ends1 is_x ends2 lt lacks = record {
    at = λ s fit f hold.
        let fit_v : Fits n G v s = fits_write_end n G v w p x s ends2 fit in
        let fit_u : Fits n G u s = fits_write_end n G u v q h s ends1 fit_v in
        let whole : Fits n G (t ++ Read p h ∷ []) s = subst (λ z. Fits n G z s) read fit_u in
        let fit_t : Fits n G t s = fits_front n G t (Read p h ∷ []) s whole in
        let same_u : after u s ≡ after t s = ap (λ z. after z s) read ∙ after_read t s p h in
        let there : slice_get (after t s) (head_of arena b) ≡ Some h = ap (slice_get (after t s)) (sym is_p) ∙ read_there t s p h whole.legal in
        let first : after v s ≡ slice_set (after t s) (block_at arena b) h = after_write_end u v q h s ends1
        ∙ ap (λ z. slice_set z q h) same_u ∙ ap (λ k. slice_set (after t s) k h) is_q in
        let last : after w s ≡ slice_set (slice_set (after t s) (block_at arena b) h) (head_of arena b) (b + 1) =
        after_write_end v w p x s ends2 ∙ ap (λ z. slice_set z p x) first ∙ ap (λ k. slice_set (slice_set (after t s) (block_at arena b) h) k x) is_p
        ∙ ap (slice_set (slice_set (after t s) (block_at arena b) h) (head_of arena b)) is_x in
        subst (λ z. FreeListsHold arena z (set.insert f b)) (sym last) (gave arena (after t s) f b h there lt (lacks.at s fit_t f hold) hold);
  }

  -- if a block was taken, not every state had none
  pub taken_from_some : {A : Type 0} {w : Trace} (b : ℕ) → SomeFits n G w → Leads n G t w (Takes arena (Some b))
      → Leads n G t w (λ before after. HasNone arena before) → A
  taken_from_some {w} b some takes none =
      let k : TakesBlock arena b (after t some.0) (after w some.0) set.empty = takes.at some.0 some.1 set.empty (none.at some.0 some.1) in
      absurd (true≢false (sym k.was_free ∙ out_empty b))

-- what each call leaves
pub order_taken : (arena : Arena) (o : Option ℕ) (x y : List ℕ) → IsInOrder arena x → Takes arena o x y → IsInOrder arena y
order_taken arena None x y i e = subst (IsInOrder arena) (sym e) i
order_taken arena (Some b) x y i takes = (set.remove i.0 b, (takes i.0 i.1).left)

pub order_given : (arena : Arena) (b : ℕ) (x y : List ℕ) → IsInOrder arena x → Gives arena b x y → IsInOrder arena y
order_given arena b x y i gives = (set.insert i.0 b, gives i.0 i.1)

-- a block that was taken is in no list
pub lacks_itself : (arena : Arena) (b : ℕ) (x y : List ℕ) → IsInOrder arena x → Takes arena (Some b) x y → Lacks arena b y
lacks_itself arena b x y i takes f hold =
    ap (λ z. set.contains z b) (one_set arena y f (set.remove i.0 b) hold (takes i.0 i.1).left) ∙ out_itself i.0 b

-- one that was in no list is in none after another came or went
pub lacks_taken : (arena : Arena) (o : Option ℕ) (c : ℕ) (x y : List ℕ) → IsInOrder arena x → Takes arena o x y → Lacks arena c x → Lacks arena c y
lacks_taken arena None c x y i e lacks f hold = lacks f (subst (λ z. FreeListsHold arena z f) e hold)
lacks_taken arena (Some b) c x y i takes lacks f hold =
    ap (λ z. set.contains z c) (one_set arena y f (set.remove i.0 b) hold (takes i.0 i.1).left) ∙ out_less i.0 b c (lacks i.0 i.1)

pub lacks_given : (arena : Arena) (b c : ℕ) (x y : List ℕ) → IsInOrder arena x → Gives arena b x y → c ≢ b → Lacks arena c x → Lacks arena c y
lacks_given arena b c x y i gives ne lacks f hold =
    ap (λ z. set.contains z c) (one_set arena y f (set.insert i.0 b) hold (gives i.0 i.1)) ∙ out_both i.0 b c ne (lacks i.0 i.1)
