-- Going round the lists: how far that of a block is from that of a number.
use Rattle.txn_alloc.proofs.Common.{◌≡◌, ℕ, ◌+◌, ◌%◌, ◌<◌, ap, ◌∙◌, arith, Arena, HEADS, IsHead, IsHeadTo, head_of, steps_to}

pub list_lt : (n : ℕ) → n % HEADS < HEADS
list_lt n = omega arith

pub is_head : (arena : Arena) (n : ℕ) → IsHead arena (head_of arena n)
is_head arena n = let lt : n % 16 < 16 = omega arith in record { low = omega arith; high = omega arith }

-- numbers of one list have one head
pub same_head : (arena : Arena) (m n : ℕ) → m % HEADS ≡ n % HEADS → head_of arena m ≡ head_of arena n
same_head arena m n e = ap (λ k. arena.heads + k) e

pub from_own : (near i : ℕ) → (near % HEADS + i) % HEADS ≡ (near + i) % HEADS
from_own near i = omega arith

pub steps_are : (near b i : ℕ) → i < HEADS → b % HEADS ≡ (near + i) % HEADS → steps_to near b ≡ i
steps_are near b i lt e = omega arith

-- going round, each list is come to
pub round_at : (near h : ℕ) → h < HEADS → (i : ℕ) × (i < HEADS) × ((near + i) % HEADS ≡ h)
round_at near h lt = (steps_to near h, omega arith, omega arith)

-- the head of a block's own list
pub own_head : (arena : Arena) (b n a : ℕ) → n ≡ b → a ≡ head_of arena n → a ≡ head_of arena b
own_head arena b n a is_b is_head = is_head ∙ ap (head_of arena) is_b

-- is the last of those round to it
pub last_head : (arena : Arena) (near b a : ℕ) → a ≡ head_of arena b → IsHeadTo arena near b a
last_head arena near b a e =
    let round : b % 16 ≡ (near + steps_to near b) % 16 = omega arith in
    (steps_to near b, omega arith, e ∙ same_head arena b (near + steps_to near b) round)
