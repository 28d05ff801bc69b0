-- What a call on the free lists keeps, said in wider words.
use Rattle.txn_alloc.proofs.Common.{ℕ, ◌⊎◌, inl, inr, List, Option, Some, None, sym, subst, arith, Trace, Leads, KeepsOthers, Arena, IsHead, IsInBlock}
use Rattle.txn_alloc.proofs.Common.{IsHeadOrFirst, IsWrittenByTake}
use Rattle.txn_alloc.specs.FreeLists.{IsHeadFor}
use Rattle.txn_alloc.proofs.FreeLists.Rounds.{is_head}

-- a is a head, or a word of block b
abbrev pub IsAnyHeadOrIn : Arena → ℕ → ℕ → Type 0
IsAnyHeadOrIn arena b a = IsHead arena a ⊎ IsInBlock arena b a

-- a call that keeps more keeps less
pub keeps_more : (IsOwn IsWider : ℕ → Type 0) (s t : List ℕ) → ((a : ℕ) → IsOwn a → IsWider a) → KeepsOthers IsOwn s t → KeepsOthers IsWider s t
keeps_more IsOwn IsWider s t wider k = record { count = k.count; same = λ a out. k.same a (λ o. out (wider a o)) }

pub head_is : (arena : Arena) (b a : ℕ) → IsHeadFor arena b a → IsHead arena a
head_is arena b a e = subst (IsHead arena) (sym e) (is_head arena b)

written_head : (arena : Arena) (o : Option ℕ) (a : ℕ) → IsWrittenByTake arena o a → IsHead arena a
written_head arena None a k = absurd k
written_head arena (Some b) a k = head_is arena b a k

given_in : (arena : Arena) (b a : ℕ) → IsHeadOrFirst arena b a → IsAnyHeadOrIn arena b a
given_in arena b a (inl e) = inl (head_is arena b a e)
given_in arena b a (inr e) = inr (omega arith)

pub take_keeps : (arena : Arena) (o : Option ℕ) (n : ℕ) (G : List ℕ → Type 0) (t u : Trace)
    → Leads n G t u (KeepsOthers (IsWrittenByTake arena o)) → Leads n G t u (KeepsOthers (IsHead arena))
take_keeps arena o n G t u k = record { at = λ s fit. keeps_more (IsWrittenByTake arena o) (IsHead arena) _ _ (written_head arena o) (k.at s fit) }

pub give_keeps : (arena : Arena) (b n : ℕ) (G : List ℕ → Type 0) (t u : Trace)
    → Leads n G t u (KeepsOthers (IsHeadOrFirst arena b)) → Leads n G t u (KeepsOthers (IsAnyHeadOrIn arena b))
give_keeps arena b n G t u k = record { at = λ s fit. keeps_more (IsHeadOrFirst arena b) (IsAnyHeadOrIn arena b) _ _ (given_in arena b) (k.at s fit) }
