use Rattle.books_report.proofs.Common.{◌≡◌, ◌⊎◌, inl, inr, ℕ, List, [], ◌∷◌, length, refl, arith, zip_first, zip_second, iter_rest, in_common}
use Rattle.books_report.proofs.Checks.InCommon.{feeds}
use Rattle.books_report.proofs.check.lines_in_common.Goals as goal

-- nothing is in common with nothing
ended : (wanted text : List ℕ) → (length wanted ≡ 0) ⊎ (length text ≡ 0) → feeds (in_common wanted text) ≡ 0
ended [] text end = refl
ended (b ∷ wanted) [] end = refl
ended (b ∷ wanted) (c ∷ text) (inl end) = absurd (omega (arith, end))
ended (b ∷ wanted) (c ∷ text) (inr end) = absurd (omega (arith, end))

pub returns : goal.returns
returns c = elim c.in-None.ensures.steps [
  | inl first ↦ omega (
    arith,
    c.loop-wanted.invariant.all,
    ended (iter_rest (zip_first c.loop-wanted.wanted-iterator))
        (iter_rest (zip_second c.loop-wanted.wanted-iterator)) (inl first.1.0),
  )
  | inr second ↦ omega (
    arith,
    c.loop-wanted.invariant.all,
    ended (iter_rest (zip_first c.loop-wanted.wanted-iterator))
        (iter_rest (zip_second c.loop-wanted.wanted-iterator)) (inr second.1.0),
  )
]
