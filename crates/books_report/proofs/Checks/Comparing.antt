-- Lines of one text, and what stands behind them.
use Rattle.books_report.proofs.Common.{◌≡◌, ℕ, List, [], ◌∷◌, ◌++◌, refl, sym, ◌∙◌, append_assoc, AllByRecursion, concat}
use Rattle.books_report.proofs.Outputs.Rows.{IsRow, row_once}

-- how two lists of lines compare with which one text begins: they are the same, or one goes on behind the other
pub data Compared (ls ms : List (List ℕ)) (x y : List ℕ) : Type 0 where
  AreSame : ls ≡ ms → x ≡ y → Compared ls ms x y
  IsShorter : (b : List ℕ) (more : List (List ℕ)) → ms ≡ ls ++ b ∷ more → x ≡ concat (b ∷ more) ++ y → Compared ls ms x y
  IsLonger : (a : List ℕ) (more : List (List ℕ)) → ls ≡ ms ++ a ∷ more → y ≡ concat (a ∷ more) ++ x → Compared ls ms x y

pub compared : (ls ms : List (List ℕ)) {x y : List ℕ} → AllByRecursion IsRow ls → AllByRecursion IsRow ms → concat ls ++ x ≡ concat ms ++ y → Compared ls ms x y
compared [] [] p q e = AreSame refl e
compared [] (b ∷ ms) p q e = IsShorter b ms refl e
compared (a ∷ ls) [] p q e = IsLonger a ls refl (sym e)
compared (a ∷ ls) (b ∷ ms) {x} {y} p q e =
    let same = row_once (concat ls ++ x) (concat ms ++ y) p.0 q.0 (sym (append_assoc a (concat ls) x) ∙ e ∙ append_assoc b (concat ms) y) in
    by same.0 (compared ls ms p.1 q.1 same.1)
  where
    by : a ≡ b → Compared ls ms x y → Compared (a ∷ ls) (b ∷ ms) x y
    by first (AreSame lines left) = AreSame (λ i. first i ∷ lines i) left
    by first (IsShorter c more lines left) = IsShorter c more (λ i. sym first i ∷ lines i) left
    by first (IsLonger c more lines left) = IsLonger c more (λ i. first i ∷ lines i) left
