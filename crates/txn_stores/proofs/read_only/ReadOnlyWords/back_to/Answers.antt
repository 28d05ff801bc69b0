use Rattle.txn_stores.proofs.Common.{◌≡◌, ℕ, arith, subst, count_writes}
use Rattle.txn_commit.proofs.Common.{GoneBack}
use Rattle.txn_words.proofs.GoingBack.{all_back, none_back}
use Rattle.txn_stores.proofs.read_only.ReadOnlyWords.back_to.Goals as goal

pub returns-clause-back : goal.returns-clause-back
returns-clause-back g c =
    let now = c.args.self.now in
    let n : ℕ = g.S.Shape.word_count now.shape in
    let none : count_writes now.trace ≡ c.args._m.writes = omega (arith, c.writes-none.ensures.none, c.writes-none.ensures.all, c.requires.mark) in
    all_back n (g.S.Shape.good now.shape) c.args._m.writes now.trace now.trace
    (subst (λ (i : ℕ). GoneBack n (g.S.Shape.good now.shape) i now.trace now.trace) none (none_back n (g.S.Shape.good now.shape) now.trace))
