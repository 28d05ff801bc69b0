use Rattle.books_report.proofs.Common.{◌≡◌, ◌≢◌, ℕ, Bor, Option, Some, None, List, ◌++◌, IfSome, IfNone, Decides-eqb}
use Rattle.std.specs.Option.{MatchOption}
use Rattle.std.proofs.lemmas.Slice.Eq.{strip_prefix_is}
use Rattle.books_report.proofs.check.text_behind.Goals as goal

pub returns : goal.returns
returns c =
    let found = strip_prefix_is Decides-eqb c.args.text.now c.args.front.now c.strip_prefix.result c.strip_prefix.ensures.cases in
    record {
      begins = begins c.strip_prefix.result found;
      none = none c.strip_prefix.result found;
    }
  where
    begins : (r : Option (Bor (List ℕ))) → MatchOption r ((rest : List ℕ) → c.args.text.now ≢ c.args.front.now ++ rest)
        (λ x. c.args.text.now ≡ c.args.front.now ++ x.now) → IfSome r (λ left. c.args.text.now ≡ c.args.front.now ++ left.now)
    begins None h = tt
    begins (Some left) h = h

    none : (r : Option (Bor (List ℕ))) → MatchOption r ((rest : List ℕ) → c.args.text.now ≢ c.args.front.now ++ rest)
        (λ x. c.args.text.now ≡ c.args.front.now ++ x.now) → IfNone r ((left : List ℕ) → c.args.text.now ≢ c.args.front.now ++ left)
    none None h = h
    none (Some left) h = tt
