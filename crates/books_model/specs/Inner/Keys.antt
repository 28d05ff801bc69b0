-- The order of positions, as the code's maps need it.
use Rattle.std.specs.Cmp.{IsTotalOrder, nat_cmp_total}
use Rattle.std.specs.FinMap.{IsAntisymmetric, nat_cmp-IsAntisymmetric}
use Rattle.std.proofs.lemmas.Cmp.{on_total, then_total}
use Rattle.std.proofs.lemmas.Map.Lookups.{exact_pairs}
use Rattle.std.specs.Ordering.{nat_cmp}
use Rattle.books_model.specs.Books.{position_cmp}

-- the order of positions is total
pub positions_total : IsTotalOrder position_cmp
positions_total = then_total (on_total (λ p. p.0) nat_cmp_total) (on_total (λ p. p.1) nat_cmp_total)

-- positions that compare alike are one
pub exact_positions : IsAntisymmetric position_cmp
exact_positions = exact_pairs nat_cmp nat_cmp nat_cmp-IsAntisymmetric nat_cmp-IsAntisymmetric
