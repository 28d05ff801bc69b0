-- What several proofs of this crate import.
pub use Rattle.std.proofs.Common.{take, arith, ◌-◌, drop, length, ◌≡◌, ◌≤◌, ap, sym, ◌++◌, ◌+◌, ◌∙◌}
pub use Rattle.std.proofs.lemmas.Grind.{common_steps}
pub use Rattle.std.specs.Io.KnownBytes.{Appends, Consumes}
