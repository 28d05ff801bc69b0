-- What several proofs of this crate import.
pub use Rattle.std.proofs.Common.{arith, ◌<◌, ◌≡◌}
