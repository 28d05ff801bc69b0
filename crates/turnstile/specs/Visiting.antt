-- What one visitor did.
use Rattle.std.specs.Prelude.{◌≡◌}
use Rattle.txn.specs.Prelude.{DeskView, PassView}
use Rattle.turnstile.specs.declared.enter.Room.{Room}
use Rattle.turnstile.specs.declared.visitors.Visitor.{Visitor}

-- it made a call for each time that it was to try
abbrev pub HasTried : DeskView Room → Visitor → Visitor → PassView → PassView → Type 0
HasTried desk old new before pass = pass.view.call ≡ old.times
