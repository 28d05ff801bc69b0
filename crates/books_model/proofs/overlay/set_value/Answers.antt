use Rattle.books_model.proofs.Common.{◌≡◌, ℕ, None, IsSome, ap, subst, sym, refl, ◌∙◌, set_at}
use Rattle.books_model.proofs.Maps.Trees.{get-lookup, from_entries-inserted, from_entries-removed}
use Rattle.std.specs.FinMap as map
use Rattle.books_model.proofs.overlay.set_value.Goals as goal

pub unreachable-requires : goal.unreachable-requires
unreachable-requires g c =
    let was = map.from_entries {R = g.K.Ord.cmp} c.args.values.now.entries in
    let there : IsSome (map.get was c.args.key) = c.requires (subst IsSome (sym c.in-Some.is) refl) in
    let none : map.get was c.args.key ≡ None = get-lookup g.met.K.Ord.total c.args.values.now.entries c.args.key ∙ c.in_default.ensures.absent in
    let found : IsSome {T = ℕ} None = subst IsSome none there in
    cc

pub returns-in-Ok : goal.returns-in-Ok
returns-in-Ok g c =
    from_entries-inserted g.met.K.Ord.total g.met.K.Key.exact c.args.values.now.entries c.insert.new.self.entries
    c.args.key c.in-Some.value c.in-Ok.ensures.updates.0
    ∙ ap (set_at (map.from_entries {R = g.K.Ord.cmp} c.args.values.now.entries) c.args.key) (sym c.in-Some.is)

pub returns-in-None : goal.returns-in-None
returns-in-None g c =
    from_entries-removed g.met.K.Ord.total g.met.K.Key.exact c.args.values.now.entries c.remove.new.self.entries c.args.key c.remove.ensures.updates.0
    ∙ ap (set_at (map.from_entries {R = g.K.Ord.cmp} c.args.values.now.entries) c.args.key) (sym c.in-None.is)
