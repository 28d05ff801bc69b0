use Rattle.books_model.proofs.Common.{subst, sym, ◌∙◌, keys_of, IsStrictlySortedBy, sorted_tail, Change}
use Rattle.books_model.proofs.Maps.Trees.{from_entries-inserted}
use Rattle.books_model.proofs.Maps.Changes.{IsMaking, making-new, making-old}
use Rattle.std.specs.FinMap as map
use Rattle.books_model.proofs.overlay.make_room.Goals as goal

pub loop-key-preserved-in_ok-insert : goal.loop-key-preserved-in_ok-insert
loop-key-preserved-in_ok-insert g c =
    let R = g.K.Ord.cmp in
    let total = g.met.K.Ord.total in
    let exact = g.met.K.Key.exact in
    let before = map.from_entries {R = R} c.args.values.now.entries in
    let now = map.from_entries {R = R} c.loop-key.values.entries in
    let e : g.row.K.Denot × Change = (c.in-Some.key.now, c.in-Some.change.now) in
    let rest = c.next.new.self in
    let ordered = subst (λ es. IsStrictlySortedBy R (keys_of es)) c.in-Some.ensures.steps c.loop-key.invariant.ordered in
    let making = subst (IsMaking before c.args.changes.now.entries now) c.in-Some.ensures.steps c.loop-key.invariant.making in
    let inserted = from_entries-inserted total exact c.loop-key.values.entries c.insert.new.self.entries
    c.in-Some.key.now c.in-Some-new_value.value c.in_ok-insert.ensures.updates.0 in
    record {
      ordered = sorted_tail R c.in-Some.key.now (keys_of rest) ordered;
      making = subst (λ m. IsMaking before c.args.changes.now.entries m rest) (sym inserted)
          (making-new total exact before c.args.changes.now.entries c.requires now e rest c.in-Some-new_value.value
          ordered making (sym c.new_value.ensures ∙ c.in-Some-new_value.is));
    }

pub loop-key-preserved : goal.loop-key-preserved
loop-key-preserved g c =
    let R = g.K.Ord.cmp in
    let before = map.from_entries {R = R} c.args.values.now.entries in
    let now = map.from_entries {R = R} c.loop-key.values.entries in
    let e : g.row.K.Denot × Change = (c.in-Some.key.now, c.in-Some.change.now) in
    let rest = c.next.new.self in
    let ordered = subst (λ es. IsStrictlySortedBy R (keys_of es)) c.in-Some.ensures.steps c.loop-key.invariant.ordered in
    let making = subst (IsMaking before c.args.changes.now.entries now) c.in-Some.ensures.steps c.loop-key.invariant.making in
    let none = sym c.new_value.ensures ∙ c.in_default.is in
    record {
      ordered = sorted_tail R c.in-Some.key.now (keys_of rest) ordered;
      making = making-old g.met.K.Ord.total g.met.K.Key.exact before c.args.changes.now.entries c.requires now e rest ordered making none;
    }
