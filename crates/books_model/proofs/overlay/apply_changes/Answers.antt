use Rattle.books_model.proofs.Common.{ap, subst, sym, ◌∙◌, keys_of, IsStrictlySortedBy, sorted_tail, Change, HasRoomFor, changed, set_at}
use Rattle.books_model.proofs.Maps.Changes.{HasRoomFor-further, changed-first, change_at_first}
use Rattle.std.specs.FinMap as map
use Rattle.books_model.proofs.overlay.apply_changes.Goals as goal

pub set_value-requires : goal.set_value-requires
set_value-requires g c =
    let was = map.from_entries {R = g.K.Ord.cmp} c.loop-key.values.entries in
    let e : g.row.K.Denot × Change = (c.in-Some.key.now, c.in-Some.change.now) in
    let room = subst (HasRoomFor was) {x = c.loop-key.key-iterator} c.in-Some.ensures.steps c.loop-key.invariant.room in
    room c.in-Some.key.now c.in-Some.change.now (change_at_first g.met.K.Ord.total e c.next.new.self)

pub loop-key-preserved : goal.loop-key-preserved
loop-key-preserved g c =
    let R = g.K.Ord.cmp in
    let total = g.met.K.Ord.total in
    let exact = g.met.K.Key.exact in
    let was = map.from_entries {R = R} c.loop-key.values.entries in
    let e : g.row.K.Denot × Change = (c.in-Some.key.now, c.in-Some.change.now) in
    let rest = c.next.new.self in
    let step = c.in-Some.ensures.steps in
    let ordered = subst (λ es. IsStrictlySortedBy R (keys_of es)) {x = c.loop-key.key-iterator} step c.loop-key.invariant.ordered in
    let room = subst (HasRoomFor was) {x = c.loop-key.key-iterator} step c.loop-key.invariant.room in
    let put = c.set_value.ensures in
    record {
      ordered = sorted_tail R c.in-Some.key.now (keys_of rest) ordered;
      room = subst (λ m. HasRoomFor m rest) {x = set_at was e.0 e.1.now} (sym {b = set_at was e.0 e.1.now} put)
          (HasRoomFor-further total exact was e rest ordered room);
      rest = ap (λ m. changed m rest) {y = set_at was e.0 e.1.now} put ∙ changed-first total exact was e rest ordered
          ∙ ap (changed was) (sym step) ∙ c.loop-key.invariant.rest;
    }
