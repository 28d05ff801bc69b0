use Rattle.books_model.proofs.Common.{not, ap, subst, sym, ◌∙◌, keys_of, IsStrictlySortedBy, sorted_tail, KnowBefore, IsRoomier, Change}
use Rattle.books_model.proofs.Maps.Trees.{from_entries-removed}
use Rattle.books_model.proofs.Maps.Changes.{KnowBefore-further, change_at_first, roomier-taken, roomier-left, roomier-none}
use Rattle.std.specs.FinMap as map
use Rattle.books_model.proofs.overlay.take_back.Goals as goal

pub loop-key-preserved-then-is_none : goal.loop-key-preserved-then-is_none
loop-key-preserved-then-is_none g c =
    let R = g.K.Ord.cmp in
    let total = g.met.K.Ord.total in
    let exact = g.met.K.Key.exact in
    let now = map.from_entries {R = R} c.loop-key.values.entries in
    let e : g.row.K.Denot × Change = (c.in-Some.key.now, c.in-Some.change.now) in
    let rest = c.next.new.self in
    let step = c.in-Some.ensures.steps in
    let ordered = subst (λ es. IsStrictlySortedBy R (keys_of es)) step c.loop-key.invariant.ordered in
    let taken = from_entries-removed total exact c.loop-key.values.entries c.remove.new.self.entries c.in-Some.key.now c.remove.ensures.updates.0 in
    record {
      ordered = sorted_tail R c.in-Some.key.now (keys_of rest) ordered;
      left = λ before known room.
          let left = c.loop-key.invariant.left before known room in
          let known_here = subst (KnowBefore before) step left.0 in
          let room_here = subst (λ es. IsRoomier es before now) step left.1 in (
            KnowBefore-further total before e rest ordered known_here,
            subst (IsRoomier rest before) (sym taken)
                (roomier-taken total exact before now e rest (known_here c.in-Some.key.now c.in-Some.change.now
                (change_at_first total e rest)) room_here (c.is_none.ensures ∙ ap not c.if-is_none.true)),
          );
    }

pub loop-key-preserved : goal.loop-key-preserved
loop-key-preserved g c =
    let R = g.K.Ord.cmp in
    let total = g.met.K.Ord.total in
    let exact = g.met.K.Key.exact in
    let now = map.from_entries {R = R} c.loop-key.values.entries in
    let e : g.row.K.Denot × Change = (c.in-Some.key.now, c.in-Some.change.now) in
    let rest = c.next.new.self in
    let step = c.in-Some.ensures.steps in
    let ordered = subst (λ es. IsStrictlySortedBy R (keys_of es)) step c.loop-key.invariant.ordered in
    record {
      ordered = sorted_tail R c.in-Some.key.now (keys_of rest) ordered;
      left = λ before known room.
          let left = c.loop-key.invariant.left before known room in
          let known_here = subst (KnowBefore before) step left.0 in
          let room_here = subst (λ es. IsRoomier es before now) step left.1 in (
            KnowBefore-further total before e rest ordered known_here,
            roomier-left total exact before now e rest (known_here c.in-Some.key.now c.in-Some.change.now
                (change_at_first total e rest)) room_here (c.is_none.ensures ∙ ap not c.if-is_none.false),
          );
    }

pub returns : goal.returns
returns g c = λ before known room.
    let R = g.K.Ord.cmp in
    let now = map.from_entries {R = R} c.loop-key.values.entries in
    let left = c.loop-key.invariant.left before known room in
    roomier-none g.met.K.Ord.total g.met.K.Key.exact before now (subst (λ es. IsRoomier es before now) c.in-None.ensures.steps.0 left.1)
