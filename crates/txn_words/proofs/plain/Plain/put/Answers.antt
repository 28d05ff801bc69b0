use Rattle.txn_words.proofs.Common.{◌≡◌, ◌+◌, ◌<◌, ◌≤◌, ◌++◌, ◌∷◌, [], true, arith, length, slice_get, Some, ap, refl, ◌∙◌, slice_get_read, Read, Write, Trace}
use Rattle.std.proofs.Common.{append_assoc, is_ok, vec_len, vec_capacity}
use Rattle.txn_words.proofs.Listed.{follows_count, follows_write, grows, pushed, shape_of}
use Rattle.txn_words.proofs.plain.Plain.put.Given.{Over}
use Rattle.txn_words.proofs.plain.Plain.put.Goals as goal

pub index-old-requires : goal.index-old-requires
index-old-requires g c =
    let fields = c.self.inside in
    let count : length fields.words.items ≡ g.S.Shape.word_count fields.shape = follows_count _ _ _ _ _ _ c.self.invariant in
    let same : g.S.Shape.word_count fields.shape ≡ g.S.Shape.word_count c.args.self.now.shape = ap g.S.Shape.word_count (ap shape_of c.self.view_is) in
    omega (arith, count, same, c.requires.within, fields.words.ok.0)

pub index_mut-requires : goal.index_mut-requires
index_mut-requires g c =
    let fields = c.self.inside in
    let count : length fields.words.items ≡ g.S.Shape.word_count fields.shape = follows_count _ _ _ _ _ _ c.self.invariant in
    let same : g.S.Shape.word_count fields.shape ≡ g.S.Shape.word_count c.args.self.now.shape = ap g.S.Shape.word_count (ap shape_of c.self.view_is) in
    omega (arith, count, same, c.requires.within, fields.words.ok.0)

-- both events were pushed, since there was room
both_pushed : (g : Over) (c : goal.After-self-1 g)
    → c.push-2.new.self.items ≡ c.self.inside.trace.items ++ Read c.args.a c.index-old.result.now ∷ Write c.args.a c.args.v ∷ []
both_pushed g c =
    let room : vec_len c.reserve.new.self + 2 ≤ vec_capacity c.reserve.new.self = c.in_ok-reserve.ensures.ok in
    let first : is_ok c.push.result ≡ true = c.push.ensures.succeeds (omega (arith, room)) in
    let second : is_ok c.push-2.result ≡ true = c.push-2.ensures.succeeds (omega (arith, room, c.push.ensures.capacity, c.push.ensures.upper_bound)) in
    pushed _ _ _ _ c.push-2.ensures.items second
    ∙ ap (λ (t : Trace). t ++ Write c.args.a c.args.v ∷ []) (pushed _ _ _ _ c.push.ensures.items first
    ∙ ap (λ (t : Trace). t ++ Read c.args.a c.index-old.result.now ∷ []) c.in_ok-reserve.ensures.items)
    ∙ append_assoc c.self.inside.trace.items (Read c.args.a c.index-old.result.now ∷ []) (Write c.args.a c.args.v ∷ [])

pub invariant_of-self-2 : goal.invariant_of-self-2
invariant_of-self-2 g c =
    let fields = c.self.inside in
    let count : length fields.words.items ≡ g.S.Shape.word_count fields.shape = follows_count _ _ _ _ _ _ c.self.invariant in
    let same : g.S.Shape.word_count fields.shape ≡ g.S.Shape.word_count c.args.self.now.shape = ap g.S.Shape.word_count (ap shape_of c.self.view_is) in
    let within : c.args.a < length fields.words.items = omega (arith, count, same, c.requires.within) in
    let near : c.args.a < g.S.Shape.word_count fields.shape = omega (arith, count, within) in
    let old : slice_get fields.words.items c.args.a ≡ Some c.index-old.result.now =
    slice_get_read fields.words.items (length fields.words.items) _ _ refl within c.index-old.ensures in
    rw (both_pushed g c, c.in_ok-note.ensures.ok) (follows_write _ _ _ _ _ _ c.self.invariant c.args.a _ c.args.v near old)

pub returns-clause-ok : goal.returns-clause-ok
returns-clause-ok g c = (c.index-old.result.now, grows _ _ _ _ c.self.view_is (both_pushed g c))

pub returns-clause-fits : goal.returns-clause-fits
returns-clause-fits g c = (invariant_of-self-2 g c).fits
