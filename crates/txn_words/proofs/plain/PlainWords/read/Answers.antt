use Rattle.txn_words.proofs.Common.{◌≡◌, ◌<◌, arith, length, Some, slice_get, ap, refl, sym, ◌∙◌, slice_get_read}
use Rattle.txn_words.proofs.Listed.{follows_count, follows_read, shape_of, stop_of}
use Rattle.txn_words.proofs.plain.PlainWords.read.Goals as goal

pub index-v-requires : goal.index-v-requires
index-v-requires g c =
    let fields = c.self.inside in
    let count : length fields.words.items ≡ g.S.Shape.word_count fields.shape = follows_count _ _ _ _ _ _ c.self.invariant in
    let same : g.S.Shape.word_count fields.shape ≡ g.S.Shape.word_count c.args.self.now.shape = ap g.S.Shape.word_count (ap shape_of c.self.view_is) in
    omega (arith, count, same, c.requires.within, fields.words.ok.0)

pub invariant_of-self : goal.invariant_of-self
invariant_of-self g c =
    let fields = c.self.inside in
    let count : length fields.words.items ≡ g.S.Shape.word_count fields.shape = follows_count _ _ _ _ _ _ c.self.invariant in
    let same : g.S.Shape.word_count fields.shape ≡ g.S.Shape.word_count c.args.self.now.shape = ap g.S.Shape.word_count (ap shape_of c.self.view_is) in
    let within : c.args.a < length fields.words.items = omega (arith, count, same, c.requires.within) in
    let found : slice_get fields.words.items c.args.a ≡ Some c.index-v.result.now =
    slice_get_read fields.words.items (length fields.words.items) _ _ refl within c.index-v.ensures in
    rw c.in-Ok.ensures.items (follows_read _ _ _ _ _ _ c.self.invariant c.args.a _ found)

pub returns-in-Ok-clause-sound : goal.returns-in-Ok-clause-sound
returns-in-Ok-clause-sound g c = record { fits = (invariant_of-self g c).fits; no_yield = λ e. c.requires.sound.no_yield (sym (ap stop_of c.self.view_is) ∙ e) }
