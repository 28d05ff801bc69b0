use Rattle.txn_stores.proofs.Common.{◌≡◌, ◌<◌, arith, length, ap, sym, ◌∙◌, slice_get-get_or}
use Rattle.txn_words.proofs.Listed.{follows_count, follows_read, shape_of, stop_of}
use Rattle.txn_stores.proofs.read_only.ReadOnlyWords.read.Goals as goal

pub invariant_of-self : goal.invariant_of-self
invariant_of-self g c =
    let fields = c.self.inside in
    let count : length fields.words.now ≡ g.S.Shape.word_count fields.shape = follows_count _ _ _ _ _ _ c.self.invariant in
    let same : g.S.Shape.word_count fields.shape ≡ g.S.Shape.word_count c.args.self.now.shape = ap g.S.Shape.word_count (ap shape_of c.self.view_is) in
    let within : c.args.a < length fields.words.now = omega (arith, count, same, c.requires.within) in
    rw c.and.ensures (follows_read _ _ _ _ _ _ c.self.invariant c.args.a _ (slice_get-get_or fields.words.now c.args.a 0 within))

pub returns-clause-sound : goal.returns-clause-sound
returns-clause-sound g c = record { fits = (invariant_of-self g c).fits; no_yield = λ e. c.requires.sound.no_yield (sym (ap stop_of c.self.view_is) ∙ e) }
