use Rattle.txn_books.proofs.Common.{◌≡◌, ◌+◌, refl, sym, ap, ◌∙◌, arith, begins_refl, begins_trans, worth_below}
use Rattle.books_model.proofs.Sums.{worth_first, worth_next, worth_last}
use Rattle.txn_books.proofs.OnBooks.Looking.{saw_told, told_saw, saw_first, saw_then, saw_stands}
use Rattle.txn_books.proofs.quantity.worth.Goals as goal

pub loop-instrument-init : goal.loop-instrument-init
loop-instrument-init g c = record {
  shape = refl;
  origin = refl;
  begins = begins_refl _;
  stop = c.requires.ready.going;
  sound = c.requires.ready.sound;
  from = omega arith;
  worth = saw_first (λ books sized. sym (worth_first books c.args.account sized.1));
  most = omega arith;
}

pub worth_in-requires-clause-stands : goal.worth_in-requires-clause-stands
worth_in-requires-clause-stands g c =
    let i = c.loop-instrument.invariant in
    saw_stands i.shape i.begins c.requires.stands i.worth

pub loop-instrument-preserved : goal.loop-instrument-preserved
loop-instrument-preserved g c =
    let shape = c.args.shape.now in
    let i = c.loop-instrument.invariant in
    let goes = c.in_ok-total.ensures.goes_on in
    let here = saw_told c.in_ok-total.ensures.told in
    record {
      shape = goes.shape ∙ i.shape;
      origin = goes.origin ∙ i.origin;
      begins = begins_trans _ _ _ i.begins goes.begins;
      stop = goes.stops;
      sound = goes.sound;
      from = omega arith;
      worth = saw_then i.shape goes.begins
          (λ books sized before one. omega (arith, before, one, worth_next books c.args.account c.loop-instrument.instrument)) i.worth here;
      most = omega (arith, i.most, c.in_ok-total.ensures.range);
    }

pub returns-clause-told : goal.returns-clause-told
returns-clause-told g c =
    let i = c.loop-instrument.invariant in
    told_saw
    (λ books sized so_far.
    let last : c.loop-instrument.instrument ≡ books.instruments + 1 =
    omega (arith, c.loop-instrument-test.false, c.loop-instrument.auto.instrument-end, ap (λ z. z.instruments) sized.0) in
    so_far ∙ ap (worth_below books c.args.account) last ∙ worth_last books c.args.account sized.1) i.worth

pub returns-clause-stands : goal.returns-clause-stands
returns-clause-stands g c =
    let i = c.loop-instrument.invariant in
    saw_stands i.shape i.begins c.requires.stands i.worth
