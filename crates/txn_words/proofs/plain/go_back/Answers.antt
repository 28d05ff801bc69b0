use Rattle.txn_words.proofs.Common.{◌≡◌, ℕ, ◌+◌, ◌<◌, ◌≤◌, arith, refl, sym, ap, subst, count_writes, Fits, PutsBack}
use Rattle.std.proofs.Common.{◌-◌}
use Rattle.txn_words.proofs.GoingBack.{GoneBack, all_back, mark_stays, none_back, one_more_back}
use Rattle.txn_words.proofs.Listed.{same_more, shape_of}
use Rattle.txn_words.proofs.plain.go_back.Goals as goal

pub loop-place-init : goal.loop-place-init
loop-place-init g c =
    let first = c.args.plain.now in record {
      to = omega (arith, c.noted-place.ensures, c.requires.mark);
      place = omega (arith, c.noted-place.ensures);
      same = refl;
      fits = c.requires.fits;
      back =
          subst (λ (i : ℕ). GoneBack (g.S.Shape.word_count first.shape) (g.S.Shape.good first.shape) i first.trace first.trace) (sym c.noted-place.ensures)
          (none_back (g.S.Shape.word_count first.shape) (g.S.Shape.good first.shape) first.trace);
    }

pub put_back-requires : goal.put_back-requires
put_back-requires g c =
    let inv = c.loop-place.invariant in
    let stays : c.loop-place.place ≤ count_writes c.loop-place.plain.trace =
    mark_stays c.args.plain.now.trace c.loop-place.plain.trace c.loop-place.place inv.back.begins inv.place in
    let more : c.args.to < c.loop-place.place = c.loop-place-test.true in
    record { place = omega (arith, stays, more) }

pub loop-place-preserved : goal.loop-place-preserved
loop-place-preserved g c =
    let inv = c.loop-place.invariant in let first = c.args.plain.now in let old = c.loop-place.plain in let new = c.put_back.new.self in
    let more : c.args.to < c.loop-place.place = c.loop-place-test.true in
    let under : c.loop-place.place ≤ count_writes first.trace = inv.place in
    let same = same_more first old new inv.same c.in_ok-put_back.ensures.same in
    let next : c.loop-place.place ≡ (c.loop-place.place - 1) + 1 = omega (arith, more) in
    let lt : c.loop-place.place - 1 < count_writes first.trace = omega (arith, more, under) in
    record {
      to = omega (arith, more);
      place = omega (arith, under);
      same = same;
      fits = c.in_ok-put_back.ensures.fits;
      back = one_more_back (g.S.Shape.word_count first.shape) (g.S.Shape.good first.shape) (c.loop-place.place - 1)
          c.loop-place.place first.trace old.trace new.trace next lt inv.back
          (subst (λ z. PutsBack (g.S.Shape.word_count z) (g.S.Shape.good z) (c.loop-place.place - 1) old.trace
          new.trace) (ap shape_of inv.same) c.in_ok-put_back.ensures.back)
          (new.origin, subst (λ z. Fits (g.S.Shape.word_count z) (g.S.Shape.good z) new.trace new.origin) (ap shape_of same) c.in_ok-put_back.ensures.fits);
    }

pub returns-clause-back : goal.returns-clause-back
returns-clause-back g c =
    let inv = c.loop-place.invariant in let first = c.args.plain.now in
    let down : c.loop-place.place ≤ c.args.to = c.loop-place-test.false in
    let end : c.loop-place.place ≡ c.args.to = omega (arith, down, inv.to) in
    all_back (g.S.Shape.word_count first.shape) (g.S.Shape.good first.shape) c.args.to first.trace c.loop-place.plain.trace
    (subst (λ (i : ℕ). GoneBack (g.S.Shape.word_count first.shape) (g.S.Shape.good first.shape) i first.trace c.loop-place.plain.trace) end inv.back)
