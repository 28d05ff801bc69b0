use Rattle.txn_commit.proofs.Common.{◌≡◌, ℕ, ◌+◌, ◌<◌, ◌≤◌, length, None, arith, refl, sym, ◌∙◌, subst, count_writes, GoneBack}
use Rattle.txn_words.proofs.Common.{begins_trans}
use Rattle.std.proofs.Common.{◌-◌}
use Rattle.txn_words.proofs.GoingBack.{all_back, mark_stays, none_back, one_more_back}
use Rattle.txn_commit.proofs.Attempts.{did_more, noted_count, of_made, of_refused}
use Rattle.txn_commit.proofs.attempt.go_back.Goals as goal

pub loop-place-init : goal.loop-place-init
loop-place-init g c =
    let trace = c.args.pass.now.view.trace in
    let count : length c.args.undo.now.list ≡ count_writes trace =
    noted_count g.S.Shape.word_count g.S.Shape.good c.args.desk.now c.args.began.now.value c.args.pass.now c.args.undo.now None c.requires.sound in
    let place : c.len-place.result ≡ count_writes trace = c.len-place.ensures ∙ count in record {
      to = omega (arith, place, c.requires.mark);
      place = omega (arith, place);
      sound = c.requires.sound;
      back =
          subst (λ (i : ℕ). GoneBack (g.S.Shape.word_count c.args.desk.now.shape) (g.S.Shape.good c.args.desk.now.shape) i trace trace) (sym place)
          (none_back (g.S.Shape.word_count c.args.desk.now.shape) (g.S.Shape.good c.args.desk.now.shape) trace);
      events = refl;
      spare = omega (arith, place);
    }

pub put_back-requires : goal.put_back-requires
put_back-requires g c =
    let inv = c.loop-place.invariant in
    let stays : c.loop-place.place ≤ count_writes c.loop-place.pass.view.trace =
    mark_stays c.args.pass.now.view.trace c.loop-place.pass.view.trace c.loop-place.place inv.back.begins inv.place in
    let more : c.args.to < c.loop-place.place = c.loop-place-test.true in
    record { place = omega (arith, stays, more); sound = inv.sound }

pub loop-place-preserved : goal.loop-place-preserved
loop-place-preserved g c =
    let inv = c.loop-place.invariant in let old = c.loop-place.pass in let new = c.put_back.new.pass in let start = c.args.pass.now.view.trace in
    let made = sym c.if-is_err.ensures.value in
    let more : c.args.to < c.loop-place.place = c.loop-place-test.true in
    let under : c.loop-place.place ≤ count_writes start = inv.place in
    let next : c.loop-place.place ≡ (c.loop-place.place - 1) + 1 = omega (arith, more) in
    let lt : c.loop-place.place - 1 < count_writes start = omega (arith, more, under) in
    record {
      to = omega (arith, more);
      place = omega (arith, under);
      sound = c.put_back.ensures.sound;
      back =
          one_more_back (g.S.Shape.word_count c.args.desk.now.shape) (g.S.Shape.good c.args.desk.now.shape)
          (c.loop-place.place - 1) c.loop-place.place start old.view.trace new.view.trace next lt inv.back
          (of_made c.put_back.result made c.put_back.ensures.back) c.put_back.ensures.sound.fits;
      events = did_more c.args.pass.now.view old.view new.view inv.events c.put_back.ensures.events;
      spare = omega (arith, more, inv.spare, c.put_back.ensures.spare);
    }

pub returns-then-is_err : goal.returns-then-is_err
returns-then-is_err g c =
    let inv = c.loop-place.invariant in let old = c.loop-place.pass in let new = c.put_back.new.pass in
    let refused = sym c.if-is_err.ensures.value in
    let more : c.args.to < c.loop-place.place = c.loop-place-test.true in
    let none : c.loop-place.undo.spare ≡ 0 = of_refused c.put_back.result refused c.put_back.ensures.memory in
    let spare = inv.spare in
    record {
      back = tt;
      begins = begins_trans c.args.pass.now.view.trace old.view.trace new.view.trace inv.back.begins c.put_back.ensures.begins;
      sound = c.put_back.ensures.sound;
      events = did_more c.args.pass.now.view old.view new.view inv.events c.put_back.ensures.events;
      full = of_refused c.put_back.result refused c.put_back.ensures.full;
      memory = omega (arith, more, none, spare);
    }

pub returns : goal.returns
returns g c =
    let inv = c.loop-place.invariant in let start = c.args.pass.now.view.trace in
    let down : c.loop-place.place ≤ c.args.to = c.loop-place-test.false in
    let end : c.loop-place.place ≡ c.args.to = omega (arith, down, inv.to) in
    record {
      back =
          all_back (g.S.Shape.word_count c.args.desk.now.shape) (g.S.Shape.good c.args.desk.now.shape) c.args.to start c.loop-place.pass.view.trace
          (subst (λ (i : ℕ). GoneBack (g.S.Shape.word_count c.args.desk.now.shape)
          (g.S.Shape.good c.args.desk.now.shape) i start c.loop-place.pass.view.trace) end inv.back);
      begins = inv.back.begins;
      sound = inv.sound;
      events = inv.events;
      full = tt;
      memory = tt;
    }
