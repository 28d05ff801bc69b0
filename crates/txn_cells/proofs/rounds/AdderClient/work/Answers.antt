use Rattle.txn_cells.proofs.Common.{◌≡◌, ◌+◌, ◌*◌, [], ◌∷◌, slice_index, refl, sym, ap, ◌∙◌, subst, arith, IsGood, number, AreCells, HasRounds}
use Rattle.word_table.proofs.Common.{in_second}
use Rattle.txn_cells.specs.contracts.numbers.U128Coded.TheImpl.{ghosts as numbers}
use Rattle.txn_cells.proofs.Gathering.{no_rounds, of_words, one_round}
use Rattle.txn_cells.proofs.rounds.AdderClient.work.Goals as goal

pub loop-round-init : goal.loop-round-init
loop-round-init g c =
    let fresh = c.requires.fresh in
    record {
      table = refl;
      idle = fresh.idle;
      who = refl;
      calls = fresh.no_call;
      made = no_rounds numbers c.who-caller.result c.args.pass.now.view.seen fresh.nothing_seen;
    }

pub loop-round-preserved : goal.loop-round-preserved
loop-round-preserved g c =
    let at = c.loop-round in
    let i = at.invariant in
    let made = c.in_ok-transact.ensures in
    let entry = made.entry in
    let was = at.pass.view in
    let now = c.transact.new.pass.view in
    let caller = c.who-caller.result in
    let adder = c.args.self.now in
    let shape = adder.shape in
    let mine : number was ≡ caller = ap (λ l. slice_index l 0) i.who ∙ sym c.who-caller.ensures.number in
    let by_seat : entry.entry.who ≡ caller = entry.made_by ∙ mine in
    let call : entry.entry.call ≡ at.round + 1 = omega (arith, entry.call_is.0, i.calls) in
    record {
      table = made.desk ∙ i.table;
      idle = made.idle;
      who = made.seat.who ∙ i.who;
      calls = omega (arith, made.call, i.calls);
      made = one_round numbers was.seen now.seen entry.entry entry.seen caller at.round by_seat call
          (record {
            entry = entry.entry;
            there = in_second was.seen (entry.entry ∷ []) entry.entry (0, refl);
            by_seat = by_seat;
            call_is = call;
            adds = λ s all legal. entry.meaning s
                (subst (λ z. IsGood (z.at + z.len * 2) (AreCells numbers z.at z.len) s) (sym c.requires.shape)
                (of_words numbers shape.at shape.len c.requires.begins.0 c.requires.begins.1 (λ P. P s) all)) legal;
          })
          i.made;
    }

pub returns : goal.returns
returns g c =
    let at = c.loop-round in
    let i = at.invariant in
    let end : at.round ≡ c.args.self.now.rounds = omega (arith, c.loop-round-test.false) in
    let mine : c.who-caller.result ≡ number c.args.pass.now.view = c.who-caller.ensures.number in
    record {
      next = record { table_stays = i.table; idle = i.idle; who_stays = i.who };
      does = subst (λ k. HasRounds numbers k c.args.self.now.rounds at.pass.view.seen) mine
          (subst (λ n. HasRounds numbers c.who-caller.result n at.pass.view.seen) end i.made);
    }
