use Rattle.txn_commit.proofs.Common.{◌≡◌, ℕ, List, slice_index, sym, ap, ◌∙◌, number}
use Rattle.txn_commit.proofs.list_worker.run_listed.Goals as goal

pub returns-clause-made : goal.returns-clause-made
returns-clause-made g c =
    let e = c.in_ok-receipt.ensures in
    let gets = e.entry in
    let named : c.who.result ≡ number c.args.pass.now.view = c.who.ensures.number ∙ ap (λ (w : List ℕ). slice_index w 0) e.seat.who in
    record {
      entry = gets.entry;
      seen = gets.seen;
      made = record {
        is_of = record {
          seat_is = gets.made_by ∙ sym named;
          call_is = gets.call_is.0 ∙ sym gets.call_is.1;
          restarts_are = sym gets.restarts_are;
          uses_are = gets.uses_are;
        };
        meaning = gets.meaning;
      };
      seat_is = named;
      call_is = gets.call_is.1;
      called = e.call;
      few = e.few;
    }
