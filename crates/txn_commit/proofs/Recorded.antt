-- Items, each beside the entry of its call, if the closed records are these entries.
use Rattle.txn_commit.proofs.Common.{◌≡◌, ◌≢◌, ◌↔◌, ℕ, List, AllPairs, length, get_or, slice_get, Some, sym, ap, ◌∙◌, arith, slice_get-get_or, slice_get_within}
use Rattle.txn_commit.proofs.Common.{Entry, IsIn, below_get, AreRecords, ClosedView, Done, HaveRecords, IsEntryOf}
use Rattle.word_table.proofs.Joined.Counting.{no_more_than}

module _ {A S : Type 0} (closed : ClosedView S) (done : List (Done A)) (entries : List Entry) (as_many : length done ≡ length entries)
    (of_items : (k : ℕ) (ran : Done A) (e : Entry) → slice_get done k ≡ Some ran → slice_get entries k ≡ Some e → IsEntryOf ran e)
    (of_records : (e : Entry) → IsIn e entries ↔ IsIn e closed.records)
    (apart : AllPairs (λ (x y : Done A). x.seat ≡ y.seat → x.call ≢ y.call) done) (records : AreRecords closed) where
  some_entry : (ran : Done A) → IsIn ran done → (e : Entry) × IsIn e closed.records × IsEntryOf ran e
  some_entry ran t =
      let e = below_get t.0 entries (omega (arith, slice_get_within done t.0 ran t.1, as_many)) in
      (e.0, (of_records e.0).0 (t.0, e.1), of_items t.0 ran e.0 t.1 e.1)

  some_item : (e : Entry) → IsIn e closed.records → (ran : Done A) × IsIn ran done × IsEntryOf ran e
  some_item e t =
      let there = (of_records e).1 t in
      let ran = below_get there.0 done (omega (arith, slice_get_within entries there.0 e there.1, as_many)) in
      (ran.0, (there.0, ran.1), of_items there.0 ran.0 e ran.1 there.1)

  pub have_records : HaveRecords closed.records done
  have_records = record {
    as_many = omega (
      arith,
      no_more_than (λ (ran : Done A) (e : Entry). IsEntryOf ran e) done closed.records some_entry
          (λ i j d lt short e a b. apart i j d lt short (sym a.seat_is ∙ b.seat_is) (sym a.call_is ∙ b.call_is)),
      no_more_than (λ (e : Entry) (ran : Done A). IsEntryOf ran e) closed.records done some_item
          (λ i j d lt short ran a b.
          let x = get_or closed.records i d in
          let y = get_or closed.records j d in
          let at_x = slice_get-get_or closed.records i d (omega (arith, lt, short)) in
          let at_y = slice_get-get_or closed.records j d short in
          let same : x ≡ y = records.one x y (i, at_x) (j, at_y) (a.seat_is ∙ sym b.seat_is) (a.call_is ∙ sym b.call_is) in
          absurd (omega (arith, lt, records.apart i j y (at_x ∙ ap Some same) at_y))),
    );
    each = some_entry;
    whole = some_item;
    apart = apart;
  }
