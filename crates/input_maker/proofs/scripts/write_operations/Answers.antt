use Rattle.input_maker.proofs.Common.{◌+◌, ◌++◌, List, ℕ, sym, ap, ◌∙◌, string_bytes, Op, line, books_operation_words, written_next, drawn_state}
use Rattle.input_maker.proofs.Common.{operation_from, operations_from, state_after_operations}
use Rattle.input_maker.proofs.Listing.{written_none, operations-none, operations-more, states-none, states-more}
use Rattle.input_maker.proofs.scripts.write_operations.Goals as goal

pub loop-place-init : goal.loop-place-init
loop-place-init c = record {
  state = sym (states-none);
  text = written_none (λ (o : Op). line (books_operation_words o))
      (operations-none c.args.kind c.args.generator.now.state);
}

pub loop-place-preserved : goal.loop-place-preserved
loop-place-preserved c =
    let place = c.loop-place.place in
    let kind = c.args.kind in
    let first = c.args.generator.now.state in
    let drawn = c.next_operation-operation.ensures in
    let write : Op → List ℕ = λ (o : Op). line (books_operation_words o) in
    record {
      state = drawn.state ∙ ap (drawn_state 5) c.loop-place.invariant.state ∙ sym (states-more place first);
      text = written_next (string_bytes c.args.text.now) (string_bytes c.loop-place.text) (string_bytes c.write_operation.new.text) write
          (operations_from kind first place) (operations_from kind first (place + 1)) (operation_from kind (state_after_operations place first))
          c.loop-place.invariant.text
          (c.in_ok-write_operation.ensures ∙ ap (λ (o : Op). string_bytes c.loop-place.text ++ line (books_operation_words o))
          (drawn.operation ∙ ap (operation_from kind) c.loop-place.invariant.state))
          (operations-more kind first place);
    }
