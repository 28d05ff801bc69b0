use Rattle.script_reader.proofs.Common.{◌∷◌, [], ◌++◌, map, Some, sym, ap, ◌∙◌, length-append, arith, flat_map, All-push, line, books_operation_words}
use Rattle.script_reader.proofs.Common.{closing_word, is_only, IsOperationOf}
use Rattle.script_reader.proofs.Joined.{joined}
use Rattle.script_reader.proofs.HandedOn.{same_reason}
use Rattle.script_reader.proofs.LineFaults.LineKinds.{only_word}
use Rattle.script_reader.proofs.books.Texts.Following.{line_shorter}
use Rattle.script_reader.proofs.books.Texts.Branching.{behind_branch, branch_operation_fault, branch_limit}
use Rattle.script_reader.proofs.Judging.{behind_end, behind_line}
use Rattle.script_reader.proofs.books.scripts.add_branch.Goals as goal

pub returns-in_err-words-clause-fault : goal.returns-in_err-words-clause-fault
returns-in_err-words-clause-fault c why e subs name parts first counted =
    behind_branch c.args.version c.ranges-2.ensures c.args.branch subs name parts first c.loop-words.operations
    c.loop-words.invariant.range (omega (arith, counted, c.loop-words.invariant.few)) c.loop-words.invariant.text
    (behind_end (same_reason c.from_residual.ensures.1 e) c.in_err-words.ensures.end)

pub returns-then-is_only-clause-text : goal.returns-then-is_only-clause-text
returns-then-is_only-clause-text c =
    let end = only_word (closing_word c.args.branch) c.in_ok-words.words
    (sym (c.is_only.ensures ∙ ap (λ k. is_only k c.in_ok-words.words) c.closing.ensures) ∙ c.if-is_only.true) in
    c.loop-words.invariant.text
    ∙ ap (λ l. flat_map line (map books_operation_words c.loop-words.operations) ++ l)
    (c.in_ok-words.ensures.found.1 ∙ ap (λ w. line w ++ c.words.new.self) end)

pub returns-in_err-operation-clause-fault : goal.returns-in_err-operation-clause-fault
returns-in_err-operation-clause-fault c why e subs name parts first counted =
    let not_closing = sym (c.is_only.ensures ∙ ap (λ k. is_only k c.in_ok-words.words) c.closing.ensures) ∙ c.if-is_only.false in
    behind_branch c.args.version c.ranges-2.ensures c.args.branch subs name parts first c.loop-words.operations
    c.loop-words.invariant.range (omega (arith, counted, c.loop-words.invariant.few)) c.loop-words.invariant.text
    (behind_line c.in_ok-words.ensures.found.0 c.in_ok-words.ensures.found.1
    (branch_operation_fault c.args.version c.ranges-2.ensures c.args.branch subs name parts first c.loop-words.operations c.in_ok-words.words
    not_closing (c.in_err-operation.ensures.err ∙ ap Some (same_reason c.from_residual-in_err-operation.ensures.1 e))))

pub returns-then-len-so_far-clause-fault : goal.returns-then-len-so_far-clause-fault
returns-then-len-so_far-clause-fault c why e subs name parts first counted =
    let found = c.in_ok-operation.ensures.found in
    behind_branch c.args.version c.ranges-2.ensures c.args.branch subs name parts first c.loop-words.operations
    c.loop-words.invariant.range (omega (arith, counted, c.loop-words.invariant.few)) c.loop-words.invariant.text
    (behind_line c.in_ok-words.ensures.found.0 c.in_ok-words.ensures.found.1
    (branch_limit c.args.version c.ranges-2.ensures c.args.branch subs name parts first c.loop-words.operations
    c.in_ok-operation.operation found.0 found.1 (omega (arith, counted, c.len.ensures, c.if-len-so_far.true)) ∙ cc))

pub loop-words-preserved : goal.loop-words-preserved
loop-words-preserved c =
    let found = c.in_ok-operation.ensures.found in
    rw c.in_ok-push.ensures.ok (record {
      few = omega (
        arith,
        length-append c.loop-words.operations
            (c.in_ok-operation.operation ∷ []),
        c.len.ensures,
        c.if-len-so_far.false,
        c.loop-words.invariant.few,
      );
      range = All-push (IsOperationOf c.args.version c.args.books.now) c.loop-words.operations c.in_ok-operation.operation c.loop-words.invariant.range found.0;
      text = c.loop-words.invariant.text ∙ simp (c.in_ok-words.ensures.found.1, found.1, joined);
    })

pub loop-words-smaller : goal.loop-words-smaller
loop-words-smaller c = line_shorter c.in_ok-words.words c.words.new.self c.in_ok-words.ensures.found.1
