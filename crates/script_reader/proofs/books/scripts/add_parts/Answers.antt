use Rattle.script_reader.proofs.Common.{◌∷◌, [], ◌++◌, codes, Some, sym, ap, ◌∙◌, length-append, arith, All-push, sum_by-append, alternatives_in, Part, line}
use Rattle.script_reader.proofs.Common.{script_lines, IsOperationOf}
use Rattle.script_reader.proofs.Joined.{joined}
use Rattle.script_reader.proofs.HandedOn.{same_reason, same_refusal}
use Rattle.script_reader.proofs.LineFaults.LineKinds.{only_word}
use Rattle.script_reader.proofs.books.Versions.{script_of_more}
use Rattle.script_reader.proofs.books.Texts.Branching.{behind_parts_read, behind_try, try_limit, part_fault, part_limit}
use Rattle.script_reader.proofs.Judging.{behind_end, behind_line}
use Rattle.books_model.specs.declared.script.Part.TheVariants as part
use Rattle.script_reader.proofs.books.scripts.add_parts.Goals as goal

pub returns-in_err-words-clause-fault : goal.returns-in_err-words-clause-fault
returns-in_err-words-clause-fault c why e subs name =
    let v = c.loop-words.invariant in
    behind_parts_read c.args.version c.ranges-2.ensures subs name
    v.range v.text
    (behind_end (same_reason c.from_residual.ensures.1 e) c.in_err-words.ensures.end)

pub returns-then-is_only-clause-text : goal.returns-then-is_only-clause-text
returns-then-is_only-clause-text c =
    let end = only_word (codes "end") c.in_ok-words.words (sym c.is_only.ensures ∙ c.if-is_only.true) in
    c.loop-words.invariant.text
    ∙ ap (λ l. script_lines c.loop-words.script ++ l) (c.in_ok-words.ensures.found.1 ∙ ap (λ w. line w ++ c.words.new.self) end)

pub returns-then-alternatives-ge-MOST_ALTERNATIVES-clause-fault : goal.returns-then-alternatives-ge-MOST_ALTERNATIVES-clause-fault
returns-then-alternatives-ge-MOST_ALTERNATIVES-clause-fault c why e subs name =
    let v = c.loop-words.invariant in
    behind_parts_read c.args.version c.ranges-2.ensures subs name
    v.range v.text
    (behind_line c.in_ok-words.ensures.found.0 c.in_ok-words.ensures.found.1
    (try_limit c.args.version c.ranges-2.ensures subs name c.loop-words.script c.in_ok-words.words
    (sym c.is_only-in-loop-words.ensures ∙ c.if-is_only-2.true) (omega (arith, v.alternatives, c.if-alternatives-ge-MOST_ALTERNATIVES.true)) ∙ cc))

pub returns-in_err-first-clause-fault : goal.returns-in_err-first-clause-fault
returns-in_err-first-clause-fault c why e subs name =
    let v = c.loop-words.invariant in
    behind_parts_read c.args.version c.ranges-2.ensures subs name
    v.range v.text
    (behind_try c.args.version c.ranges-2.ensures subs name c.loop-words.script c.in_ok-words.words
    (sym c.is_only-in-loop-words.ensures ∙ c.if-is_only-2.true) (omega (arith, v.alternatives, c.if-alternatives-ge-MOST_ALTERNATIVES.false))
    c.in_ok-words.ensures.found.1
    (c.alternative_of.ensures.fault why (same_refusal c.in_err-first.was c.from_residual-in_err-first.ensures.1 e) subs name c.loop-words.script
    (sym v.operations)))

pub loop-words-preserved-in-Continue-branch-3 : goal.loop-words-preserved-in-Continue-branch-3
loop-words-preserved-in-Continue-branch-3 c =
    let v = c.loop-words.invariant in
    let q : Part = part.Either c.in_ok-first.first c.in_ok-first.second in
    let long = length-append c.in_ok-first.first c.in_ok-first.second in
    let tries = only_word (codes "try") c.in_ok-words.words (sym c.is_only-in-loop-words.ensures ∙ c.if-is_only-2.true) in
    rw c.in_ok-push.ensures.ok (record {
      range = script_of_more q v.range c.in_ok-first.ensures.range
          (omega (arith, v.operations, c.in_ok-first.ensures.few, long)) (omega (arith, v.alternatives, c.if-alternatives-ge-MOST_ALTERNATIVES.false));
      operations = simp (length-append, joined) (omega (arith, v.operations, c.len.ensures, c.len-then-is_only-2.ensures));
      alternatives = omega (arith, v.alternatives, sum_by-append alternatives_in c.loop-words.script (q ∷ []));
      text = v.text ∙ simp (c.in_ok-words.ensures.found.1, tries, c.in_ok-first.ensures.text, joined);
    })

pub returns-in_err-operation-clause-fault : goal.returns-in_err-operation-clause-fault
returns-in_err-operation-clause-fault c why e subs name =
    let v = c.loop-words.invariant in
    behind_parts_read c.args.version c.ranges-2.ensures subs name
    v.range v.text
    (behind_line c.in_ok-words.ensures.found.0 c.in_ok-words.ensures.found.1
    (part_fault c.args.version c.ranges-2.ensures subs name c.loop-words.script c.in_ok-words.words (sym c.is_only.ensures
    ∙ c.if-is_only.false)
    (sym c.is_only-in-loop-words.ensures ∙ c.if-is_only-2.false) (c.in_err-operation.ensures.err ∙ ap Some
    (same_reason c.from_residual-in_err-operation.ensures.1 e))))

pub returns-then-operations-ge-MOST_OPERATIONS-clause-fault : goal.returns-then-operations-ge-MOST_OPERATIONS-clause-fault
returns-then-operations-ge-MOST_OPERATIONS-clause-fault c why e subs name =
    let v = c.loop-words.invariant in
    let found = c.in_ok-operation.ensures.found in
    behind_parts_read c.args.version c.ranges-2.ensures subs name
    v.range v.text
    (behind_line c.in_ok-words.ensures.found.0 c.in_ok-words.ensures.found.1
    (part_limit c.args.version c.ranges-2.ensures subs name c.loop-words.script c.in_ok-operation.operation found.0 found.1
    (omega (arith, v.operations, c.if-operations-ge-MOST_OPERATIONS.true)) ∙ cc))

pub loop-words-preserved : goal.loop-words-preserved
loop-words-preserved c =
    let v = c.loop-words.invariant in
    let found = c.in_ok-operation.ensures.found in
    let q : Part = part.One c.in_ok-operation.operation in
    rw c.in_ok-push-2.ensures.ok (record {
      range = script_of_more q v.range
          (All-push (IsOperationOf c.args.version c.args.books.now) [] c.in_ok-operation.operation (λ k d less. absurd (omega arith)) found.0)
          (omega (arith, v.operations, c.if-operations-ge-MOST_OPERATIONS.false)) (omega (arith, v.range.few_alternatives));
      operations = simp (length-append, joined) (omega (arith, v.operations));
      alternatives = omega (arith, v.alternatives, sum_by-append alternatives_in c.loop-words.script (q ∷ []));
      text = v.text ∙ simp (c.in_ok-words.ensures.found.1, found.1, joined);
    })
