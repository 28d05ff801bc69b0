use Rattle.script_reader.proofs.Common.{◌∷◌, [], ◌++◌, codes, Some, sym, ap, subst, All, length, ◌∙◌, length-append, arith, All-push, line, IsOperationIn}
use Rattle.script_reader.proofs.Common.{operations_text}
use Rattle.script_reader.proofs.Joined.{joined}
use Rattle.script_reader.proofs.HandedOn.{same_reason}
use Rattle.script_reader.proofs.LineFaults.LineKinds.{only_word}
use Rattle.script_reader.proofs.books.Texts.Following.{line_shorter}
use Rattle.script_reader.proofs.Judging.{behind_end, behind_line}
use Rattle.script_reader.proofs.language.Listed.Behind.{behind_operations, operation_wrong, operation_limit}
use Rattle.script_reader.proofs.language.reader.add_operations.Goals as goal

pub loop-words-init : goal.loop-words-init
loop-words-init g c =
    let none = c.requires.none in
    let language = g.L.Language.language in
    record {
      range = subst (λ ops. All (IsOperationIn language (g.L.Language.sizes_of c.args.sizes)) ops) (sym none) (λ k d less. absurd (omega arith));
      few = omega arith;
      counted = sym (ap length none);
      text = sym (ap (λ ops. operations_text language ops ++ c.args.lines.now) none);
    }

pub returns-in_err-words-clause-fault : goal.returns-in_err-words-clause-fault
returns-in_err-words-clause-fault g c why e subs name =
    let v = c.loop-words.invariant in
    let language = g.L.Language.language in
    let ns = g.L.Language.sizes_of c.args.sizes in
    let ops = language.operations c.loop-words.script in
    behind_operations g.met.L.Language.lawful ns c.requires.sized subs name ops v.range
    (omega (arith, v.counted, v.few)) v.text
    (behind_end (same_reason c.from_residual.ensures.1 e) c.in_err-words.ensures.end)

pub returns-then-is_only-clause-range : goal.returns-then-is_only-clause-range
returns-then-is_only-clause-range g c =
    let v = c.loop-words.invariant in
    record { few = omega (arith, v.counted, v.few); each = v.range }

pub returns-then-is_only-clause-text : goal.returns-then-is_only-clause-text
returns-then-is_only-clause-text g c =
    let language = g.L.Language.language in
    let end = only_word (codes "end") c.in_ok-words.words (sym c.is_only.ensures ∙ c.if-is_only.true) in
    c.loop-words.invariant.text
    ∙ ap (λ l. operations_text language (language.operations c.loop-words.script) ++ l) (c.in_ok-words.ensures.found.1
    ∙ ap (λ w. line w ++ c.words.new.self) end)

pub returns-in_err-operation-clause-fault : goal.returns-in_err-operation-clause-fault
returns-in_err-operation-clause-fault g c why e subs name =
    let v = c.loop-words.invariant in
    let language = g.L.Language.language in
    let ns = g.L.Language.sizes_of c.args.sizes in
    let ops = language.operations c.loop-words.script in
    behind_operations g.met.L.Language.lawful ns c.requires.sized subs name ops v.range
    (omega (arith, v.counted, v.few)) v.text
    (behind_line c.in_ok-words.ensures.found.0 c.in_ok-words.ensures.found.1
    (operation_wrong g.met.L.Language.lawful ns c.requires.sized subs name ops c.in_ok-words.words (sym c.is_only.ensures ∙ c.if-is_only.false)
    (c.in_err-operation.ensures.err ∙ ap Some (same_reason c.from_residual-in_err-operation.ensures.1 e))))

pub returns-then-count-ge-MOST_OPERATIONS-clause-fault : goal.returns-then-count-ge-MOST_OPERATIONS-clause-fault
returns-then-count-ge-MOST_OPERATIONS-clause-fault g c why e subs name =
    let v = c.loop-words.invariant in
    let language = g.L.Language.language in
    let ns = g.L.Language.sizes_of c.args.sizes in
    let ops = language.operations c.loop-words.script in
    let found = c.in_ok-operation.ensures.found in
    behind_operations g.met.L.Language.lawful ns c.requires.sized subs name ops v.range
    (omega (arith, v.counted, v.few)) v.text
    (behind_line c.in_ok-words.ensures.found.0 c.in_ok-words.ensures.found.1
    (operation_limit g.met.L.Language.lawful ns c.requires.sized subs name ops found.0 found.1
    (omega (arith, v.counted, c.if-count-ge-MOST_OPERATIONS.true)) ∙ cc))

pub loop-words-preserved : goal.loop-words-preserved
loop-words-preserved g c =
    let v = c.loop-words.invariant in
    let language = g.L.Language.language in
    let ops = language.operations c.loop-words.script in
    let o = c.in_ok-operation.operation in
    let found = c.in_ok-operation.ensures.found in
    let added = c.in_ok-add.ensures in
    record {
      range = subst (All (IsOperationIn language (g.L.Language.sizes_of c.args.sizes))) (sym added) (All-push (IsOperationIn language
          (g.L.Language.sizes_of c.args.sizes)) ops o v.range found.0);
      few = omega (arith, c.if-count-ge-MOST_OPERATIONS.false);
      counted = omega (arith, v.counted, ap length added, length-append ops (o ∷ []));
      text = v.text ∙ simp (c.in_ok-words.ensures.found.1, found.1, added, joined);
    }

pub loop-words-smaller : goal.loop-words-smaller
loop-words-smaller g c = line_shorter c.in_ok-words.words c.words.new.self c.in_ok-words.ensures.found.1
