use Rattle.script_reader.proofs.Common.{◌∷◌, [], ◌++◌, codes, not, Some, sym, ap, ◌∙◌, append-nil, line, first_reason, head_words}
use Rattle.script_reader.proofs.HandedOn.{same_reason}
use Rattle.script_reader.proofs.LineFaults.LineKinds.{only_word}
use Rattle.script_reader.proofs.Judging.{behind_more, behind_end, behind_line}
use Rattle.script_reader.proofs.language.Listed.Numbers.{head_fine, head_AreWords, head_goes_on}
use Rattle.script_reader.specs.declared.fault.Fault.TheVariants as fault
use Rattle.script_reader.proofs.language.reader.sizes_of.Goals as goal

pub returns-in_err-header-clause-fault : goal.returns-in_err-header-clause-fault
returns-in_err-header-clause-fault g c why e =
    behind_end
    (same_reason c.from_residual.ensures.1 e) c.in_err-header.ensures.end

pub returns-in_err-sizes-clause-fault : goal.returns-in_err-sizes-clause-fault
returns-in_err-sizes-clause-fault g c why e =
    behind_line
    c.in_ok-header.ensures.found.0 c.in_ok-header.ensures.found.1 (c.in_err-sizes.ensures.err ∙ ap Some (same_reason c.from_residual-in_err-sizes.ensures.1 e))

pub returns-in_err-words-clause-fault : goal.returns-in_err-words-clause-fault
returns-in_err-words-clause-fault g c why e =
    let language = g.L.Language.language in
    let ns = g.L.Language.sizes_of c.in_ok-sizes.sizes in
    let sized = c.in_ok-sizes.ensures.found.0 in
    behind_more (head_words language ns ∷ [])
    (head_AreWords language ns g.met.L.Language.lawful sized, head_fine language ns sized, head_goes_on language ns, tt)
    (c.in_ok-header.ensures.found.1 ∙ ap (λ w. line w ++ c.words.new.self) c.in_ok-sizes.ensures.found.1
    ∙ ap (λ l. l ++ c.words.new.self) (sym (append-nil (line (head_words language ns)))))
    (behind_end (same_reason c.from_residual-in_err-words.ensures.1 e) c.in_err-words.ensures.end)

pub returns-then-not-is_only-clause-fault : goal.returns-then-not-is_only-clause-fault
returns-then-not-is_only-clause-fault g c why e =
    let language = g.L.Language.language in
    let ns = g.L.Language.sizes_of c.in_ok-sizes.sizes in
    let sized = c.in_ok-sizes.ensures.found.0 in
    let none = sym c.is_only.ensures ∙ c.if-not-is_only.true in
    behind_more (head_words language ns ∷ [])
    (head_AreWords language ns g.met.L.Language.lawful sized, head_fine language ns sized, head_goes_on language ns, tt)
    (c.in_ok-header.ensures.found.1 ∙ ap (λ w. line w ++ c.words.new.self) c.in_ok-sizes.ensures.found.1
    ∙ ap (λ l. l ++ c.words.new.self) (sym (append-nil (line (head_words language ns)))))
    (behind_line c.in_ok-words.ensures.found.0 c.in_ok-words.ensures.found.1
    ((λ i. first_reason ((not (none i), fault.Word) ∷ [])) ∙ cc))

pub returns-clause-text : goal.returns-clause-text
returns-clause-text g c =
    let ns = g.L.Language.sizes_of c.in_ok-sizes.sizes in
    let last = only_word (codes "scripts") c.in_ok-words.words (sym c.is_only.ensures ∙ c.if-not-is_only.false) in
    c.in_ok-header.ensures.found.1 ∙ ap (λ w. line w ++ c.words.new.self) c.in_ok-sizes.ensures.found.1
    ∙ ap (λ l. line (head_words g.L.Language.language ns) ++ l) (c.in_ok-words.ensures.found.1 ∙ ap (λ w. line w ++ c.words-2.new.self) last)
