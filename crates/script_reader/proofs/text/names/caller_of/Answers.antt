use Rattle.script_reader.proofs.Common.{◌≡◌, ◌∷◌, [], ap, sym, subst, ◌∙◌, codes, List, ℕ, Result, Ok, Err, Fault, IsName, word_at}
use Rattle.std.proofs.Common.{Bor}
use Rattle.std.specs.Result.{IfOk}
use Rattle.script_reader.proofs.LineFaults.LineKinds.{one_behind}
use Rattle.script_reader.proofs.text.names.caller_of.Goals as goal

pub returns-clause-found : goal.returns-clause-found
returns-clause-found c =
    let rest = one_behind (codes "script") c.args.words.now (sym c.is_row.ensures ∙ c.if-not-is_row.false) in
    let is = rest.1 in
    let name : word_at c.args.words.now 1 ≡ rest.0 = ap (λ w. word_at w 1) is in
    by c.name_of.result c.name_of.ensures.found (is ∙ ap (λ w. codes "script" ∷ w ∷ []) (sym name ∙ sym c.at.ensures))
  where
    by : (r : Result (Bor (List ℕ)) Fault) → IfOk r (λ n. (n.now ≡ c.at.result.now) × IsName c.at.result.now)
        → c.args.words.now ≡ codes "script" ∷ c.at.result.now ∷ []
        → IfOk r (λ n. (c.args.words.now ≡ codes "script" ∷ n.now ∷ []) × IsName n.now)
    by (Ok n) h e = (e ∙ ap (λ w. codes "script" ∷ w ∷ []) (sym h.0), subst IsName (sym h.0) h.1)
    by (Err why) h e = tt
