use Rattle.script_reader.proofs.Common.{[], ◌∷◌, ◌++◌, map, sym, ap, ◌∙◌, arith}
use Rattle.script_reader.proofs.language.Grouped.Gathering.{map-set-put, map-push-put}
use Rattle.script_reader.proofs.language.gathering.put.Goals as goal

pub returns-in_ok-push : goal.returns-in_ok-push
returns-in_ok-push g c = map-set-put (λ v. v.items) c.args.scripts.now.items c.args.place
    c.push.new.self c.args.script (omega arith) (sym c.index_mut.ensures.value) c.in_ok-push.ensures.items

pub returns-in_ok-push-3 : goal.returns-in_ok-push-3
returns-in_ok-push-3 g c =
    ap (map (λ v. v.items)) c.in_ok-push-3.ensures.items
    ∙ map-push-put (λ v. v.items) c.args.scripts.now.items c.args.place c.push-else-place-len.new.self
    (omega arith) (c.in_ok-push-2.ensures.items ∙ ap (λ l. l ++ c.args.script ∷ []) c.new-first.ensures.items)
