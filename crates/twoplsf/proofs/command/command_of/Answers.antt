use Rattle.twoplsf.proofs.Common.{◌≡◌, rules, arith, length, number, texts_of}
use Rattle.std.proofs.lemmas.Grind.{common_steps}
use Rattle.twoplsf.proofs.Commands.{five_words, in_none}
use Rattle.twoplsf.proofs.command.command_of.Goals as goal

pub returns-in_err-workers-in-drill-len4-clause-none : goal.returns-in_err-workers-in-drill-len4-clause-none
returns-in_err-workers-in-drill-len4-clause-none c =
    let words = texts_of c.args.words.now in
    in_none c.from_residual-in_err-workers-in-drill-len4.result _ (λ valid.
    let five : length words ≡ 5 = first_of (search rules, grind (arith, common_steps)) in
    let drill = five_words words five valid in
    let none = c.in_err-workers-in-drill-len4.ensures.none drill.0 drill.1 drill.2 drill.3 in
    let are = drill.4.words_are in
    let w : c.as_bytes-in-drill-len4.result.now ≡ number drill.0 = first_of (search rules, grind (arith, common_steps)) in
    let s : c.as_bytes-in-drill-len4-2.result.now ≡ number drill.1 = first_of (search rules, grind (arith, common_steps)) in
    let k : c.as_bytes-in-drill-len4-3.result.now ≡ number drill.2 = first_of (search rules, grind (arith, common_steps)) in
    let n : c.as_bytes-in-drill-len4-4.result.now ≡ number drill.3 = first_of (search rules, grind (arith, common_steps)) in
    none w drill.4.workers_range (record { seed_is = s; callers_is = k; scripts_is = n; range = drill.4.range }))
