use Rattle.script_reader.proofs.Common.{◌<◌, [], length, sym, ap, arith, string_bytes, caller_at, callers_in}
use Rattle.std.proofs.lemmas.List.Sums.{get_or-le-sum_by}
use Rattle.script_reader.proofs.language.Grouped.Gathering.{count_callers}
use Rattle.script_reader.proofs.language.Grouped.Besides.{scripts_beside}
use Rattle.script_reader.proofs.language.gathered.Gathered.scripts_of.Goals as goal

pub index-requires : goal.index-requires
index-requires g c =
    omega (
      arith,
      c.requires,
      ap length c.self.view_is,
      c.self.invariant.even.beside,
      count_callers string_bytes (λ v. v.items) c.self.inside.gathering.names.keys c.self.inside.gathering.scripts.items c.self.invariant.even.beside,
    )

pub overflow_cast-result : goal.overflow_cast-result
overflow_cast-result g c =
    let many = count_callers string_bytes
    (λ v. v.items) c.self.inside.gathering.names.keys c.self.inside.gathering.scripts.items c.self.invariant.even.beside in
    let known : c.args.caller < length (callers_in c.self.inside.gathering) = omega (arith, c.requires, ap length c.self.view_is) in
    let less : c.args.caller < length c.self.inside.gathering.scripts.items = omega (arith, known, c.self.invariant.even.beside, many) in
    let scripts = scripts_beside string_bytes (λ v. v.items) c.self.inside.gathering.names.keys c.self.inside.gathering.scripts.items
    c.args.caller (record { name = []; scripts = [] }) c.self.invariant.even.beside less (sym c.index.ensures) in
    let within = get_or-le-sum_by (λ c. length c.scripts) (callers_in c.self.inside.gathering) c.args.caller (record { name = []; scripts = [] }) known in
    omega (arith, c.len.ensures, ap length scripts, within, c.self.invariant.few_scripts)

pub returns : goal.returns
returns g c =
    let many = count_callers string_bytes
    (λ v. v.items) c.self.inside.gathering.names.keys c.self.inside.gathering.scripts.items c.self.invariant.even.beside in
    let less : c.args.caller < length c.self.inside.gathering.scripts.items =
    omega (arith, c.requires, ap length c.self.view_is, c.self.invariant.even.beside, many) in
    let scripts = scripts_beside string_bytes (λ v. v.items) c.self.inside.gathering.names.keys c.self.inside.gathering.scripts.items
    c.args.caller (record { name = []; scripts = [] }) c.self.invariant.even.beside less (sym c.index.ensures) in
    omega (arith, c.len.ensures, ap length scripts, ap (λ l. length (caller_at l c.args.caller).scripts) c.self.view_is)
