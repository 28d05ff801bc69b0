use Rattle.script_reader.proofs.Common.{◌<◌, [], length, slice_get, sym, ap, ◌∙◌, arith, string_bytes, caller_at}
use Rattle.script_reader.proofs.language.Grouped.Gathering.{count_callers}
use Rattle.script_reader.proofs.language.Grouped.Besides.{scripts_beside, found_there}
use Rattle.script_reader.proofs.language.gathered.Gathered.script.Goals as goal

pub index-requires : goal.index-requires
index-requires g c =
    omega (
      arith,
      c.requires.there,
      ap length c.self.view_is,
      c.self.invariant.even.beside,
      count_callers string_bytes (λ v. v.items) c.self.inside.gathering.names.keys c.self.inside.gathering.scripts.items c.self.invariant.even.beside,
    )

pub index-requires-2 : goal.index-requires-2
index-requires-2 g c =
    let many = count_callers string_bytes
    (λ v. v.items) c.self.inside.gathering.names.keys c.self.inside.gathering.scripts.items c.self.invariant.even.beside in
    let less : c.args.caller < length c.self.inside.gathering.scripts.items =
    omega (arith, c.requires.there, ap length c.self.view_is, c.self.invariant.even.beside, many) in
    let scripts = scripts_beside string_bytes (λ v. v.items) c.self.inside.gathering.names.keys c.self.inside.gathering.scripts.items
    c.args.caller (record { name = []; scripts = [] }) c.self.invariant.even.beside less (sym c.index.ensures) in
    omega (arith, c.requires.index, ap length scripts, ap (λ l. length (caller_at l c.args.caller).scripts) c.self.view_is)

pub returns : goal.returns
returns g c =
    let many = count_callers string_bytes
    (λ v. v.items) c.self.inside.gathering.names.keys c.self.inside.gathering.scripts.items c.self.invariant.even.beside in
    let less : c.args.caller < length c.self.inside.gathering.scripts.items =
    omega (arith, c.requires.there, ap length c.self.view_is, c.self.invariant.even.beside, many) in
    let scripts = scripts_beside string_bytes (λ v. v.items) c.self.inside.gathering.names.keys c.self.inside.gathering.scripts.items
    c.args.caller (record { name = []; scripts = [] }) c.self.invariant.even.beside less (sym c.index.ensures) in
    let inner : c.args.index < length c.index.result.now.items = omega (
      arith,
      c.requires.index,
      ap length scripts,
      ap (λ l. length
          (caller_at l c.args.caller).scripts) c.self.view_is,
    ) in
    ap (λ l. slice_get l c.args.index) (sym (ap (λ l. (caller_at l c.args.caller).scripts) c.self.view_is) ∙ scripts)
    ∙ found_there c.index.result.now.items c.args.index inner c.index-2.ensures
