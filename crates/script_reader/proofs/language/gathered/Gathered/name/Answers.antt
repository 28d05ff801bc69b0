use Rattle.script_reader.proofs.Common.{[], length, sym, ap, ◌∙◌, arith, string_bytes, caller_at}
use Rattle.script_reader.proofs.language.Grouped.Gathering.{count_callers}
use Rattle.script_reader.proofs.language.Grouped.Besides.{name_beside}
use Rattle.script_reader.proofs.language.gathered.Gathered.name.Goals as goal

pub index-requires : goal.index-requires
index-requires g c =
    omega (
      arith,
      c.requires,
      ap length c.self.view_is,
      count_callers string_bytes (λ v. v.items) c.self.inside.gathering.names.keys c.self.inside.gathering.scripts.items c.self.invariant.even.beside,
    )

pub returns : goal.returns
returns g c =
    c.as_str.ensures.value
    ∙ sym (name_beside string_bytes (λ v. v.items) c.self.inside.gathering.names.keys c.self.inside.gathering.scripts.items
    c.args.caller (record { name = []; scripts = [] }) c.self.invariant.even.beside c.index.ensures)
    ∙ ap (λ l. (caller_at l c.args.caller).name) c.self.view_is
