use Rattle.script_reader.proofs.Common.{length, sym, ap, ◌∙◌, arith, string_bytes}
use Rattle.script_reader.proofs.language.Grouped.Gathering.{count_callers}
use Rattle.script_reader.proofs.language.gathered.Gathered.callers.Goals as goal

pub overflow_cast-result : goal.overflow_cast-result
overflow_cast-result g c =
    omega (
      arith,
      c.self.invariant.few,
      c.len.ensures.len,
      count_callers string_bytes (λ v. v.items) c.self.inside.gathering.names.keys c.self.inside.gathering.scripts.items c.self.invariant.even.beside,
    )

pub returns : goal.returns
returns g c = c.len.ensures.len ∙ sym (count_callers string_bytes (λ v. v.items) c.self.inside.gathering.names.keys c.self.inside.gathering.scripts.items
    c.self.invariant.even.beside) ∙ ap length c.self.view_is
