use Rattle.script_reader.proofs.Common.{◌+◌, sym, ap, ◌∙◌, string_bytes, count_scripts, callers_in}
use Rattle.script_reader.proofs.language.Grouped.Gathering.{store-add, even_after, count-add}
use Rattle.script_reader.proofs.language.gathering.Gathering.add.Goals as goal

pub returns-clause-added : goal.returns-clause-added
returns-clause-added g c =
    store-add string_bytes (λ v. v.items) c.args.self.now.names.keys c.args.self.now.scripts.items
    c.requires.even.beside c.place_of.new.names.keys c.put.new.scripts.items
    c.args.name.now c.args.script c.in_ok-place.ensures.names c.in_ok-place.ensures.place c.in_ok-put.ensures

pub returns-clause-even : goal.returns-clause-even
returns-clause-even g c = record {
  beside =
      even_after string_bytes (λ v. v.items) c.args.self.now.names.keys c.args.self.now.scripts.items
      c.requires.even.beside c.place_of.new.names.keys c.put.new.scripts.items
      c.args.name.now c.args.script c.in_ok-place.ensures.names c.in_ok-place.ensures.place c.in_ok-put.ensures;
  counted = ap (λ n. n + 1) c.requires.even.counted
      ∙ sym (count-add (callers_in c.args.self.now) (record { caller = c.args.name.now; script = c.args.script }))
      ∙ sym (ap count_scripts (returns-clause-added g c));
}
