use Rattle.word_table.proofs.Common.{ℕ, ap, ◌∙◌, slots_items, IsGood, value_word, ClosedView}
use Rattle.word_table.proofs.Joined.Gathering.{IsClosed, is_closed, desk_closed, all_of_desk}
use Rattle.word_table.proofs.desk.Desk.close_into.Given.{Over}
use Rattle.word_table.proofs.desk.Desk.close_into.Goals as goal

-- what the closed table is seen as
abbrev closed_of : (g : Over) (c : goal.After-free g) → ClosedView g.row.S.Denot
closed_of g c = let t = c.of-made.result.value in record {
  base = t.key.base.items;
  seats = t.key.seats;
  shape = t.key.shape;
  records = c.of-last.result.value.me.0.seen;
  words = c.copy_words.new.words.items;
}

closes : (g : Over) (c : goal.After-free g)
    → IsClosed (IsGood (g.S.Shape.word_count c.args.self.shape) (g.S.Shape.good c.args.self.shape)) c.args.passes.items (closed_of g c)
closes g c = let t = c.self.inside.table in let i = c.self.invariant in let d = c.close_with-closed in let s = c.join_passes-seat in
    desk_closed g.S.Shape.word_count g.S.Shape.good
    (record { table = t.table_id; base = t.key.base.items; seats = t.key.seats; shape = t.key.shape }) c.args.self c.args.passes.items
    (record { base = t.key.base.items; seats = t.key.seats; shape = t.key.shape; records = s.result.me.0.seen; words = c.copy_words.new.words.items })
    (closed_of g c) c.self.view_is
    (ap (λ (made : _). record {
      base = made.key.base.items;
      seats = made.key.seats;
      shape = made.key.shape;
      records = c.of-last.result.value.me.0.seen;
      words = c.copy_words.new.words.items;
    }) c.of-made.ensures
    ∙ ap (λ (x : _). record {
      base = t.key.base.items;
      seats = t.key.seats;
      shape = t.key.shape;
      records = x.me.0.seen;
      words = c.copy_words.new.words.items;
    }) c.of-last.ensures)
    (is_closed (IsGood (g.S.Shape.word_count t.key.shape) (g.S.Shape.good t.key.shape)) t.key.seats t.key.base.items
    (slots_items d.result.words) t.key.shape (slots_items d.result.slots) s.result.id s.result.me t.table_id s.result.table_id
    c.args.passes.items c.pop.new.self.items c.in-Some.last_pass c.place_of_values.result c.copy_words.new.words.items
    (all_of_desk (record { table = t.table_id; base = t.key.base.items; seats = t.key.seats; shape = t.key.shape })
    c.args.self c.args.passes.items c.self.view_is c.requires.all)
    c.in-Some.ensures.items s.ensures d.ensures.values.2
    (c.place_of_values.ensures ∙ ap (λ (k : ℕ). value_word k 0) i.2) c.copy_words.ensures)

pub returns-clause-coherent : goal.returns-clause-coherent
returns-clause-coherent g c = (closes g c).coherent

pub returns-clause-legal : goal.returns-clause-legal
returns-clause-legal g c = (closes g c).legal

pub returns-clause-records : goal.returns-clause-records
returns-clause-records g c = (closes g c).records

pub returns-clause-seen : goal.returns-clause-seen
returns-clause-seen g c = (closes g c).seen
