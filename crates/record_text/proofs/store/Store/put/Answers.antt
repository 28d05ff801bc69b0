use Rattle.record_text.proofs.Common.{◌≡◌, Bool, true, false, not, ◌&&◌, refl, sym, ap, ◌∙◌, subst, nat_cmp_total, exact_unsigned, from_entries-inserted}
use Rattle.record_text.proofs.Common.{the_view, RecordStore, is_store_full, HasRoom, Gives}
use Rattle.record_text.proofs.Puts.{contains_tree, has_room, is_put, lacks_blocks, put_value}
use Rattle.record_text.proofs.store.Store.put.Goals.{Joined-is_there, then-is_there, else-is_there, else-not-is_there-via-then-not-is_there+else-is_full}
use Rattle.record_text.proofs.store.Store.put.Goals.{else-not-is_there-via-else-not-is_there}
use Rattle.std.specs.FinMap as finite
use Rattle.record_text.proofs.store.Store.put.Goals as goal

both : (b f : Bool) → b ≡ false → f ≡ true → (not b && f) ≡ true
both true f e g = absurd (cc)
both false f e g = g

one_is : (b f : Bool) → b ≡ true → (not b && f) ≡ false
one_is true f e = refl
one_is false f e = absurd (cc)

other_not : (b f : Bool) → f ≡ false → (not b && f) ≡ false
other_not true f e = refl
other_not false f e = e

pub returns-then-is_full-clause-step : goal.returns-then-is_full-clause-step
returns-then-is_full-clause-step c =
    lacks_blocks c.args.self.now c.args.id c.args.rank c.args.content
    (both _ _ (contains_tree c.self.inside.records c.args.self.now c.args.id _ (ap (λ s. s.records) c.self.view_is) c.contains_key-is_there.ensures
    ∙ c.if-not-is_there.true)
    (sym c.is_full.ensures ∙ c.if-is_full.true))

-- the record is put
not_lacking : (c : Joined-is_there)
    → (not (finite.contains_key c.args.self.now.records c.args.id) && is_store_full c.args.self.now.blocks c.args.self.now.records) ≡ false
not_lacking c = elim c.else-not-is_there.branch [
  | else-not-is_there-via-then-not-is_there+else-is_full w ↦ other_not _ _ (sym w.is_full.ensures ∙ w.if-is_full.false)
  | else-not-is_there-via-else-not-is_there w ↦ one_is _ _
      (contains_tree c.self.inside.records c.args.self.now c.args.id _ (ap (λ s. s.records) c.self.view_is) c.contains_key-is_there.ensures
      ∙ w.if-not-is_there.false)
]

-- the fields after the insertion show the records with this one
view_after : (c : Joined-is_there) → the_view (record c.self.inside { records = c.insert.new.self })
    ≡ record c.args.self.now { records = finite.insert c.args.self.now.records c.args.id (c.args.rank, c.args.content) }
view_after c =
    ap (λ records. record (the_view c.self.inside) { records = records })
    (from_entries-inserted nat_cmp_total exact_unsigned c.self.inside.records.entries c.insert.new.self.entries
    c.args.id (c.args.rank, c.args.content) c.in_ok-insert.ensures.updates.0)
    ∙ ap (λ (s : RecordStore). record s { records = finite.insert s.records c.args.id (c.args.rank, c.args.content) }) c.self.view_is

pub invariant_of-self-2 : goal.invariant_of-self-2
invariant_of-self-2 c = let j = (goal.at.invariant_of-self-2 c).Joined-is_there in
    subst HasRoom (sym (view_after j))
    (has_room c.args.self.now c.args.id c.args.rank c.args.content (not_lacking j) (subst HasRoom c.self.view_is c.self.invariant))

-- the value by whether it was there
value_is : (c : Joined-is_there) → c.if-is_there.result ≡ put_value c.contains_key-is_there.result
value_is c = elim c.if-is_there.branch [
  | then-is_there w ↦ w.result-is ∙ ap put_value (sym w.if-is_there.true)
  | else-is_there w ↦ w.result-is ∙ ap put_value (sym w.if-is_there.false)
]

pub returns-clause-step : goal.returns-clause-step
returns-clause-step c = let j = (goal.at.returns-clause-step c).Joined-is_there in
    let there = contains_tree c.self.inside.records c.args.self.now c.args.id _ (ap (λ s. s.records) c.self.view_is) c.contains_key-is_there.ensures in
    is_put c.args.self.now c.args.id c.args.rank c.args.content (not_lacking j)
    ∙ ap (λ b. Gives (put_value b) (finite.insert c.args.self.now.records c.args.id (c.args.rank, c.args.content))) there
    ∙ ap (λ v. Gives v (finite.insert c.args.self.now.records c.args.id (c.args.rank, c.args.content))) (sym (value_is j))
    ∙ ap (λ records. Gives c.if-is_there.result records) (sym (ap (λ s. s.records) (view_after j)))
