use Rattle.word_table.proofs.Common.{true, List, [], ℕ, ◌≡◌, sym, subst, has, number, has-join_same}
use Rattle.word_table.proofs.Calls.Taken.{own_number}
use Rattle.word_table.proofs.pass.Pass.into_seat.Goals as goal

pub returns-clause-named : goal.returns-clause-named
returns-clause-named g c = let p = c.self.inside in let single =
    own_number p.call.who p.seat.me.0 p.seat.table_id c.args.self c.self.view_is c.self.invariant.call_is.who_is in
    subst (λ (l : List ℕ). has (number c.args.self.view) l ≡ true) (sym single) (has-join_same (number c.args.self.view) [])
