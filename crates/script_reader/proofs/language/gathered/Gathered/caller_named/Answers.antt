use Rattle.script_reader.proofs.Common.{◌≡◌, ◌<◌, ℕ, ◌≢◌, List, length, [], sym, subst, arith, string_bytes, CallerOf, caller_at, callers_in}
use Rattle.script_reader.proofs.language.Grouped.Besides.{named_where_found, no_caller_named}
use Rattle.script_reader.proofs.language.gathered.Gathered.caller_named.Goals as goal

pub overflow_cast-result : goal.overflow_cast-result
overflow_cast-result g c =
    let there : c.in-Some.place < length (callers_in c.self.inside.gathering) = (named_where_found string_bytes (λ v. v.items)
    c.self.inside.gathering.names.keys c.self.inside.gathering.scripts.items c.self.invariant.even.beside c.args.name.now
    (record { name = []; scripts = [] }) (sym c.in-Some.ensures.index)).0 in
    omega (arith, c.self.invariant.few, there)

pub returns-in-Some-clause-found : goal.returns-in-Some-clause-found
returns-in-Some-clause-found g c =
    let P : List (CallerOf _) → Type 0 = λ l. (c.in-Some.place < length l) × ((caller_at l c.in-Some.place).name ≡ c.args.name.now) in
    subst P c.self.view_is
    (named_where_found string_bytes (λ v. v.items) c.self.inside.gathering.names.keys c.self.inside.gathering.scripts.items
    c.self.invariant.even.beside c.args.name.now (record { name = []; scripts = [] }) (sym c.in-Some.ensures.index))

pub returns-in-None-clause-none : goal.returns-in-None-clause-none
returns-in-None-clause-none g c =
    let P : List (CallerOf _) → Type 0 = λ l. (caller : ℕ) → caller < length l → (caller_at l caller).name ≢ c.args.name.now in
    subst P c.self.view_is
    (λ caller less. no_caller_named string_bytes (λ v. v.items) c.self.inside.gathering.names.keys
    c.self.inside.gathering.scripts.items c.self.invariant.even.beside c.args.name.now (sym c.in-None.ensures.index)
    (record { name = []; scripts = [] }) less)
