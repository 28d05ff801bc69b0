use Rattle.script_reader.proofs.Common.{◌≡◌, ◌||◌, ◌&&◌, Bool, not, true, false, nat_le, refl, sym, ap, ◌∙◌, arith, length, string_bytes, lt-leb, le-leb}
use Rattle.script_reader.proofs.Common.{MOST_CALLERS, MOST_SCRIPTS, callers_in, is_caller}
use Rattle.script_reader.proofs.language.Grouped.Gathering.{count_callers, has_caller}
use Rattle.script_reader.proofs.language.gathering.Gathering.is_full_for.Goals as goal

-- a test beside one that passes
with_true : (b : Bool) → b ≡ (b && true)
with_true true = refl
with_true false = refl

-- and beside one that does not
with_false : (b : Bool) → false ≡ (b && false)
with_false true = refl
with_false false = refl

pub returns-then-len-ge-MOST_CALLERS : goal.returns-then-len-ge-MOST_CALLERS
returns-then-len-ge-MOST_CALLERS g c =
    let callers = callers_in c.args.self.now in
    let few = lt-leb MOST_SCRIPTS c.args.self.now.count c.if-self-ge-MOST_SCRIPTS.false in
    let known : is_caller c.args.name.now callers ≡ c.contains.result =
    has_caller string_bytes (λ v. v.items) c.args.self.now.names.keys c.args.self.now.scripts.items
    c.requires.beside c.args.name.now ∙ sym c.contains.ensures in
    let many : nat_le MOST_CALLERS (length callers) ≡ true =
    le-leb MOST_CALLERS (length callers) (omega (
      arith,
      count_callers string_bytes (λ v. v.items) c.args.self.now.names.keys
          c.args.self.now.scripts.items c.requires.beside,
      c.len.ensures.len,
      c.if-len-ge-MOST_CALLERS.true,
    )) in
    with_true (not c.contains.result)
    ∙ sym (λ i. (ap (nat_le MOST_SCRIPTS) (sym c.requires.counted) ∙ few) i || (not (known i) && many i))

pub returns-else-len-ge-MOST_CALLERS : goal.returns-else-len-ge-MOST_CALLERS
returns-else-len-ge-MOST_CALLERS g c =
    let callers = callers_in c.args.self.now in
    let few = lt-leb MOST_SCRIPTS c.args.self.now.count c.if-self-ge-MOST_SCRIPTS.false in
    let room : nat_le MOST_CALLERS (length callers) ≡ false =
    lt-leb MOST_CALLERS (length callers) (omega (
      arith,
      count_callers string_bytes (λ v. v.items) c.args.self.now.names.keys
          c.args.self.now.scripts.items c.requires.beside,
      c.len.ensures.len,
      c.if-len-ge-MOST_CALLERS.false,
    )) in
    lt-leb MOST_CALLERS c.len.result c.if-len-ge-MOST_CALLERS.false
    ∙ with_false (not (is_caller c.args.name.now callers))
    ∙ sym (λ i. (ap (nat_le MOST_SCRIPTS) (sym c.requires.counted) ∙ few) i || (not (is_caller c.args.name.now callers) && room i))
