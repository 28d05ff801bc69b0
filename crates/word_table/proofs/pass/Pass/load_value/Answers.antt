use Rattle.word_table.proofs.Common.{◌<◌, length, refl, sym, ap, ◌∙◌, subst, View, lock_of_word, has, IsGranted, IsGood, load_value_action, IsSound, PassView}
use Rattle.word_table.proofs.Common.{locks_found}
use Rattle.word_table.proofs.Copied.After.{copy_after, steady, lock_copy, busy, runs_on}
use Rattle.word_table.proofs.Copied.VersionCopies.{use_found, versions_read}
use Rattle.word_table.proofs.Calls.Committing.{load_reads}
use Rattle.word_table.proofs.Calls.Taken.{taken_in, own_number}
use Rattle.word_table.proofs.pass.Pass.load_value.Goals as goal

pub load-requires-clause-may : goal.load-requires-clause-may
load-requires-clause-may g c = let p = c.self.inside in let i = c.self.invariant in let v : View = p.seat.me.0 in
    let runs = ap (λ (x : PassView). x.view.phase) c.self.view_is ∙ c.requires.phase in
    let used = ap (λ (x : PassView). has (lock_of_word c.args.a) (locks_found x.view.uses)) c.self.view_is ∙ c.requires.used in record {
      who = i.call_is.who_is;
      phase = runs;
      word = subst (λ (x : PassView). c.args.a < length x.view.base) (sym c.self.view_is) c.requires.word;
      granted = i.holds_used runs (lock_of_word c.args.a) used;
      used = use_found v.uses (lock_of_word c.args.a) used;
    }

pub invariant_of-self : goal.invariant_of-self
invariant_of-self g c = let i = c.self.invariant in let p = c.self.inside in let l = i.locks_are in let v : View = p.seat.me.0 in
    let t = c.load.ensures.took in let w : View = (load_value_action p.call.who c.args.a v).view c.load.result in
    copy_after i p.call.phase p.locks c.load.new.seat.table_id c.load.new.seat.me w c.load.ensures.seat t.0.view t.1
    (steady v w refl refl refl refl refl refl) i.call_is.phase_is
    (lock_copy p.locks w l.bits_are l.reads_are l.claims_are l.scans_are
    (versions_read p.locks.versions v.uses v.owed v.trace v.undo v.phase l.versions_are c.args.a c.load.result
    (ap (λ (x : PassView). has (lock_of_word c.args.a) (locks_found x.view.uses)) c.self.view_is ∙ c.requires.used)))
    (busy w (runs_on v w refl (ap (λ (x : PassView). x.view.phase) c.self.view_is ∙ c.requires.phase))) i.holds_used

pub returns-clause-taken : goal.returns-clause-taken
returns-clause-taken g c = let p = c.self.inside in
    taken_in (IsSound (IsGood (g.S.Shape.word_count c.args.table.now.key.shape)
    (g.S.Shape.good c.args.table.now.key.shape)) c.args.table.now.key.seats c.args.table.now.key.base.items)
    (λ j k. load_value_action j c.args.a) p.call.who 0 0 p.seat.me c.load.new.seat.me.0 p.seat.table_id
    c.args.self.now c.load.result c.self.view_is c.self.invariant.call_is.who_is refl c.load.ensures.took.0

pub returns-clause-fits : goal.returns-clause-fits
returns-clause-fits g c = let p = c.self.inside in let i = c.self.invariant in
    load_reads (IsGood (g.S.Shape.word_count c.args.table.now.key.shape) (g.S.Shape.good c.args.table.now.key.shape))
    c.args.table.now.key.seats c.args.table.now.key.base.items c.args.a c.args.self.now.view c.load.new.seat.me.0
    c.load.result (returns-clause-taken g c) record {
      who = own_number p.call.who p.seat.me.0 p.seat.table_id c.args.self.now c.self.view_is i.call_is.who_is;
      phase = c.requires.phase;
      word = c.requires.word;
      granted = subst (λ (x : PassView). IsGranted x.view (lock_of_word c.args.a)) c.self.view_is
          (i.holds_used (ap (λ (x : PassView). x.view.phase) c.self.view_is ∙ c.requires.phase) (lock_of_word c.args.a)
          (ap (λ (x : PassView). has (lock_of_word c.args.a) (locks_found x.view.uses)) c.self.view_is ∙ c.requires.used));
      used = use_found c.args.self.now.view.uses (lock_of_word c.args.a) c.requires.used;
    }
