use Rattle.txn_commit.proofs.Common.{ℕ, ◌<◌, [], ◌∷◌, Option, None, length, refl, sym, ap, ◌∙◌, subst, Read, View, IsGood, ReadsArranged, PassView, DeskView}
use Rattle.txn_commit.proofs.Common.{Halt, IsSoundAttempt, stop_of, AsksForWord}
use Rattle.std.proofs.Common.{append-nil}
use Rattle.txn_commit.proofs.Attempts.{begun_origin, held_sound, not_halted, sound_as, yields_sound}
use Rattle.txn_commit.proofs.Asking.{asks_trace, load_asked, load_locks, load_trace, used_load}
use Rattle.lock_or_yield.specs.declared.turn.Intent.TheVariants as intent
use Rattle.txn_commit.proofs.attempt.AttemptWords.read.Goals as goal

pub use_or_yield-requires : goal.use_or_yield-requires
use_or_yield-requires g c =
    let sound = subst (λ (h : Option Halt). IsSoundAttempt g.S.Shape.word_count g.S.Shape.good c.args.self.now.desk.now
    c.args.self.now.began.value c.args.self.now.pass.now c.args.self.now.undo h) (not_halted c.args.self.now.halt c.requires.going) c.requires.sound in
    record {
      desk = sound.table;
      phase = sound.stands.phase;
      word = subst (λ (n : ℕ). c.args.a < n) (sym sound.words) c.requires.within;
      judged = sound.judged;
    }

-- the attempt gave way while it asked for the lock
pub returns-then-not-use_or_yield : goal.returns-then-not-use_or_yield
returns-then-not-use_or_yield g c =
    let sound = subst (λ (h : Option Halt). IsSoundAttempt g.S.Shape.word_count g.S.Shape.good c.args.self.now.desk.now
    c.args.self.now.began.value c.args.self.now.pass.now c.args.self.now.undo h) (not_halted c.args.self.now.halt c.requires.going) c.requires.sound in
    let e = c.use_or_yield.ensures in let new = c.use_or_yield.new.attempt in let old : View = c.args.self.now.pass.now.view in
    let yields = e.uses.yields c.if-not-use_or_yield.true in
    let asked = subst (λ (v : View). AsksForWord c.args.self.now.desk.now.seats intent.Read c.args.a old c.args.self.now.halt e.uses.answer new.halt v)
    (sym yields.1) e.uses.asks in
    let way = asked.yields yields.0 in
    record {
      value = tt;
      begins = ([], asks_trace c.args.a old new.pass.now.view asked.asks ∙ sym (append-nil old.trace));
      stops = ap stop_of way.1;
      shape = ap (λ (d : DeskView _). d.shape) e.begun.0;
      origin = begun_origin c.args.self.now.desk.now new.desk.now c.args.self.now.pass.ghost_name new.pass.ghost_name
          c.args.self.now.began.value new.began.value e.begun;
      sound = sound_as g.S.Shape.word_count g.S.Shape.good c.args.self.now.desk.now new.desk.now c.args.self.now.began.value new.began.value
          new.pass.now c.args.self.now.undo new.undo _ new.halt e.begun.0 e.begun.2 e.log way.1
          (yields_sound g.S.Shape.word_count g.S.Shape.good c.args.self.now.desk.now c.args.self.now.began.value c.args.a
          c.args.self.now.pass.now new.pass.now c.args.self.now.undo way.0 sound e.table asked.asks asked.judged way.2 way.3);
      memory = λ other. cc;
      asked = asked.asks.asked;
      reads = asked.locks;
    }

-- the lock is in use, and so held
pub load_used-requires : goal.load_used-requires
load_used-requires g c =
    let sound = subst (λ (h : Option Halt). IsSoundAttempt g.S.Shape.word_count g.S.Shape.good c.args.self.now.desk.now
    c.args.self.now.began.value c.args.self.now.pass.now c.args.self.now.undo h) (not_halted c.args.self.now.halt c.requires.going) c.requires.sound in
    let e = c.use_or_yield.ensures in let found = e.uses.finds c.if-not-use_or_yield.false in let on = e.uses.asks.goes_on found.0 in
    record {
      desk = e.table ∙ (sound.table ∙ sym (ap (λ (d : DeskView _). d.table) e.begun.0));
      phase = ap (λ (v : View). v.phase) found.1.0 ∙ (ap (λ (v : View). v.phase) on.1 ∙ sound.stands.phase);
      word = subst (λ (n : ℕ). c.args.a < n) (sym (ap (λ (v : View). length v.base) found.1.0
          ∙ (ap (λ (v : View). length v.base) e.uses.asks.asks.rest ∙ sound.words))) c.requires.within;
      used = found.1.1;
    }

pub returns : goal.returns
returns g c =
    let e = c.use_or_yield.ensures in let new = c.use_or_yield.new.attempt in let old : View = c.args.self.now.pass.now.view in
    let x : ℕ = c.load_used.result in let loaded : View = c.load_used.new.pass.view in
    let found = e.uses.finds c.if-not-use_or_yield.false in let on = e.uses.asks.goes_on found.0 in
    let asks = e.uses.asks.asks in let between : View = e.uses.between in
    let mid : PassView = record { table = c.args.self.now.pass.now.table; view = between; steps = 0 } in
    let event = used_load c.args.a x between new.pass.now.view loaded found.1.0 c.load_used.ensures.event in
    let read = load_trace c.args.a x old between loaded asks event in
    record {
      value = read;
      begins = (Read c.args.a x ∷ [], read);
      stops = ap stop_of on.2 ∙ c.requires.going;
      shape = ap (λ (d : DeskView _). d.shape) e.begun.0;
      origin = begun_origin c.args.self.now.desk.now new.desk.now c.args.self.now.pass.ghost_name new.pass.ghost_name
          c.args.self.now.began.value new.began.value e.begun;
      sound = sound_as g.S.Shape.word_count g.S.Shape.good c.args.self.now.desk.now new.desk.now c.args.self.now.began.value new.began.value
          c.load_used.new.pass c.args.self.now.undo new.undo None new.halt e.begun.0 e.begun.2 e.log
          (on.2 ∙ not_halted c.args.self.now.halt c.requires.going)
          (held_sound g.S.Shape.word_count g.S.Shape.good c.args.self.now.desk.now c.args.self.now.began.value c.args.a
          x c.args.self.now.pass.now mid c.load_used.new.pass c.args.self.now.undo c.args.self.now.halt
          c.requires.going c.requires.sound refl asks e.uses.asks.judged on.1 (c.load_used.ensures.desk ∙ e.table) event
          (subst (λ (d : DeskView _). ReadsArranged (IsGood (g.S.Shape.word_count d.shape) (g.S.Shape.good d.shape)) d.seats d.base loaded)
          e.begun.0 c.load_used.ensures.fits));
      memory = λ other. cc;
      asked = load_asked c.args.a x old between loaded asks event;
      reads = load_locks intent.Read c.args.a x old between loaded e.uses.asks.locks event;
    }
