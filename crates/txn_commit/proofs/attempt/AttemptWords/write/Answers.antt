use Rattle.txn_commit.proofs.Common.{◌≡◌, ℕ, ◌<◌, [], ◌∷◌, ◌++◌, Option, Some, inr, refl, sym, ap, ◌∙◌, subst, arith, append_assoc, rules, Read, Write, View}
use Rattle.txn_commit.proofs.Common.{lock_of_word, Trace, number, HasWriteGrant, store_value_action, Room, GainsAtMost, Halt, IsSoundAttempt, stop_of}
use Rattle.lock_or_yield.proofs.Common.{AsksToWrite}
use Rattle.std.proofs.Common.{append-nil}
use Rattle.txn_commit.proofs.Attempts.{asks_table, loaded_last, not_halted, of_refused, of_made, refused_when_full, yields_sound, held_sound, memory_sound}
use Rattle.txn_commit.proofs.Attempts.{store_sound, held_not_yield, granted_not_yield}
use Rattle.txn_commit.proofs.Asking.{asks_trace, load_asked, load_locks, load_trace}
use Rattle.txn_commit.proofs.attempt.AttemptWords.write.Goals.{in-Held, in-Granted}
use Rattle.lock_or_yield.specs.declared.turn.Intent.TheVariants as intent
use Rattle.txn_commit.specs.declared.attempt.Halt.TheVariants as halt
use Rattle.txn_commit.proofs.attempt.AttemptWords.write.Goals as goal

-- what a store after a load leaves of the trace, of the words asked for and of locks
store_trace : (a was x : ℕ) (first loaded stored : View) → loaded.trace ≡ first.trace ++ Read a was ∷ []
    → stored ≡ (store_value_action (number loaded) a x loaded).view 0 → stored.trace ≡ first.trace ++ Read a was ∷ Write a x ∷ []
store_trace a was x first loaded stored read step =
    ap (λ (v : View). v.trace) step ∙ ap (λ (t : Trace). t ++ Write a x ∷ []) read ∙ append_assoc first.trace (Read a was ∷ []) (Write a x ∷ [])

store_asked : (a x : ℕ) (first loaded stored : View) → GainsAtMost a first.asked loaded.asked
    → stored ≡ (store_value_action (number loaded) a x loaded).view 0 → GainsAtMost a first.asked stored.asked
store_asked a x first loaded stored asked step = subst (λ (v : View). GainsAtMost a first.asked v.asked) (sym step) asked

store_writes : (a x : ℕ) (first loaded stored : View) → AsksToWrite (lock_of_word a) first loaded
    → stored ≡ (store_value_action (number loaded) a x loaded).view 0 → AsksToWrite (lock_of_word a) first stored
store_writes a x first loaded stored writes step = subst (λ (v : View). AsksToWrite (lock_of_word a) first v) (sym step)
    (record { bits = writes.bits; reads = writes.reads; claims = writes.claims; scans = writes.scans })

pub returns-in-Yield : goal.returns-in-Yield
returns-in-Yield g c =
    let none = not_halted c.args.self.now.halt c.requires.going in
    let sound = subst (λ (h : Option Halt). IsSoundAttempt g.S.Shape.word_count g.S.Shape.good c.args.self.now.desk.now
    c.args.self.now.began.value c.args.self.now.pass.now c.args.self.now.undo h) none c.requires.sound in
    let asks = c.in-Yield.ensures.asked.asks in
    let way = c.in-Yield.ensures.asked.yields refl in
    record {
      value = search rules;
      begins = ([], asks_trace c.args.a c.args.self.now.pass.now.view c.ask_to_write.new.pass.view asks ∙ sym (append-nil c.args.self.now.pass.now.view.trace));
      stops = ap stop_of way.1;
      shape = refl;
      origin = refl;
      sound =
          subst (λ (h : Option Halt). IsSoundAttempt g.S.Shape.word_count g.S.Shape.good c.args.self.now.desk.now
          c.args.self.now.began.value c.ask_to_write.new.pass c.args.self.now.undo h) (sym way.1)
          (yields_sound g.S.Shape.word_count g.S.Shape.good c.args.self.now.desk.now c.args.self.now.began.value c.args.a
          c.args.self.now.pass.now c.ask_to_write.new.pass c.args.self.now.undo way.0
          sound c.in-Yield.ensures.desk asks c.in-Yield.ensures.asked.judged way.2 way.3);
      memory = λ room e. cc;
      asked = asks.asked;
      writes = c.in-Yield.ensures.asked.locks;
    }

pub load-old-requires : goal.load-old-requires
load-old-requires g c =
    let none = not_halted c.args.self.now.halt c.requires.going in
    let sound = subst (λ (h : Option Halt). IsSoundAttempt g.S.Shape.word_count g.S.Shape.good c.args.self.now.desk.now
    c.args.self.now.began.value c.args.self.now.pass.now c.args.self.now.undo h) none c.requires.sound in
    let goes_on = c.ask_to_write.ensures.asked.goes_on (elim c.match-ask_to_write.branch [
      | in-Held w ↦
          λ e. held_not_yield (sym w.in-Held.is ∙ e)
      | in-Granted w ↦ λ e. granted_not_yield (sym w.in-Granted.is ∙ e)
    ]) in
    let asked = asks_table g.S.Shape.word_count g.S.Shape.good c.args.self.now.desk.now c.args.self.now.began.value
    c.args.a c.args.self.now.pass.now c.ask_to_write.new.pass c.args.self.now.undo
    sound c.ask_to_write.ensures.desk c.ask_to_write.ensures.asked.asks goes_on.1 in
    record {
      desk = asked.0;
      phase = asked.1;
      word = subst (λ (n : ℕ). c.args.a < n) (sym asked.2) c.requires.within;
      granted = inr goes_on.0;
    }

pub store-requires : goal.store-requires
store-requires g c =
    let goes_on = c.ask_to_write.ensures.asked.goes_on (elim c.match-ask_to_write.branch [
      | in-Held w ↦
          λ e. held_not_yield (sym w.in-Held.is ∙ e)
      | in-Granted w ↦ λ e. granted_not_yield (sym w.in-Granted.is ∙ e)
    ]) in
    let held = held_sound g.S.Shape.word_count g.S.Shape.good c.args.self.now.desk.now c.args.self.now.began.value
    c.args.a c.load-old.result c.args.self.now.pass.now c.ask_to_write.new.pass c.load-old.new.pass c.args.self.now.undo c.args.self.now.halt
    c.requires.going c.requires.sound c.ask_to_write.ensures.desk c.ask_to_write.ensures.asked.asks
    c.ask_to_write.ensures.asked.judged goes_on.1 c.load-old.ensures.desk c.load-old.ensures.event c.load-old.ensures.fits in
    let last = loaded_last c.args.a c.load-old.result c.ask_to_write.new.pass.view c.load-old.new.pass.view c.load-old.ensures.event in
    record {
      desk = held.table;
      phase = held.stands.phase;
      word = subst (λ (n : ℕ). c.args.a < n) (sym held.words) c.requires.within;
      granted = subst (λ (v : View). HasWriteGrant v (lock_of_word c.args.a)) (sym c.load-old.ensures.event) goes_on.0;
      read = (c.ask_to_write.new.pass.view.trace, c.load-old.result, last);
    }

pub returns : goal.returns
returns g c =
    let goes_on = c.ask_to_write.ensures.asked.goes_on (elim c.match-ask_to_write.branch [
      | in-Held w ↦
          λ e. held_not_yield (sym w.in-Held.is ∙ e)
      | in-Granted w ↦ λ e. granted_not_yield (sym w.in-Granted.is ∙ e)
    ]) in
    let held = held_sound g.S.Shape.word_count g.S.Shape.good c.args.self.now.desk.now c.args.self.now.began.value
    c.args.a c.load-old.result c.args.self.now.pass.now c.ask_to_write.new.pass c.load-old.new.pass c.args.self.now.undo c.args.self.now.halt
    c.requires.going c.requires.sound c.ask_to_write.ensures.desk c.ask_to_write.ensures.asked.asks
    c.ask_to_write.ensures.asked.judged goes_on.1 c.load-old.ensures.desk c.load-old.ensures.event c.load-old.ensures.fits in
    let last = loaded_last c.args.a c.load-old.result c.ask_to_write.new.pass.view c.load-old.new.pass.view c.load-old.ensures.event in
    let asks = c.ask_to_write.ensures.asked.asks in
    let read = load_trace c.args.a c.load-old.result c.args.self.now.pass.now.view c.ask_to_write.new.pass.view
    c.load-old.new.pass.view asks c.load-old.ensures.event in
    let written = store_trace c.args.a c.load-old.result c.args.v c.args.self.now.pass.now.view c.load-old.new.pass.view
    c.store.new.pass.view read c.store.ensures.step in
    let made = sym c.if-is_err.ensures.value in
    record {
      value = inr (c.load-old.result, written);
      begins = (Read c.args.a c.load-old.result ∷ Write c.args.a c.args.v ∷ [], written);
      stops = ap stop_of goes_on.2 ∙ c.requires.going;
      shape = refl;
      origin = refl;
      sound =
          subst (λ (h : Option Halt). IsSoundAttempt g.S.Shape.word_count g.S.Shape.good c.args.self.now.desk.now
          c.args.self.now.began.value c.store.new.pass c.note.new.self h) (sym (goes_on.2 ∙ not_halted c.args.self.now.halt c.requires.going))
          (store_sound g.S.Shape.word_count g.S.Shape.good c.args.self.now.desk.now c.args.self.now.began.value c.args.a
          c.args.v c.load-old.result c.ask_to_write.new.pass.view.trace c.load-old.new.pass c.store.new.pass c.args.self.now.undo c.note.new.self
          held c.requires.within (subst (λ (v : View). HasWriteGrant v (lock_of_word c.args.a))
          (sym c.load-old.ensures.event) goes_on.0) last c.store.ensures.desk c.store.ensures.step
          (c.store.ensures.noted c.ask_to_write.new.pass.view.trace c.load-old.result last)
          (of_made c.note.result made c.note.ensures.ok) (of_made c.note.result made c.note.ensures.spare));
      memory = λ room e. cc;
      asked =
          store_asked c.args.a c.args.v c.args.self.now.pass.now.view c.load-old.new.pass.view c.store.new.pass.view
          (load_asked c.args.a c.load-old.result c.args.self.now.pass.now.view c.ask_to_write.new.pass.view
          c.load-old.new.pass.view asks c.load-old.ensures.event) c.store.ensures.step;
      writes =
          store_writes c.args.a c.args.v c.args.self.now.pass.now.view c.load-old.new.pass.view c.store.new.pass.view
          (load_locks intent.Write c.args.a c.load-old.result c.args.self.now.pass.now.view c.ask_to_write.new.pass.view
          c.load-old.new.pass.view c.ask_to_write.ensures.asked.locks c.load-old.ensures.event) c.store.ensures.step;
    }

pub returns-then-is_err-clause-sound : goal.returns-then-is_err-clause-sound
returns-then-is_err-clause-sound g c =
    let goes_on = c.ask_to_write.ensures.asked.goes_on (elim c.match-ask_to_write.branch [
      | in-Held w ↦
          λ e. held_not_yield (sym w.in-Held.is ∙ e)
      | in-Granted w ↦ λ e. granted_not_yield (sym w.in-Granted.is ∙ e)
    ]) in
    let held = held_sound g.S.Shape.word_count g.S.Shape.good c.args.self.now.desk.now c.args.self.now.began.value
    c.args.a c.load-old.result c.args.self.now.pass.now c.ask_to_write.new.pass c.load-old.new.pass c.args.self.now.undo c.args.self.now.halt
    c.requires.going c.requires.sound c.ask_to_write.ensures.desk c.ask_to_write.ensures.asked.asks
    c.ask_to_write.ensures.asked.judged goes_on.1 c.load-old.ensures.desk c.load-old.ensures.event c.load-old.ensures.fits in
    let refused = sym c.if-is_err.ensures.value in
    let full : c.args.self.now.undo.spare ≡ 0 = refused_when_full c.note.result c.args.self.now.undo.spare refused c.note.ensures.succeeds in
    let room = c.requires.sound.room in
    subst (λ (log : Room). IsSoundAttempt g.S.Shape.word_count g.S.Shape.good c.args.self.now.desk.now
    c.args.self.now.began.value c.load-old.new.pass log (Some halt.Memory)) (sym (of_refused c.note.result refused c.note.ensures.err))
    (memory_sound g.S.Shape.word_count g.S.Shape.good c.args.self.now.desk.now c.args.self.now.began.value
    c.load-old.new.pass c.args.self.now.undo held (omega (arith, full, room)))

pub returns-then-is_err-clause-writes : goal.returns-then-is_err-clause-writes
returns-then-is_err-clause-writes g c =
    load_locks intent.Write c.args.a c.load-old.result c.args.self.now.pass.now.view c.ask_to_write.new.pass.view
    c.load-old.new.pass.view c.ask_to_write.ensures.asked.locks c.load-old.ensures.event
