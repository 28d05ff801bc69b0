use Rattle.txn_commit.proofs.Common.{◌≡◌, ℕ, ◌<◌, ◌≤◌, [], ◌∷◌, ◌++◌, length, None, inr, refl, sym, ap, ◌∙◌, subst, arith, append_assoc, Read, Write, View}
use Rattle.txn_commit.proofs.Common.{lock_of_word, count_writes, Trace, number, HasWriteGrant, Room, UNDO_ROOM, IsSoundAttempt}
use Rattle.txn_commit.proofs.Attempts.{asks_none, did_load, did_store, held_sound, loaded_last, noted_count, noted_granted, noted_there, noted_within, of_made}
use Rattle.txn_commit.proofs.Attempts.{of_refused, refused_when_full, store_sound}
use Rattle.txn_commit.proofs.attempt.put_back.Goals as goal

pub at-a-requires : goal.at-a-requires
at-a-requires g c =
    let pass = c.args.pass.now in
    let counts : length c.args.undo.now.list ≡ count_writes pass.view.trace =
    noted_count g.S.Shape.word_count g.S.Shape.good c.args.desk.now c.args.began.now.value pass c.args.undo.now None c.requires.sound in
    omega (arith, counts, c.requires.place)

pub load-now-requires : goal.load-now-requires
load-now-requires g c =
    let pass = c.args.pass.now in let sound = c.requires.sound in let a = c.at-a.result.0 in
    let within = noted_within g.S.Shape.word_count g.S.Shape.good c.args.desk.now c.args.began.now.value pass
    c.args.undo.now None sound c.args.place a c.at-a.result.1 c.at-a.ensures in
    let grant = noted_granted g.S.Shape.word_count g.S.Shape.good c.args.desk.now c.args.began.now.value pass
    c.args.undo.now None sound c.args.place a c.at-a.result.1 c.at-a.ensures in
    record {
      desk = sound.table;
      phase = sound.stands.phase;
      word = subst (λ (n : ℕ). a < n) (sym sound.words) within;
      granted = inr grant;
    }

pub store-requires : goal.store-requires
store-requires g c =
    let pass = c.args.pass.now in let sound = c.requires.sound in let a = c.at-a.result.0 in
    let within = noted_within g.S.Shape.word_count g.S.Shape.good c.args.desk.now c.args.began.now.value pass
    c.args.undo.now None sound c.args.place a c.at-a.result.1 c.at-a.ensures in
    let grant = noted_granted g.S.Shape.word_count g.S.Shape.good c.args.desk.now c.args.began.now.value pass
    c.args.undo.now None sound c.args.place a c.at-a.result.1 c.at-a.ensures in
    let held = held_sound g.S.Shape.word_count g.S.Shape.good c.args.desk.now c.args.began.now.value a c.load-now.result
    pass pass c.load-now.new.pass c.args.undo.now None
    refl sound refl (asks_none a pass.view) sound.judged refl c.load-now.ensures.desk c.load-now.ensures.event c.load-now.ensures.fits in
    record {
      desk = held.table;
      phase = held.stands.phase;
      word = subst (λ (n : ℕ). a < n) (sym held.words) within;
      granted = subst (λ (v : View). HasWriteGrant v (lock_of_word a)) (sym c.load-now.ensures.event) grant;
      read = (pass.view.trace, c.load-now.result, loaded_last a c.load-now.result pass.view c.load-now.new.pass.view c.load-now.ensures.event);
    }

pub returns : goal.returns
returns g c =
    let pass = c.args.pass.now in let sound = c.requires.sound in let a = c.at-a.result.0 in let was = c.at-a.result.1 in let x = c.load-now.result in
    let within = noted_within g.S.Shape.word_count g.S.Shape.good c.args.desk.now c.args.began.now.value pass
    c.args.undo.now None sound c.args.place a was c.at-a.ensures in
    let grant = noted_granted g.S.Shape.word_count g.S.Shape.good c.args.desk.now c.args.began.now.value pass
    c.args.undo.now None sound c.args.place a was c.at-a.ensures in
    let held = held_sound g.S.Shape.word_count g.S.Shape.good c.args.desk.now c.args.began.now.value a x pass pass c.load-now.new.pass c.args.undo.now None
    refl sound refl (asks_none a pass.view) sound.judged refl c.load-now.ensures.desk c.load-now.ensures.event c.load-now.ensures.fits in
    let last = loaded_last a x pass.view c.load-now.new.pass.view c.load-now.ensures.event in
    let made = sym c.if-is_err.ensures.value in
    let written : c.store.new.pass.view.trace ≡ pass.view.trace ++ Read a x ∷ Write a was ∷ [] =
    ap (λ (v : View). v.trace) c.store.ensures.step ∙ ap (λ (t : Trace). t ++ Write a was ∷ []) last
    ∙ append_assoc pass.view.trace (Read a x ∷ []) (Write a was ∷ []) in
    record {
      back = record {
        a = a;
        was = was;
        within = within;
        note = noted_there g.S.Shape.word_count g.S.Shape.good c.args.desk.now c.args.began.now.value pass
            c.args.undo.now None sound c.args.place a was c.at-a.ensures;
        ends = inr (x, written);
      };
      begins = (Read a x ∷ Write a was ∷ [], written);
      sound =
          store_sound g.S.Shape.word_count g.S.Shape.good c.args.desk.now c.args.began.now.value a was x pass.view.trace
          c.load-now.new.pass c.store.new.pass c.args.undo.now c.note.new.self
          held within (subst (λ (v : View). HasWriteGrant v (lock_of_word a)) (sym c.load-now.ensures.event) grant) last
          c.store.ensures.desk c.store.ensures.step (c.store.ensures.noted pass.view.trace x last)
          (of_made c.note.result made c.note.ensures.ok) (of_made c.note.result made c.note.ensures.spare);
      events =
          did_store (number c.load-now.new.pass.view) a was pass.view c.load-now.new.pass.view c.store.new.pass.view
          (did_load (pass.view.trace ++ Read a x ∷ []) pass.view pass.view c.load-now.new.pass.view refl c.load-now.ensures.event) c.store.ensures.step;
      full = tt;
      memory = tt;
      spare = of_made c.note.result made c.note.ensures.spare;
    }

pub returns-then-is_err : goal.returns-then-is_err
returns-then-is_err g c =
    let pass = c.args.pass.now in let sound = c.requires.sound in let a = c.at-a.result.0 in let x = c.load-now.result in
    let held = held_sound g.S.Shape.word_count g.S.Shape.good c.args.desk.now c.args.began.now.value a x pass pass c.load-now.new.pass c.args.undo.now None
    refl sound refl (asks_none a pass.view) sound.judged refl c.load-now.ensures.desk c.load-now.ensures.event c.load-now.ensures.fits in
    let last = loaded_last a x pass.view c.load-now.new.pass.view c.load-now.ensures.event in
    let refused = sym c.if-is_err.ensures.value in
    let full : c.args.undo.now.spare ≡ 0 = refused_when_full c.note.result c.args.undo.now.spare refused c.note.ensures.succeeds in
    let same : c.note.new.self ≡ c.args.undo.now = of_refused c.note.result refused c.note.ensures.err in
    let room = sound.room in
    let many : UNDO_ROOM ≤ length c.args.undo.now.list = omega (arith, full, room) in
    record {
      back = tt;
      begins = (Read a x ∷ [], last);
      sound = subst (λ (log : Room). IsSoundAttempt g.S.Shape.word_count g.S.Shape.good c.args.desk.now c.args.began.now.value
          c.load-now.new.pass log None) (sym same) held;
      events = did_load (pass.view.trace ++ Read a x ∷ []) pass.view pass.view c.load-now.new.pass.view refl c.load-now.ensures.event;
      full = subst (λ (log : Room). UNDO_ROOM ≤ length log.list) (sym same) many;
      memory = full;
      spare = omega (arith, full);
    }
