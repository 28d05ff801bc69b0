use Rattle.txn_commit.proofs.Common.{◌≡◌, ℕ, ◌<◌, Bool, Option, None, Some, Result, Ok, Err, List, length, refl, sym, ap, ◌∙◌, subst, rules, Abandoned, Running}
use Rattle.txn_commit.proofs.Common.{View, IsGood, after_commit, ReadsArranged, PassView, DeskView, Halt, StandsAs, start_of, stop_of, Undoes, LeavesFootprint}
use Rattle.txn_words.specs.declared.words.Stop.{Stop}
use Rattle.txn_words.specs.Verdicts.{is_kept, answer_of}
use Rattle.txn_commit.specs.Transactions.{SameSeat}
use Rattle.txn_commit.proofs.Footprints.{commits_footprint, footprint_same}
use Rattle.txn_commit.proofs.Attempts.{not_halted, same_call}
use Rattle.txn_commit.proofs.Ending.{same_desk, same_pass, still_reads, gets_entry, is_meant, meant, undone_seen, one_more, ran_on, still_runs, gave_way}
use Rattle.txn_words.specs.declared.words.Stop.TheVariants as stop
use Rattle.txn_commit.specs.declared.attempt.Halt.TheVariants as halt
use Rattle.txn_commit.proofs.transaction.run_attempts.Goals as goal

-- what began from the same has the same name, and its table is the same
same_name : {S : Type 0} (d e : DeskView S) (m n : ℕ) (p q : PassView) → start_of d m p ≡ start_of e n q → m ≡ n
same_name d e m n p q s = ap (λ o. o.name) s

same_table : {S : Type 0} (d e : DeskView S) → d ≡ e → d.table ≡ e.table
same_table d e same = ap (λ x. x.table) same

-- what a commit leaves, and what undoing leaves
seat_after_commit : (first old new : View) (kept : Bool) → new ≡ after_commit kept old → SameSeat first old → SameSeat first new
seat_after_commit first old new kept e same = record {
  who = ap (λ (v : View). v.who) e ∙ same.who;
  base = ap (λ (v : View). v.base) e ∙ same.base;
  seats = ap (λ (v : View). v.seats) e ∙ same.seats;
}

seat_after_undo : (first old new : View) → Undoes old new → SameSeat first old → SameSeat first new
seat_after_undo first old new undone same = record {
  who = ap (λ (v : View). v.who) undone.some.rest ∙ same.who;
  base = ap (λ (v : View). v.base) undone.some.rest ∙ same.base;
  seats = ap (λ (v : View). v.seats) undone.some.rest ∙ same.seats;
}

call_after_undo : (old new : View) → Undoes old new → new.call ≡ old.call
call_after_undo old new undone = ap (λ (v : View). v.call) undone.some.rest

floor_after_undo : (old new : View) → Undoes old new → new.floor ≡ old.floor
floor_after_undo old new undone = ap (λ (v : View). v.floor) undone.some.rest

footprint_undone : (old new : View) → Undoes old new → LeavesFootprint old → LeavesFootprint new
footprint_undone old new undone =
    footprint_same old new (ap (λ (v : View). v.trace) undone.some.rest)
    (ap (λ (v : View). v.abandoned) undone.some.rest) (ap (λ (v : View). v.meetings) undone.some.rest) (ap (λ (v : View). v.asked) undone.some.rest)

reads_undone : (good : List ℕ → Type 0) (n : ℕ) (base : List ℕ) (old new : View) → Undoes old new → ReadsArranged good n base old
    → ReadsArranged good n base new
reads_undone good n base old new undone = let rest = undone.some.rest in still_reads good n base old new (record {
  who = ap (λ (v : View). v.who) rest;
  call = ap (λ (v : View). v.call) rest;
  seats = ap (λ (v : View). v.seats) rest;
  seen = ap (λ (v : View). v.seen) rest;
  abandoned = ap (λ (v : View). v.abandoned) rest;
  trace = ap (λ (v : View). v.trace) rest;
})

memory_not_yield : {A : Type 0} (r : Result A Stop) → r ≡ Err stop.Memory → r ≡ Err stop.Yield → ⊥
memory_not_yield (Ok x) m y = cc
memory_not_yield (Err s) m y = cc

-- an attempt that did not give way still runs
runs_at_memory : (n : ℕ) (halted : Option Halt) (began now : View) → ¬ (stop_of halted ≡ Some stop.Yield) → StandsAs n halted began now → now.phase ≡ Running
runs_at_memory n None began now not s = s.phase
runs_at_memory n (Some (halt.Yield cause)) began now not s = absurd (not refl)
runs_at_memory n (Some halt.Memory) began now not s = s.phase

pub returns-in-Ok : goal.returns-in-Ok
returns-in-Ok g c = let inv = c.loop-restarts.invariant in let first = c.args.attempt.now.pass.now.view in let at =
    c.loop-restarts.attempt in let ran = c.run.new.w in
    let same = ran_on first ran.began.value at.began.value at.pass.now ran.pass.now.view inv.call
    (same_pass ran.desk.now at.desk.now ran.pass.ghost_name at.pass.ghost_name ran.began.value at.began.value
    c.run.ensures.origin) inv.began c.run.ensures.sound.call in
    let runs = still_runs ran.desk.now.seats ran.halt ran.began.value.view ran.pass.now.view
    (not_halted ran.halt (c.in-Ok.ensures.done)) c.run.ensures.sound.stands in
    let desk = same_desk ran.desk.now at.desk.now ran.pass.ghost_name at.pass.ghost_name ran.began.value at.began.value c.run.ensures.origin ∙ inv.desk in
    let shape = ap (λ d. d.shape) desk ∙ sym c.requires.job in
    let commits = c.in-Ok-commit_or_undo.ensures.entry in
    let new = c.commit_or_undo.new.attempt.pass.now.view in
    record {
      name = c.commit_or_undo.ensures.name
          ∙ (same_name ran.desk.now at.desk.now ran.pass.ghost_name at.pass.ghost_name ran.began.value at.began.value c.run.ensures.origin ∙ inv.name);
      desk = c.commit_or_undo.ensures.desk ∙ same_table ran.desk.now c.args.attempt.now.desk.now desk;
      seat = seat_after_commit first ran.pass.now.view new c.decision-kept.result.0 commits same.seat;
      call = ap (λ (v : View). v.call) commits ∙ (same.call ∙ c.requires.call);
      undone = ap (λ (v : View). v.undo) commits;
      entry =
          gets_entry (g.S.Shape.word_count ran.desk.now.shape) (g.S.Shape.good ran.desk.now.shape)
          (IsGood (g.S.Shape.word_count c.args.attempt.now.desk.now.shape) (g.S.Shape.good c.args.attempt.now.desk.now.shape))
          (g.J.Job.means c.args.job.now) c.decision-kept.result.0 c.args.call first
          ran.pass.now.view c.commit_or_undo.new.attempt.pass.now.view
          (record { call = c.args.call; restarts = c.loop-restarts.restarts; uses = c.in-Ok-commit_or_undo.uses; answer = c.decision-kept.result.1 })
          same c.requires.floor c.requires.call
          commits
          refl
          (ap (λ (l : List Abandoned). length l) runs.abandoned
          ∙ (ap (λ (p : PassView). length p.view.abandoned) (same_pass ran.desk.now at.desk.now ran.pass.ghost_name
          at.pass.ghost_name ran.began.value at.began.value c.run.ensures.origin ∙ inv.began) ∙ inv.restarts))
          c.in-Ok-commit_or_undo.ensures.uses
          c.in-Ok-commit_or_undo.ensures.knew
          (meant (g.J.Job.means c.args.job.now) g.S.Shape.word_count g.S.Shape.good ran.desk.now.shape
          (g.J.Job.shape c.args.job.now) ran.pass.now.view.trace (is_kept c.in-Ok.verdict) c.decision-kept.result.0
          (answer_of c.in-Ok.verdict) c.decision-kept.result.1
          shape c.decision-kept.ensures.kept c.decision-kept.ensures.answer c.in-Ok.ensures.meaning)
          (λ s good. subst (λ d. IsGood (g.S.Shape.word_count d.shape) (g.S.Shape.good d.shape) s) (sym desk) good);
      meant =
          is_meant (g.S.Shape.word_count ran.desk.now.shape) (g.S.Shape.good ran.desk.now.shape)
          (IsGood (g.S.Shape.word_count c.args.attempt.now.desk.now.shape) (g.S.Shape.good c.args.attempt.now.desk.now.shape))
          (g.J.Job.means c.args.job.now) c.decision-kept.result.0 ran.pass.now.view.trace c.decision-kept.result.1
          c.run.ensures.sound.fits
          (meant (g.J.Job.means c.args.job.now) g.S.Shape.word_count g.S.Shape.good ran.desk.now.shape
          (g.J.Job.shape c.args.job.now) ran.pass.now.view.trace (is_kept c.in-Ok.verdict) c.decision-kept.result.0
          (answer_of c.in-Ok.verdict) c.decision-kept.result.1
          shape c.decision-kept.ensures.kept c.decision-kept.ensures.answer c.in-Ok.ensures.meaning)
          (λ s good. subst (λ d. IsGood (g.S.Shape.word_count d.shape) (g.S.Shape.good d.shape) s) desk good);
      few = subst (λ (n : ℕ). n < c.args.attempt.now.desk.now.seats) inv.restarts inv.few;
      committed = ap (λ (v : View). v.phase) commits;
      seen = search rules;
      floor = search rules;
      given_up = search rules;
      footprint =
          commits_footprint c.decision-kept.result.0 ran.pass.now.view.seen ran.pass.now.view new
          (ap (λ (v : View). v.seen) commits) (ap (λ (v : View). v.asked) commits) (ap (λ (v : View). v.meetings) commits)
          c.run.ensures.sound.footprint;
      left = search rules;
      last = search rules;
    }

pub returns-in-Err-Memory : goal.returns-in-Err-Memory
returns-in-Err-Memory g c = let inv = c.loop-restarts.invariant in let first = c.args.attempt.now.pass.now.view in
    let at = c.loop-restarts.attempt in let ran = c.run.new.w in
    let same = ran_on first ran.began.value at.began.value at.pass.now ran.pass.now.view inv.call
    (same_pass ran.desk.now at.desk.now ran.pass.ghost_name at.pass.ghost_name ran.began.value at.began.value
    c.run.ensures.origin) inv.began c.run.ensures.sound.call in
    let desk = same_desk ran.desk.now at.desk.now ran.pass.ghost_name at.pass.ghost_name ran.began.value at.began.value c.run.ensures.origin ∙ inv.desk in
    let undone = c.undo_all.ensures.undone in
    let new = c.undo_all.new.pass.view in
    record {
      name = same_name ran.desk.now at.desk.now ran.pass.ghost_name at.pass.ghost_name ran.began.value at.began.value c.run.ensures.origin ∙ inv.name;
      desk = c.undo_all.ensures.desk ∙ (c.run.ensures.sound.table ∙ same_table ran.desk.now c.args.attempt.now.desk.now desk);
      seat = seat_after_undo first ran.pass.now.view new undone same.seat;
      call = call_after_undo ran.pass.now.view new undone ∙ (same.call ∙ c.requires.call);
      undone = undone.none_left;
      entry = search rules;
      meant = search rules;
      few = search rules;
      committed = search rules;
      seen = undone_seen first ran.pass.now.view c.undo_all.new.pass.view same c.undo_all.ensures.undone;
      floor = floor_after_undo ran.pass.now.view new undone ∙ same.floor;
      given_up = search rules;
      footprint = search rules;
      left = footprint_undone ran.pass.now.view new undone c.run.ensures.sound.footprint;
      last =
          subst (λ d. ReadsArranged (IsGood (g.S.Shape.word_count d.shape) (g.S.Shape.good d.shape)) d.seats d.base new) desk
          (reads_undone (IsGood (g.S.Shape.word_count ran.desk.now.shape) (g.S.Shape.good ran.desk.now.shape))
          ran.desk.now.seats ran.desk.now.base ran.pass.now.view new undone
          (c.run.ensures.sound.current (runs_at_memory ran.desk.now.seats ran.halt ran.began.value.view
          ran.pass.now.view (λ e. memory_not_yield c.run.result (search rules) (c.run.ensures.yields.1 e)) c.run.ensures.sound.stands)));
    }

pub loop-restarts-preserved : goal.loop-restarts-preserved
loop-restarts-preserved g c = let inv = c.loop-restarts.invariant in let first = c.args.attempt.now.pass.now.view in
    let at = c.loop-restarts.attempt in let ran = c.run.new.w in let next = c.give_way.new.attempt in
    let kept = same_pass ran.desk.now at.desk.now ran.pass.ghost_name at.pass.ghost_name ran.began.value at.began.value c.run.ensures.origin in
    let same = ran_on first ran.began.value at.began.value at.pass.now ran.pass.now.view inv.call kept inv.began c.run.ensures.sound.call in
    let gave = gave_way ran.desk.now.seats ran.halt c.cause_of-cause.result ran.began.value.view ran.pass.now.view
    c.cause_of-cause.ensures c.run.ensures.sound.stands in
    let desk = same_desk ran.desk.now at.desk.now ran.pass.ghost_name at.pass.ghost_name ran.began.value at.began.value c.run.ensures.origin ∙ inv.desk in
    let more = one_more ran.desk.now.seats c.loop-restarts.restarts c.cause_of-cause.result at.pass.now.view
    ran.began.value.view ran.pass.now.view next.pass.now.view (ap (λ (p : PassView). p.view) (kept ∙ inv.began))
    inv.restarts gave c.give_way.ensures.abandoned in
    record {
      name = c.give_way.ensures.name ∙ (ap (λ s. s.name) c.run.ensures.origin ∙ inv.name);
      desk = c.give_way.ensures.desk ∙ desk;
      sound = c.give_way.ensures.sound;
      began = c.give_way.ensures.began;
      going = c.give_way.ensures.going;
      fresh = c.give_way.ensures.fresh;
      call = same_call first ran.pass.now.view next.pass.now.view same c.give_way.ensures.call;
      restarts = more.0;
      few = subst (λ d. length next.pass.now.view.abandoned < d.seats) desk more.1;
    }

-- there was no memory for the list of uses, and all was undone
pub returns-in_default-clause-seen : goal.returns-in_default-clause-seen
returns-in_default-clause-seen g c = let inv = c.loop-restarts.invariant in let first = c.args.attempt.now.pass.now.view in let at =
    c.loop-restarts.attempt in let ran = c.run.new.w in
    undone_seen first ran.pass.now.view c.commit_or_undo.new.attempt.pass.now.view
    (ran_on first ran.began.value at.began.value at.pass.now ran.pass.now.view inv.call
    (same_pass ran.desk.now at.desk.now ran.pass.ghost_name at.pass.ghost_name ran.began.value at.began.value
    c.run.ensures.origin) inv.began c.run.ensures.sound.call) c.in_default.ensures.undone

pub returns-in_default-clause-left : goal.returns-in_default-clause-left
returns-in_default-clause-left g c = let ran = c.run.new.w in
    footprint_undone ran.pass.now.view c.commit_or_undo.new.attempt.pass.now.view c.in_default.ensures.undone c.run.ensures.sound.footprint

pub returns-in_default-clause-last : goal.returns-in_default-clause-last
returns-in_default-clause-last g c = let inv = c.loop-restarts.invariant in let at = c.loop-restarts.attempt in let ran = c.run.new.w in
    let new = c.commit_or_undo.new.attempt.pass.now.view in
    let runs = still_runs ran.desk.now.seats ran.halt ran.began.value.view ran.pass.now.view
    (not_halted ran.halt (c.in-Ok.ensures.done)) c.run.ensures.sound.stands in
    let desk = same_desk ran.desk.now at.desk.now ran.pass.ghost_name at.pass.ghost_name ran.began.value at.began.value c.run.ensures.origin ∙ inv.desk in
    subst (λ d. ReadsArranged (IsGood (g.S.Shape.word_count d.shape) (g.S.Shape.good d.shape)) d.seats d.base new) desk
    (reads_undone (IsGood (g.S.Shape.word_count ran.desk.now.shape) (g.S.Shape.good ran.desk.now.shape))
    ran.desk.now.seats ran.desk.now.base ran.pass.now.view new c.in_default.ensures.undone (c.run.ensures.sound.current runs.phase))
