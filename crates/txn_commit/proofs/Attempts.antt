-- An attempt between two of its calls: what asking for a lock, a load, a store and a halt leave of it.
use Rattle.txn_commit.proofs.Common.{◌≡◌, ◌≢◌, ℕ, zero, suc, ◌+◌, ◌<◌, ◌≤◌, List, [], ◌∷◌, ◌++◌, length, All, true, false, inr, Option, Some, None, Result, Ok}
use Rattle.txn_commit.proofs.Common.{Err, OnErr, get_or, slice_get, refl, sym, ap, ◌∙◌, subst, arith, length-append, append-nil, All-append, slice_get_within}
use Rattle.txn_commit.proofs.Common.{get_or_from_slice_get, Abandoned, Cause, Read, Write, View, Fits, IsGood, SomeFits, replay_items, Running, Yielding}
use Rattle.txn_commit.proofs.Common.{lock_of_word, count_writes, has_pair, Trace, Notes, notes_of, number, HasWriteGrant, AreRestartsBounded}
use Rattle.txn_commit.proofs.Common.{store_value_action, Room, ReadsArranged, PassView, DeskView, Asks, MeetsAndYields, WentOn, Halt, UNDO_ROOM, DidEvents}
use Rattle.txn_commit.proofs.Common.{GaveWayTo, IsSoundAttempt, StillRuns, StaysInCall, start_of, stop_of}
use Rattle.txn_words.proofs.Common.{fits_front, notes_counted}
use Rattle.std.proofs.Common.{IsOk, OnOk, is_err}
use Rattle.history_model.proofs.Traces.FittingLaws.{fits_write}
use Rattle.history_model.proofs.Traces.MarkLaws.{read_unnoted, write_noted}
use Rattle.txn_commit.specs.Inner.Asking.{HasBegun}
use Rattle.txn_commit.proofs.Footprints.{footprint_events, footprint_loaded, footprint_yields}
use Rattle.txn_commit.specs.declared.attempt.Asked.TheVariants as asked
use Rattle.txn_commit.specs.declared.attempt.Halt.TheVariants as halt

-- an attempt that gave way, and what the pass then had seen
pub gave_way_to : (n : ℕ) (met : List (ℕ × ℕ)) (cause : Cause) (old new : View)
    → MeetsAndYields met cause old new → AreRestartsBounded n (number old) new → GaveWayTo n cause old new
gave_way_to n met cause old new g bounded = record {
  phase = ap (λ (v : View). v.phase) g.gave_way;
  abandoned = (_, ap (λ (v : View). v.abandoned) g.gave_way, refl, ap (λ (v : View). v.trace) (sym g.gave_way));
  last = g.last;
  seat = g.seat;
  bounded = subst (λ (j : ℕ). AreRestartsBounded n j new) (ap number (sym g.gave_way)) bounded;
}

-- the attempt ran when it gave way
gave_way_since : (n : ℕ) (cause : Cause) (began old new : View) → StillRuns began old → GaveWayTo n cause old new → GaveWayTo n cause began new
gave_way_since n cause began old new r g = record {
  phase = g.phase;
  abandoned = (g.abandoned.0, g.abandoned.1 ∙ ap (λ (l : List Abandoned). l ++ g.abandoned.0 ∷ []) r.abandoned, g.abandoned.2, g.abandoned.3);
  last = g.last;
  seat = g.seat;
  bounded = g.bounded;
}

-- the call goes on
pub same_call : (began old new : View) → StaysInCall began old → StaysInCall old new → StaysInCall began new
same_call began old new f s = record {
  seat = record { who = s.seat.who ∙ f.seat.who; base = s.seat.base ∙ f.seat.base; seats = s.seat.seats ∙ f.seat.seats };
  call = s.call ∙ f.call;
  floor = s.floor ∙ f.floor;
  stamp = λ h. s.stamp (subst (λ (x : ℕ). 0 < x) (sym (f.stamp h)) h) ∙ f.stamp h;
  seen = s.seen ∙ f.seen;
}

asks_same_call : (a : ℕ) (old new : View) → Asks a old new → StaysInCall old new
asks_same_call a old new asks = record {
  seat = record { who = ap (λ (v : View). v.who) asks.rest; base = ap (λ (v : View). v.base) asks.rest; seats = ap (λ (v : View). v.seats) asks.rest };
  call = ap (λ (v : View). v.call) asks.rest;
  floor = ap (λ (v : View). v.floor) asks.rest;
  stamp = asks.stamped;
  seen = ap (λ (v : View). v.seen) asks.rest;
}

-- what a refused note says, and what a note that was made says
pub of_refused : {A E P : Type 0} (r : Result A E) → is_err r ≡ true → OnErr r P → P
of_refused (Ok x) e h = absurd (cc)
of_refused (Err x) e h = h

pub of_made : {A E P : Type 0} (r : Result A E) → is_err r ≡ false → OnOk r P → P
of_made (Ok x) e h = h
of_made (Err x) e h = absurd (cc)

pub refused_when_full : {A E : Type 0} (r : Result A E) (spare : ℕ) → is_err r ≡ true → (0 < spare → IsOk r) → spare ≡ 0
refused_when_full (Ok x) spare e h = absurd (cc)
refused_when_full (Err x) zero e h = refl
refused_when_full (Err x) (suc n) e h = let b = h (omega arith) in absurd (cc)

-- the job was answered no stop
pub not_halted : (h : Option Halt) → stop_of h ≡ None → h ≡ None
not_halted None e = refl
not_halted (Some (halt.Yield cause)) e = absurd (cc)
not_halted (Some halt.Memory) e = absurd (cc)

pub held_not_yield : asked.Held ≢ asked.Yield
held_not_yield e = cc

pub granted_not_yield : asked.Granted ≢ asked.Yield
granted_not_yield e = cc

runs_on : (began old new : View) → StillRuns began old → new.phase ≡ old.phase → new.abandoned ≡ old.abandoned → StillRuns began new
runs_on began old new r phase abandoned = record { phase = phase ∙ r.phase; abandoned = abandoned ∙ r.abandoned }

-- a load's event is the trace's last
pub loaded_last : (a x : ℕ) (old new : View) → new ≡ record old { trace = old.trace ++ Read a x ∷ []; uses = new.uses }
    → new.trace ≡ old.trace ++ Read a x ∷ []
loaded_last a x old new e = ap (λ (v : View). v.trace) e

-- the events and notes of a view, and nothing else, are these
abbrev pub with_events : Trace → Notes → List (ℕ × ℕ) → View → View
with_events trace notes uses v = record v { trace = trace; undo = notes; uses = uses }

events_same_call : (trace : Trace) (notes : Notes) (uses : List (ℕ × ℕ)) (old new : View) → new ≡ with_events trace notes uses old → StaysInCall old new
events_same_call trace notes uses old new e = record {
  seat = record { who = ap (λ (v : View). v.who) e; base = ap (λ (v : View). v.base) e; seats = ap (λ (v : View). v.seats) e };
  call = ap (λ (v : View). v.call) e;
  floor = ap (λ (v : View). v.floor) e;
  stamp = λ h. ap (λ (v : View). v.stamp) e;
  seen = ap (λ (v : View). v.seen) e;
}

-- what is legal behind all that was done fits some good list
pub some_fits : (count : ℕ) (good : List ℕ → Type 0) (n : ℕ) (base : List ℕ) (v : View)
    → ReadsArranged (IsGood count good) n base v → SomeFits count good v.trace
some_fits count good n base v r = let left = r.left_good r.order r.arranged in
    (replay_items base r.order, record { count = left.count; good = left.good; legal = r.fits r.order r.arranged })

-- a write is legal on every list
reads_write : (count : ℕ) (good : List ℕ → Type 0) (n : ℕ) (base : List ℕ) (j a x : ℕ) (v : View) → ReadsArranged (IsGood count good) n base v
    → ReadsArranged (IsGood count good) n base ((store_value_action j a x v).view 0)
reads_write count good n base j a x v r = record {
  words = r.words;
  views = r.views;
  place = r.place;
  seat = r.seat;
  holds = r.holds;
  knows = r.knows;
  in_call = record { who = r.in_call.who; call = r.in_call.call; seen = r.in_call.seen; abandoned = r.in_call.abandoned };
  seen = r.seen;
  attempts = r.attempts;
  order = r.order;
  arranged = r.arranged;
  placed = r.placed;
  left_good = r.left_good;
  fits = λ order h. let left = r.left_good order h in
      (fits_write count good v.trace (replay_items base order) a x (record { count = left.count; good = left.good; legal = r.fits order h })).legal;
}

yielding_runs : (v : View) → v.phase ≡ Yielding → v.phase ≡ Running → ⊥
yielding_runs v y r = let z : Yielding ≡ Running = sym y ∙ r in cc

one_within : (a was n : ℕ) → a < n → All (λ (note : ℕ × ℕ). note.0 < n) ((a, was) ∷ [])
one_within a was n lt zero d near = lt
one_within a was n lt (suc k) d near = absurd (omega arith)

-- each noted word lies under a lock that is held for writing
abbrev AreGranted : View → Notes → Type 0
AreGranted v notes = All (λ (note : ℕ × ℕ). HasWriteGrant v (lock_of_word note.0)) notes

one_granted : (v : View) (a was : ℕ) → HasWriteGrant v (lock_of_word a) → AreGranted v ((a, was) ∷ [])
one_granted v a was granted zero d near = granted
one_granted v a was granted (suc k) d near = absurd (omega arith)

asks_granted : (a : ℕ) (old new : View) (notes : Notes) → Asks a old new → AreGranted old notes → AreGranted new notes
asks_granted a old new notes asks granted = λ k d near. (asks.grants (lock_of_word (get_or notes k d).0)).1 (granted k d near)

-- an attempt that loads and stores a word under a lock that it held knows the same of all else
pub did_load : (events : Trace) (first asked loaded : View) → asked ≡ first → loaded ≡ record asked { trace = events; uses = loaded.uses }
    → DidEvents first loaded
did_load events first asked loaded same event = subst (λ (v : View). DidEvents first v)
    (sym (event ∙ ap (λ (v : View). record v { trace = events; uses = loaded.uses }) same)) refl

pub did_store : (j a x : ℕ) (first loaded stored : View) → DidEvents first loaded
    → stored ≡ (store_value_action j a x loaded).view 0 → DidEvents first stored
did_store j a x first loaded stored did step =
    let more : View = (store_value_action j a x loaded).view 0 in
    subst (λ (v : View). DidEvents first v) (sym step) (ap (λ (v : View). record v { trace = more.trace; undo = more.undo }) did)

pub did_more : (first old new : View) → DidEvents first old → DidEvents old new → DidEvents first new
did_more first old new did more = more ∙ ap (λ (v : View). record v { trace = new.trace; undo = new.undo; uses = new.uses }) did

module _ {S : Type 0} (word_count : S → ℕ) (good : S → List ℕ → Type 0) (desk : DeskView S) (began pass : PassView)
    (log : Room) (halted : Option Halt) (s : IsSoundAttempt word_count good desk began pass log halted) where
  -- as many writes are noted as were made
  pub noted_count : length log.list ≡ count_writes pass.view.trace
  noted_count = ap (λ (l : Notes). length l) (s.noted s.fits.0 s.fits.1) ∙ notes_counted pass.view.trace s.fits.0

  -- a noted word is one of the shape's, and lies under a lock that is held
  pub noted_within : (i a was : ℕ) → slice_get log.list i ≡ Some (a, was) → a < word_count desk.shape
  noted_within i a was e =
      subst (λ (note : ℕ × ℕ). note.0 < word_count desk.shape) (get_or_from_slice_get log.list i (a, was) (a, was) e)
      (s.within i (a, was) (slice_get_within log.list i (a, was) e))

  pub noted_granted : (i a was : ℕ) → slice_get log.list i ≡ Some (a, was) → HasWriteGrant pass.view (lock_of_word a)
  noted_granted i a was e =
      subst (λ (note : ℕ × ℕ). HasWriteGrant pass.view (lock_of_word note.0))
      (get_or_from_slice_get log.list i (a, was) (a, was) e) (s.granted i (a, was) (slice_get_within log.list i (a, was) e))

  -- and the note is that of the write at its place
  pub noted_there : (i a was : ℕ) → slice_get log.list i ≡ Some (a, was)
      → (w : List ℕ) → Fits (word_count desk.shape) (good desk.shape) pass.view.trace w → slice_get (notes_of pass.view.trace w) i ≡ Some (a, was)
  noted_there i a was e w fit = ap (λ (l : Notes). slice_get l i) (sym (s.noted w fit)) ∙ e

-- the same attempt, by other names
pub begun_origin : {S : Type 0} (desk desk' : DeskView S) (name name' : ℕ) (began began' : PassView) → HasBegun desk name began desk' name' began'
    → start_of desk' name' began' ≡ start_of desk name began
begun_origin {S} desk desk' name name' began began' same = ap (λ (d : DeskView S). start_of d name' began') same.0
    ∙ (ap (λ (n : ℕ). start_of desk n began') same.1 ∙ ap (λ (p : PassView). start_of desk name p) same.2)

pub sound_as : {S : Type 0} (word_count : S → ℕ) (good : S → List ℕ → Type 0) (desk desk' : DeskView S) (began began' pass : PassView)
    (log log' : Room) (halted halted' : Option Halt) → desk' ≡ desk → began' ≡ began → log' ≡ log → halted' ≡ halted
    → IsSoundAttempt word_count good desk began pass log halted → IsSoundAttempt word_count good desk' began' pass log' halted'
sound_as {S} word_count good desk desk' began began' pass log log' halted halted' ed eb el eh s =
    subst (λ (d : DeskView S). IsSoundAttempt word_count good d began' pass log' halted') (sym ed)
    (subst (λ (p : PassView). IsSoundAttempt word_count good desk p pass log' halted') (sym eb)
    (subst (λ (l : Room). IsSoundAttempt word_count good desk began pass l halted') (sym el)
    (subst (λ (h : Option Halt). IsSoundAttempt word_count good desk began pass log h) (sym eh) s)))

module _ {S : Type 0} (word_count : S → ℕ) (good : S → List ℕ → Type 0) (desk : DeskView S) (began : PassView) where
  -- the attempt asked for a lock and gave way
  pub yields_sound : (a : ℕ) (old new : PassView) (log : Room) (cause : Cause) → IsSoundAttempt word_count good desk began old log None
      → new.table ≡ old.table → Asks a old.view new.view → new.view.met ≡ []
      → GaveWayTo desk.seats cause old.view new.view
      → has_pair (lock_of_word a) cause.seat new.view.meetings ≡ true
      → IsSoundAttempt word_count good desk began new log (Some (halt.Yield cause))
  yields_sound a old new log cause s table asks judged gave met = record {
    table = table ∙ s.table;
    words = ap (λ (v : View). length v.base) asks.rest ∙ s.words;
    call = same_call began.view old.view new.view s.call (asks_same_call a old.view new.view asks);
    stands = gave_way_since desk.seats cause began.view old.view new.view s.stands gave;
    judged = judged;
    log_is = s.log_is ∙ ap (λ (v : View). v.undo) (sym asks.rest);
    within = s.within;
    noted = λ w fit. s.noted w (subst (λ (t : Trace). Fits (word_count desk.shape) (good desk.shape) t w) (ap (λ (v : View). v.trace) asks.rest) fit)
        ∙ ap (λ (t : Trace). notes_of t w) (ap (λ (v : View). v.trace) (sym asks.rest));
    granted = asks_granted a old.view new.view log.list asks s.granted;
    room = s.room;
    memory = λ e. absurd (cc);
    fits = subst (λ (t : Trace). SomeFits (word_count desk.shape) (good desk.shape) t) (ap (λ (v : View). v.trace) (sym asks.rest)) s.fits;
    footprint = footprint_yields desk.seats a cause old.view new.view asks gave met s.footprint;
    current = λ e. absurd (yielding_runs new.view gave.phase e);
  }

  -- the attempt asked for a lock, and goes on with a load
  pub asks_table : (a : ℕ) (old new : PassView) (log : Room) → IsSoundAttempt word_count good desk began old log None
      → new.table ≡ old.table → Asks a old.view new.view → WentOn old.view new.view
      → (new.table ≡ desk.table) × (new.view.phase ≡ Running) × (length new.view.base ≡ word_count desk.shape)
  asks_table a old new log s table asks went =
      (table ∙ s.table, ap (λ (v : View). v.phase) went ∙ s.stands.phase, ap (λ (v : View). length v.base) asks.rest ∙ s.words)

  -- the attempt did something to words
  pub events_sound : (trace : Trace) (notes : Notes) (old new : PassView) (log later : Room) → IsSoundAttempt word_count good desk began old log None
      → new.table ≡ old.table → new.view ≡ with_events trace notes old.view.uses old.view → later.list ≡ notes
      → All (λ note. note.0 < word_count desk.shape) later.list
      → ((w : List ℕ) → Fits (word_count desk.shape) (good desk.shape) trace w → notes ≡ notes_of trace w)
      → AreGranted old.view notes → UNDO_ROOM ≤ later.spare + length later.list
      → ReadsArranged (IsGood (word_count desk.shape) (good desk.shape)) desk.seats desk.base new.view → (more : Trace)
      → trace ≡ old.view.trace ++ more → IsSoundAttempt word_count good desk began new later None
  events_sound trace notes old new log later s table e list within noted granted room fits more longer = record {
    table = table ∙ s.table;
    words = ap (λ (v : View). length v.base) e ∙ s.words;
    call = same_call began.view old.view new.view s.call (events_same_call trace notes old.view.uses old.view new.view e);
    stands = runs_on began.view old.view new.view s.stands (ap (λ (v : View). v.phase) e) (ap (λ (v : View). v.abandoned) e);
    judged = ap (λ (v : View). v.met) e ∙ s.judged;
    log_is = list ∙ ap (λ (v : View). v.undo) (sym e);
    within = within;
    noted = λ w fit. list ∙ noted w (subst (λ (t : Trace). Fits (word_count desk.shape) (good desk.shape) t w) (ap (λ (v : View). v.trace) e) fit)
        ∙ ap (λ (t : Trace). notes_of t w) (sym (ap (λ (v : View). v.trace) e));
    granted = subst (λ (v : View). AreGranted v later.list) (sym e) (subst (λ (l : Notes). AreGranted old.view l) (sym list) granted);
    room = room;
    memory = λ h. absurd (cc);
    fits = some_fits (word_count desk.shape) (good desk.shape) desk.seats desk.base new.view fits;
    current = λ runs. fits;
    footprint =
        footprint_events old.view new.view more (ap (λ (v : View). v.trace) e
        ∙ longer) (ap (λ (v : View). v.abandoned) e) (ap (λ (v : View). v.meetings) e) (ap (λ (v : View). v.asked) e)
        s.footprint;
  }

  -- the attempt found no memory
  pub memory_sound : (pass : PassView) (log : Room) → IsSoundAttempt word_count good desk began pass log None → UNDO_ROOM ≤ length log.list
      → IsSoundAttempt word_count good desk began pass log (Some halt.Memory)
  memory_sound pass log s full = record {
    table = s.table;
    words = s.words;
    call = s.call;
    stands = s.stands;
    judged = s.judged;
    log_is = s.log_is;
    within = s.within;
    noted = s.noted;
    granted = s.granted;
    room = s.room;
    memory = λ e. full;
    fits = s.fits;
    footprint = s.footprint;
    current = s.current;
  }

  -- a word that was just loaded was noted and stored
  pub store_sound : (a x was : ℕ) (before : Trace) (old new : PassView) (log later : Room)
      → IsSoundAttempt word_count good desk began old log None → a < word_count desk.shape → HasWriteGrant old.view (lock_of_word a)
      → old.view.trace ≡ before ++ Read a was ∷ []
      → new.table ≡ old.table → new.view ≡ (store_value_action (number old.view) a x old.view).view 0
      → new.view.undo ≡ old.view.undo ++ (a, was) ∷ []
      → later.list ≡ log.list ++ (a, was) ∷ [] → log.spare ≤ later.spare + 1 → IsSoundAttempt word_count good desk began new later None
  store_sound a x was before old new log later s within granted last table step noted list spare =
      events_sound (old.view.trace ++ Write a x ∷ []) (old.view.undo ++ (a, was) ∷ []) old new log later s table
      (step ∙ ap (λ (n : Notes). with_events (old.view.trace ++ Write a x ∷ []) n old.view.uses old.view) (sym (ap (λ (v : View). v.undo) step) ∙ noted))
      (list ∙ ap (λ (l : Notes). l ++ (a, was) ∷ []) s.log_is)
      (subst (λ (l : Notes). All (λ note. note.0 < word_count desk.shape) l) (sym list)
      (All-append (λ note. note.0 < word_count desk.shape) log.list ((a, was) ∷ []) s.within (one_within a was (word_count desk.shape) within)))
      (λ w fit. ap (λ (l : Notes). l ++ (a, was) ∷ []) (sym s.log_is
      ∙ s.noted w (fits_front (word_count desk.shape) (good desk.shape) old.view.trace (Write a x ∷ []) w fit))
      ∙ sym (write_noted before old.view.trace w a was x last fit.legal))
      (All-append (λ (note : ℕ × ℕ). HasWriteGrant old.view (lock_of_word note.0)) old.view.undo ((a, was) ∷ [])
      (subst (λ (l : Notes). AreGranted old.view l) s.log_is s.granted) (one_granted old.view a was granted))
      (let long : length later.list ≡ length log.list + 1 = ap (λ (l : Notes). length l) list
      ∙ length-append log.list ((a, was) ∷ []) in let room = s.room in omega arith)
      (subst (λ (v : View). ReadsArranged (IsGood (word_count desk.shape) (good desk.shape)) desk.seats desk.base v) (sym step)
      (reads_write (word_count desk.shape) (good desk.shape) desk.seats desk.base (number old.view) a x old.view
      (s.current s.stands.phase))) (Write a x ∷ []) refl

  -- the lock was asked for and is held, and the word was loaded
  pub held_sound : (a x : ℕ) (old mid new : PassView) (log : Room) (halted : Option Halt) → stop_of halted ≡ None
      → IsSoundAttempt word_count good desk began old log halted
      → mid.table ≡ old.table → Asks a old.view mid.view → mid.view.met ≡ [] → WentOn old.view mid.view
      → new.table ≡ mid.table → new.view ≡ record mid.view { trace = mid.view.trace ++ Read a x ∷ []; uses = new.view.uses }
      → ReadsArranged (IsGood (word_count desk.shape) (good desk.shape)) desk.seats desk.base new.view → IsSoundAttempt word_count good desk began new log None
  held_sound a x old mid new log halted going held table asks judged went same event fits =
      let s : IsSoundAttempt word_count good desk began old log None =
      subst (λ (h : Option Halt). IsSoundAttempt word_count good desk began old log h) (not_halted halted going) held in
      let on = events_same_call (mid.view.trace ++ Read a x ∷ []) mid.view.undo new.view.uses mid.view new.view event in record {
        table = same ∙ (table ∙ s.table);
        words = ap (λ (v : View). length v.base) event ∙ (ap (λ (v : View). length v.base) asks.rest ∙ s.words);
        call = same_call began.view mid.view new.view
            (same_call began.view old.view mid.view s.call
            (asks_same_call a old.view mid.view asks)) on;
        stands = runs_on began.view old.view new.view s.stands (ap (λ (v : View). v.phase) event
            ∙ ap (λ (v : View). v.phase) went) (ap (λ (v : View). v.abandoned) event ∙ ap (λ (v : View). v.abandoned) went);
        judged = ap (λ (v : View). v.met) event ∙ judged;
        log_is = s.log_is ∙ (ap (λ (v : View). v.undo) (sym asks.rest) ∙ ap (λ (v : View). v.undo) (sym event));
        within = s.within;
        noted = λ w fit.
            let longer : new.view.trace ≡ old.view.trace ++ Read a x ∷ [] = ap (λ (v : View). v.trace) event
            ∙ ap (λ (t : Trace). t ++ Read a x ∷ []) (ap (λ (v : View). v.trace) asks.rest) in
            s.noted w (fits_front (word_count desk.shape) (good desk.shape) old.view.trace (Read a x ∷ []) w
            (subst (λ (t : Trace). Fits (word_count desk.shape) (good desk.shape) t w) longer fit))
            ∙ sym (ap (λ (t : Trace). notes_of t w) longer ∙ read_unnoted old.view.trace w a x);
        granted = subst (λ (v : View). AreGranted v log.list) (sym event) (asks_granted a old.view mid.view log.list asks s.granted);
        room = s.room;
        memory = λ e. absurd (cc);
        fits = some_fits (word_count desk.shape) (good desk.shape) desk.seats desk.base new.view fits;
        current = λ runs. fits;
        footprint = footprint_loaded a x old.view mid.view new.view asks went event s.footprint;
      }

-- an attempt that asks for no lock
pub asks_none : (a : ℕ) (v : View) → Asks a v v
asks_none a v = record {
  rest = refl;
  stamped = λ drawn. refl;
  unmet = λ same. (refl, refl);
  drawn_once = refl;
  asked = λ b. (λ h. h, λ h. inr h);
  meetings = ([], sym (append-nil v.meetings), λ l j i. absurd (cc (i.1)));
  grants = λ k. (λ h. h, λ h. h);
}
