-- What a pass keeps of versions, and what it is after a step.
use Rattle.word_table.proofs.Common.{◌≡◌, ◌≢◌, ℕ, suc, ◌+◌, ◌/◌, ◌%◌, ◌^◌, ◌<◌, Bool, true, false, ◌⊎◌, inl, ⊎_elim, List, [], ◌∷◌, ◌++◌, length, slice_index}
use Rattle.word_table.proofs.Common.{slice_set, refl, sym, ap, ◌∙◌, subst, arith, if◌then◌else◌, None, Some, take, length-set, get_or-set_other}
use Rattle.word_table.proofs.Common.{get_or-set_same, bit_at, dite, ℕ_discrete, LOCKS, Read, Phase, Idle, Running, Yielding, Withdrawing, Releasing, is_open}
use Rattle.word_table.proofs.Common.{IsIn, lock_of_word, has, without, flag, Trace, Notes, get_last, differ, has-nil, has-join, has-join_same, has-join_old}
use Rattle.word_table.proofs.Common.{has-without, released_phase, has-append, undoing_phase, in_join, none_in, VersionCopy, ShowsLocks, IsVersionCopy}
use Rattle.word_table.proofs.Common.{locks_found}
use Rattle.values_rule.proofs.Common.{Touches, locks_of}
use Rattle.std.proofs.lemmas.List.{map-append}
use Rattle.history_model.specs.declared.event.Event.TheVariants.{Write}
use Rattle.history_model.proofs.ListPlaces.{map_at, at_map, get-front}
use Rattle.history_model.proofs.Traces.EndEvents.{touches_read, touches_write}
use Rattle.locks_rule.proofs.Frame.{flag_false}
use Rattle.word_table.specs.Copies.{written_or_owed}
use Rattle.word_table.proofs.Kept.Bounded.{in_push}

-- sets as lists
in_has : (xs : List ℕ) (x : ℕ) → IsIn x xs → has x xs ≡ true
in_has [] x t = absurd (none_in x t)
in_has (y ∷ xs) x t = ⊎_elim (λ e. subst (λ (z : ℕ). has x (z ∷ xs) ≡ true) (sym e) (has-join_same x xs))
    (λ s. has-join_old x y xs (in_has xs x s)) (in_join y xs x t)

has_in : (xs : List ℕ) (x : ℕ) → has x xs ≡ true → IsIn x xs
has_in [] x h = absurd (differ (has x []) h (has-nil x))
has_in (y ∷ xs) x h = ⊎_elim (λ e. (0, ap (λ z. Some z) (sym e))) (λ t. let r = has_in xs x t in (suc r.0, r.1)) (has-join x y xs h)

-- two sets that have the same
same_from : (a b : Bool) → (a ≡ true → b ≡ true) → (b ≡ true → a ≡ true) → a ≡ b
same_from true b f g = sym (f refl)
same_from false true f g = g refl
same_from false false f g = refl

-- a row that shows a set shows any with the same
shows_same : (row xs ys : List ℕ) → ((k : ℕ) → has k ys ≡ has k xs) → ShowsLocks row xs → ShowsLocks row ys
shows_same row xs ys same h = record {
  sixteen = h.sixteen;
  bits = λ k near. h.bits k near ∙ ap flag (sym (same k));
  near = λ k t. h.near k (sym (same k) ∙ t);
}

-- one more in front, or at the end
push_same : (xs : List ℕ) (y k : ℕ) → has k (xs ++ y ∷ []) ≡ has k (y ∷ xs)
push_same xs y k = same_from (has k (xs ++ y ∷ [])) (has k (y ∷ xs))
    (λ t. ⊎_elim (λ old. has-join_old k y xs old)
    (λ new. ⊎_elim (λ e. subst (λ (z : ℕ). has k (z ∷ xs) ≡ true) e (has-join_same k xs)) (λ n. absurd (differ (has k []) n (has-nil k)))
    (has-join k y [] new)) (has-append k xs (y ∷ []) t))
    (λ t. ⊎_elim (λ e. end xs (subst (λ (z : ℕ). has k (z ∷ []) ≡ true) e (has-join_same k []))) (λ old. first xs old) (has-join k y xs t))
  where
    end : (zs : List ℕ) → has k (y ∷ []) ≡ true → has k (zs ++ y ∷ []) ≡ true
    end [] t = t
    end (z ∷ zs) t = has-join_old k z (zs ++ y ∷ []) (end zs t)

    first : (zs : List ℕ) → has k zs ≡ true → has k (zs ++ y ∷ []) ≡ true
    first [] t = absurd (differ (has k []) t (has-nil k))
    first (z ∷ zs) t = ⊎_elim (λ e. subst (λ (u : ℕ). has k (u ∷ (zs ++ y ∷ [])) ≡ true) e (has-join_same k (zs ++ y ∷ [])))
        (λ s. has-join_old k z (zs ++ y ∷ []) (first zs s)) (has-join k z zs t)

-- the locks of uses, and of notes, with one more at the end
found_push : (uses : List (ℕ × ℕ)) (k x : ℕ) → locks_found (uses ++ (k, x) ∷ []) ≡ locks_found uses ++ k ∷ []
found_push uses k x = map-append (λ (u : ℕ × ℕ). u.0) uses ((k, x) ∷ [])

notes_push : (notes : Notes) (a o : ℕ) → locks_of (notes ++ (a, o) ∷ []) ≡ locks_of notes ++ lock_of_word a ∷ []
notes_push notes a o = map-append (λ (note : ℕ × ℕ). lock_of_word note.0) notes ((a, o) ∷ [])

-- a use is of a lock that was found, and a lock that was found has one
pub found_use : (uses : List (ℕ × ℕ)) (k x : ℕ) → IsIn (k, x) uses → has k (locks_found uses) ≡ true
found_use uses k x t = in_has (locks_found uses) k (t.0, at_map (λ (u : ℕ × ℕ). u.0) uses t.0 (k, x) t.1)

pub use_found : (uses : List (ℕ × ℕ)) (k : ℕ) → has k (locks_found uses) ≡ true → (x : ℕ) × IsIn (k, x) uses
use_found uses k h = let t = has_in (locks_found uses) k h in
    let u = map_at (λ (p : ℕ × ℕ). p.0) uses t.0 k t.1 in (u.0.1, (t.0, u.1 ∙ ap (λ (y : ℕ). Some (y, u.0.1)) u.2))

more_found : (uses : List (ℕ × ℕ)) (k x l : ℕ) → has l (locks_found uses) ≡ true → has l (locks_found (uses ++ (k, x) ∷ [])) ≡ true
more_found uses k x l h = subst (λ (s : List ℕ). has l s ≡ true) (sym (found_push uses k x))
    (push_same (locks_found uses) k l ∙ has-join_old l k (locks_found uses) h)

pub this_found : (uses : List (ℕ × ℕ)) (k x : ℕ) → has k (locks_found (uses ++ (k, x) ∷ [])) ≡ true
this_found uses k x = subst (λ (s : List ℕ). has k s ≡ true) (sym (found_push uses k x))
    (push_same (locks_found uses) k k ∙ has-join_same k (locks_found uses))

-- a lock of one use more is that of the use, or one of those before
pub found_before : (uses : List (ℕ × ℕ)) (k x l : ℕ) → has l (locks_found (uses ++ (k, x) ∷ [])) ≡ true → (l ≡ k) ⊎ (has l (locks_found uses) ≡ true)
found_before uses k x l h = has-join l k (locks_found uses)
    (sym (push_same (locks_found uses) k l) ∙ subst (λ (s : List ℕ). has l s ≡ true) (found_push uses k x) h)

-- a lock of fewer notes is one of the notes
fewer_notes : (notes : Notes) (m k : ℕ) → has k (locks_of (take m notes)) ≡ true → has k (locks_of notes) ≡ true
fewer_notes notes m k h =
    let f : ℕ × ℕ → ℕ = λ note. lock_of_word note.0 in
    let t = has_in (locks_of (take m notes)) k h in
    let u = map_at f (take m notes) t.0 k t.1 in
    in_has (locks_of notes) k (t.0, at_map f notes t.0 u.0 (get-front m t.0 notes u.0 u.1).1 ∙ ap (λ (y : ℕ). Some y) u.2)

flag_same : (b : Bool) → flag b ≡ 1 → b ≡ true
flag_same true e = refl
flag_same false e = absurd (omega arith)

flag_injective : (a b : Bool) → flag a ≡ flag b → a ≡ b
flag_injective true b e = sym (flag_same b (sym e))
flag_injective false b e = sym (flag_false b (sym e))

-- the last event of a trace touches its word
last_touched : (before : Trace) (a x : ℕ) → Touches (before ++ Read a x ∷ []) a
last_touched before a x = (length before, x, inl (get_last before (Read a x)))

-- no trace, no touch
pub untouched : (a : ℕ) → Touches [] a → ⊥
untouched a t = ⊎_elim (λ e. let z : None ≡ Some (Read a t.1) = e in cc) (λ e. let z : None ≡ Some (Write a t.1) = e in cc) t.2

-- nothing is in an empty list
owes_none : (owed : List ℕ) → owed ≡ [] → (k : ℕ) → has k owed ≡ false
owes_none owed e k = ap (λ (l : List ℕ). has k l) e ∙ has-nil k

module _ (copy : VersionCopy) (uses : List (ℕ × ℕ)) (owed : List ℕ) (trace : Trace) (undo : Notes) (phase : Phase)
    (i : IsVersionCopy copy uses owed trace undo phase) where
  -- what a copy is when phase, notes and what is owed are others, with a row that shows them
  other_marks : (written : List ℕ) (owed' : List ℕ) (undo' : Notes) (phase' : Phase) → ShowsLocks written (written_or_owed phase' undo' owed')
      → ((k : ℕ) → has k (locks_of undo') ≡ true → has k (locks_found uses) ≡ true)
      → ((k : ℕ) → has k owed' ≡ true → has k (locks_found uses) ≡ true) → (is_open phase' ≡ true → owed' ≡ [])
      → IsVersionCopy (record copy { written = written }) uses owed' trace undo' phase'
  other_marks written owed' undo' phase' shows noted owes opens = record {
    used_are = i.used_are;
    written_are = shows;
    each_lock = i.each_lock;
    found_are = i.found_are;
    fits = i.fits;
    touched_used = i.touched_used;
    noted_used = noted;
    owed_used = owes;
    open_owes_none = opens;
  }

  -- a call that is over has the marks of what it owes
  pub versions_over : (phase' : Phase) → (undo ≡ []) ⊎ (phase ≡ Releasing) → is_open phase' ≡ false
      → IsVersionCopy copy uses owed trace undo phase'
  versions_over phase' undone over = other_marks copy.written owed undo phase' (over_marks phase' over (marks phase i.written_are undone i.open_owes_none))
      i.noted_used i.owed_used (λ t. absurd (differ (is_open phase') t over))
    where
      marks : (p : Phase) → ShowsLocks copy.written (written_or_owed p undo owed) → (undo ≡ []) ⊎ (p ≡ Releasing)
          → (is_open p ≡ true → owed ≡ []) → ShowsLocks copy.written owed
      marks Idle s u o = s
      marks Running s u o = shows_same copy.written (locks_of undo) owed
          (λ k. ⊎_elim (λ e. owes_none owed (o refl) k ∙ sym (ap (λ (l : Notes). has k (locks_of l)) e ∙ has-nil k))
          (λ e. absurd (let z : Running ≡ Releasing = e in cc)) u) s
      marks Yielding s u o = s
      marks Withdrawing s u o = s
      marks Releasing s u o = s

      over_marks : (p : Phase) → is_open p ≡ false → ShowsLocks copy.written owed → ShowsLocks copy.written (written_or_owed p undo owed)
      over_marks Idle e s = s
      over_marks Running e s = absurd (let z : true ≡ false = e in cc)
      over_marks Yielding e s = s
      over_marks Withdrawing e s = s
      over_marks Releasing e s = s

  -- a lock is given up
  pub versions_released : phase ≢ Idle → (undo ≡ []) ⊎ (phase ≡ Releasing) → IsVersionCopy copy uses owed trace undo (released_phase phase)
  versions_released begun undone = at phase refl
    where
      at : (p : Phase) → phase ≡ p → IsVersionCopy copy uses owed trace undo (released_phase p)
      at Idle e = absurd (begun e)
      at Running e = versions_over Releasing undone refl
      at Yielding e = subst (λ (x : Phase). IsVersionCopy copy uses owed trace undo x) e i
      at Withdrawing e = versions_over Releasing undone refl
      at Releasing e = versions_over Releasing undone refl

  -- a write is undone: the marks go
  pub versions_undone : (none : List ℕ) (m : ℕ) → ShowsLocks none [] → is_open phase ≡ true
      → IsVersionCopy (record copy { written = none }) uses owed trace (take m undo) (undoing_phase phase)
  versions_undone none m shows opens = other_marks none owed (take m undo) (undoing_phase phase) (marks phase opens)
      (λ k t. i.noted_used k (fewer_notes undo m k t)) i.owed_used (λ t. i.open_owes_none opens)
    where
      owed_none : ShowsLocks none owed
      owed_none = shows_same none [] owed (λ k. owes_none owed (i.open_owes_none opens) k ∙ sym (has-nil k)) shows

      marks : (p : Phase) → is_open p ≡ true → ShowsLocks none (written_or_owed (undoing_phase p) (take m undo) owed)
      marks Idle t = absurd (let z : false ≡ true = t in cc)
      marks Running t = owed_none
      marks Yielding t = owed_none
      marks Withdrawing t = owed_none
      marks Releasing t = absurd (let z : false ≡ true = t in cc)

  -- the attempt gives way: the marks go
  pub versions_yielded : (none : List ℕ) → ShowsLocks none [] → is_open phase ≡ true
      → IsVersionCopy (record copy { written = none }) uses owed trace undo Yielding
  versions_yielded none shows opens = other_marks none owed undo Yielding
      (shows_same none [] owed (λ k. owes_none owed (i.open_owes_none opens) k ∙ sym (has-nil k)) shows)
      i.noted_used i.owed_used (λ t. i.open_owes_none opens)

  -- the call gets its entry: what was written is owed if it is kept
  pub versions_committed : (kept : Bool) (written : List ℕ) → (kept ≡ true → phase ≡ Running)
      → ((locks : List ℕ) → ShowsLocks copy.written locks → ShowsLocks written (if kept then locks else []))
      → IsVersionCopy (record copy { written = written }) uses (if kept then locks_of undo else []) trace [] Releasing
  versions_committed kept written runs shows = other_marks written (if kept then locks_of undo else []) [] Releasing (marks kept runs shows)
      (λ k t. absurd (differ (has k []) t (has-nil k))) (owes kept) (λ t. absurd (let z : false ≡ true = t in cc))
    where
      owes : (b : Bool) (k : ℕ) → has k (if b then locks_of undo else []) ≡ true → has k (locks_found uses) ≡ true
      owes true k t = i.noted_used k t
      owes false k t = absurd (differ (has k []) t (has-nil k))

      marks : (b : Bool) → (b ≡ true → phase ≡ Running)
          → ((locks : List ℕ) → ShowsLocks copy.written locks → ShowsLocks written (if b then locks else []))
          → ShowsLocks written (if b then locks_of undo else [])
      marks true r s = s (locks_of undo) (subst (λ (p : Phase). ShowsLocks copy.written (written_or_owed p undo owed)) (r refl) i.written_are)
      marks false r s = s (written_or_owed phase undo owed) i.written_are

  -- the call makes another attempt
  pub versions_restarted : (used : List ℕ) → ShowsLocks used [] → phase ≡ Yielding → undo ≡ []
      → IsVersionCopy (record copy { used = used }) [] owed [] undo Running
  versions_restarted used shows yields undone = record {
    used_are = shows;
    written_are = shows_same copy.written owed (locks_of undo)
        (λ k. (ap (λ (l : Notes). has k (locks_of l)) undone ∙ has-nil k) ∙ sym (owes_none owed none k))
        (subst (λ (p : Phase). ShowsLocks copy.written (written_or_owed p undo owed)) yields i.written_are);
    each_lock = i.each_lock;
    found_are = λ k x t. absurd (none_in (k, x) t);
    fits = i.fits;
    touched_used = λ a t. absurd (untouched a t);
    noted_used = λ k t. absurd (differ (has k (locks_of undo)) t (ap (λ (l : Notes). has k (locks_of l)) undone ∙ has-nil k));
    owed_used = λ k t. absurd (differ (has k owed) t (owes_none owed none k));
    open_owes_none = λ t. none;
  }
    where
      none : owed ≡ []
      none = i.open_owes_none (ap is_open yields)

  -- a call begins
  pub versions_begun : (used written : List ℕ) → ShowsLocks used [] → ShowsLocks written []
      → IsVersionCopy (record copy { used = used; written = written }) [] [] [] [] Running
  versions_begun used written su sw = record {
    used_are = su;
    written_are = sw;
    each_lock = i.each_lock;
    found_are = λ k x t. absurd (none_in (k, x) t);
    fits = i.fits;
    touched_used = λ a t. absurd (untouched a t);
    noted_used = λ k t. absurd (differ (has k []) t (has-nil k));
    owed_used = λ k t. absurd (differ (has k []) t (has-nil k));
    open_owes_none = λ t. refl;
  }

  -- a value is loaded under a lock that was used
  pub versions_read : (a x : ℕ) → has (lock_of_word a) (locks_found uses) ≡ true → IsVersionCopy copy uses owed (trace ++ Read a x ∷ []) undo phase
  versions_read a x used = record {
    used_are = i.used_are;
    written_are = i.written_are;
    each_lock = i.each_lock;
    found_are = i.found_are;
    fits = i.fits;
    touched_used = λ b t. ⊎_elim (λ old. i.touched_used b old)
        (λ e. subst (λ (c : ℕ). has (lock_of_word c) (locks_found uses) ≡ true) (sym e) used) (touches_read trace a x b t);
    noted_used = i.noted_used;
    owed_used = i.owed_used;
    open_owes_none = i.open_owes_none;
  }

  -- a value is stored to a word that was read just before
  pub versions_stored : (a x o was : ℕ) (before : Trace) (written : List ℕ) → phase ≡ Running → trace ≡ before ++ Read a was ∷ []
      → ((locks : List ℕ) → ShowsLocks copy.written locks → ShowsLocks written (lock_of_word a ∷ locks))
      → IsVersionCopy (record copy { written = written }) uses owed (trace ++ Write a x ∷ []) (undo ++ (a, o) ∷ []) phase
  versions_stored a x o was before written runs read shows = record {
    used_are = i.used_are;
    written_are = subst (λ (p : Phase). ShowsLocks written (written_or_owed p (undo ++ (a, o) ∷ []) owed)) (sym runs)
        (shows_same written (lock_of_word a ∷ locks_of undo) (locks_of (undo ++ (a, o) ∷ []))
        (λ k. ap (λ (l : List ℕ). has k l) (notes_push undo a o) ∙ push_same (locks_of undo) (lock_of_word a) k)
        (shows (locks_of undo) (subst (λ (p : Phase). ShowsLocks copy.written (written_or_owed p undo owed)) runs i.written_are)));
    each_lock = i.each_lock;
    found_are = i.found_are;
    fits = i.fits;
    touched_used = λ b t. ⊎_elim (λ old. i.touched_used b old)
        (λ e. subst (λ (c : ℕ). has (lock_of_word c) (locks_found uses) ≡ true) (sym e) used) (touches_write trace a x b t);
    noted_used = λ k t. ⊎_elim
        (λ e. subst (λ (l : ℕ). has l (locks_found uses) ≡ true) (sym e) used) (λ old. i.noted_used k old)
        (has-join k (lock_of_word a) (locks_of undo)
        (sym (ap (λ (l : List ℕ). has k l) (notes_push undo a o) ∙ push_same (locks_of undo) (lock_of_word a) k) ∙ t));
    owed_used = i.owed_used;
    open_owes_none = i.open_owes_none;
  }
    where
      used : has (lock_of_word a) (locks_found uses) ≡ true
      used = i.touched_used a (subst (λ (t : Trace). Touches t a) (sym read) (last_touched before a was))

  -- the version of a lock is found
  pub versions_found : (k x : ℕ) (used found : List ℕ) → k < LOCKS → has k (locks_found uses) ≡ false → x + 1 < 2 ^ 64
      → ((locks : List ℕ) → ShowsLocks copy.used locks → ShowsLocks used (k ∷ locks)) → found ≡ slice_set copy.found.items k x
      → (copy' : VersionCopy) → copy'.used ≡ used → copy'.written ≡ copy.written → copy'.found.items ≡ found
      → IsVersionCopy copy' (uses ++ (k, x) ∷ []) owed trace undo phase
  versions_found k x used found near fresh fits shows is copy' eu ew ef = record {
    used_are = subst (λ (row : List ℕ). ShowsLocks row (locks_found (uses ++ (k, x) ∷ []))) (sym eu)
        (shows_same used (k ∷ locks_found uses) (locks_found (uses ++ (k, x) ∷ []))
        (λ l. ap (λ (s : List ℕ). has l s) (found_push uses k x) ∙ push_same (locks_found uses) k l) (shows (locks_found uses) i.used_are));
    written_are = subst (λ (row : List ℕ). ShowsLocks row (written_or_owed phase undo owed)) (sym ew) i.written_are;
    each_lock = ap (λ (l : List ℕ). length l) items ∙ (length-set copy.found.items k x ∙ i.each_lock);
    found_are = λ l y t. ap (λ (s : List ℕ). slice_index s l) items ∙ ⊎_elim
        (λ old. get_or-set_other copy.found.items k l x 0 (λ e. differ (has k (locks_found uses))
        (subst (λ (z : ℕ). has z (locks_found uses) ≡ true) e (found_use uses l y old)) fresh) ∙ i.found_are l y old)
        (λ new. subst (λ (z : ℕ). slice_index (slice_set copy.found.items k x) z ≡ y) (ap (λ (u : ℕ × ℕ). u.0) new)
        (get_or-set_same copy.found.items k x 0 close ∙ ap (λ (u : ℕ × ℕ). u.1) new)) (in_push uses (k, x) (l, y) t);
    fits = λ l lt. subst (λ (s : List ℕ). slice_index s l + 1 < 2 ^ 64) (sym items) (dite (ℕ_discrete l k)
        (λ e. subst (λ (z : ℕ). slice_index (slice_set copy.found.items k x) z + 1 < 2 ^ 64) (sym e)
        (subst (λ (y : ℕ). y + 1 < 2 ^ 64) (sym (get_or-set_same copy.found.items k x 0 close)) fits))
        (λ ne. subst (λ (y : ℕ). y + 1 < 2 ^ 64) (sym (get_or-set_other copy.found.items k l x 0 ne)) (i.fits l lt)));
    touched_used = λ a t. more_found uses k x (lock_of_word a) (i.touched_used a t);
    noted_used = λ l t. more_found uses k x l (i.noted_used l t);
    owed_used = λ l t. more_found uses k x l (i.owed_used l t);
    open_owes_none = i.open_owes_none;
  }
    where
      items : copy'.found.items ≡ slice_set copy.found.items k x
      items = ef ∙ is

      close : k < length copy.found.items
      close = let many = i.each_lock in omega arith

  -- the next version of a lock is stored
  pub versions_paid : (k : ℕ) (written : List ℕ) → phase ≡ Releasing
      → ((locks : List ℕ) → ShowsLocks copy.written locks → ShowsLocks written (without k locks))
      → IsVersionCopy (record copy { written = written }) uses (without k owed) trace undo phase
  versions_paid k written ends shows = other_marks written (without k owed) undo phase
      (subst (λ (p : Phase). ShowsLocks written (written_or_owed p undo (without k owed))) (sym ends)
      (shows owed (subst (λ (p : Phase). ShowsLocks copy.written (written_or_owed p undo owed)) ends i.written_are)))
      i.noted_used (λ l t. i.owed_used l (has-without l k owed t).1) (λ t. absurd (let z : true ≡ false = sym t ∙ ap is_open ends in cc))

  -- what the mark of a lock says, if nothing is left to undo or the call is over
  pub marked_owed : (k : ℕ) → k < LOCKS → (b : Bool) → flag b ≡ bit_at (slice_index copy.written (k / 64)) (k % 64) → phase ≢ Idle
      → (undo ≡ []) ⊎ (phase ≡ Releasing) → b ≡ true → (phase ≡ Releasing) × (has k owed ≡ true)
  marked_owed k near b shown begun undone on = at phase refl
    where
      set : (p : Phase) → phase ≡ p → has k (written_or_owed p undo owed) ≡ true
      set p e = flag_same (has k (written_or_owed p undo owed))
          (sym ((subst (λ (q : Phase). ShowsLocks copy.written (written_or_owed q undo owed)) e i.written_are).bits k near)
          ∙ (sym shown ∙ ap flag on))

      at : (p : Phase) → phase ≡ p → (phase ≡ Releasing) × (has k owed ≡ true)
      at Idle e = absurd (begun e)
      at Running e = absurd (⊎_elim (λ none. differ (has k (locks_of undo)) (set Running e) (ap (λ (l : Notes). has k (locks_of l)) none ∙ has-nil k))
          (λ ends. let z : Running ≡ Releasing = sym e ∙ ends in cc) undone)
      at Yielding e = absurd (differ (has k owed) (set Yielding e) (owes_none owed (i.open_owes_none (ap is_open e)) k))
      at Withdrawing e = absurd (differ (has k owed) (set Withdrawing e) (owes_none owed (i.open_owes_none (ap is_open e)) k))
      at Releasing e = (e, set Releasing e)

  pub unmarked_unowed : (k : ℕ) → k < LOCKS → (b : Bool) → flag b ≡ bit_at (slice_index copy.written (k / 64)) (k % 64) → b ≡ false → has k owed ≡ false
  unmarked_unowed k near b shown off = at phase refl
    where
      clear : (p : Phase) → phase ≡ p → has k (written_or_owed p undo owed) ≡ false
      clear p e = flag_false (has k (written_or_owed p undo owed))
          (sym ((subst (λ (q : Phase). ShowsLocks copy.written (written_or_owed q undo owed)) e i.written_are).bits k near)
          ∙ (sym shown ∙ ap flag off))

      at : (p : Phase) → phase ≡ p → has k owed ≡ false
      at Idle e = clear Idle e
      at Running e = owes_none owed (i.open_owes_none (ap is_open e)) k
      at Yielding e = clear Yielding e
      at Withdrawing e = clear Withdrawing e
      at Releasing e = clear Releasing e

  -- a lock that was used has the version that the copy has
  pub used_found : (k : ℕ) → has k (locks_found uses) ≡ true → IsIn (k, slice_index copy.found.items k) uses
  used_found k used = let t = use_found uses k used in subst (λ (x : ℕ). IsIn (k, x) uses) (sym (i.found_are k t.0 t.1)) t.1

  -- and so has one that is owed
  pub found_again : (k : ℕ) → has k owed ≡ true → IsIn (k, slice_index copy.found.items k) uses
  found_again k owes = used_found k (i.owed_used k owes)

  -- what the bits of a lock say of its use, and of its writes as long as the call may write
  pub bit_used : (k : ℕ) → k < LOCKS → (b : Bool) → flag b ≡ bit_at (slice_index copy.used (k / 64)) (k % 64) → has k (locks_found uses) ≡ b
  bit_used k near b shown = flag_injective (has k (locks_found uses)) b (sym (i.used_are.bits k near) ∙ sym shown)

  pub bit_written : (k : ℕ) → k < LOCKS → (b : Bool) → flag b ≡ bit_at (slice_index copy.written (k / 64)) (k % 64)
      → (phase ≡ Running) ⊎ ((phase ≡ Withdrawing) × (undo ≡ [])) → b ≡ has k (locks_of undo)
  bit_written k near b shown may = ⊎_elim
      (λ runs. sym (flag_injective (has k (locks_of undo)) b
      (sym ((subst (λ (p : Phase). ShowsLocks copy.written (written_or_owed p undo owed)) runs i.written_are).bits k near) ∙ sym shown)))
      (λ t. sym (flag_injective (has k owed) b
      (sym ((subst (λ (p : Phase). ShowsLocks copy.written (written_or_owed p undo owed)) t.0 i.written_are).bits k near) ∙ sym shown))
      ∙ (owes_none owed (i.open_owes_none (ap is_open t.0)) k ∙ sym (ap (λ (l : Notes). has k (locks_of l)) t.1 ∙ has-nil k))) may
