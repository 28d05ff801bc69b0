-- A load, a store and its undoing keep the value invariant.
use Rattle.values_rule.proofs.Common.{◌≡◌, ◌≢◌, ℕ, ◌-◌, ◌<◌, true, inl, inr, ⊎_elim, List, [], ◌∷◌, ◌++◌, length, take, Option, Some, None, IsSome, slice_get}
use Rattle.values_rule.proofs.Common.{slice_index, slice_set, refl, sym, ap, ◌∙◌, subst, arith, get_or-set_other, same_Some, dite, ℕ_discrete, Read, Write}
use Rattle.values_rule.proofs.Common.{View, Phase, Idle, Running, Yielding, Withdrawing, Releasing, is_attempt, is_open, lock_of_word, Knows, serial_word}
use Rattle.values_rule.proofs.Common.{calls_word, commits_word, version_word, value_word, Trace, after, Writes, Touches, value_after, Notes, HasWriteGrant}
use Rattle.values_rule.proofs.Common.{IsGranted, IsIn, same_view, get_last, LocksHold, own, load_value_action, store_value_action, undo_store_action}
use Rattle.values_rule.proofs.Common.{undoing_phase, MayLoadValue, MayStoreValue, MayUndoStore, table_value, oldest, KeepsValueRule, ValuesHold, now_of}
use Rattle.std.proofs.Common.{unwrap_or}
use Rattle.history_model.proofs.Traces.EndEvents.{touches_read, writes_read, writes_first, touches_write, writes_write, last_write, last_read_same}
use Rattle.history_model.proofs.Traces.EndEvents.{last_read_other, last_write_same, last_write_other}
use Rattle.history_model.proofs.Traces.TraceLaws.{legal_read, legal_write}
use Rattle.values_rule.specs.Steps.{known_value}
use Rattle.values_rule.proofs.Notes.{option_cases, is_missing, oldest_more, oldest_first, oldest_one, oldest_other, oldest_apart, older_is}
use Rattle.values_rule.proofs.Stores.{shut_out, in_base, set_here, set_there, not_none}
use Rattle.values_rule.proofs.Phases.{undoing_attempt, undoing_open, undoing_runs, undoing_rests, open_begun}
use Rattle.values_rule.proofs.Told.Owing.{version_kept}
use Rattle.values_rule.proofs.Parts.Frames.{calls_same}
use Rattle.values_rule.proofs.Told.Current.{current}
use Rattle.values_rule.proofs.Told.Excludes.{not_released}
use Rattle.values_rule.proofs.Parts.Moves.{moves}

-- a word under the own exclusive lock that this seat has not noted, nobody has
nobody_noted : (good : List ℕ → Type 0) (n : ℕ) (base ws : List ℕ) (vs : List View) (id j : ℕ) (v : View)
    → LocksHold n base ws vs → ValuesHold good n base ws vs → Knows vs id v → v.who ≡ j ∷ []
    → (a : ℕ) → HasWriteGrant v (lock_of_word a) → oldest a v.undo ≡ None → (other : ℕ) (u : View) → Knows vs other u → oldest a u.undo ≡ None
nobody_noted good n base ws vs id j v h q me single a granted none other u k = dite (ℕ_discrete other id)
    (λ e. subst (λ (x : View). oldest a x.undo ≡ None) (sym (same_view vs id other v u me k e)) none)
    (λ ne. ⊎_elim (λ (t : oldest a u.undo ≡ None). t)
    (λ (t : (y : ℕ) × (oldest a u.undo ≡ Some y)).
    let c = q.undo.noted other a t.0 u k t.1 in
    absurd (shut_out n base ws vs other id j (lock_of_word a) u v h (λ z. ne (sym z)) k (own n base ws vs id j v h me single).seat (inr granted) c.1))
    (option_cases (oldest a u.undo)))

-- a word that was read last is touched
was_read : (t : Trace) (a : ℕ) → (before : Trace) × (old : ℕ) × (t ≡ before ++ Read a old ∷ []) → Touches t a
was_read t a r = subst (λ (l : Trace). Touches l a) (sym r.2) (length r.0, r.1, inl (get_last r.0 (Read a r.1)))

pub load_value_values : (good : List ℕ → Type 0) (j a : ℕ) → KeepsValueRule good (MayLoadValue j a) (load_value_action j a)
load_value_values good j a n base ws vs id v h q me may =
    let o = own n base ws vs id j v h me may.who in
    let i : ℕ = value_word v.seats a in
    let x : ℕ = slice_index ws i in
    let w : View = record v { trace = v.trace ++ Read a x ∷ [] } in
    let ws' : List ℕ = slice_set ws i x in
    let within : a < length base = in_base n base ws vs id j v h o a x may.word in
    let is_x : x ≡ table_value n ws a = ap (λ (m : ℕ). slice_index ws (value_word m a)) o.seats in
    let found : slice_get (after v.trace (now_of n base ws vs)) a ≡ Some x =
    current good n base ws vs id j v h q me may.who may.phase a within may.granted ∙ ap (λ (y : ℕ). Some y) (sym is_x) in
    let busy : is_attempt v.phase ≡ true = ap is_attempt may.phase in
    let same : (b : ℕ) → table_value n ws' b ≡ table_value n ws b = λ b. dite (ℕ_discrete b a)
    (λ e. subst (λ (c : ℕ). table_value n ws' c ≡ table_value n ws c) (sym e) (set_here n base ws vs id j v h o a x may.word ∙ is_x))
    (λ ne. set_there n base ws vs id j v h o a x may.word b ne) in
    moves good n base ws ws' vs id v w h q me
    (record {
      serial = get_or-set_other ws i serial_word x 0 (λ e. omega arith);
      versions = λ k. version_kept n ws ws' (λ l near. get_or-set_other ws i (version_word n l) x 0 (λ e. omega (arith, o.seats))) k;
      who = refl;
      seen = refl;
      calls = calls_same vs id v w me refl n ws ws' refl refl refl (λ b. b) (λ p. p)
          (λ b lt. get_or-set_other ws i (calls_word n b) x 0 (λ e. omega (arith, o.seats)))
          (λ b lt. get_or-set_other ws i (commits_word n b) x 0 (λ e. omega (arith, o.seats))) (λ l u other s. h.numbers_below other l u s) q.calls;
      attempts_to = λ z p t. (p, t);
      attempts_from = λ z p t. (p, t);
      floor = λ p. q.floor.floor id v me p;
      causes = λ l one b. q.floor.causes id l v me one b;
    })
    (record {
      owed = λ k. refl;
      held = λ k y t p. p;
      granted = λ k y b m. q.uses.granted id k y v me busy m;
      once = λ k y z s t. q.uses.once id k y z v me s t;
      covered = λ b p t. ⊎_elim (λ z. q.uses.covered id b v me busy z)
          (λ (z : b ≡ a). subst (λ (c : ℕ). (y : ℕ) × IsIn (lock_of_word c, y) v.uses) (sym z) may.used) (touches_read v.trace a x b t);
    })
    (record {
      noted = λ b y t. q.undo.noted id b y v me t;
      unnoted = λ b lt t. inl (t, same b);
      foreign = λ b lt away. same b;
    })
    (record {
      granted = λ b t k. ⊎_elim (λ z. q.trace.granted id b v me busy z)
          (λ (z : b ≡ a). subst (λ (c : ℕ). (c < length base) × IsGranted v (lock_of_word c)) (sym z) (within, may.granted)) (touches_read v.trace a x b k);
      legal = λ t. legal_read v.trace (now_of n base ws vs) a x (q.trace.legal id v me busy) found;
      undo_written = λ b y t k. writes_first v.trace (Read a x ∷ []) b (q.trace.undo_written id b y v me busy k);
      written_noted = λ b t k. q.trace.written_noted id b v me may.phase (writes_read v.trace a x b k);
      last_stands = λ b y t k. same b ∙ dite (ℕ_discrete b a)
          (λ e. ap (λ (c : ℕ). table_value n ws c) e ∙ (sym is_x ∙ same_Some x y (sym (last_read_same v.trace a x b e) ∙ k)))
          (λ ne. q.trace.last_stands id b y v me may.phase (sym (last_read_other v.trace a x b ne) ∙ k));
      rested = λ t. q.trace.rested id v me t;
    })

pub store_value_values : (good : List ℕ → Type 0) (j a x : ℕ) → KeepsValueRule good (MayStoreValue j a) (store_value_action j a x)
store_value_values good j a x n base ws vs id v h q me may =
    let o = own n base ws vs id j v h me may.who in
    let i : ℕ = value_word v.seats a in
    let old : ℕ = known_value v a in
    let w : View = record v { trace = v.trace ++ Write a x ∷ []; undo = v.undo ++ (a, old) ∷ [] } in
    let ws' : List ℕ = slice_set ws i x in
    let within : a < length base = in_base n base ws vs id j v h o a x may.word in
    let busy : is_attempt v.phase ≡ true = ap is_attempt may.phase in
    let here : table_value n ws' a ≡ x = set_here n base ws vs id j v h o a x may.word in
    let there : (b : ℕ) → b ≢ a → table_value n ws' b ≡ table_value n ws b = set_there n base ws vs id j v h o a x may.word in
    let last : value_after v.trace a None ≡ Some may.read.1 = ap (λ (t : Trace). value_after t a None) may.read.2
    ∙ last_read_same may.read.0 a may.read.1 a refl in
    let is_old : old ≡ may.read.1 = ap (λ (y : Option ℕ). unwrap_or y 0) last in
    let stands : table_value n ws a ≡ old = q.trace.last_stands id a may.read.1 v me may.phase last ∙ sym is_old in
    moves good n base ws ws' vs id v w h q me
    (record {
      serial = get_or-set_other ws i serial_word x 0 (λ e. omega arith);
      versions = λ k. version_kept n ws ws' (λ l near. get_or-set_other ws i (version_word n l) x 0 (λ e. omega (arith, o.seats))) k;
      who = refl;
      seen = refl;
      calls = calls_same vs id v w me refl n ws ws' refl refl refl (λ b. b) (λ p. p)
          (λ b lt. get_or-set_other ws i (calls_word n b) x 0 (λ e. omega (arith, o.seats)))
          (λ b lt. get_or-set_other ws i (commits_word n b) x 0 (λ e. omega (arith, o.seats))) (λ l u other s. h.numbers_below other l u s) q.calls;
      attempts_to = λ z p t. (p, t);
      attempts_from = λ z p t. (p, t);
      floor = λ p. q.floor.floor id v me p;
      causes = λ l one b. q.floor.causes id l v me one b;
    })
    (record {
      owed = λ k. refl;
      held = λ k y t p. p;
      granted = λ k y b m. q.uses.granted id k y v me busy m;
      once = λ k y z s t. q.uses.once id k y z v me s t;
      covered = λ b p t. ⊎_elim (λ z. q.uses.covered id b v me busy z)
          (λ (z : b ≡ a). subst (λ (c : ℕ). (y : ℕ) × IsIn (lock_of_word c, y) v.uses) (sym z)
          (q.uses.covered id a v me busy (was_read v.trace a may.read))) (touches_write v.trace a x b t);
    })
    (record {
      noted = λ b y t. ⊎_elim
          (λ (none : oldest b v.undo ≡ None). dite (ℕ_discrete b a)
          (λ e. let y_old : old ≡ y = same_Some old y (sym (oldest_first b v.undo ((a, old) ∷ []) none ∙ oldest_one b a old e) ∙ t) in
          let free : (other : ℕ) (u : View) → Knows vs other u
          → oldest a u.undo ≡ None = nobody_noted good n base ws vs id j v h q me may.who a may.granted
          (subst (λ (c : ℕ). oldest c v.undo ≡ None) e none) in
          subst (λ (c : ℕ). (c < length base) × HasWriteGrant v (lock_of_word c) × (slice_get (now_of n base ws vs) c ≡ Some y)) (sym e)
          (within, may.granted, q.undo.unnoted a within free ∙ ap (λ (z : ℕ). Some z) (stands ∙ y_old)))
          (λ ne. absurd (let z : None ≡ Some y = sym (oldest_first b v.undo ((a, old) ∷ []) none ∙ oldest_other b a old ne) ∙ t in cc)))
          (λ (some : (z : ℕ) × (oldest b v.undo ≡ Some z)). q.undo.noted id b y v me (some.1 ∙ (sym (oldest_more b v.undo ((a, old) ∷ []) some.0 some.1) ∙ t)))
          (option_cases (oldest b v.undo));
      unnoted = λ b lt t.
          let ne : b ≢ a = λ e. not_none b old (⊎_elim
          (λ (none : oldest b v.undo ≡ None). (old, oldest_first b v.undo ((a, old) ∷ []) none ∙ oldest_one b a old e))
          (λ (some : (z : ℕ) × (oldest b v.undo ≡ Some z)). (some.0, oldest_more b v.undo ((a, old) ∷ []) some.0 some.1))
          (option_cases (oldest b v.undo))) t in
          inl (sym (oldest_apart b a old v.undo ne) ∙ t, there b ne);
      foreign = λ b lt away. there b (λ e. away (subst (λ (c : ℕ). HasWriteGrant v (lock_of_word c)) (sym e) may.granted));
    })
    (record {
      granted = λ b t k. ⊎_elim (λ z. q.trace.granted id b v me busy z)
          (λ (z : b ≡ a). subst (λ (c : ℕ). (c < length base) × IsGranted v (lock_of_word c)) (sym z) (within, inr may.granted))
          (touches_write v.trace a x b k);
      legal = λ t. legal_write v.trace (now_of n base ws vs) a x (q.trace.legal id v me busy);
      undo_written = λ b y t k. dite (ℕ_discrete b a)
          (λ e. subst (λ (c : ℕ). Writes (v.trace ++ Write a x ∷ []) c) (sym e) (last_write v.trace a x))
          (λ ne. writes_first v.trace (Write a x ∷ []) b (q.trace.undo_written id b y v me busy (sym (oldest_apart b a old v.undo ne) ∙ k)));
      written_noted = λ b t k. ⊎_elim
          (λ (none : oldest b v.undo ≡ None). ⊎_elim
          (λ z. absurd (is_missing (oldest b v.undo) none (q.trace.written_noted id b v me may.phase z)))
          (λ (e : b ≡ a). subst (λ (y : Option ℕ). IsSome y) (sym (oldest_first b v.undo ((a, old) ∷ []) none ∙ oldest_one b a old e)) refl)
          (writes_write v.trace a x b k))
          (λ (some : (z : ℕ) × (oldest b v.undo ≡ Some z)). subst (λ (y : Option ℕ). IsSome y) (sym (oldest_more b v.undo ((a, old) ∷ []) some.0 some.1)) refl)
          (option_cases (oldest b v.undo));
      last_stands = λ b y t k. dite (ℕ_discrete b a)
          (λ e. ap (λ (c : ℕ). table_value n ws' c) e ∙ (here ∙ same_Some x y (sym (last_write_same v.trace a x b e) ∙ k)))
          (λ ne. there b ne ∙ q.trace.last_stands id b y v me may.phase (sym (last_write_other v.trace a x b ne) ∙ k));
      rested = λ t. absurd (⊎_elim (λ e. let z : Running ≡ Idle = sym may.phase ∙ e in cc) (λ e. let z : Running ≡ Releasing = sym may.phase ∙ e in cc) t);
    })

undoing_stays : (p : Phase) → is_open p ≡ true → is_open (undoing_phase p) ≡ true
undoing_stays Idle t = absurd (cc)
undoing_stays Running t = refl
undoing_stays Yielding t = refl
undoing_stays Withdrawing t = refl
undoing_stays Releasing t = absurd (cc)

pub undo_store_values : (good : List ℕ → Type 0) (j a old : ℕ) → KeepsValueRule good (MayUndoStore j a old) (undo_store_action j a old)
undo_store_values good j a old n base ws vs id v h q me may =
    let o = own n base ws vs id j v h me may.who in
    let i : ℕ = value_word v.seats a in
    let older : Notes = may.newest.0 in
    let split : v.undo ≡ older ++ (a, old) ∷ [] = may.newest.1 in
    let w : View = record v { phase = undoing_phase v.phase; undo = take (length v.undo - 1) v.undo } in
    let less : w.undo ≡ older = older_is v.undo older a old split in
    let ws' : List ℕ = slice_set ws i old in
    -- the word that is undone is noted
    let some : (y : ℕ) × (oldest a v.undo ≡ Some y) = ⊎_elim
    (λ (none : oldest a older ≡ None). (old, ap (λ (l : Notes). oldest a l) split ∙ (oldest_first a older ((a, old) ∷ []) none ∙ oldest_one a a old refl)))
    (λ (t : (z : ℕ) × (oldest a older ≡ Some z)). (t.0, ap (λ (l : Notes). oldest a l) split ∙ oldest_more a older ((a, old) ∷ []) t.0 t.1))
    (option_cases (oldest a older)) in
    let noted = q.undo.noted id a some.0 v me some.1 in
    let word : a < length v.base = subst (λ (l : List ℕ). a < length l) (sym (h.bases_alike id j v o.seat)) noted.0 in
    let here : table_value n ws' a ≡ old = set_here n base ws vs id j v h o a old word in
    let there : (b : ℕ) → b ≢ a → table_value n ws' b ≡ table_value n ws b = set_there n base ws vs id j v h o a old word in
    let still : (b y : ℕ) → oldest b w.undo ≡ Some y → oldest b v.undo ≡ Some y = λ b y t.
    ap (λ (l : Notes). oldest b l) split ∙ oldest_more b older ((a, old) ∷ []) y (ap (λ (l : Notes). oldest b l) (sym less) ∙ t) in
    moves good n base ws ws' vs id v w h q me
    (record {
      serial = get_or-set_other ws i serial_word old 0 (λ e. omega arith);
      versions = λ k. version_kept n ws ws' (λ l near. get_or-set_other ws i (version_word n l) old 0 (λ e. omega (arith, o.seats))) k;
      who = refl;
      seen = refl;
      calls = calls_same vs id v w me refl n ws ws' refl refl refl (λ b. open_begun v.phase may.phase) (λ p. undoing_open v.phase p)
          (λ b lt. get_or-set_other ws i (calls_word n b) old 0 (λ e. omega (arith, o.seats)))
          (λ b lt. get_or-set_other ws i (commits_word n b) old 0 (λ e. omega (arith, o.seats))) (λ l u other s. h.numbers_below other l u s) q.calls;
      attempts_to = λ z p t. (undoing_open v.phase p, t);
      attempts_from = λ z p t. (undoing_stays v.phase p, t);
      floor = λ p. q.floor.floor id v me (undoing_open v.phase p);
      causes = λ l one b. q.floor.causes id l v me one (open_begun v.phase may.phase);
    })
    (record {
      owed = λ k. refl;
      held = λ k y t p. absurd (not_released v.phase may.phase p.0);
      granted = λ k y b m. q.uses.granted id k y v me (undoing_attempt v.phase may.phase b) m;
      once = λ k y z s t. q.uses.once id k y z v me s t;
      covered = λ b p t. q.uses.covered id b v me (undoing_attempt v.phase may.phase p) t;
    })
    (record {
      noted = λ b y t. q.undo.noted id b y v me (still b y t);
      unnoted = λ b lt t.
          let none : oldest b older ≡ None = ap (λ (l : Notes). oldest b l) (sym less) ∙ t in
          dite (ℕ_discrete b a)
          (λ e. let was : oldest b v.undo ≡ Some old = ap (λ (l : Notes). oldest b l) split
          ∙ (oldest_first b older ((a, old) ∷ []) none ∙ oldest_one b a old e) in
          inr ((q.undo.noted id b old v me was).2 ∙ ap (λ (y : ℕ). Some y) (sym (ap (λ (c : ℕ). table_value n ws' c) e ∙ here))))
          (λ ne. inl (ap (λ (l : Notes). oldest b l) split ∙ (oldest_apart b a old older ne ∙ none), there b ne));
      foreign = λ b lt away. there b (λ e. away (subst (λ (c : ℕ). HasWriteGrant v (lock_of_word c)) (sym e) noted.1));
    })
    (record {
      granted = λ b t k. q.trace.granted id b v me (undoing_attempt v.phase may.phase t) k;
      legal = λ t. q.trace.legal id v me (undoing_attempt v.phase may.phase t);
      undo_written = λ b y t k. q.trace.undo_written id b y v me (undoing_attempt v.phase may.phase t) (still b y k);
      written_noted = λ b t k. absurd (undoing_runs v.phase t);
      last_stands = λ b y t k. absurd (undoing_runs v.phase t);
      rested = λ t. absurd (undoing_rests v.phase may.phase t);
    })
