-- The beginning of a call keeps the value invariant.
use Rattle.values_rule.proofs.Common.{◌≡◌, ◌≢◌, ℕ, ◌+◌, ◌^◌, ◌<◌, true, false, ◌⊎◌, inl, ⊎_elim, List, [], ◌∷◌, length, Some, None, slice_index, slice_set}
use Rattle.values_rule.proofs.Common.{refl, sym, ap, ◌∙◌, subst, arith, get_or-set_other, get_or-set_same, dite, ℕ_discrete, View, Idle, Releasing, is_open}
use Rattle.values_rule.proofs.Common.{has, Knows, serial_word, calls_word, commits_word, version_word, value_word, Notes, put_cases, has-nil, has-one, differ}
use Rattle.values_rule.proofs.Common.{not_true, own, table_value, oldest, last_call, now_of, KeepsValueRule, CallsCounted, begin_call_action, MayBeginCall}
use Rattle.values_rule.proofs.Members.{none_in}
use Rattle.values_rule.proofs.Notes.{oldest-nil}
use Rattle.values_rule.proofs.Traces.{fresh_trace}
use Rattle.values_rule.proofs.Parts.Frames.{recorded_to}
use Rattle.values_rule.proofs.Parts.Moves.{moves}
use Rattle.values_rule.proofs.Told.Owing.{version_kept}

pub begin_call_values : (good : List ℕ → Type 0) (j : ℕ) → KeepsValueRule good (MayBeginCall j) (begin_call_action j)
begin_call_values good j n base ws vs id v h q me may =
    let o = own n base ws vs id j v h me may.who in
    let i : ℕ = calls_word v.seats j in
    let x : ℕ = v.call + 1 in
    let w : View = (begin_call_action j v).view (slice_index ws i) in
    let ws' : List ℕ = slice_set ws i x in
    let vs' : List View = slice_set vs id w in
    let alone : v.joined ≡ false = q.calls.alone_unjoined id j v me may.who in
    let none : v.undo ≡ [] = q.trace.rested id v me (inl may.phase) in
    let long : i < length ws = omega (arith, h.word_count, o.below) in
    let here : slice_index ws' (calls_word n j) ≡ x = (let same : calls_word v.seats j ≡ calls_word n j = ap (λ (m : ℕ). calls_word m j) o.seats in
    ap (λ (m : ℕ). slice_index (slice_set ws m x) (calls_word n j)) same ∙ get_or-set_same ws (calls_word n j) x 0 (omega arith)) in
    let there : (l : ℕ) → l ≢ j → slice_index ws' (calls_word n l) ≡ slice_index ws (calls_word n l) =
    λ l ne. get_or-set_other ws i (calls_word n l) x 0 (λ e. ne (omega arith)) in
    let value_stays : (a : ℕ) → table_value n ws' a ≡ table_value n ws a = λ a. get_or-set_other ws i (value_word n a) x 0
    (λ e. omega (arith, o.seats, o.below)) in
    let commit_stays : (l : ℕ) → slice_index ws' (commits_word n l) ≡ slice_index ws (commits_word n l) =
    λ l. get_or-set_other ws i (commits_word n l) x 0 (λ e. omega (arith, o.seats, o.below)) in
    let one : (l : ℕ) (u : View) → w ≡ u → has l u.who ≡ true
    → l ≡ j = λ l u same t. has-one l j (subst (λ (s : List ℕ). has l s ≡ true) (ap (λ (y : View). y.who) (sym same) ∙ may.who) t) in
    let away : (l other : ℕ) (u : View) → other ≢ id → Knows vs other u → has l u.who ≡ true
    → l ≢ j = λ l other u ne k t e. ne (h.numbers_unique other id j u v (record {
      knows = k;
      named = subst (λ (y : ℕ). has y u.who ≡ true) e t;
    }) o.seat) in
    let case : (other : ℕ) (u : View) → Knows vs' other u
    → ((other ≡ id) × (w ≡ u)) ⊎ ((other ≢ id) × Knows vs other u) = λ other u k. put_cases vs id other w u k in
    let calls : CallsCounted n ws' vs' = record {
      callers_alone = λ other u k busy. ⊎_elim (λ z. (j, subst (λ (y : View). y.who ≡ j ∷ []) z.1 may.who))
          (λ z. q.calls.callers_alone other u z.1 busy) (case other u k);
      alone_unjoined = λ other l u k single. ⊎_elim (λ z. subst (λ (y : View). y.joined ≡ false) z.1 alone)
          (λ z. q.calls.alone_unjoined other l u z.1 single) (case other u k);
      dealers_fresh = λ other a b u s t ne un. ⊎_elim
          (λ z. absurd (ne (one a u z.1 s.named ∙ sym (one b u z.1 t.named))))
          (λ z. q.calls.dealers_fresh other a b u (record { knows = z.1; named = s.named }) (record { knows = z.1; named = t.named }) ne un)
          (case other u s.knows);
      calls_shown = λ other l u s un. ⊎_elim
          (λ z. subst (λ (m : ℕ). slice_index ws' (calls_word n m) ≡ u.call) (sym (one l u z.1 s.named)) (here ∙ ap (λ (y : View). y.call) z.1))
          (λ z. there l (away l other u z.0 z.1 s.named) ∙ q.calls.calls_shown other l u (record { knows = z.1; named = s.named }) un) (case other u s.knows);
      calls_fit = λ l lt. dite (ℕ_discrete l j) (λ e. subst (λ (y : ℕ). slice_index ws' (calls_word n y) < 2 ^ 32) (sym e) (omega (arith, here, may.room)))
          (λ ne. subst (λ (y : ℕ). y < 2 ^ 32) (sym (there l ne)) (q.calls.calls_fit l lt));
      commits_shown = λ other l u s un. commit_stays l ∙ ⊎_elim
          (λ z. subst (λ (y : View). slice_index ws (commits_word n l) ≡ last_call l y.seen) z.1
          (subst (λ (m : ℕ). slice_index ws (commits_word n m) ≡ last_call m v.seen)
          (sym (one l u z.1 s.named)) (q.calls.commits_shown id j v o.seat alone)))
          (λ z. q.calls.commits_shown other l u (record { knows = z.1; named = s.named }) un) (case other u s.knows);
      numbered = λ other l u e s un r own_entry. ⊎_elim
          (λ z. let le = q.calls.numbered id j v e o.seat alone (recorded_to vs id v w me refl e r) (own_entry ∙ one l u z.1 s.named) in
          let same : x ≡ u.call = ap (λ (y : View). y.call) z.1 in omega arith)
          (λ z. q.calls.numbered other l u e (record { knows = z.1; named = s.named }) un (recorded_to vs id v w me refl e r) own_entry) (case other u s.knows);
      open_numbered = λ other l u e s un busy r own_entry. ⊎_elim
          (λ z. let le = q.calls.numbered id j v e o.seat alone (recorded_to vs id v w me refl e r) (own_entry ∙ one l u z.1 s.named) in
          let same : x ≡ u.call = ap (λ (y : View). y.call) z.1 in omega arith)
          (λ z. q.calls.open_numbered other l u e (record { knows = z.1; named = s.named }) un busy (recorded_to vs id v w me refl e r) own_entry)
          (case other u s.knows);
      begun = λ other u k busy. ⊎_elim (λ z. let same : x ≡ u.call = ap (λ (y : View). y.call) z.1 in omega arith)
          (λ z. q.calls.begun other u z.1 busy) (case other u k);
    } in
    moves good n base ws ws' vs id v w h q me
    (record {
      serial = get_or-set_other ws i serial_word x 0 (λ e. omega arith);
      versions = λ k. version_kept n ws ws' (λ l near. get_or-set_other ws i (version_word n l) x 0 (λ e. omega (arith, o.seats, o.below))) k;
      who = refl;
      seen = refl;
      calls = calls;
      attempts_to = λ z p t. absurd (let e = t.at in cc);
      attempts_from = λ z p t. absurd (let e : true ≡ false = sym p ∙ ap is_open may.phase in cc);
      floor = λ p. refl;
      causes = λ l single busy. record {
        fronts = λ y t. absurd (none_in y t);
        bounded = λ y t. absurd (none_in y t);
        differ = λ a b y z at more same. absurd (none_in y (a, at));
      };
    })
    (record {
      owed = λ k. has-nil k ∙ sym (not_true (has k v.owed) (λ t. let e : Idle ≡ Releasing = sym may.phase ∙ (q.owed.held id k v me t).0 in cc));
      held = λ k y t p. absurd (differ (has k []) t (has-nil k));
      granted = λ k y b m. absurd (none_in (k, y) m);
      once = λ k y z s t. absurd (none_in (k, y) s);
      covered = λ b p t. absurd (⊎_elim (λ e. cc) (λ e. cc) t.2);
    })
    (record {
      noted = λ a y t. absurd (let z : None ≡ Some y = sym (oldest-nil a) ∙ t in cc);
      unnoted = λ a lt t. inl (ap (λ (l : Notes). oldest a l) none ∙ oldest-nil a, value_stays a);
      foreign = λ a lt no_grant. value_stays a;
    })
    (fresh_trace n base (now_of n base ws vs) ws' w refl refl refl)
