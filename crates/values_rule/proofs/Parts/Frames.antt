-- What a step of one seat owes that adds no entry, part by part. The seat goes from the view v to w while the words go from
-- ws to ws'.
use Rattle.values_rule.proofs.Common.{◌≡◌, ◌≢◌, ℕ, ◌^◌, ◌<◌, ◌≤◌, Bool, true, false, ◌⊎◌, ⊎_elim, List, [], Some, None, IsSome, slice_get, slice_index}
use Rattle.values_rule.proofs.Common.{slice_set, refl, sym, ap, ◌∙◌, subst, arith, dite, ℕ_discrete, Entry, Item, View, Idle, Running, Releasing, Drops}
use Rattle.values_rule.proofs.Common.{passing, is_attempt, is_open, AgreeWithVersions, IsIn, lock_of_word, has, Knows, calls_word, commits_word, Trace, Writes}
use Rattle.values_rule.proofs.Common.{Touches, IsLegalTrace, value_after, Notes, HasWriteGrant, IsGranted, drops_agree, drops_arranged, drops_values, same_view}
use Rattle.values_rule.proofs.Common.{put_here, put_there, put_cases, IsSeat, table_value, oldest, UndoRestores, TraceCurrent, last_call, items_of}
use Rattle.values_rule.proofs.Common.{next_version, now_of, IsRecorded, Knew, RecordsClosed, CallsCounted, ItemsArranged}
use Rattle.history_model.specs.Items.{value_at as value_by_version}
use Rattle.values_rule.proofs.Told.Newest.{newest_same}

-- the same entries are recorded, and each view has seen no less of its own
pub records_move : (n : ℕ) (vs vs' : List View) → RecordsClosed n vs
    → ((y : Entry) → IsRecorded vs' y → IsRecorded vs y) → ((y : Entry) → IsRecorded vs y → IsRecorded vs' y)
    → ((id j : ℕ) (v : View) (e : Entry) → IsSeat vs' id v j → IsRecorded vs e → e.who ≡ j → IsIn e v.seen)
    → ((id : ℕ) (v : View) (e x : Entry) → Knows vs' id v → IsIn e v.seen → IsRecorded vs x → Knew e x → IsIn x v.seen)
    → ((id : ℕ) (v : View) → Knows vs' id v → (p q : ℕ) (x : Entry) → slice_get v.seen p ≡ Some x → slice_get v.seen q ≡ Some x → p ≡ q)
    → RecordsClosed n vs'
records_move n vs vs' r to from own known apart = record {
  own_seen = λ id j v e s t o. own id j v e s (to e t) o;
  known_seen = λ id v e x k i t w. known id v e x k i (to x t) w;
  knew_own = λ e x s t who less. r.knew_own e x (to e s) (to x t) who less;
  not_itself = λ e s. r.not_itself e (to e s);
  knew_entry = λ e j s some. let z = r.knew_entry e j (to e s) some in (z.0, from z.0 z.1, z.2, z.3);
  one = λ e x s t who call. r.one e x (to e s) (to x t) who call;
  by_seat = λ e s. r.by_seat e (to e s);
  from_one = λ e s. r.from_one e (to e s);
  apart = apart;
  floors = λ e s. let f = r.floors e (to e s) in record {
    known = f.known;
    apart = f.apart;
    all = λ x t k. f.all x (to x t) k;
    only = λ x t. let o = f.only x t in (from x o.0, o.1);
    count = f.count;
  };
  causes = λ e s. r.causes e (to e s);
}

module _ (vs : List View) (id : ℕ) (v w : View) (me : Knows vs id v) (seen : w.seen ≡ v.seen) where
  case : (other : ℕ) (u : View) → Knows (slice_set vs id w) other u → ((other ≡ id) × (w ≡ u)) ⊎ ((other ≢ id) × Knows vs other u)
  case other u e = put_cases vs id other w u e

  was_seen : (y : Entry) (u : View) → w ≡ u → IsIn y u.seen → IsIn y v.seen
  was_seen y u same t = subst (λ (l : List Entry). IsIn y l) (ap (λ (z : View). z.seen) (sym same) ∙ seen) t

  is_seen : (y : Entry) (u : View) → w ≡ u → IsIn y v.seen → IsIn y u.seen
  is_seen y u same t = subst (λ (l : List Entry). IsIn y l) (sym (ap (λ (z : View). z.seen) (sym same) ∙ seen)) t

  pub recorded_to : (y : Entry) → IsRecorded (slice_set vs id w) y → IsRecorded vs y
  recorded_to y r = ⊎_elim
      (λ t. record { id = id; view = v; knows = me; seen = was_seen y r.view t.1 r.seen })
      (λ t. record { id = r.id; view = r.view; knows = t.1; seen = r.seen }) (case r.id r.view r.knows)

  pub recorded_from : (y : Entry) → IsRecorded vs y → IsRecorded (slice_set vs id w) y
  recorded_from y r = dite (ℕ_discrete r.id id)
      (λ e. record {
        id = id;
        view = w;
        knows = put_here vs id v w me;
        seen = is_seen y w refl (subst (λ (u : View). IsIn y u.seen) (same_view vs id r.id v r.view me r.knows e) r.seen);
      })
      (λ ne. record { id = r.id; view = r.view; knows = put_there vs id r.id w r.view ne r.knows; seen = r.seen })

  -- the seat's numbers and what it has seen stay
  pub records_same : (n : ℕ) → w.who ≡ v.who → RecordsClosed n vs → RecordsClosed n (slice_set vs id w)
  records_same n who r = records_move n vs (slice_set vs id w) r recorded_to recorded_from
      (λ other j u e s t o. ⊎_elim
      (λ z. is_seen e u z.1 (r.own_seen id j v e (record {
        knows = me;
        named = subst (λ (l : List ℕ). has j l ≡ true) (ap (λ (y : View). y.who) (sym z.1) ∙ who) s.named;
      }) t o))
      (λ z. r.own_seen other j u e (record { knows = z.1; named = s.named }) t o) (case other u s.knows))
      (λ other u e x k i t kn. ⊎_elim
      (λ z. is_seen x u z.1 (r.known_seen id v e x me (was_seen e u z.1 i) t kn))
      (λ z. r.known_seen other u e x z.1 i t kn) (case other u k))
      (λ other u k p q x at more. ⊎_elim
      (λ z. let same : u.seen ≡ v.seen = ap (λ (y : View). y.seen) (sym z.1) ∙ seen in
      r.apart id v me p q x (subst (λ (l : List Entry). slice_get l p ≡ Some x) same at) (subst (λ (l : List Entry). slice_get l q ≡ Some x) same more))
      (λ z. r.apart other u z.1 p q x at more) (case other u k))

  -- calls: the call goes on, or ends
  pub calls_same : (n : ℕ) (ws ws' : List ℕ) → w.who ≡ v.who → w.joined ≡ v.joined → w.call ≡ v.call
      → (w.phase ≢ Idle → v.phase ≢ Idle) → (is_open w.phase ≡ true → is_open v.phase ≡ true)
      → ((i : ℕ) → i < n → slice_index ws' (calls_word n i) ≡ slice_index ws (calls_word n i))
      → ((i : ℕ) → i < n → slice_index ws' (commits_word n i) ≡ slice_index ws (commits_word n i))
      → ((j : ℕ) (u : View) (other : ℕ) → IsSeat vs other u j → j < n)
      → CallsCounted n ws vs → CallsCounted n ws' (slice_set vs id w)
  calls_same n ws ws' who joined call begun opened calls commits below c = record {
    callers_alone = λ other u k busy. ⊎_elim
        (λ z. let a = c.callers_alone id v me (begun (subst (λ (y : View). y.phase ≢ Idle) (sym z.1) busy)) in
        (a.0, ap (λ (y : View). y.who) (sym z.1) ∙ who ∙ a.1))
        (λ z. c.callers_alone other u z.1 busy) (case other u k);
    alone_unjoined = λ other j u k single. ⊎_elim
        (λ z. ap (λ (y : View). y.joined) (sym z.1) ∙ joined ∙ c.alone_unjoined id j v me (sym who ∙ ap (λ (y : View). y.who) z.1 ∙ single))
        (λ z. c.alone_unjoined other j u z.1 single) (case other u k);
    dealers_fresh = λ other i j u s t ne un. ⊎_elim
        (λ z. ap (λ (y : View). y.call) (sym z.1) ∙ call ∙ c.dealers_fresh id i j v (mine i u z.1 s.named) (mine j u z.1 t.named) ne (unjoined u z.1 un))
        (λ z. c.dealers_fresh other i j u (record { knows = z.1; named = s.named }) (record { knows = z.1; named = t.named }) ne un) (case other u s.knows);
    calls_shown = λ other j u s un. ⊎_elim
        (λ z. let it = mine j u z.1 s.named in calls j (below j v id it)
        ∙ c.calls_shown id j v it (unjoined u z.1 un) ∙ sym (ap (λ (y : View). y.call) (sym z.1) ∙ call))
        (λ z. let it : IsSeat vs other u j = record { knows = z.1; named = s.named } in
        calls j (below j u other it) ∙ c.calls_shown other j u it un) (case other u s.knows);
    calls_fit = λ j lt. subst (λ (y : ℕ). y < 2 ^ 32) (sym (calls j lt)) (c.calls_fit j lt);
    commits_shown = λ other j u s un. ⊎_elim
        (λ z. let it = mine j u z.1 s.named in commits j (below j v id it) ∙ c.commits_shown id j v it (unjoined u z.1 un)
        ∙ ap (λ (l : List Entry). last_call j l) (sym (ap (λ (y : View). y.seen) (sym z.1) ∙ seen)))
        (λ z. let it : IsSeat vs other u j = record { knows = z.1; named = s.named } in
        commits j (below j u other it) ∙ c.commits_shown other j u it un) (case other u s.knows);
    numbered = λ other j u e s un r own. ⊎_elim
        (λ z. subst (λ (m : ℕ). e.call ≤ m) (sym (ap (λ (y : View). y.call) (sym z.1) ∙ call))
        (c.numbered id j v e (mine j u z.1 s.named) (unjoined u z.1 un) (recorded_to e r) own))
        (λ z. c.numbered other j u e (record { knows = z.1; named = s.named }) un (recorded_to e r) own) (case other u s.knows);
    open_numbered = λ other j u e s un busy r own. ⊎_elim
        (λ z. subst (λ (m : ℕ). e.call < m) (sym (ap (λ (y : View). y.call) (sym z.1) ∙ call))
        (c.open_numbered id j v e (mine j u z.1 s.named) (unjoined u z.1 un)
        (opened (subst (λ (y : View). is_open y.phase ≡ true) (sym z.1) busy)) (recorded_to e r) own))
        (λ z. c.open_numbered other j u e (record { knows = z.1; named = s.named }) un busy (recorded_to e r) own) (case other u s.knows);
    begun = λ other u k busy. ⊎_elim
        (λ z. subst (λ (m : ℕ). 0 < m) (sym (ap (λ (y : View). y.call) (sym z.1) ∙ call))
        (c.begun id v me (begun (subst (λ (y : View). y.phase ≢ Idle) (sym z.1) busy))))
        (λ z. c.begun other u z.1 busy) (case other u k);
  }
    where
      mine : (j : ℕ) (u : View) → w ≡ u → has j u.who ≡ true → IsSeat vs id v j
      mine j u same t = record { knows = me; named = subst (λ (l : List ℕ). has j l ≡ true) (ap (λ (y : View). y.who) (sym same) ∙ who) t }

      unjoined : (u : View) → w ≡ u → u.joined ≡ false → v.joined ≡ false
      unjoined u same un = sym joined ∙ ap (λ (y : View). y.joined) same ∙ un

  -- values: no value changes, and what is noted and what the attempt did stay as long as it goes on
  pub memory_same : (n : ℕ) (base now ws ws' : List ℕ) → ((a : ℕ) → table_value n ws' a ≡ table_value n ws a) → w.undo ≡ v.undo → w.trace ≡ v.trace
      → (is_attempt w.phase ≡ true → is_attempt v.phase ≡ true)
      → (w.phase ≡ Running → v.phase ≡ Running) → ((w.phase ≡ Idle) ⊎ (w.phase ≡ Releasing) → w.undo ≡ [])
      → ((k : ℕ) → HasWriteGrant v k → HasWriteGrant w k) → ((k : ℕ) → IsGranted v k → IsGranted w k)
      → UndoRestores n base now ws vs → TraceCurrent n base now ws vs
      → UndoRestores n base now ws' (slice_set vs id w) × TraceCurrent n base now ws' (slice_set vs id w)
  memory_same n base now ws ws' stay undo trace attempt runs rests writes grants r c = (
    record {
      noted = λ other a o u k t. ⊎_elim
          (λ z. let d = r.noted id a o v me (subst (λ (l : Notes). oldest a l ≡ Some o) (ap (λ (y : View). y.undo) (sym z.1) ∙ undo) t) in
          (d.0, subst (λ (y : View). HasWriteGrant y (lock_of_word a)) z.1 (writes (lock_of_word a) d.1), d.2))
          (λ z. r.noted other a o u z.1 t) (case other u k);
      unnoted = λ a lt free. r.unnoted a lt (λ other u k. dite (ℕ_discrete other id)
          (λ e. ap (λ (y : View). oldest a y.undo) (same_view vs id other v u me k e)
          ∙ ap (λ (l : Notes). oldest a l) (sym undo) ∙ free id w (put_here vs id v w me))
          (λ ne. free other u (put_there vs id other w u ne k))) ∙ ap (λ (x : ℕ). Some x) (sym (stay a));
    },
    record {
      granted = λ other a u k busy t. ⊎_elim
          (λ z. let d = c.granted id a v me (went u z.1 busy) (was u z.1 (λ (l : Trace). Touches l a) t) in
          (d.0, subst (λ (y : View). IsGranted y (lock_of_word a)) z.1 (grants (lock_of_word a) d.1)))
          (λ z. c.granted other a u z.1 busy t) (case other u k);
      legal = λ other u k busy. ⊎_elim
          (λ z. is u z.1 (λ (l : Trace). IsLegalTrace l now) (c.legal id v me (went u z.1 busy)))
          (λ z. c.legal other u z.1 busy) (case other u k);
      undo_written = λ other a o u k busy t. ⊎_elim
          (λ z. is u z.1 (λ (l : Trace). Writes l a)
          (c.undo_written id a o v me (went u z.1 busy) (subst (λ (l : Notes). oldest a l ≡ Some o) (ap (λ (y : View). y.undo) (sym z.1) ∙ undo) t)))
          (λ z. c.undo_written other a o u z.1 busy t) (case other u k);
      written_noted = λ other a u k run t. ⊎_elim
          (λ z. subst (λ (l : Notes). IsSome (oldest a l)) (sym (ap (λ (y : View). y.undo) (sym z.1) ∙ undo))
          (c.written_noted id a v me (ran u z.1 run) (was u z.1 (λ (l : Trace). Writes l a) t)))
          (λ z. c.written_noted other a u z.1 run t) (case other u k);
      last_stands = λ other a x u k run t. stay a ∙ ⊎_elim
          (λ z. c.last_stands id a x v me (ran u z.1 run) (was u z.1 (λ (l : Trace). value_after l a None ≡ Some x) t))
          (λ z. c.last_stands other a x u z.1 run t) (case other u k);
      rested = λ other u k t. ⊎_elim
          (λ z. ap (λ (y : View). y.undo) (sym z.1) ∙ rests (subst (λ (y : View). (y.phase ≡ Idle) ⊎ (y.phase ≡ Releasing)) (sym z.1) t))
          (λ z. c.rested other u z.1 t) (case other u k);
    },
  )
    where
      went : (u : View) → w ≡ u → is_attempt u.phase ≡ true → is_attempt v.phase ≡ true
      went u same busy = attempt (subst (λ (y : View). is_attempt y.phase ≡ true) (sym same) busy)

      ran : (u : View) → w ≡ u → u.phase ≡ Running → v.phase ≡ Running
      ran u same run = runs (subst (λ (y : View). y.phase ≡ Running) (sym same) run)

      was : (u : View) → w ≡ u → (P : Trace → Type 0) → P u.trace → P v.trace
      was u same P t = subst P (ap (λ (y : View). y.trace) (sym same) ∙ trace) t

      is : (u : View) → w ≡ u → (P : Trace → Type 0) → P v.trace → P u.trace
      is u same P t = subst P (sym (ap (λ (y : View). y.trace) (sym same) ∙ trace)) t

-- the same by other numbers
pub agree_by : (good : List ℕ → Type 0) (base : List ℕ) (next raised : ℕ → ℕ) (items : List Item)
    → ((k : ℕ) → raised k ≡ next k) → AgreeWithVersions good base next items → AgreeWithVersions good base raised items
agree_by good base next raised items same c = record {
  base_good = c.base_good;
  formed = c.formed;
  below = λ x k v m u. let s = same k in let lt = c.below x k v m u in omega arith;
  whole = λ k v lt. let s = same k in c.whole k v (omega arith);
  once = c.once;
  at_most = λ x k v b m u. let s = same k in let le = c.at_most x k v b m u in omega arith;
  legal = c.legal;
  stays_good = c.stays_good;
}

-- the items are the same, or fewer by attempts, and no version changes
module _ (good : List ℕ → Type 0) (n : ℕ) (base ws ws' : List ℕ) (vs vs' : List View) (keep : Item → Bool)
    (entries : (z : Item) → IsIn z (items_of vs) → z.entry ≡ true → keep z ≡ true)
    (drops : Drops keep (items_of vs) (items_of vs')) (same : (k : ℕ) → next_version n ws' vs' k ≡ next_version n ws vs k)
    (i : ItemsArranged good n base ws vs) where
  pub items_kept : ItemsArranged good n base ws' vs'
  items_kept = record {
    agree = agree_by good base (next_version n ws vs) (next_version n ws' vs') (items_of vs') same
        (drops_agree good base (next_version n ws vs) (items_of vs) (items_of vs') i.order keep i.agree i.arranged entries drops);
    order = passing keep i.order;
    arranged = drops_arranged good base (next_version n ws vs) (items_of vs) (items_of vs') i.order keep i.agree i.arranged entries drops;
  }

  pub now_kept : now_of n base ws' vs' ≡ now_of n base ws vs
  now_kept = newest_same base (items_of vs) (items_of vs') (next_version n ws vs) (next_version n ws' vs')
      (λ a. ap (λ (m : ℕ). value_by_version base (items_of vs') a m) (same (lock_of_word a))
      ∙ drops_values good base (next_version n ws vs) (items_of vs)
      (items_of vs') i.order keep i.agree i.arranged entries drops a (next_version n ws vs (lock_of_word a)) (omega arith))
