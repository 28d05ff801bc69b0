-- A commit, kept or not: what stays of the words, the entries as records, and the numbers of calls.
use Rattle.values_rule.proofs.Common.{◌≡◌, ◌≢◌, ℕ, ◌^◌, ◌<◌, ◌≤◌, Bool, true, false, ◌⊎◌, inl, inr, ⊎_elim, List, [], ◌∷◌, Some, slice_get, slice_index}
use Rattle.values_rule.proofs.Common.{slice_set, refl, sym, ap, ◌∙◌, subst, arith, get_or-set_other, get_or-set_same, dite, ℕ_discrete, dec_lt, Entry, Item}
use Rattle.values_rule.proofs.Common.{View, Idle, is_open, IsIn, has, Knows, calls_word, commits_word, version_word, value_word, number, get_cases, same_view}
use Rattle.values_rule.proofs.Common.{put_here, put_there, put_cases, LocksHold, IsSeat, Own, table_value, last_call, item_of_entry, version_at, IsRecorded}
use Rattle.values_rule.proofs.Common.{Knew, AreCauses, RecordsClosed, CallsCounted, MayCommitCall, entry_of, after_commit, ValuesHold}
use Rattle.locks_rule.proofs.Own.{is_own}
use Rattle.values_rule.proofs.Members.{in_join, none_in, in_first, in_second}
use Rattle.values_rule.specs.Records.{KnewSoMany}
use Rattle.values_rule.proofs.Phases.{attempt_open, open_begun}
use Rattle.values_rule.proofs.Told.ItemsIn.{in_parts}
use Rattle.values_rule.proofs.Told.Knowing.{last_least, last_is, last_more, knew_at, knew_past}
use Rattle.values_rule.proofs.Told.Owing.{version_kept}
use Rattle.values_rule.proofs.Told.Seeing.{mine, is_j, alone, not_j, earlier, called, last_less, knew_less}

module _ (good : List ℕ → Type 0) (n : ℕ) (base ws : List ℕ) (vs : List View) (id j : ℕ) (kept : Bool) (v : View)
    (h : LocksHold n base ws vs) (q : ValuesHold good n base ws vs) (me : Knows vs id v) (may : MayCommitCall good j kept v) where
  abbrev e : Entry
  e = entry_of kept v

  abbrev x : Item
  x = item_of_entry (entry_of kept v)

  abbrev w : View
  w = after_commit kept v

  abbrev ws' : List ℕ
  ws' = slice_set ws (commits_word v.seats j) v.call

  abbrev vs' : List View
  vs' = slice_set vs id (after_commit kept v)

  own_ : Own n vs id j v
  own_ = mine good n base ws vs id j v h q me may.who

  named : number v ≡ j
  named = is_j good n base ws vs id j v h q me may.who

  unjoined : v.joined ≡ false
  unjoined = alone good n base ws vs id j v h q me may.who

  busy_open : is_open v.phase ≡ true
  busy_open = attempt_open v.phase may.phase

  busy_begun : v.phase ≢ Idle
  busy_begun = open_begun v.phase busy_open

  before : (y : Entry) → IsRecorded vs y → y.who ≡ j → y.call < v.call
  before = earlier good n base ws vs id j v h q me may.who busy_open

  unknown : (y : Entry) → IsRecorded vs y → slice_index y.knew j < v.call
  unknown = knew_less good n base ws vs id j v h q me may.who busy_open

  foreign : (other : ℕ) (u : View) → other ≢ id → Knows vs other u → has j u.who ≡ true → ⊥
  foreign = not_j good n base ws vs id j v h q me may.who

  case : (other : ℕ) (u : View) → Knows vs' other u → ((other ≡ id) × (w ≡ u)) ⊎ ((other ≢ id) × Knows vs other u)
  case other u k = put_cases vs id other w u k

  here : Knows vs' id w
  here = put_here vs id v w me

  -- words
  pub value_stays : (a : ℕ) → table_value n ws' a ≡ table_value n ws a
  value_stays a = get_or-set_other ws (commits_word v.seats j) (value_word n a) v.call 0 (λ z. omega (arith, own_.seats, own_.below))

  pub version_stays : (k : ℕ) → version_at n ws' k ≡ version_at n ws k
  version_stays k = version_kept n ws ws'
      (λ l near. get_or-set_other ws (commits_word v.seats j) (version_word n l) v.call 0 (λ z. omega (arith, own_.seats, own_.below))) k

  call_stays : (i : ℕ) → i < n → slice_index ws' (calls_word n i) ≡ slice_index ws (calls_word n i)
  call_stays i lt = get_or-set_other ws (commits_word v.seats j) (calls_word n i) v.call 0 (λ z. omega (arith, own_.seats, own_.below))

  commit_here : slice_index ws' (commits_word n j) ≡ v.call
  commit_here = let same : commits_word v.seats j ≡ commits_word n j = ap (λ (m : ℕ). commits_word m j) own_.seats in
      ap (λ (i : ℕ). slice_index (slice_set ws i v.call) (commits_word n j)) same
      ∙ get_or-set_same ws (commits_word n j) v.call 0 (omega (arith, h.word_count, own_.below))

  commit_there : (i : ℕ) → i ≢ j → slice_index ws' (commits_word n i) ≡ slice_index ws (commits_word n i)
  commit_there i ne = get_or-set_other ws (commits_word v.seats j) (commits_word n i) v.call 0 (λ z. ne (omega (arith, own_.seats)))

  -- entries
  seen_cases : (y : Entry) → IsIn y w.seen → IsIn y v.seen ⊎ (e ≡ y)
  seen_cases y t = ⊎_elim inl (λ s. ⊎_elim inr (λ z. absurd (none_in y z)) (in_join e [] y s)) (in_parts v.seen (e ∷ []) y t)

  new_seen : IsIn e w.seen
  new_seen = in_second v.seen (e ∷ []) e (0, refl)

  mine_recorded : (y : Entry) → IsIn y v.seen → IsRecorded vs y
  mine_recorded y t = record { id = id; view = v; knows = me; seen = t }

  pub record_cases : (y : Entry) → IsRecorded vs' y → IsRecorded vs y ⊎ (e ≡ y)
  record_cases y r = ⊎_elim
      (λ t. ⊎_elim (λ s. inl (mine_recorded y s)) inr (seen_cases y (subst (λ (u : View). IsIn y u.seen) (sym t.1) r.seen)))
      (λ t. inl (record { id = r.id; view = r.view; knows = t.1; seen = r.seen }))
      (case r.id r.view r.knows)

  pub record_old : (y : Entry) → IsRecorded vs y → IsRecorded vs' y
  record_old y r = dite (ℕ_discrete r.id id)
      (λ same. record {
        id = id;
        view = w;
        knows = here;
        seen = in_first v.seen (e ∷ []) y (subst (λ (u : View). IsIn y u.seen) (same_view vs id r.id v r.view me r.knows same) r.seen);
      })
      (λ ne. record { id = r.id; view = r.view; knows = put_there vs id r.id w r.view ne r.knows; seen = r.seen })

  pub record_new : IsRecorded vs' e
  record_new = record { id = id; view = w; knows = here; seen = new_seen }

  new_who : (y : Entry) → e ≡ y → y.who ≡ j
  new_who y same = ap (λ (z : Entry). z.who) (sym same) ∙ named

  new_call : (y : Entry) → e ≡ y → v.call ≡ y.call
  new_call y same = ap (λ (z : Entry). z.call) same

  -- an entry that was known to a call that began when all this was seen was seen
  known_all : (z : Entry) → IsRecorded vs z → z.call ≤ last_call z.who v.seen → IsIn z v.seen
  known_all z r le =
      let some = q.records.from_one z r in
      let y = last_is z.who v.seen (omega arith) in
      dite (ℕ_discrete z.call y.0.call)
      (λ same. subst (λ (s : Entry). IsIn s v.seen) (sym (q.records.one z y.0 r (mine_recorded y.0 y.1) (sym y.2) same)) y.1)
      (λ ne. let last = y.3 in q.records.known_seen id v y.0 z me y.1 r (q.records.knew_own y.0 z (mine_recorded y.0 y.1) r (sym y.2) (omega arith)))

  -- the new entry knew what was seen, and nothing else
  knew_last : (i : ℕ) → i < n → slice_index e.knew i ≡ last_call i v.seen
  knew_last i lt = let seats = own_.seats in knew_at v.seats i v.seen (omega arith)

  new_knew : (z : Entry) → IsRecorded vs z → Knew e z → IsIn z v.seen
  new_knew z r k = let same = knew_last z.who (q.records.by_seat z r) in known_all z r (omega arith)

  new_not_itself : slice_index e.knew j < v.call
  new_not_itself = let same = knew_last j own_.below in let less = last_less good n base ws vs id j v h q me may.who busy_open v id me in omega arith

  seen_known : (z : Entry) → IsIn z v.seen → Knew e z
  seen_known z t = let same = knew_last z.who (q.records.by_seat z (mine_recorded z t)) in let least = last_least z.who v.seen z t refl in omega arith

  not_new : (y : Entry) → IsRecorded vs y → e ≡ y → ⊥
  not_new y r same = let lt = before y r (new_who y same) in let c = new_call y same in omega arith

  pub records_part : RecordsClosed n vs'
  records_part = record {
    own_seen = λ other i u y s r own_entry. ⊎_elim
        (λ t. subst (λ (z : View). IsIn y z.seen) t.1 (⊎_elim
        (λ old. in_first v.seen (e ∷ []) y (q.records.own_seen id i v y (record {
          knows = me;
          named = subst (λ (z : View). has i z.who ≡ true) (sym t.1) s.named;
        }) old own_entry))
        (λ same. subst (λ (z : Entry). IsIn z w.seen) same new_seen) (record_cases y r)))
        (λ t. ⊎_elim
        (λ old. q.records.own_seen other i u y (record { knows = t.1; named = s.named }) old own_entry)
        (λ same. absurd (foreign other u t.0 t.1 (subst (λ (z : ℕ). has z u.who ≡ true) (sym own_entry ∙ new_who y same) s.named))) (record_cases y r))
        (case other u s.knows);
    known_seen = λ other u y z k t r knew. ⊎_elim
        (λ c. subst (λ (s : View). IsIn z s.seen) c.1 (⊎_elim
        (λ old. in_first v.seen (e ∷ []) z (⊎_elim
        (λ s. q.records.known_seen id v y z me s old knew)
        (λ same. new_knew z old (subst (λ (s : Entry). Knew s z) (sym same) knew))
        (seen_cases y (subst (λ (s : View). IsIn y s.seen) (sym c.1) t))))
        (λ same. subst (λ (s : Entry). IsIn s w.seen) same new_seen) (record_cases z r)))
        (λ c. ⊎_elim
        (λ old. q.records.known_seen other u y z c.1 t old knew)
        (λ same. absurd (let lt = unknown y (record { id = other; view = u; knows = c.1; seen = t }) in
        let le : v.call ≤ slice_index y.knew j = subst (λ (m : ℕ). m ≤ slice_index y.knew j) (sym (new_call z same))
        (subst (λ (m : ℕ). z.call ≤ slice_index y.knew m) (new_who z same) knew) in omega arith))
        (record_cases z r))
        (case other u k);
    knew_own = λ y z r s who less. ⊎_elim
        (λ old. ⊎_elim
        (λ older. q.records.knew_own y z old older who less)
        (λ same. absurd (let lt = before y old (sym who ∙ new_who z same) in let c = new_call z same in omega arith))
        (record_cases z s))
        (λ same. subst (λ (t : Entry). Knew t z) same (⊎_elim
        (λ older. seen_known z (q.records.own_seen id j v z own_.seat older (who ∙ new_who y same)))
        (λ too. absurd (let a = new_call y same in let b = new_call z too in omega arith)) (record_cases z s)))
        (record_cases y r);
    not_itself = λ y r. ⊎_elim (λ old. q.records.not_itself y old)
        (λ same. subst (λ (t : Entry). slice_index t.knew t.who < t.call) same (subst (λ (i : ℕ). slice_index e.knew i < v.call) (sym named) new_not_itself))
        (record_cases y r);
    knew_entry = λ y i r some. ⊎_elim
        (λ old. let z = q.records.knew_entry y i old some in (z.0, record_old z.0 z.1, z.2, z.3))
        (λ same. let most : 0 < slice_index e.knew i = subst (λ (t : Entry). 0 < slice_index t.knew i) (sym same) some in
        dite (dec_lt i n)
        (λ lt. let is = knew_last i lt in let z = last_is i v.seen (omega arith) in
        (z.0, record_old z.0 (mine_recorded z.0 z.1), z.2, z.3 ∙ sym is ∙ ap (λ (t : Entry). slice_index t.knew i) same))
        (λ no. absurd (let seats = own_.seats in let none = knew_past v.seats i v.seen (omega arith) in omega arith)))
        (record_cases y r);
    one = λ y z r s who call. ⊎_elim
        (λ old. ⊎_elim (λ older. q.records.one y z old older who call)
        (λ same. absurd (let lt = before y old (who ∙ new_who z same) in let c = new_call z same in omega arith)) (record_cases z s))
        (λ same. ⊎_elim (λ older. absurd (let lt = before z older (sym who ∙ new_who y same) in let c = new_call y same in omega arith))
        (λ too. sym same ∙ too) (record_cases z s))
        (record_cases y r);
    by_seat = λ y r. ⊎_elim (λ old. q.records.by_seat y old) (λ same. subst (λ (i : ℕ). i < n) (sym (new_who y same)) own_.below) (record_cases y r);
    from_one = λ y r. ⊎_elim (λ old. q.records.from_one y old)
        (λ same. let c = new_call y same in let some = called good n base ws vs id j v h q me may.who busy_open in omega arith) (record_cases y r);
    apart = λ other u k a b y at more. ⊎_elim
        (λ t. let one : slice_get w.seen a ≡ Some y = subst (λ (s : View). slice_get s.seen a ≡ Some y) (sym t.1) at in
        let two : slice_get w.seen b ≡ Some y = subst (λ (s : View). slice_get s.seen b ≡ Some y) (sym t.1) more in
        ⊎_elim
        (λ s. ⊎_elim (λ z. q.records.apart id v me a b y s.1 z.1) (λ z. absurd (not_new y (mine_recorded y (a, s.1)) z.1)) (get_cases v.seen e y b two))
        (λ s. ⊎_elim (λ z. absurd (not_new y (mine_recorded y (b, z.1)) s.1)) (λ z. s.0 ∙ sym z.0) (get_cases v.seen e y b two))
        (get_cases v.seen e y a one))
        (λ t. q.records.apart other u t.1 a b y at more) (case other u k);
    floors = λ y r. ⊎_elim
        (λ old. let f = q.records.floors y old in record {
          known = f.known;
          apart = f.apart;
          all = λ z s k. ⊎_elim (λ older. f.all z older k)
              (λ same. absurd (let lt = unknown y old in
              let le : v.call ≤ slice_index y.knew j = subst (λ (m : ℕ). m ≤ slice_index y.knew j) (sym (new_call z same))
              (subst (λ (m : ℕ). z.call ≤ slice_index y.knew m) (new_who z same) k) in omega arith))
              (record_cases z s);
          only = λ z t. let o = f.only z t in (record_old z o.0, o.1);
          count = f.count;
        })
        (λ same. subst (λ (t : Entry). KnewSoMany vs' t t.floor) same (record {
          known = v.seen;
          apart = q.records.apart id v me;
          all = λ z s k. ⊎_elim (λ older. new_knew z older k)
              (λ too. absurd (let lt = new_not_itself in
              let le : v.call ≤ slice_index e.knew j = subst (λ (m : ℕ). m ≤ slice_index e.knew j)
              (sym (new_call z too)) (subst (λ (m : ℕ). z.call ≤ slice_index e.knew m) (new_who z too) k) in omega arith))
              (record_cases z s);
          only = λ z t. (record_old z (mine_recorded z t), seen_known z t);
          count = sym (q.floor.floor id v me busy_open);
        }))
        (record_cases y r);
    causes = λ y r. ⊎_elim (λ old. q.records.causes y old)
        (λ same. subst (λ (t : Entry). AreCauses n t.who t.stamp t.floor t.abandoned) same
        (subst (λ (i : ℕ). AreCauses n i v.stamp v.floor v.abandoned) (sym named) (q.floor.causes id j v me may.who busy_begun)))
        (record_cases y r);
  }

  one_name : (i : ℕ) (u : View) → w ≡ u → has i u.who ≡ true → i ≡ j
  one_name i u same t = is_own v j i may.who (subst (λ (z : View). has i z.who ≡ true) (sym same) t)

  pub calls_part : CallsCounted n ws' vs'
  calls_part = record {
    callers_alone = λ other u k busy. ⊎_elim (λ z. (j, subst (λ (y : View). y.who ≡ j ∷ []) z.1 may.who))
        (λ z. q.calls.callers_alone other u z.1 busy) (case other u k);
    alone_unjoined = λ other i u k single. ⊎_elim (λ z. subst (λ (y : View). y.joined ≡ false) z.1 unjoined)
        (λ z. q.calls.alone_unjoined other i u z.1 single) (case other u k);
    dealers_fresh = λ other i k u s t ne un. ⊎_elim
        (λ z. absurd (ne (one_name i u z.1 s.named ∙ sym (one_name k u z.1 t.named))))
        (λ z. q.calls.dealers_fresh other i k u (record { knows = z.1; named = s.named }) (record { knows = z.1; named = t.named }) ne un)
        (case other u s.knows);
    calls_shown = λ other i u s un. ⊎_elim
        (λ z. let is = one_name i u z.1 s.named in
        subst (λ (m : ℕ). slice_index ws' (calls_word n m) ≡ u.call) (sym is)
        (call_stays j own_.below ∙ q.calls.calls_shown id j v own_.seat unjoined ∙ ap (λ (y : View). y.call) z.1))
        (λ z. let it : IsSeat vs other u i = record { knows = z.1; named = s.named } in
        call_stays i (h.numbers_below other i u it) ∙ q.calls.calls_shown other i u it un) (case other u s.knows);
    calls_fit = λ i lt. subst (λ (y : ℕ). y < 2 ^ 32) (sym (call_stays i lt)) (q.calls.calls_fit i lt);
    commits_shown = λ other i u s un. ⊎_elim
        (λ z. let is = one_name i u z.1 s.named in
        let least = last_less good n base ws vs id j v h q me may.who busy_open v id me in
        subst (λ (m : ℕ). slice_index ws' (commits_word n m) ≡ last_call m u.seen) (sym is)
        (commit_here ∙ (sym (last_more j v.seen e named (omega arith)) ∙ ap (λ (y : View). last_call j y.seen) z.1)))
        (λ z. commit_there i (λ is. foreign other u z.0 z.1 (subst (λ (m : ℕ). has m u.who ≡ true) is s.named))
        ∙ q.calls.commits_shown other i u (record { knows = z.1; named = s.named }) un) (case other u s.knows);
    numbered = λ other i u y s un r own_entry. ⊎_elim
        (λ t. subst (λ (z : View). y.call ≤ z.call) t.1 (⊎_elim
        (λ old. let lt = before y old (own_entry ∙ one_name i u t.1 s.named) in omega arith)
        (λ same. let c = new_call y same in omega arith) (record_cases y r)))
        (λ t. ⊎_elim (λ old. q.calls.numbered other i u y (record { knows = t.1; named = s.named }) un old own_entry)
        (λ same. absurd (foreign other u t.0 t.1 (subst (λ (z : ℕ). has z u.who ≡ true) (sym own_entry ∙ new_who y same) s.named))) (record_cases y r))
        (case other u s.knows);
    open_numbered = λ other i u y s un busy r own_entry. ⊎_elim
        (λ t. absurd (let z : false ≡ true = subst (λ (y : View). is_open y.phase ≡ true) (sym t.1) busy in cc))
        (λ t. ⊎_elim (λ old. q.calls.open_numbered other i u y (record { knows = t.1; named = s.named }) un busy old own_entry)
        (λ same. absurd (foreign other u t.0 t.1 (subst (λ (z : ℕ). has z u.who ≡ true) (sym own_entry ∙ new_who y same) s.named))) (record_cases y r))
        (case other u s.knows);
    begun = λ other u k busy. ⊎_elim (λ t. subst (λ (z : View). 0 < z.call) t.1 (called good n base ws vs id j v h q me may.who busy_open))
        (λ t. q.calls.begun other u t.1 busy) (case other u k);
  }
