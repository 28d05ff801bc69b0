-- How a table begins: one view has all numbers, and no lock is held. Its first numbers are dealt out.
use Rattle.word_table.proofs.Common.{◌≡◌, ℕ, zero, suc, ◌+◌, ◌-◌, ◌%◌, ◌^◌, ◌<◌, ◌≤◌, true, false, ⊎_elim, List, [], ◌∷◌, ◌++◌, length, slice_index, replicate}
use Rattle.word_table.proofs.Common.{refl, sym, ap, ◌∙◌, subst, arith, length-append, eq-eqb, bit_at, bit_at-zero, dite, ℕ_discrete, State, Me, Splits, TableId}
use Rattle.word_table.proofs.Common.{LOCKS, View, Idle, Running, is_open, has, flag, Knows, clock_word, stamps_word, row_word, writer_word, version_word}
use Rattle.word_table.proofs.Common.{value_word, table_words, LocksHold, IsSeat, IsIn, none_in, opening_view, left_by_split, given_by_split, MaySplitSeat}
use Rattle.word_table.proofs.Common.{differ, not_true, has-nil, has-join, has-join_same, has-join_old, without-absent, MOST_PASSES, MOST_WORDS, CallCopy}
use Rattle.word_table.proofs.Common.{LockCopy, fresh_pass, ShowsLocks, ShowsOthers, ShowsPairs, IsCopy, PassView, IsSound, opening_words, numbers}
use Rattle.word_table.proofs.Common.{VersionsBounded}
use Rattle.std.specs.Prelude.{Some, slice_get}
use Rattle.history_model.specs.Counts.{open_count}
use Rattle.history_model.specs.Sets.{without}
use Rattle.history_model.proofs.SetLemmas.{pair-nil}
use Rattle.word_table.proofs.Copied.Rows.{zeros, zero_at, zeros_count, shows_none}
use Rattle.word_table.proofs.Copied.VersionCopies.{untouched}
use Rattle.stamps_rule.specs.Opening.{IsUnused}
use Rattle.stamps_rule.proofs.Opening.{opening_holds}
use Rattle.word_table.proofs.Kept.KeptChanges.{split_seat_sound}
use Rattle.word_table.proofs.Openings.OpeningValues.{opening_values}
use Rattle.word_table.proofs.Openings.Zeros.{zeros_at, zeros_long, one_view}

numbers_within : (j m x : ℕ) → has x (numbers j m) ≡ true → (j ≤ x) × (x < j + m)
numbers_within j zero x h = absurd (differ (has x []) h (has-nil x))
numbers_within j (suc m) x h = ⊎_elim (λ (e : x ≡ j). (omega arith, omega arith)) (λ t. let r =
    numbers_within (suc j) m x t in (omega arith, omega arith)) (has-join x j (numbers (suc j) m) h)

numbers_have : (a m j : ℕ) → a ≤ j → j < a + m → has j (numbers a m) ≡ true
numbers_have a zero j lo hi = absurd (omega arith)
numbers_have a (suc m) j lo hi = dite (ℕ_discrete j a)
    (λ e. subst (λ (z : ℕ). has z (a ∷ numbers (suc a) m) ≡ true) (sym e) (has-join_same a (numbers (suc a) m)))
    (λ ne. has-join_old j a (numbers (suc a) m) (numbers_have (suc a) m j (omega arith) (omega arith)))

-- at the start no lock is held, and one view has all numbers
opening_locks : (n : ℕ) (base : List ℕ) → LocksHold n base (opening_words n base) (opening_view base n (numbers 0 n) [] ∷ [])
opening_locks n base =
    let v : View = opening_view base n (numbers 0 n) [] in
    let one : (id : ℕ) (u : View) → Knows (v ∷ []) id u → (id ≡ 0) × (v ≡ u) = one_view v in
    let below : (id j : ℕ) (u : View) → IsSeat (v ∷ []) id u j → j < n = λ id j u s. let r =
    numbers_within 0 n j (subst (λ (x : View). has j x.who ≡ true) (sym (one id u s.knows).1) s.named) in omega arith in
    let none : (f : View → List ℕ) → f v ≡ [] → (id k : ℕ) (u : View) → Knows (v ∷ []) id u → has k (f u) ≡ false = λ f e id k u known.
    ap (λ (x : View). has k (f x)) (sym (one id u known).1) ∙ (ap (λ (l : List ℕ). has k l) e ∙ has-nil k) in
    record {
      word_count = zeros_long (value_word n 0) base ∙ omega arith;
      rows_show_bits = λ id j k u s near. let lt : j < n = below id j u s in
          ap (λ (x : ℕ). bit_at x (k % 64)) (zeros_at (value_word n 0) base (row_word n j k) (omega arith))
          ∙ (bit_at-zero (k % 64) ∙ sym (ap flag (none (λ x. x.bits) refl id k u s.knows)));
      reads_lie_in_bits = λ id k u e t. absurd (differ (has k u.reads) t (none (λ x. x.reads) refl id k u e));
      writers_show_claims = λ j k near e. let z : slice_index (opening_words n base) (writer_word n k) ≡ 0 =
          zeros_at (value_word n 0) base (writer_word n k) (omega arith) in absurd (omega arith);
      claims_show_in_writers = λ id k u e t. absurd (differ (has k u.claims) t (none (λ x. x.claims) refl id k u e));
      scanned_excludes_readers = λ id other j k u w ne e s c t. none (λ x. x.reads) refl other k w s.knows;
      bits_were_asked = λ id k u e t. absurd (differ (has k u.bits) t (none (λ x. x.bits) refl id k u e));
      claims_were_asked = λ id k u e t. absurd (differ (has k u.claims) t (none (λ x. x.claims) refl id k u e));
      met_are_others = λ id j u e t. absurd (differ (has j u.met) t (none (λ x. x.met) refl id j u e));
      idle_holds_nothing = λ id k u e t. (none (λ x. x.bits) refl id k u e, none (λ x. x.claims) refl id k u e);
      numbers_unique = λ id other j u w s t. (one id u s.knows).0 ∙ sym (one other w t.knows).0;
      numbers_placed = λ j lt. (0, v, record { knows = refl; named = numbers_have 0 n j (omega arith) (omega arith) });
      numbers_below = below;
      seats_alike = λ id j u s. sym (ap (λ (x : View). x.seats) (one id u s.knows).1);
      bases_alike = λ id j u s. sym (ap (λ (x : View). x.base) (one id u s.knows).1);
    }

closed_alone : (v : View) → is_open v.phase ≡ false → open_count (v ∷ []) ≡ 0
unfolding open_count
closed_alone v e = rw e refl

-- no version was raised yet
opening_versions : (n : ℕ) (base : List ℕ) → VersionsBounded n (opening_words n base) (opening_view base n (numbers 0 n) [] ∷ [])
opening_versions n base =
    let v : View = opening_view base n (numbers 0 n) [] in
    let none : (id k x : ℕ) (u : View) → Knows (v ∷ []) id u → IsIn (k, x) u.uses → ⊥ =
    λ id k x u e t. none_in (k, x) (subst (λ (y : View). IsIn (k, x) y.uses) (sym (one_view v id u e).1) t) in
    record {
      ended = 0;
      counted = let none_open : open_count (v ∷ []) ≡ 0 = closed_alone v refl in omega arith;
      words_below = λ k near. let zero_there : slice_index (opening_words n base) (version_word n k) ≡ 0 =
          zeros_at (value_word n 0) base (version_word n k) (omega arith) in omega arith;
      uses_below = λ id k x u e t. absurd (none id k x u e t);
      owed_below = λ id k x u e o t. absurd (none id k x u e t);
      open_owes_none = λ id u e o. ap (λ (y : View). y.owed) (sym (one_view v id u e).1);
    }

module _ (good : List ℕ → Type 0) (n : ℕ) (base : List ℕ) where
  pub opening_sound : (ws : List ℕ) → ws ≡ opening_words n base → good base → IsSound good n base ws (opening_view base n (numbers 0 n) [] ∷ [])
  opening_sound ws e fine = subst (λ (l : List ℕ). IsSound good n base l (opening_view base n (numbers 0 n) [] ∷ [])) (sym e) record {
    locks = opening_locks n base;
    values = opening_values good n base fine (opening_locks n base);
    stamps = opening_holds n base (opening_words n base) (opening_view base n (numbers 0 n) [] ∷ []) (opening_locks n base) record {
      clock = zeros_at (value_word n 0) base clock_word (omega arith);
      stamps = λ j lt. zeros_at (value_word n 0) base (stamps_word n j) (omega arith);
      unused = λ id v knows. subst (λ (x : View). IsUnused x) (one_view (opening_view base n (numbers 0 n) []) id v knows).1
          (record { phase = refl; unstamped = refl; unannounced = refl; undrawn = refl; no_attempt = refl; none_met = refl });
    };
    versions = opening_versions n base;
  }

  split_sound : (id j : ℕ) (v : View) → MaySplitSeat j v
      → Splits (λ (s : State (Unit {0}) View). IsSound good n base s.words s.views) id v (left_by_split v) (given_by_split v)
  split_sound id j v may s h known = split_seat_sound good n base j s.words s.views id v h known may

-- a view with what the seat has taken, which is nothing
abbrev with_none : View → Me (Unit {0}) View
with_none v = (v, [])

abbrev left_of : Me (Unit {0}) View → Me (Unit {0}) View
left_of x = (left_by_split x.0, x.1)

abbrev given_of : Me (Unit {0}) View → Me (Unit {0}) View
given_of x = (given_by_split x.0, [])

-- the numbers without the first
pub rest_of_numbers : (j m : ℕ) → without j (j ∷ numbers (suc j) m) ≡ numbers (suc j) m
unfolding without
rest_of_numbers j m = rw (eq-eqb j j refl)
    (without-absent j (numbers (suc j) m) (not_true (has j (numbers (suc j) m)) (λ t. let r = numbers_within (suc j) m j t in absurd (omega arith))))

-- the seat that deals, with the numbers from j on
module _ (base : List ℕ) (n j : ℕ) (me : Me (Unit {0}) View) (lt : j < n) (e : me ≡ (opening_view base n (numbers j (n - j)) [], [])) where
  known : me ≡ (opening_view base n (j ∷ numbers (suc j) (n - (j + 1))) [], [])
  known = let some_left : n - j ≡ suc (n - (j + 1)) = omega arith in e ∙ ap (λ (y : ℕ). with_none (opening_view base n (numbers j y) [])) some_left

  -- there is another number behind the first
  two_more : j + 1 < n → numbers (suc j) (n - (j + 1)) ≡ suc j ∷ numbers (suc (suc j)) (n - (j + 2))
  two_more more = let some_left : n - (j + 1) ≡ suc (n - (j + 2)) = omega arith in ap (λ (y : ℕ). numbers (suc j) y) some_left

  pub deals_at : j + 1 < n → (good : List ℕ → Type 0) (m : ℕ) (id : ℕ)
      → Splits (λ (s : State (Unit {0}) View). IsSound good m base s.words s.views) id me.0 (left_by_split me.0) (given_by_split me.0)
  deals_at more good m id = split_sound good m base id j me.0 record {
    who = (
      suc j,
      numbers (suc (suc j)) (n - (j + 2)),
      ap (λ (x : Me (Unit {0}) View). x.0.who) known
          ∙ ap (λ (l : List ℕ). j ∷ l) (two_more more),
      (λ same. omega arith),
    );
    phase = ap (λ (x : Me (Unit {0}) View). x.0.phase) known;
    unjoined = ap (λ (x : Me (Unit {0}) View). x.0.joined) known;
  }

  pub dealt_left : (after : Me (Unit {0}) View) → after ≡ (left_by_split me.0, me.1) → after ≡ (opening_view base n (numbers (j + 1) (n - (j + 1))) [], [])
  dealt_left after f = f ∙ (ap left_of known
      ∙ (ap (λ (l : List ℕ). with_none (opening_view base n l [])) (rest_of_numbers j (n - (j + 1)))
      ∙ ap (λ (y : ℕ). with_none (opening_view base n (numbers y (n - (j + 1))) [])) (omega arith)))

  pub dealt_right : (given : Me (Unit {0}) View) → given ≡ (given_by_split me.0, []) → given ≡ (opening_view base n (j ∷ []) [], [])
  dealt_right given f = f ∙ ap given_of known

-- the last seat has the last number
pub last_me : (base : List ℕ) (n j : ℕ) (me : Me (Unit {0}) View) → 1 ≤ n → j ≡ n - 1
    → me ≡ (opening_view base n (numbers j (n - j)) [], []) → me ≡ (opening_view base n ((n - 1) ∷ []) [], [])
last_me base n j me least e f = let one : n - j ≡ 1 = omega arith in f
    ∙ (ap (λ (y : ℕ). with_none (opening_view base n (numbers j y) [])) one ∙ ap (λ (y : ℕ). with_none (opening_view base n (y ∷ []) [])) e)

pub opening_copy : (base : List ℕ) (call : CallCopy) (locks : LockCopy) (table : TableId) (me : Me (Unit {0}) View)
    → me ≡ (opening_view base call.seats (call.who ∷ []) [], []) → call.phase ≡ Idle → call.calls ≡ 0 → call.stamp ≡ 0
    → call.announced ≡ false → ShowsOthers call.others call.seats call.who → call.row ≡ row_word call.seats call.who 0
    → call.writers ≡ writer_word call.seats 0 → call.versions ≡ version_word call.seats 0
    → call.values ≡ value_word call.seats 0 → call.who < call.seats → call.seats ≤ MOST_PASSES
    → length base ≤ MOST_WORDS → table.words ≡ table_words call.seats (length base) → locks.bits ≡ zeros 16
    → locks.reads ≡ zeros 16 → locks.claims ≡ zeros 16 → locks.scans.items ≡ replicate LOCKS 0
    → locks.versions.used ≡ zeros 16 → locks.versions.written ≡ zeros 16 → locks.versions.found.items ≡ replicate LOCKS 0 → IsCopy call locks table me
opening_copy base call locks table me em idle fresh unstamped unannounced others row writers versions values below few short long eb er
    ec es eu ew ev = subst (λ (m : Me (Unit {0}) View). IsCopy call locks table m) (sym em) record {
      slots = refl;
      others_are = others;
      row_is = row;
      writers_are = writers;
      versions_are = versions;
      values_are = values;
      below = below;
      few = few;
      short = short;
      long = long;
      call_is = record {
        seats_are = refl;
        who_is = refl;
        phase_is = sym idle;
        calls_are = sym fresh;
        stamp_is = sym unstamped;
        announced_is =
            sym unannounced;
      };
      locks_are = record {
        bits_are = subst (λ (row : List ℕ). ShowsLocks row []) (sym eb) shows_none;
        reads_are = subst (λ (row : List ℕ). ShowsLocks row []) (sym er) shows_none;
        claims_are = subst (λ (row : List ℕ). ShowsLocks row []) (sym ec) shows_none;
        scans_are = subst (λ (masks : List ℕ). ShowsPairs masks []) (sym es) record {
          each_lock = zeros_count LOCKS;
          bits =
              λ k j near lt. ap (λ (x : ℕ). bit_at x j) (zero_at LOCKS k) ∙ (bit_at-zero j ∙ sym (ap flag (pair-nil k j)));
        };
        versions_are = record {
          used_are = subst (λ (row : List ℕ). ShowsLocks row []) (sym eu) shows_none;
          written_are = subst (λ (row : List ℕ). ShowsLocks row []) (sym ew) shows_none;
          each_lock = ap (λ (l : List ℕ). length l) ev ∙ zeros_count LOCKS;
          found_are = λ k x t. absurd (none_in (k, x) t);
          fits = λ k near. let none : slice_index locks.versions.found.items k ≡ 0 =
              ap (λ (l : List ℕ). slice_index l k) ev ∙ zero_at LOCKS k in small (slice_index locks.versions.found.items k) none;
          touched_used = λ a t. absurd (untouched a t);
          noted_used = λ k t. absurd (differ (has k []) t (has-nil k));
          owed_used = λ k t. absurd (differ (has k []) t (has-nil k));
          open_owes_none = λ t. refl;
        };
      };
      rests = λ e. record { no_bit = λ k t. differ (has k []) t (has-nil k); no_claim = λ k t. differ (has k []) t (has-nil k) };
      holds_used = λ e. let z : Idle ≡ Running = e in cc;
    }
  where
    small : (x : ℕ) → x ≡ 0 → x + 1 < 2 ^ 64
    small x e = omega arith

-- the first j passes of n
pub record Dealt (base : List ℕ) (n : ℕ) (t : TableId) (j : ℕ) (passes : List PassView) : Type 0 where
  pub count : length passes ≡ j
  pub each : (i : ℕ) → i < j → slice_get passes i ≡ Some (fresh_pass t base n i)

get_last : (xs : List PassView) (x : PassView) (j : ℕ) → length xs ≡ j → slice_get (xs ++ x ∷ []) j ≡ Some x
get_last [] x zero e = refl
get_last [] x (suc j) e = absurd (omega arith)
get_last (y ∷ ys) x zero e = absurd (omega arith)
get_last (y ∷ ys) x (suc j) e = get_last ys x j (omega arith)

get_before : (xs : List PassView) (x : PassView) (i : ℕ) → i < length xs → slice_get (xs ++ x ∷ []) i ≡ slice_get xs i
get_before [] x i h = absurd (omega arith)
get_before (y ∷ ys) x zero h = refl
get_before (y ∷ ys) x (suc i) h = get_before ys x i (omega arith)

pub dealt_more : (base : List ℕ) (n : ℕ) (t : TableId) (j : ℕ) (passes : List PassView) (x : PassView)
    → Dealt base n t j passes → x.table ≡ t → x.view ≡ opening_view base n (j ∷ []) [] → x.steps ≡ 0 → Dealt base n t (j + 1) (passes ++ x ∷ [])
dealt_more base n t j passes x d et ev es = record {
  count = length-append passes (x ∷ []) ∙ omega (arith, d.count);
  each = λ i h. dite (ℕ_discrete i j)
      (λ e. subst (λ (z : ℕ). slice_get (passes ++ x ∷ []) z
      ≡ Some (fresh_pass t base n z)) (sym e) (get_last passes x j d.count
      ∙ ap (λ (y : PassView). Some y) (pass_is x t (opening_view base n (j ∷ []) []) et ev es)))
      (λ ne. let z = d.count in get_before passes x i (omega arith) ∙ d.each i (omega arith));
}
  where
    pass_is : (x : PassView) (t : TableId) (v : View) → x.table ≡ t → x.view ≡ v → x.steps ≡ 0 → x ≡ record { table = t; view = v; steps = 0 }
    pass_is x t v et ev es k = record { table = et k; view = ev k; steps = es k }

-- the passes after one more was pushed
pub dealt_push : (base : List ℕ) (n : ℕ) (t : TableId) (j : ℕ) (passes after : List PassView) (x : PassView) (old : ℕ)
    (seat : Me (Unit {0}) View) → Dealt base n t old passes → old ≡ j → after ≡ passes ++ x ∷ [] → x.table ≡ t
    → seat ≡ (opening_view base n (j ∷ []) [], []) → x.view ≡ opening_view seat.0.base n (j ∷ []) [] → x.steps ≡ 0
    → Dealt base n t (j + 1) after
dealt_push base n t j passes after x old seat d same e et es ev none = subst (λ (l : List PassView). Dealt base n t (j + 1) l) (sym e)
    (dealt_more base n t j passes x (subst (λ (i : ℕ). Dealt base n t i passes) same d) et (ev
    ∙ ap (λ (s : Me (Unit {0}) View). opening_view s.0.base n (j ∷ []) []) es) none)
