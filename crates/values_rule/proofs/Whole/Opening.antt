-- The value invariant holds of a table as it begins.
use Rattle.values_rule.proofs.Common.{◌≡◌, ℕ, ◌<◌, true, false, ⊎_elim, List, [], length, Some, None, slice_get, refl, sym, ap, ◌∙◌, subst, arith, nat_lt}
use Rattle.values_rule.proofs.Common.{LOCKS, Entry, Item, View, is_attempt, is_open, IsIn, lock_of_word, has, flag, Knows, Notes, differ, has-nil, bool_cases}
use Rattle.values_rule.proofs.Common.{LocksHold, table_value, oldest, items_of, version_at, owed_by, next_version, now_of, IsRecorded, ValuesHold}
use Rattle.std.proofs.lemmas.Bool.{ltb-true}
use Rattle.history_model.specs.Items.{value_at as value_by_version}
use Rattle.history_model.proofs.Items.ItemValues.{value_at-first}
use Rattle.values_rule.proofs.Members.{none_in}
use Rattle.values_rule.proofs.Notes.{oldest-nil}
use Rattle.values_rule.specs.History.{last_call}
use Rattle.values_rule.specs.Opening.{IsUntouched, OpeningHolds}
use Rattle.values_rule.proofs.Told.ItemsIn.{OfEntry, OfOpen, items_from}
use Rattle.values_rule.proofs.Told.Newest.{newest-at}
use Rattle.values_rule.proofs.Told.Owing.{not_owed}

last-nil : (j : ℕ) → last_call j [] ≡ 0
unfolding last_call
last-nil j = refl

module _ (good : List ℕ → Type 0) (n : ℕ) (base ws : List ℕ) (vs : List View) (h : LocksHold n base ws vs) (begun : good base)
    (t : IsUntouched n base ws vs) where
  unrecorded : {A : Type 0} (e : Entry) → IsRecorded vs e → A
  unrecorded e r = absurd (none_in e (subst (λ (l : List Entry). IsIn e l) (t.unused r.id r.view r.knows).seen r.seen))

  unseen : {A : Type 0} (id : ℕ) (v : View) (e : Entry) → Knows vs id v → IsIn e v.seen → A
  unseen id v e k i = absurd (none_in e (subst (λ (l : List Entry). IsIn e l) (t.unused id v k).seen i))

  not_open : {A : Type 0} (id : ℕ) (v : View) → Knows vs id v → is_open v.phase ≡ true → A
  not_open id v k busy = absurd (let f : true ≡ false = sym busy ∙ ap is_open (t.unused id v k).phase in cc)

  not_attempt : {A : Type 0} (id : ℕ) (v : View) → Knows vs id v → is_attempt v.phase ≡ true → A
  not_attempt id v k busy = absurd (let f : true ≡ false = sym busy ∙ ap is_attempt (t.unused id v k).phase in cc)

  no_item : {A : Type 0} (z : Item) → IsIn z (items_of vs) → A
  no_item z m = absurd (⊎_elim (λ (o : OfEntry vs z). unrecorded o.entry o.recorded)
      (λ (o : OfOpen vs z). not_open o.id o.view o.knows o.is_open) (items_from vs z m))

  owes_none : (id k : ℕ) (v : View) → Knows vs id v → has k v.owed ≡ true → ⊥
  owes_none id k v known s = differ (has k []) (subst (λ (l : List ℕ). has k l ≡ true) (t.unused id v known).owed s) (has-nil k)

  version_none : (k : ℕ) → version_at n ws k ≡ 0
  version_none k = ⊎_elim
      (λ (e : nat_lt k LOCKS ≡ true). rw e (t.versions k (ltb-true k LOCKS e)))
      (λ (e : nat_lt k LOCKS ≡ false). rw e refl)
      (bool_cases (nat_lt k LOCKS))

  current_none : (k : ℕ) → next_version n ws vs k ≡ 0
  current_none k = let none : flag (owed_by k vs) ≡ 0 = ap flag (not_owed k vs (λ other u known s. owes_none other k u known s)) in
      let word = version_none k in omega arith

  no_note : {A : Type 0} (id a o : ℕ) (v : View) → Knows vs id v → oldest a v.undo ≡ Some o → A
  no_note id a o v k s = absurd (let z : None ≡ Some o = sym (oldest-nil a) ∙ (ap (λ (l : Notes). oldest a l) (sym (t.unused id v k).undo) ∙ s) in cc)

  now_is : (a : ℕ) → a < length base → slice_get (now_of n base ws vs) a ≡ Some (table_value n ws a)
  now_is a lt = newest-at base (items_of vs) (next_version n ws vs) a lt
      ∙ (ap (λ (m : ℕ). Some (value_by_version base (items_of vs) a m)) (current_none (lock_of_word a))
      ∙ (sym (value_at-first base (items_of vs) a lt) ∙ t.values a lt))

  pub opened : ValuesHold good n base ws vs
  opened = record {
    serial = t.serial;
    records = record {
      own_seen = λ id j v e s r own. unrecorded e r;
      known_seen = λ id v e x k i r knew. unrecorded x r;
      knew_own = λ e x r s who less. unrecorded e r;
      not_itself = λ e r. unrecorded e r;
      knew_entry = λ e j r some. unrecorded e r;
      one = λ e x r s who call. unrecorded e r;
      by_seat = λ e r. unrecorded e r;
      from_one = λ e r. unrecorded e r;
      apart = λ id v k p q x at more. unseen id v x k (p, at);
      floors = λ e r. unrecorded e r;
      causes = λ e r. unrecorded e r;
    };
    calls = record {
      callers_alone = λ id v k busy. absurd (busy (t.unused id v k).phase);
      alone_unjoined = λ id j v k single. (t.unused id v k).joined;
      dealers_fresh = λ id i j v s r ne un. (t.unused id v s.knows).call;
      calls_shown = λ id j v s un. t.calls j (h.numbers_below id j v s) ∙ sym (t.unused id v s.knows).call;
      calls_fit = λ j lt. let zero = t.calls j lt in omega arith;
      commits_shown = λ id j v s un. t.commits j (h.numbers_below id j v s)
          ∙ sym (ap (λ (l : List Entry). last_call j l) (t.unused id v s.knows).seen ∙ last-nil j);
      numbered = λ id j v e s un r own. unrecorded e r;
      open_numbered = λ id j v e s un busy r own. unrecorded e r;
      begun = λ id v k busy. absurd (busy (t.unused id v k).phase);
    };
    items = record {
      agree = record {
        base_good = begun;
        formed = λ x m. no_item x m;
        below = λ x k v m u. no_item x m;
        whole = λ k v lt. absurd (let none = current_none k in omega arith);
        once = λ x y k v m o u s. no_item x m;
        at_most = λ x k v b m u. no_item x m;
        legal = λ x m. no_item x m;
        stays_good = λ x m. no_item x m;
      };
      order = [];
      arranged = record {
        same = λ x. ((λ m. absurd (none_in x m)), (λ m. no_item x m));
        no_repeat = λ i j x e f. absurd (none_in x (i, e));
        in_order = λ i j x y e f l b. none_in x (i, e);
      };
    };
    owed = record { held = λ id k v known s. absurd (owes_none id k v known s) };
    uses = record {
      granted = λ id k x v known busy i. not_attempt id v known busy;
      once = λ id k x y v known i s. absurd (none_in (k, x) (subst (λ (l : List (ℕ × ℕ)). IsIn (k, x) l) (t.unused id v known).uses i));
      covered = λ id a v known busy i. not_attempt id v known busy;
    };
    undo = record {
      noted = λ id a o v k s. no_note id a o v k s;
      unnoted = λ a lt free. now_is a lt;
    };
    trace = record {
      granted = λ id a v k busy s. not_attempt id v k busy;
      legal = λ id v k busy. not_attempt id v k busy;
      undo_written = λ id a o v k busy s. not_attempt id v k busy;
      written_noted = λ id a v k runs s. not_attempt id v k (ap is_attempt runs);
      last_stands = λ id a x v k runs s. not_attempt id v k (ap is_attempt runs);
      rested = λ id v k s. (t.unused id v k).undo;
    };
    floor = record {
      floor = λ id v k busy. not_open id v k busy;
      causes = λ id j v k single busy. absurd (busy (t.unused id v k).phase);
    };
  }

pub opening_holds : (good : List ℕ → Type 0) → OpeningHolds good
opening_holds good n base ws vs h begun t = opened good n base ws vs h begun t
