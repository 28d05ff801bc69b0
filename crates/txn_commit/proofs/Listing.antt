-- The uses of an attempt that were listed are those of its entry.
use Rattle.txn_commit.proofs.Common.{◌≡◌, ℕ, Bool, true, List, [], ◌∷◌, slice_set, refl, sym, ap, ◌∙◌, subst, eq-eqb, dite, ℕ_discrete, Read, Write, LockUse}
use Rattle.txn_commit.proofs.Common.{View, IsIn, lock_of_word, has, Trace, map_at, at_map, has-nil, uses_of, locks_of, AreUsesOf, ListsUses}
use Rattle.lock_or_yield.proofs.Common.{has-join_same, has-join_other}
use Rattle.std.proofs.Common.{◌||◌, ◌&&◌, ne_eqb}
use Rattle.history_model.specs.Undoing.{notes_of}
use Rattle.locks_rule.specs.Versions.{writes_lock, use_of}
use Rattle.word_table.proofs.Copied.VersionCopies.{found_use}

-- the notes of a trace are of the locks that it writes
pub notes_written : (k : ℕ) (t : Trace) (s : List ℕ) → has k (locks_of (notes_of t s)) ≡ writes_lock k t
unfolding notes_of writes_lock
notes_written k [] s = has-nil k
notes_written k (Read a x ∷ t) s = notes_written k t s
notes_written k (Write a x ∷ t) s = dite (ℕ_discrete (lock_of_word a) k)
    (λ e. subst (λ (l : ℕ). has l (lock_of_word a ∷ locks_of (notes_of t (slice_set s a x))) ≡ true) e
    (has-join_same (lock_of_word a) (locks_of (notes_of t (slice_set s a x))))
    ∙ sym (ap (λ (b : Bool). b || writes_lock k t) (eq-eqb (lock_of_word a) k e)))
    (λ n. has-join_other k (lock_of_word a) (locks_of (notes_of t (slice_set s a x))) (λ e. n (sym e)) ∙ (notes_written k t (slice_set s a x)
    ∙ sym (ap (λ (b : Bool). b || writes_lock k t) (ne_eqb (lock_of_word a) k n))))

-- a is_use with the same fields is the same
abbrev use_at : ℕ → ℕ → Bool → LockUse
use_at k x b = record { lock = k; version = x; wrote = b }

use_is : (k l x y : ℕ) (b c : Bool) → k ≡ l → x ≡ y → b ≡ c → use_at k x b ≡ use_at l y c
use_is k l x y b c e f g i = record { lock = e i; version = f i; wrote = g i }

-- what an attempt used is what its entry has
pub entry_listed : (kept : Bool) (old now : View) (listed : List LockUse) → AreUsesOf now listed → now.uses ≡ old.uses
    → ((k : ℕ) → has k (locks_of now.undo) ≡ (kept && writes_lock k old.trace)) → ListsUses (uses_of kept old.trace old.uses) listed
entry_listed kept old now listed t same wrote = record {
  rising = t.rising;
  only = λ u i. let is_use = t.each u i in let at = subst (λ (l : List (ℕ × ℕ)). IsIn (u.lock, u.version) l) same is_use.found in
      subst (λ (z : LockUse). IsIn z (uses_of kept old.trace old.uses))
      (use_is u.lock u.lock u.version u.version (kept && writes_lock u.lock old.trace) u.wrote refl refl (sym (is_use.wrote ∙ wrote u.lock)))
      (at.0, at_map (use_of kept old.trace) old.uses at.0 (u.lock, u.version) at.1);
  all = λ u i. let f = map_at (use_of kept old.trace) old.uses i.0 u i.1 in
      let here : IsIn (f.0.0, f.0.1) now.uses = subst (λ (l : List (ℕ × ℕ)). IsIn f.0 l) (sym same) (i.0, f.1) in
      let h = t.all f.0.0 (found_use now.uses f.0.0 f.0.1 here) in
      let is_use = t.each h.0 h.1.0 in
      let version : f.0.1 ≡ h.0.version = is_use.once f.0.1 (subst (λ (k : ℕ). IsIn (k, f.0.1) now.uses) (sym h.1.1) here) in
      subst (λ (z : LockUse). IsIn z listed)
      (use_is h.0.lock f.0.0 h.0.version f.0.1 h.0.wrote (kept && writes_lock f.0.0 old.trace) h.1.1 (sym version)
      (is_use.wrote ∙ (wrote h.0.lock ∙ ap (λ (k : ℕ). kept && writes_lock k old.trace) h.1.1)) ∙ f.2) h.1.0;
}
