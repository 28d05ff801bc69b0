-- Every list of the items in the order of their uses is legal.
use Rattle.history_model.proofs.Common.{◌≡◌, ℕ, zero, suc, ◌<◌, ◌≤◌, Bool, true, false, ◌⊎◌, inl, inr, ⊎_elim, List, [], ◌∷◌, ◌++◌, length, slice_get, take}
use Rattle.history_model.proofs.Common.{Some, refl, sym, ap, ◌∙◌, subst, arith, dite, ℕ_discrete, dec_lt, Item, Writes, Uses, IsItem, LegalOnValues, writer_at}
use Rattle.history_model.proofs.Common.{AgreeWithVersions, KeepsUses, cases_Bool, slice_get_within, lock_of_word, IsIn, after_effect}
use Rattle.std.proofs.Common.{add-one}
use Rattle.history_model.specs.Traces.{IsLegalTrace}
use Rattle.history_model.specs.Items.{item_effect, value_at, replay_items, LegalOrder, IsNewest}
use Rattle.std.proofs.lemmas.List.{take_all}
use Rattle.history_model.proofs.ListPlaces.{get-front, front-get, below_get, take-more, same_list}
use Rattle.history_model.proofs.Traces.LastEvents.{get-after-last_written, last_written-unwritten}
use Rattle.history_model.proofs.Histories.ReplayLaws.{length-effect}
use Rattle.history_model.proofs.Items.ItemValues.{wrote_some, writer_is, value_at-next, value_at-first}
use Rattle.history_model.specs.Histories.{replay_effects}

-- the words after an item
abbrev pub next_words : Item → List ℕ → List ℕ
next_words x s = after_effect (item_effect x) s

pub replay_items-append : (s : List ℕ) (xs : List Item) (x : Item) → replay_items s (xs ++ x ∷ []) ≡ next_words x (replay_items s xs)
unfolding replay_effects
replay_items-append s [] x = refl
replay_items-append s (y ∷ xs) x = replay_items-append (next_words y s) xs x

pub length-replay_items : (s : List ℕ) (xs : List Item) → length (replay_items s xs) ≡ length s
unfolding replay_effects
length-replay_items s [] = refl
length-replay_items s (x ∷ xs) = length-replay_items (next_words x s) xs ∙ length-effect x.kept x.trace s

-- only a kept entry wrote
pub kept_wrote : (x : Item) (k v : ℕ) → IsItem x → Uses x k v true → (x.kept ≡ true) × (x.entry ≡ true)
kept_wrote x k v i u = let k = ((i.wrote k v true u).0 refl).0 in (k, i.kept_entry k)

-- a kept item wrote the lock of each word that its trace writes
pub wrote_all : (x : Item) (a : ℕ) → IsItem x → x.kept ≡ true → Writes x.trace a → (v : ℕ) × Uses x (lock_of_word a) v true
wrote_all x a i k w =
    let c = i.covered a (w.0, w.1, inr w.2) in
    let t : c.1 ≡ true = (i.wrote (lock_of_word a) c.0 c.1 c.2).1 (k, (a, refl, w)) in
    (c.0, subst (λ (b : Bool). Uses x (lock_of_word a) c.0 b) t c.2)

-- lock k stands at version c after the items
pub record Stands (k c : ℕ) (xs : List Item) : Type 0 where
  pub below : (x : Item) (v : ℕ) → IsIn x xs → Uses x k v true → v < c
  pub whole : (v : ℕ) → v < c → (x : Item) × IsIn x xs × Uses x k v true

module _ (good : List ℕ → Type 0) (base : List ℕ) (next : ℕ → ℕ) (items order : List Item)
    (held : AgreeWithVersions good base next items) (ordered : KeepsUses items order) where
  in_items : (i : ℕ) (x : Item) → slice_get order i ≡ Some x → IsIn x items
  in_items i x e = ordered.of_items x (i, e)

  -- where an item stands, each lock that it uses stands at the version of the use
  stands_at : (p : ℕ) (x : Item) (k v : ℕ) (b : Bool) → slice_get order p ≡ Some x → Uses x k v b → Stands k v (take p order)
  stands_at p x k v b e u = record { below = below; whole = whole }
    where
      both : (z : Item) (i w : ℕ) → slice_get order i ≡ Some z → i < p → Uses z k w true → v ≡ w → (c : Bool) → b ≡ c → ⊥
      both z i w f lt t q true y =
          let t1 : Uses z k v true = subst (λ (n : ℕ). Uses z k n true) (sym q) t in
          let u1 : Uses x k v true = subst (λ (c : Bool). Uses x k v c) y u in
          let same : z ≡ x = held.once z x k v (in_items i z f) (in_items p x e) t1 u1 in
          let place : i ≡ p = ordered.no_repeat i p x (f ∙ ap Some same) e in absurd (omega arith)
      both z i w f lt t q false y = ordered.in_order i p z x f e lt (record {
        lock = k;
        found = v;
        other = w;
        wrote =
            b;
        other_wrote = true;
        uses = u;
        other_uses = t;
        earlier = inr (q, y, refl);
      })

      below : (z : Item) (w : ℕ) → IsIn z (take p order) → Uses z k w true → w < v
      below z w m t =
          let front = get-front p m.0 order z m.1 in
          dite (dec_lt w v) (λ h. h) (λ n. dite (ℕ_discrete v w)
          (λ q. absurd (both z m.0 w front.1 front.0 t q b refl))
          (λ ne. absurd (ordered.in_order m.0 p z x front.1 e front.0 (record {
            lock = k;
            found = v;
            other = w;
            wrote =
                b;
            other_wrote = true;
            uses = u;
            other_uses = t;
            earlier = inl (omega arith);
          }))))

      whole : (w : ℕ) → w < v → (y : Item) × IsIn y (take p order) × Uses y k w true
      whole w lt =
          let most = held.at_most x k v b (in_items p x e) u in
          let y = held.whole k w (omega arith) in
          let there = ordered.has_entries y.0 y.1 (kept_wrote y.0 k w (held.formed y.0 y.1) y.2).1 in
          dite (dec_lt there.0 p)
          (λ h. (y.0, (there.0, front-get p there.0 order y.0 h there.1), y.2))
          (λ n. dite (ℕ_discrete there.0 p)
          (λ q. let f : slice_get order p ≡ Some y.0 = subst (λ (i : ℕ). slice_get order i ≡ Some y.0) q there.1 in
          let s : Some y.0 ≡ Some x = sym f ∙ e in
          let same : y.0 ≡ x = cc in
          let at = (held.formed x (in_items p x e)).one_each k w v true b (subst (λ (z : Item). Uses z k w true) same y.2) u in
          let eq = at.0 in absurd (omega arith))
          (λ ne. absurd (ordered.in_order p there.0 x y.0 e there.1 (omega arith) (record {
            lock = k;
            found = w;
            other =
                v;
            wrote = true;
            other_wrote = b;
            uses = y.2;
            other_uses = u;
            earlier = inl lt;
          }))))

  -- each word has the value of the version at which its lock stands
  abbrev Valued : List Item → Type 0
  Valued xs = (a c : ℕ) → a < length base → Stands (lock_of_word a) c xs → slice_get (replay_items base xs) a ≡ Some (value_at base items a c)

  base_valued : Valued []
  unfolding replay_effects
  base_valued a c lt st = at c st
    where
      at : (c : ℕ) → Stands (lock_of_word a) c [] → slice_get base a ≡ Some (value_at base items a c)
      at zero st = value_at-first base items a lt
      at (suc c) st = let y = st.whole c (omega arith) in let e = y.1.1 in cc

  -- the item is legal where it stands
  legal_at : (p : ℕ) (x : Item) → slice_get order p ≡ Some x → Valued (take p order) → IsLegalTrace x.trace (replay_items base (take p order))
  legal_at p x e h = held.legal x (in_items p x e) (replay_items base (take p order))
      (length-replay_items base (take p order)) (λ a v b lt u. h a v lt (stands_at p x (lock_of_word a) v b e u))

  -- an item of the front with one item more is in the front, or is the new one
  more_cases : (p : ℕ) (x y : Item) → slice_get order p ≡ Some x → IsIn y (take (suc p) order) → IsIn y (take p order) ⊎ (y ≡ x)
  more_cases p x y e m =
      let f = get-front (suc p) m.0 order y m.1 in
      dite (ℕ_discrete m.0 p)
      (λ q. let g : slice_get order p ≡ Some y = subst (λ (i : ℕ). slice_get order i ≡ Some y) q f.1 in
      let s : Some y ≡ Some x = sym g ∙ e in let same : y ≡ x = cc in inr same)
      (λ ne. inl (m.0, front-get p m.0 order y (omega (arith, f.0)) f.1))

  more_old : (p : ℕ) (y : Item) → IsIn y (take p order) → IsIn y (take (suc p) order)
  more_old p y m = let f = get-front p m.0 order y m.1 in (m.0, front-get (suc p) m.0 order y (omega (arith, f.0)) f.1)

  more_new : (p : ℕ) (x : Item) → slice_get order p ≡ Some x → IsIn x (take (suc p) order)
  more_new p x e = (p, front-get (suc p) p order x (omega arith) e)

  -- the words after one item more
  next_valued : (p : ℕ) (x : Item) → slice_get order p ≡ Some x → Valued (take p order) → (a c : ℕ) → a < length base
      → Stands (lock_of_word a) c (take (suc p) order)
      → slice_get (next_words x (replay_items base (take p order))) a ≡ Some (value_at base items a c)
  next_valued p x e h a c lt st = ⊎_elim (λ w. wrote w.0 w.1) (λ none. left none) (wrote_some (lock_of_word a) x.uses)
    where
      -- x wrote the lock of a at v
      wrote : (v : ℕ) → Uses x (lock_of_word a) v true → slice_get (next_words x (replay_items base (take p order))) a ≡ Some (value_at base items a c)
      wrote v u =
          let old : Stands (lock_of_word a) v (take p order) = stands_at p x (lock_of_word a) v true e u in
          let low = st.below x v (more_new p x e) u in
          let eq : c ≡ suc v = dite (ℕ_discrete c (suc v)) (λ q. q) (λ ne.
          let y = st.whole (suc v) (omega arith) in
          ⊎_elim (λ m. let l = old.below y.0 (suc v) m y.2 in absurd (omega arith))
          (λ same. let o = (held.formed x (in_items p x e)).one_each (lock_of_word a) (suc v) v true true
          (subst (λ (z : Item). Uses z (lock_of_word a) (suc v) true) same y.2) u in let o0 = o.0 in absurd (omega arith))
          (more_cases p x y.0 e y.1)) in
          let is : writer_at (lock_of_word a) v items ≡ Some x =
          writer_is (lock_of_word a) v items x (in_items p x e) u (λ z m t. held.once z x (lock_of_word a) v m (in_items p x e) t u) in
          let k : x.kept ≡ true = (kept_wrote x (lock_of_word a) v (held.formed x (in_items p x e)) u).0 in
          rw (k, eq, value_at-next base items a v x is)
          (get-after-last_written x.trace (replay_items base (take p order)) a (value_at base items a v) (h a v lt old))

      -- x wrote nothing under the lock of a
      left : ((v : ℕ) → Uses x (lock_of_word a) v true → ⊥) → slice_get (next_words x (replay_items base (take p order))) a ≡ Some (value_at base items a c)
      left none =
          let old : Stands (lock_of_word a) c (take p order) = record {
            below = λ y v m u. st.below y v (more_old p y m) u;
            whole = λ v l. let y = st.whole v l in
                ⊎_elim (λ m. (y.0, m, y.2)) (λ same.
                absurd (none v (subst (λ (z : Item). Uses z (lock_of_word a) v true) same y.2))) (more_cases p x y.0 e y.1);
          } in
          let was = h a c lt old in
          ⊎_elim
          (λ k. rw k (get-after-last_written x.trace (replay_items base (take p order)) a (value_at base items a c) was
          ∙ ap Some (last_written-unwritten x.trace a (value_at base items a c) (λ w. let u =
          wrote_all x a (held.formed x (in_items p x e)) k w in none u.0 u.1))))
          (λ k. rw k was)
          (cases_Bool x.kept)

  -- what holds of each front
  record AtFront (p : ℕ) : Type 0 where
    valued : Valued (take p order)
    fine : good (replay_items base (take p order))

  front_more : (p : ℕ) (x : Item) → slice_get order p ≡ Some x → AtFront p → AtFront (suc p)
  front_more p x e h = record {
    valued = λ a c lt st. rw (take-more p order x e, replay_items-append) (next_valued p x e h.valued a c lt st);
    fine = rw (take-more p order x e, replay_items-append) (⊎_elim
        (λ k. rw k (held.stays_good x (in_items p x e) k (replay_items base (take p order))
        (length-replay_items base (take p order)) h.fine (legal_at p x e h.valued)))
        (λ k. rw k h.fine)
        (cases_Bool x.kept));
  }

  at_front : (p : ℕ) → p ≤ length order → AtFront p
  unfolding replay_effects
  at_front zero l = record { valued = base_valued; fine = held.base_good }
  at_front (suc p) l = let x = below_get p order (omega arith) in front_more p x.0 x.1 (at_front p (omega arith))

  pub is_legal : LegalOrder good base order
  is_legal p x e =
      let l = slice_get_within order p x e in
      let h = at_front p (omega arith) in
      (legal_at p x e h.valued, rw add-one (at_front (suc p) (omega arith)).fine)

  pub is_newest : IsNewest base next items (replay_items base order)
  is_newest a lt =
      let h = at_front (length order) (omega arith) in
      let st : Stands (lock_of_word a) (next (lock_of_word a)) order = record {
        below = λ x v m u. held.below x (lock_of_word a) v (ordered.of_items x m) u;
        whole = λ v l. let y = held.whole (lock_of_word a) v l in
            (y.0, ordered.has_entries y.0 y.1 (kept_wrote y.0 (lock_of_word a) v (held.formed y.0 y.1) y.2).1, y.2);
      } in
      subst (λ (l : List Item). slice_get (replay_items base l) a
      ≡ Some (value_at base items a (next (lock_of_word a)))) (take_all (length order) order (omega arith))
      (h.valued a (next (lock_of_word a)) lt
      (subst (λ (l : List Item). Stands (lock_of_word a) (next (lock_of_word a)) l) (sym (take_all (length order) order (omega arith))) st))

  pub end_good : good (replay_items base order)
  end_good = subst (λ (l : List Item). good (replay_items base l)) (take_all (length order) order (omega arith)) (at_front (length order) (omega arith)).fine

  -- a trace that uses the newest values is legal on the words at the end
  pub open_legal : (x : Item) → LegalOnValues base items x → ((k v : ℕ) (b : Bool) → Uses x k v b → v ≡ next k) → IsLegalTrace x.trace (replay_items base order)
  open_legal x legal now = legal (replay_items base order) (length-replay_items base order) (λ a v b lt u.
      is_newest a lt ∙ ap (λ (w : ℕ). Some (value_at base items a w)) (sym (now (lock_of_word a) v b u)))

pub same_end : (good : List ℕ → Type 0) (base : List ℕ) (next : ℕ → ℕ) (items one two : List Item)
    → AgreeWithVersions good base next items → KeepsUses items one → KeepsUses items two → replay_items base one ≡ replay_items base two
same_end good base next items one two held o t =
    same_list (replay_items base one) (replay_items base two) (length-replay_items base one ∙ sym (length-replay_items base two))
    (λ i x e. let lt = slice_get_within (replay_items base one) i x e in
    let low : i < length base = subst (λ (n : ℕ). i < n) (length-replay_items base one) lt in
    is_newest good base next items two held t i low ∙ sym (is_newest good base next items one held o i low) ∙ e)
