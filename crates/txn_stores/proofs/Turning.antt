-- Calls one after another on words that stand for a model, first looks and then changes.
use Rattle.txn_stores.proofs.Common.{◌≡◌, ℕ, List, [], refl, sym, ◌∙◌, subst, after, Begins, Fits, begins_refl, begins_trans, InEachState, LeadsTo, KeepsOthers}
use Rattle.txn_stores.proofs.Common.{leads_from_start, leads_then, StandsForSome}
use Rattle.txn_words.proofs.Common.{SomeFits, fits_begins}
use Rattle.txn_alloc.proofs.Common.{WritesWithin, state_after, Part, IsOwn, Inserts, LacksRoom}
use Rattle.txn_tree_map.proofs.Common.{Removes}
use Rattle.std.proofs.Common.{Option, Result, Ok, Err, IfOk}
use Rattle.history_model.specs.declared.shape.Shape.{Ghosts as Shapes}
use Rattle.txn_words.specs.declared.words.Words.{Ghosts as AnyWords}
use Rattle.txn_words.specs.Access.{OfModel, Tells, TellsAndChanges}
use Rattle.txn_words.proofs.FrameLaws.{only_keeps}
use Rattle.txn_words.proofs.CallLaws.{state_at}
use Rattle.txn_alloc.specs.declared.put.Put.{Put}
use Rattle.txn_alloc.specs.declared.put.Put.TheVariants.{Full}

-- from state to state: what an insert did, why it found no room if it did not, and that other words stay
pub record IsPut (part : Part) (key x : ℕ) (put : Put) (old new : List ℕ) : Type 0 where
  pub inserts : Inserts part key x put old new
  pub full : put ≡ Full → LacksRoom part key old
  pub keeps : KeepsOthers (IsOwn part key old new) old new

-- and a removal
pub record IsCut (part : Part) (key : ℕ) (answer : Option ℕ) (old new : List ℕ) : Type 0 where
  pub removes : Removes part key answer old new
  pub keeps : KeepsOthers (IsOwn part key old new) old new

-- two facts of an answer
pub ok_both : {A E : Type 0} (P Q : A → Type 0) (r : Result A E) → IfOk r P → IfOk r Q → IfOk r (λ x. P x × Q x)
ok_both P Q (Ok x) h k = (h, k)
ok_both P Q (Err e) h k = tt

-- from state to state: nothing changes, and this was seen of the model
pub record Saw {Model : Type 0} (stands : List ℕ → Model → Type 0) (P : Model → Type 0) (old new : List ℕ) : Type 0 where
  pub same : new ≡ old
  pub saw : (model : Model) → stands old model → P model

-- from state to state: whatever model the words stood for, they stand for one that R leads to
pub record Turns {Model : Type 0} (stands : List ℕ → Model → Type 0) (R : Model → Model → Type 0) (old new : List ℕ) : Type 0 where
  pub at : (model : Model) → stands old model → (last : Model) × stands new last × R model last

module _ {W S O : Type 0} (words : AnyWords W S O) (shapes : Shapes S) where
  -- calls led from v to w
  pub record Leads (v w : W) (R : List ℕ → List ℕ → Type 0) : Type 0 where
    pub kept : words.shape w ≡ words.shape v
    pub begins : Begins (words.trace v) (words.trace w)
    pub leads : LeadsTo words shapes v w R

  -- a call's relation says less too
  pub leads_less : (v w : W) (R T : List ℕ → List ℕ → Type 0) → ((x y : List ℕ) → R x y → T x y) → LeadsTo words shapes v w R → LeadsTo words shapes v w T
  leads_less v w R T less h = record { at = λ s fit. less (after (words.trace v) s) (after (words.trace w) s) (h.at s fit) }

  -- a call that met no event led from the words that there were
  pub leads_from_words : (v w : W) (R : List ℕ → List ℕ → Type 0) (first last : List ℕ) → words.trace v ≡ [] → words.shape w ≡ words.shape v
      → last ≡ first → Fits (shapes.word_count (words.shape w)) (shapes.good (words.shape w)) (words.trace w) last
      → LeadsTo words shapes v w R → R first (after (words.trace w) first)
  leads_from_words v w R first last fresh same is fits leads = leads_from_start words shapes v w R fresh leads first
      (subst (λ z. Fits (shapes.word_count z) (shapes.good z) (words.trace w) first) same
      (subst (λ s. Fits (shapes.word_count (words.shape w)) (shapes.good (words.shape w)) (words.trace w) s) is fits))

  -- and with what held before it
  pub leads_when : (v w : W) (P : List ℕ → Type 0) (R T : List ℕ → List ℕ → Type 0)
      → Begins (words.trace v) (words.trace w) → InEachState words shapes v P → ((x y : List ℕ) → P x → R x y → T x y)
      → LeadsTo words shapes v w R → LeadsTo words shapes v w T
  leads_when v w P R T begins each less h =
      record {
        at = λ s fit. less (after (words.trace v) s) (after (words.trace w) s)
            (each.at s (fits_begins _ _ (words.trace v) (words.trace w) s begins fit)) (h.at s fit);
      }

  -- what an insert into a tree did, in each state
  pub leads_put : (v w : W) (part : Part) (key x : ℕ) (put : Put) → LeadsTo words shapes v w (Inserts part key x put)
      → (put ≡ Full → LeadsTo words shapes v w (λ before _. LacksRoom part key before))
      → WritesWithin words shapes v w (IsOwn part key) → LeadsTo words shapes v w (IsPut part key x put)
  leads_put v w part key x put inserts full own = record {
    at = λ s fit. record { inserts = inserts.at s fit; full = λ e. (full e).at s fit; keeps = only_keeps _ (words.trace v) (words.trace w) s (own.at s fit) };
  }

  -- and what a removal did
  pub leads_cut : (v w : W) (part : Part) (key : ℕ) (answer : Option ℕ)
      → LeadsTo words shapes v w (Removes part key answer) → WritesWithin words shapes v w (IsOwn part key) → LeadsTo words shapes v w (IsCut part key answer)
  leads_cut v w part key answer removes own =
      record { at = λ s fit. record { removes = removes.at s fit; keeps = only_keeps _ (words.trace v) (words.trace w) s (own.at s fit) } }

  -- what holds in each state holds in one
  pub in_some : (w : W) (P : List ℕ → Type 0)
      → SomeFits (shapes.word_count (words.shape w)) (shapes.good (words.shape w)) (words.trace w) → InEachState words shapes w P → (s : List ℕ) × P s
  in_some w P some h = (after (words.trace w) some.0, h.at some.0 some.1)

  -- what a call did, in some state, from what held before it
  pub leads_some : {v w : W} {P : List ℕ → Type 0} {R : List ℕ → List ℕ → Type 0} → words.shape w ≡ words.shape v
      → Begins (words.trace v) (words.trace w)
      → SomeFits (shapes.word_count (words.shape w)) (shapes.good (words.shape w)) (words.trace w) → InEachState words shapes v P
      → LeadsTo words shapes v w R → (x : List ℕ) × (y : List ℕ) × P x × R x y
  leads_some {v = v} {w = w} {P = P} {R = R} kept begins some each leads =
      let both = state_after words shapes v w P (λ y. (x : List ℕ) × P x × R x y) R kept begins each leads (λ x y p r. (x, p, r)) in
      let there = in_some w (λ y. (x : List ℕ) × P x × R x y) some both in
      (there.1.0, there.0, there.1.1, there.1.2)

module _ {W S O Model : Type 0} {words : AnyWords W S O} {shapes : Shapes S} {stands : List ℕ → Model → Type 0} where
  -- before any call
  pub unlooked : (v : W) (P : Model → Type 0) → ((x : List ℕ) (model : Model) → stands x model → P model) → Leads words shapes v v (Saw stands P)
  unlooked v P first = record {
    kept = refl;
    begins = begins_refl _;
    leads = record { at = λ s fit. record { same = refl; saw = λ model stand. first _ model stand } };
  }

  module _ {v w : W} (kept : words.shape w ≡ words.shape v) (begins : Begins (words.trace v) (words.trace w)) where
    -- the first look
    pub looked : {A : Type 0} {says : Model → A} {answer : A} → LeadsTo words shapes v w (Tells stands says answer)
        → Leads words shapes v w (Saw stands (λ model. answer ≡ says model))
    looked told = record {
      kept = kept;
      begins = begins;
      leads = leads_less words shapes v w _ _ (λ x y t. record { same = t.same; saw = t.told }) told;
    }

    -- one look more
    pub look_then : {A : Type 0} {u : W} {P : Model → Type 0} {says : Model → A} {answer : A} → Leads words shapes u v (Saw stands P)
        → LeadsTo words shapes v w (Tells stands says answer) → Leads words shapes u w (Saw stands (λ model. P model × (answer ≡ says model)))
    look_then {u = u} before told = record {
      kept = kept ∙ before.kept;
      begins = begins_trans _ _ _ before.begins begins;
      leads = leads_less words shapes u w _ _
          (λ x z k. record {
            same = k.2.same ∙ k.1.same;
            saw = λ model stand. (k.1.saw model stand, k.2.told model (subst (λ y. stands y model) (sym k.1.same) stand));
          })
          (leads_then words shapes u v w _ _ before.kept begins before.leads told);
    }

    -- what a call led to led so from before a look
    pub after_look : {u : W} {P : Model → Type 0} (R : List ℕ → List ℕ → Type 0) → Leads words shapes u v (Saw stands P)
        → LeadsTo words shapes v w R → LeadsTo words shapes u w R
    after_look {u = u} R before leads = leads_less words shapes u w _ _
        (λ x z k. subst (λ y. R y z) k.1.same k.2)
        (leads_then words shapes u v w _ R before.kept begins before.leads leads)

    -- the first change
    pub turned : {A : Type 0} {says : Model → A} {change : Model → Model} {answer : A} → LeadsTo words shapes v w (TellsAndChanges stands says change answer)
        → Leads words shapes v w (Turns stands (λ model last. (answer ≡ says model) × (last ≡ change model)))
    turned {change = change} did = record {
      kept = kept;
      begins = begins;
      leads = leads_less words shapes v w _ _
          (λ x y t. record { at = λ model stand. (change model, t.left model stand, (t.told model stand, refl)) }) did;
    }

    -- one change more
    pub turn_then : {A : Type 0} {u : W} {R : Model → Model → Type 0} {says : Model → A} {change : Model → Model} {answer : A}
        → Leads words shapes u v (Turns stands R) → LeadsTo words shapes v w (TellsAndChanges stands says change answer)
        → Leads words shapes u w (Turns stands (λ model last. (here : Model) × R model here × (answer ≡ says here) × (last ≡ change here)))
    turn_then {u = u} {change = change} before did = record {
      kept = kept ∙ before.kept;
      begins = begins_trans _ _ _ before.begins begins;
      leads = leads_less words shapes u w _ _
          (λ x z k. record {
            at = λ model stand.
                let here = k.1.at model stand in
                (change here.0, k.2.left here.0 here.1, (here.0, here.2, k.2.told here.0 here.1, refl));
          })
          (leads_then words shapes u v w _ _ before.kept begins before.leads did);
    }

  module _ {u w : W} where
    -- what looks tell together
    pub tells : {A : Type 0} {says : Model → A} {answer : A} {P : Model → Type 0} → Leads words shapes u w (Saw stands P)
        → ((model : Model) → P model → answer ≡ says model) → LeadsTo words shapes u w (Tells stands says answer)
    tells h means = leads_less words shapes u w _ _ (λ x y k. record { same = k.same; told = λ model stand. means model (k.saw model stand) }) h.leads

    -- less of what was seen
    pub looked_less : {P Q : Model → Type 0} → Leads words shapes u w (Saw stands P) → ((model : Model) → P model → Q model)
        → Leads words shapes u w (Saw stands Q)
    looked_less h less = record {
      kept = h.kept;
      begins = h.begins;
      leads = leads_less words shapes u w _ _ (λ x y k. record { same = k.same; saw = λ model stand. less model (k.saw model stand) }) h.leads;
    }

    -- words stand after looks for what they stood before
    pub looked_stands : {P : Model → Type 0} → Leads words shapes u w (Saw stands P) → InEachState words shapes u (StandsForSome stands)
        → InEachState words shapes w (StandsForSome stands)
    looked_stands {P = P} h stand = state_after words shapes u w (StandsForSome stands) (StandsForSome stands) (Saw stands P) h.kept h.begins stand h.leads
        (λ x y some k. subst (StandsForSome stands) (sym k.same) some)

    -- words stand after changes for a model
    pub turned_stands : {R : Model → Model → Type 0} → Leads words shapes u w (Turns stands R) → InEachState words shapes u (StandsForSome stands)
        → InEachState words shapes w (StandsForSome stands)
    turned_stands {R = R} h stand = state_after words shapes u w (StandsForSome stands) (StandsForSome stands) (Turns stands R) h.kept h.begins stand h.leads
        (λ x y some k. let last = k.at some.0 some.1 in (last.0, last.1))

-- calls that leave what R and a call's relation say
module _ {W S O Model : Type 0} {words : AnyWords W S O} {shapes : Shapes S} {stands : List ℕ → Model → Type 0} where
  pub turn_by : {u v w : W} {R T : Model → Model → Type 0} {C : List ℕ → List ℕ → Type 0} → words.shape w ≡ words.shape v
      → Begins (words.trace v) (words.trace w) → Leads words shapes u v (Turns stands R) → LeadsTo words shapes v w C
      → ((x y : List ℕ) (model here : Model) → stands x here → R model here → C x y → (last : Model) × stands y last × T model last)
      → Leads words shapes u w (Turns stands T)
  turn_by {u = u} {v = v} {w = w} kept begins before call step = record {
    kept = kept ∙ before.kept;
    begins = begins_trans _ _ _ before.begins begins;
    leads = leads_less words shapes u w _ _
        (λ x z k. record {
          at = λ model stand.
              let here = k.1.at model stand in
              step k.0 z model here.0 here.1 here.2 k.2;
        })
        (leads_then words shapes u v w _ _ before.kept begins before.leads call);
  }

  -- before any call
  pub unturned : (v : W) (R : Model → Model → Type 0) → ((model : Model) → R model model) → Leads words shapes v v (Turns stands R)
  unturned v R same = record {
    kept = refl;
    begins = begins_refl _;
    leads = record { at = λ s fit. record { at = λ model stand. (model, stand, same model) } };
  }

  -- what was seen of each model for which the words stand
  pub each_seen : {v w : W} {P Q : Model → Type 0} → Leads words shapes v w (Saw stands P)
      → ((x : List ℕ) (model : Model) → stands x model → P model → Q model) → InEachState words shapes w (OfModel stands Q)
  each_seen {v = v} {w = w} {Q = Q} h means = state_at words shapes v w (OfModel stands Q) h.kept
      (record {
        at = λ s fit model stand. let k = h.leads.at s fit in
            means _ model stand (k.saw model (subst (λ z. stands z model) k.same stand));
      })
