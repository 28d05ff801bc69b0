-- Scripts that follow in turn are those of a journal, and those of a journal follow in turn.
use Rattle.books_report.proofs.Common.{◌≡◌, ◌≢◌, ℕ, suc, ◌+◌, ◌<◌, ◌≤◌, ◌==◌, ◌&&◌, Bool, true, false, cond, nat_lt, List, [], ◌∷◌, ◌++◌, length, map, get_or}
use Rattle.books_report.proofs.Common.{count_by, All, inl, inr, refl, sym, ap, ◌∙◌, subst, append_assoc, append-nil, length-append, arith, AllByRecursion}
use Rattle.books_report.proofs.Common.{map_push, sum_by-append, All-weaker, All-tail, recursion_from_All, eq-eqb, ne_eqb, nat_tests, eqb_tells, caller_at}
use Rattle.books_report.proofs.Common.{ClearingBooks, Caller, ClearingInput, count_scripts, Place, IsPlace, places_run, Ran, books_left, books_after, IsNext}
use Rattle.books_report.proofs.Common.{MayFollow, FollowInTurn}
use Rattle.std.proofs.Common.{AllPairs}
use Rattle.std.proofs.lemmas.List.{get_or_append_left, get_or_at, get_or-append-add, map-append}
use Rattle.std.proofs.lemmas.List.Sums.{sum_by_push}
use Rattle.std.proofs.lemmas.List.Elements.{All-nil, All-push, All-head}
use Rattle.std.proofs.lemmas.List.Quantifiers.{all_pairs_push}
use Rattle.std.proofs.lemmas.Bool.{eqb-true}
use Rattle.script_reader.specs.Journal.{IsJournal}
use Rattle.script_reader.proofs.books.Printing.Sections.{all_follow}
use Rattle.books_report.specs.Output.{replies_of}
use Rattle.books_report.proofs.Order.Classes.{sums, sums-same, sums-ones, sums-tight, by_classes, sum_by_all}

-- how many scripts of a caller were run
abbrev pub turns : List Place → ℕ → ℕ
turns done c = count_by (λ p. p.caller == c) done

-- how often a script was run
abbrev times : List Place → ℕ → ℕ → ℕ
times done c i = count_by (λ p. p.caller == c && p.index == i) done

-- what is known of scripts that were run in turn
pub record Gone (input : ClearingInput) (done : List Place) : Type 0 where
  pub only : All (IsPlace input) done
  pub rising : AllPairs (λ p q. p.caller ≡ q.caller → p.index < q.index) done
  pub once : (c i : ℕ) → times done c i ≡ cond (nat_lt i (turns done c)) 1 0
  pub every : All (λ p. p.index < turns done p.caller) done
  pub few : (c : ℕ) → turns done c ≤ length (caller_at input.callers c).scripts

-- one more script of a caller
pub turns-push : (done : List Place) (p : Place) (c : ℕ) → turns (done ++ p ∷ []) c ≡ turns done c + cond (p.caller == c) 1 0
turns-push done p c = sum_by_push (λ q. cond (q.caller == c) 1 0) done p

-- its own counts
its_turn : (done : List Place) (p : Place) → turns (done ++ p ∷ []) p.caller ≡ turns done p.caller + 1
its_turn done p = turns-push done p p.caller ∙ ap {B = ℕ} (λ b. turns done p.caller + cond b 1 0) (eq-eqb p.caller p.caller refl)

-- an index is run once if it lies below those that were run
once_more : (same : Bool) (pi i t : ℕ) → (same ≡ true → pi ≡ t) → cond (nat_lt i t) 1 0 + cond (same && pi == i) 1 0 ≡ cond (nat_lt i (t + cond same 1 0)) 1 0
once_more false pi i t at = grind (arith, nat_tests)
once_more true pi i t at = let is = at refl in grind (arith, nat_tests, is)

few_more : {input : ClearingInput} {done : List Place} {p : Place} → Gone input done → IsNext input done p → (c : ℕ)
    → turns (done ++ p ∷ []) c ≤ length (caller_at input.callers c).scripts
few_more {input} {done} {p} h n c = elim (eqb_tells p.caller c) [
  | inl same ↦ subst (λ x. turns (done ++ p ∷ []) x ≤ length (caller_at input.callers x).scripts) same.1 (omega (arith, its_turn done p, n.next, n.left.1))
  | inr apart ↦ omega (arith, turns-push done p c, ap {B = ℕ} (λ b. cond b 1 0) apart.0, h.few c)
]

-- one more script in turn
pub gone_more : {input : ClearingInput} {done : List Place} {p : Place} → Gone input done → IsNext input done p → Gone input (done ++ p ∷ [])
gone_more {input} {done} {p} h n = record {
  only = All-push (IsPlace input) done p h.only n.left;
  rising = all_pairs_push (λ p q. p.caller ≡ q.caller → p.index < q.index) done p h.rising (λ k d less same.
      omega (arith, h.every k d less, ap (turns done) same, n.next));
  once = λ c i.
      sum_by_push (λ q. cond (q.caller == c && q.index == i) 1 0) done p
      ∙ ap (λ m. m + cond (p.caller == c && p.index == i) 1 0) (h.once c i)
      ∙ once_more (p.caller == c) p.index i (turns done c) (λ same. n.next ∙ ap (turns done) (eqb-true p.caller c same))
      ∙ ap {B = ℕ} (λ t. cond (nat_lt i t) 1 0) (sym (turns-push done p c));
  every = All-push (λ q. q.index < turns (done ++ p ∷ []) q.caller) done p
      (All-weaker (λ q. q.index < turns done q.caller) (λ q. q.index < turns (done ++ p ∷ []) q.caller)
      (λ q less. omega (arith, less, turns-push done p q.caller)) done h.every)
      (omega (arith, its_turn done p, n.next));
  few = few_more h n;
}

-- before the first script
pub gone_none : {input : ClearingInput} → Gone input []
gone_none {input} = record {
  only = All-nil (IsPlace input);
  rising = λ i j d less short. absurd (omega arith);
  once = λ c i. grind (arith, nat_tests);
  every = All-nil (λ p. p.index < turns [] p.caller);
  few = λ c. omega arith;
}

-- scripts in turn, behind others
pub gone_by_turns : {input : ClearingInput} (limit : ℕ) (before scripts : List Ran) → Gone input (places_run before)
    → FollowInTurn input limit before scripts → Gone input (places_run (before ++ scripts))
gone_by_turns {input} limit before [] h t = subst (λ l. Gone input (places_run l)) (sym (append-nil before)) h
gone_by_turns {input} limit before (ran ∷ scripts) h t =
    let more : Gone input (places_run (before ++ ran ∷ [])) =
    subst (Gone input) (sym (map_push (λ (r : Ran). r.place) before ran)) (gone_more h t.0.next) in
    subst (λ l. Gone input (places_run l)) (append_assoc before (ran ∷ []) scripts) (gone_by_turns limit (before ++ ran ∷ []) scripts more t.1)

-- scripts in turn, from the first
pub gone_of : {input : ClearingInput} (limit : ℕ) (scripts : List Ran) → FollowInTurn input limit [] scripts → Gone input (places_run scripts)
gone_of limit scripts t = gone_by_turns limit [] scripts (gone_none) t

-- all are as many as the list is long
count_all : {A : Type 0} (xs : List A) → count_by (λ x. true) xs ≡ length xs
count_all [] = refl
count_all (x ∷ xs) = sum_by-append (λ y. 1) (x ∷ []) xs ∙ omega (arith, count_all xs)

-- scripts are as many as those of each caller together
turns_together : (input : ClearingInput) (done : List Place) → All (IsPlace input) done → length done ≡ sums (length input.callers) (turns done)
turns_together input done only =
    sym (count_all done) ∙ by_classes (λ p. true) (λ p. p.caller) (length input.callers) done
    (recursion_from_All (λ p. true ≡ true → p.caller < length input.callers) done (λ k d less yes. (only k d less).0))

-- and so are those of the input
scripts_together : (input : ClearingInput) → count_scripts input.callers ≡ sums (length input.callers) (λ c. length (caller_at input.callers c).scripts)
scripts_together input = sum_by_all (λ (c : Caller). length c.scripts) (record { name = []; scripts = [] }) input.callers

-- if as many were run as there are, no caller has one left
pub finished : {input : ClearingInput} {done : List Place} → Gone input done → length done ≡ count_scripts input.callers
    → {c : ℕ} → c < length input.callers → turns done c ≡ length (caller_at input.callers c).scripts
finished {input} {done} h all {c} within =
    sums-tight (length input.callers) (turns done) (λ c. length (caller_at input.callers c).scripts) (λ c less. h.few c)
    (sym (turns_together input done h.only) ∙ all ∙ scripts_together input) c within

-- so none comes next
pub none_left : {input : ClearingInput} {done : List Place} {p : Place} → Gone input done → length done ≡ count_scripts input.callers → IsNext input done p → ⊥
none_left h all n = omega (arith, finished h all n.left.0, n.next, n.left.1)

-- and they are a journal
pub journal_of_turns : {input : ClearingInput} {done : List Place} → Gone input done → length done ≡ count_scripts input.callers → IsJournal input done
journal_of_turns {done} h all = record {
  only = h.only;
  once = λ place there. h.once place.caller place.index
      ∙ by place.index (turns done place.caller) (omega (arith, finished h all there.0, there.1));
  rising = h.rising;
}
  where
    by : (i t : ℕ) → i < t → ◌≡◌ {A = ℕ} (cond (nat_lt i t) 1 0) 1
    by i t less = grind (arith, nat_tests, less)

-- what holds of pairs holds of an element and those before it, and of it and those behind it
around : {A : Type 0} (R : A → A → Type 0) (xs : List A) (y : A) (ys : List A) → AllPairs R (xs ++ y ∷ ys)
    → AllByRecursion (λ x. R x y) xs × AllByRecursion (λ z. R y z) ys
around {A} R xs y ys h = (
  recursion_from_All (λ x. R x y) xs (λ k d less.
      subst (λ x. R x y) (get_or_append_left xs (y ∷ ys) d k less)
      (subst (λ z. R (get_or (xs ++ y ∷ ys) k d) z) (get_or_at xs y ys d (length xs) refl)
      (h k (length xs) d less (omega (arith, length-append xs (y ∷ ys)))))),
  recursion_from_All (λ z. R y z) ys (λ k d less.
      subst (λ z. R y z) (get_or-append-add xs (y ∷ ys) (suc k) d)
      (subst (λ x. R x (get_or (xs ++ y ∷ ys) (length xs + suc k) d)) (get_or_at xs y ys d (length xs) refl)
      (h (length xs) (length xs + suc k) d (omega arith) (omega (arith, length-append xs (y ∷ ys)))))),
)

-- none of those that fail a test counts
none_counts : {A : Type 0} (t : A → Bool) (xs : List A) → AllByRecursion (λ x. t x ≡ false) xs → count_by t xs ≡ 0
none_counts t [] all = refl
none_counts t (x ∷ xs) all = sum_by-append (λ y. cond (t y) 1 0) (x ∷ []) xs ∙ omega (arith, ap {B = ℕ} (λ b. cond b 1 0) all.0, none_counts t xs all.1)

-- a test of two numbers fails if the second is another
other_index : (c c' i i' : ℕ) → (c ≡ c' → i ≢ i') → (c == c' && i == i') ≡ false
other_index c c' i i' apart = elim (eqb_tells c c') [
  | inl same ↦ ap (λ b. b && i == i') same.0 ∙ ne_eqb i i' (apart same.1)
  | inr differ ↦ ap (λ b. b && i == i') differ.0
]

-- each script of a journal is next behind those before it
pub next_of_journal : (input : ClearingInput) (done : List Place) (p : Place) (rest : List Place) → IsJournal input (done ++ p ∷ rest) → IsNext input done p
next_of_journal input done p rest j = record { left = here; next = sym counted }
  where
    here : IsPlace input p
    here = subst (IsPlace input) (get_or_at done p rest p (length done) refl) (j.only (length done) p (omega (arith, length-append done (p ∷ rest))))

    sides : AllByRecursion (λ q. q.caller ≡ p.caller → q.index < p.index) done × AllByRecursion (λ q. p.caller ≡ q.caller → p.index < q.index) rest
    sides = around (λ p q. p.caller ≡ q.caller → p.index < q.index) done p rest j.rising

    once : (i : ℕ) → i < p.index → times done p.caller i ≡ 1
    once i less =
        let whole = j.once (record { caller = p.caller; index = i }) (here.0, omega (arith, here.1, less)) in
        let itself = other_index p.caller p.caller p.index i (λ same at. omega (arith, at, less)) in
        let behind = none_counts (λ q. q.caller == p.caller && q.index == i) rest
        (all_follow (λ q. p.caller ≡ q.caller → p.index < q.index) (λ q. (q.caller == p.caller && q.index == i) ≡ false)
        rest (λ q above. other_index q.caller p.caller q.index i (λ same at. omega (arith, above (sym same), at, less))) sides.1) in
        omega (
          arith,
          whole,
          sum_by-append (λ q. cond (q.caller == p.caller && q.index == i) 1 0) done (p ∷ rest),
          sum_by-append (λ q. cond (q.caller == p.caller && q.index == i) 1 0) (p ∷ []) rest,
          ap {B = ℕ} (λ b. cond b 1 0) itself,
          behind,
        )

    counted : turns done p.caller ≡ p.index
    counted =
        by_classes (λ q. q.caller == p.caller) (λ q. q.index) p.index done
        (all_follow (λ q. q.caller ≡ p.caller → q.index < p.index) (λ q. (q.caller == p.caller) ≡ true
        → q.index < p.index) done (λ q below same. below (eqb-true q.caller p.caller same)) sides.0)
        ∙ sums-ones p.index (λ i. times done p.caller i) once

-- a journal has as many scripts as the input
pub length_of_journal : (input : ClearingInput) (order : List Place) → IsJournal input order → length order ≡ count_scripts input.callers
length_of_journal input order j =
    turns_together input order j.only
    ∙ sums-same (length input.callers) (turns order) (λ c. length (caller_at input.callers c).scripts) each
    ∙ sym (scripts_together input)
  where
    each : (c : ℕ) → c < length input.callers → turns order c ≡ length (caller_at input.callers c).scripts
    each c within =
        by_classes (λ q. q.caller == c) (λ q. q.index) (length (caller_at input.callers c).scripts) order
        (recursion_from_All (λ q. (q.caller == c) ≡ true → q.index < length (caller_at input.callers c).scripts) order
        (λ k d less same. subst (λ x. (get_or order k d).index < length (caller_at input.callers x).scripts)
        (eqb-true (get_or order k d).caller c same) (j.only k d less).1))
        ∙ sums-ones (length (caller_at input.callers c).scripts) (λ i. times order c i) (λ i less. j.once (record { caller = c; index = i }) (within, less))

-- the books after one more script
pub books_after-push : (input : ClearingInput) (books : ClearingBooks) (places : List Place) (p : Place)
    → books_after input books (places ++ p ∷ []) ≡ books_left input (books_after input books places) p
books_after-push input books [] p = refl
books_after-push input books (q ∷ places) p = books_after-push input (books_left input books q) places p

-- the books after one more script that was run
pub books_after_ran : (input : ClearingInput) (before : List Ran) (ran : Ran)
    → books_after input input.books (places_run (before ++ ran ∷ [])) ≡ books_left input (books_after input input.books (places_run before)) ran.place
books_after_ran input before ran = ap (books_after input input.books) (map_push (λ (r : Ran). r.place) before ran)
    ∙ books_after-push input input.books (places_run before) ran.place

-- the scripts of an output follow in turn
pub turns_of_journal : (input : ClearingInput) (limit : ℕ) (before scripts : List Ran)
    → IsJournal input (places_run (before ++ scripts)) → All (λ ran. ran.restarts < limit) scripts
    → map (λ ran. ran.reply) scripts ≡ replies_of input (books_after input input.books (places_run before))
    (places_run scripts) → FollowInTurn input limit before scripts
turns_of_journal input limit before [] j below replies = tt
turns_of_journal input limit before (ran ∷ scripts) j below replies = (
  record {
    next = next_of_journal input (places_run before) ran.place (places_run scripts)
        (subst (IsJournal input) (map-append (λ (r : Ran). r.place) before (ran ∷ scripts)) j);
    below = All-head (λ (r : Ran). r.restarts < limit) ran scripts below;
    reply = cc;
  },
  turns_of_journal input limit (before ++ ran ∷ []) scripts
      (subst (λ l. IsJournal input (places_run l)) (sym (append_assoc before (ran ∷ []) scripts)) j)
      (All-tail (λ (r : Ran). r.restarts < limit) ran scripts below)
      (rest ∙ ap (λ books. replies_of input books (places_run scripts)) (sym (books_after_ran input before ran))),
)
  where
    rest : map (λ ran. ran.reply) scripts
        ≡ replies_of input (books_left input (books_after input input.books (places_run before)) ran.place) (places_run scripts)
    rest = cc

-- what scripts in turn say of their restarts and replies
pub below_of_turns : (input : ClearingInput) (limit : ℕ) (before scripts : List Ran)
    → FollowInTurn input limit before scripts → AllByRecursion (λ ran. ran.restarts < limit) scripts
below_of_turns input limit before [] t = tt
below_of_turns input limit before (ran ∷ scripts) t = (t.0.below, below_of_turns input limit (before ++ ran ∷ []) scripts t.1)

pub replies_of_turns : (input : ClearingInput) (limit : ℕ) (before scripts : List Ran) → FollowInTurn input limit before scripts
    → map (λ ran. ran.reply) scripts ≡ replies_of input (books_after input input.books (places_run before)) (places_run scripts)
replies_of_turns input limit before [] t = refl
replies_of_turns input limit before (ran ∷ scripts) t = λ i.
    t.0.reply i ∷ (replies_of_turns input limit (before ++ ran ∷ []) scripts t.1
    ∙ ap (λ books. replies_of input books (places_run scripts)) (books_after_ran input before ran)) i

-- one more script in turn, behind some
pub turns_more : {input : ClearingInput} {limit : ℕ} (before scripts : List Ran) {ran : Ran}
    → FollowInTurn input limit before scripts → MayFollow input limit (before ++ scripts) ran → FollowInTurn input limit before (scripts ++ ran ∷ [])
turns_more {input} {limit} before [] {ran} t m = (subst (λ l. MayFollow input limit l ran) (append-nil before) m, tt)
turns_more {input} {limit} before (r ∷ scripts) {ran} t m =
    (t.0, turns_more (before ++ r ∷ []) scripts t.1 (subst (λ l. MayFollow input limit l ran) (sym (append_assoc before (r ∷ []) scripts)) m))
