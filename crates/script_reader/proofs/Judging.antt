-- The first fault of a text by any judge: lines that were read in front of it, and that it is one at most.
use Rattle.script_reader.proofs.Common.{◌≡◌, inl, inr, ℕ, ◌+◌, List, [], ◌∷◌, ◌++◌, codes, length, Option, cond, ◌==◌, Some, None, refl, sym, ap, subst, ◌∙◌}
use Rattle.script_reader.proofs.Common.{append_assoc, true≢false, arith, flat_map, count_by, join_with_byte, append-nil, sum_by-append, sum_by-cons, none-some}
use Rattle.script_reader.proofs.Common.{same_Some, SPACE, LINE_FEED, Fault, IsFreeOf, AreWords, line, finish_line, Words, is_only, Judge, HaveNoFault}
use Rattle.script_reader.proofs.Common.{BeginsFaulty, IsFaultBehind}
use Rattle.script_reader.proofs.Joined.{joined}
use Rattle.script_reader.proofs.text.Tokens.Cutting.{join-free, line_once, no_line, word_from_test}
use Rattle.script_reader.specs.declared.fault.Fault.TheVariants as fault

-- the last line
finish : Words
finish = codes "finish" ∷ []

pub finish_words : AreWords (codes "finish" ∷ [])
finish_words = record { some = omega arith; each = (word_from_test (codes "finish") refl, tt) }

-- a line that stands first in a text, and what follows it
pub first_line : (w : Words) (ls : List Words) (rest : List ℕ) → flat_map line (w ∷ ls) ++ rest ≡ line w ++ (flat_map line ls ++ rest)
first_line w ls rest = append_assoc (line w) (flat_map line ls) rest

-- a fault is none if none is
pub some_none : {A : Type 0} {o : Option A} {x : A} → o ≡ None → o ≡ Some x → ⊥
some_none e h = none-some _ (sym e ∙ h)

-- a byte is not counted if there is none
count_free : (c : ℕ) (xs : List ℕ) → IsFreeOf c xs → count_by (λ b. b == c) xs ≡ 0
count_free c [] f = refl
count_free c (x ∷ xs) f = sum_by-cons (λ b. cond (b == c) 1 0) x xs ∙ (λ i. cond (f.0 i) 1 0 + count_free c xs f.1 i) ∙ omega arith

-- a line has one line feed
pub count_line : (words : Words) → AreWords words → count_by (λ b. b == LINE_FEED) (line words) ≡ 1
count_line words are = omega (
  arith,
  sum_by-append (λ b. cond (b == LINE_FEED) 1 0) (join_with_byte SPACE words) (LINE_FEED ∷ []),
  count_free LINE_FEED (join_with_byte SPACE words) (join-free words are.each),
)

module _ (judge : Judge) where
  -- lines without fault, behind lines without fault
  pub faultless_append : (before xs ys : List Words) → HaveNoFault judge before xs → HaveNoFault judge (before ++ xs) ys → HaveNoFault judge before (xs ++ ys)
  faultless_append before [] ys first more = subst (λ b. HaveNoFault judge b ys) (append-nil before) more
  faultless_append before (w ∷ xs) ys first more = (
    first.0,
    first.1,
    first.2,
    faultless_append (before ++ w ∷ []) xs ys first.3 (subst (λ b. HaveNoFault judge b ys) (sym (append_assoc before
        (w ∷ []) xs)) more),
  )

  -- the lines behind the first of some lines without fault
  pub faultless_rest : (before xs ys : List Words) → HaveNoFault judge before (xs ++ ys) → HaveNoFault judge (before ++ xs) ys
  faultless_rest before [] ys f = subst (λ b. HaveNoFault judge b ys) (sym (append-nil before)) f
  faultless_rest before (x ∷ xs) ys f = subst (λ b. HaveNoFault judge b ys) (append_assoc before (x ∷ []) xs) (faultless_rest (before ++ x ∷ []) xs ys f.3)

  -- lines without fault up to the last line, and such lines once more, are the same
  pub finish_once : (before ls ks : List Words) (r s : List ℕ) → HaveNoFault judge before ls → HaveNoFault judge before ks
      → flat_map line ls ++ (finish_line ++ r) ≡ flat_map line ks ++ (finish_line ++ s) → (ls ≡ ks) × (r ≡ s)
  finish_once before [] [] r s f g e = (refl, (line_once (codes "finish" ∷ []) (codes "finish" ∷ []) r s finish_words finish_words e).1)
  finish_once before [] (k ∷ ks) r s f g e =
      let same = line_once (codes "finish" ∷ []) k r (flat_map line ks ++ (finish_line ++ s)) finish_words g.0 (e ∙ first_line k ks (finish_line ++ s)) in
      absurd (true≢false (ap (is_only (codes "finish")) same.0 ∙ g.2))
  finish_once before (l ∷ ls) [] r s f g e =
      let same = line_once l (codes "finish" ∷ []) (flat_map line ls ++ (finish_line ++ r)) s f.0 finish_words (sym (first_line l ls (finish_line ++ r)) ∙ e) in
      absurd (true≢false (sym (ap (is_only (codes "finish")) same.0) ∙ f.2))
  finish_once before (l ∷ ls) (k ∷ ks) r s f g e =
      let same = line_once l k (flat_map line ls ++ (finish_line ++ r)) (flat_map line ks ++ (finish_line ++ s)) f.0 g.0
      (sym (first_line l ls (finish_line ++ r)) ∙ e ∙ first_line k ks (finish_line ++ s)) in
      let rest = finish_once (before ++ l ∷ []) ls ks r s f.3 (subst (λ w. HaveNoFault judge (before ++ w ∷ []) ks) (sym same.0) g.3) same.1 in
      ((λ i. same.0 i ∷ rest.0 i), rest.1)

  -- lines without fault up to the last line leave no room for a fault
  pub no_fault : (before more valid : List Words) (rest left after : List ℕ) (why : Fault) → HaveNoFault judge before more
      → HaveNoFault judge before valid → judge (before ++ valid) (codes "finish" ∷ []) ≡ None
      → flat_map line more ++ rest ≡ flat_map line valid ++ (finish_line ++ after) → BeginsFaulty judge (before ++ more) rest left why → ⊥
  no_fault before [] [] rest left after why f g ends e (inl here) =
      let same = line_once here.0 (codes "finish" ∷ []) left after here.1 finish_words (sym here.2 ∙ e) in
      some_none ends (ap (judge (before ++ [])) (sym same.0) ∙ here.3)
  no_fault before [] [] rest left after why f g ends e (inr here) = no_line (codes "finish" ∷ []) after here.0 e
  no_fault before [] (v ∷ valid) rest left after why f g ends e (inl here) =
      let same = line_once here.0 v left (flat_map line valid ++ (finish_line ++ after)) here.1 g.0 (sym here.2 ∙ e
      ∙ first_line v valid (finish_line ++ after)) in
      some_none (ap (judge before) same.0 ∙ g.1) (ap (λ b. judge b here.0) (sym (append-nil before)) ∙ here.3)
  no_fault before [] (v ∷ valid) rest left after why f g ends e (inr here) =
      no_line v (flat_map line valid ++ (finish_line ++ after)) here.0 (e ∙ first_line v valid (finish_line ++ after))
  no_fault before (w ∷ more) [] rest left after why f g ends e here =
      let same = line_once w (codes "finish" ∷ []) (flat_map line more ++ rest) after f.0 finish_words (sym (first_line w more rest) ∙ e) in
      true≢false (sym (ap (is_only (codes "finish")) same.0) ∙ f.2)
  no_fault before (w ∷ more) (v ∷ valid) rest left after why f g ends e here =
      let same = line_once w v (flat_map line more ++ rest) (flat_map line valid ++ (finish_line ++ after)) f.0 g.0
      (sym (first_line w more rest) ∙ e ∙ first_line v valid (finish_line ++ after)) in
      no_fault (before ++ w ∷ []) more valid rest left after why f.3 (subst (λ u. HaveNoFault judge (before ++ u ∷ []) valid) (sym same.0) g.3)
      ((λ i. judge (append_assoc before (same.0 i ∷ []) valid i) (codes "finish" ∷ [])) ∙ ends) same.1
      (subst (λ b. BeginsFaulty judge b rest left why) (sym (append_assoc before (w ∷ []) more)) here)

  -- and a fault leaves none for another
  pub fault_once : (before ls ks : List Words) (r s left other : List ℕ) (why reason : Fault) → HaveNoFault judge before ls
      → HaveNoFault judge before ks → flat_map line ls ++ r ≡ flat_map line ks ++ s
      → BeginsFaulty judge (before ++ ls) r left why → BeginsFaulty judge (before ++ ks) s other reason → (ls ≡ ks) × (why ≡ reason)
  fault_once before [] [] r s left other why reason f g e (inl here) (inl there) =
      let same = line_once here.0 there.0 left other here.1 there.1 (sym here.2 ∙ e ∙ there.2) in
      (refl, same_Some why reason (sym here.3 ∙ ap (judge (before ++ [])) same.0 ∙ there.3))
  fault_once before [] [] r s left other why reason f g e (inl here) (inr there) = absurd (no_line here.0 left there.0 (sym e ∙ here.2))
  fault_once before [] [] r s left other why reason f g e (inr here) (inl there) = absurd (no_line there.0 other here.0 (e ∙ there.2))
  fault_once before [] [] r s left other why reason f g e (inr here) (inr there) = (refl, here.2 ∙ sym there.2)
  fault_once before [] (k ∷ ks) r s left other why reason f g e (inl here) there =
      let same = line_once here.0 k left (flat_map line ks ++ s) here.1 g.0 (sym here.2 ∙ e ∙ first_line k ks s) in
      absurd (some_none (ap (judge before) same.0 ∙ g.1) (ap (λ b. judge b here.0) (sym (append-nil before)) ∙ here.3))
  fault_once before [] (k ∷ ks) r s left other why reason f g e (inr here) there = absurd (no_line k (flat_map line ks ++ s) here.0 (e ∙ first_line k ks s))
  fault_once before (l ∷ ls) [] r s left other why reason f g e here (inl there) =
      let same = line_once there.0 l other (flat_map line ls ++ r) there.1 f.0 (sym there.2 ∙ sym e ∙ first_line l ls r) in
      absurd (some_none (ap (judge before) same.0 ∙ f.1) (ap (λ b. judge b there.0) (sym (append-nil before)) ∙ there.3))
  fault_once before (l ∷ ls) [] r s left other why reason f g e here (inr there) =
      absurd (no_line l (flat_map line ls ++ r) there.0 (sym e ∙ first_line l ls r))
  fault_once before (l ∷ ls) (k ∷ ks) r s left other why reason f g e here there =
      let same = line_once l k (flat_map line ls ++ r) (flat_map line ks ++ s) f.0 g.0 (sym (first_line l ls r) ∙ e ∙ first_line k ks s) in
      let rest = fault_once (before ++ l ∷ []) ls ks r s left other why reason f.3 (subst (λ u. HaveNoFault judge (before ++ u ∷ []) ks)
      (sym same.0) g.3) same.1
      (subst (λ b. BeginsFaulty judge b r left why) (sym (append_assoc before (l ∷ []) ls)) here)
      (subst (λ b. BeginsFaulty judge b s other reason) (sym (append_assoc before (k ∷ []) ks) ∙ ap (λ u. (before ++ u ∷ []) ++ ks) (sym same.0)) there) in
      ((λ i. same.0 i ∷ rest.0 i), rest.1)

  -- lines have one each
  pub count_lines : (before lines : List Words) → HaveNoFault judge before lines → count_by (λ b. b == LINE_FEED) (flat_map line lines) ≡ length lines
  count_lines before [] f = refl
  count_lines before (w ∷ lines) f = omega (
    arith,
    sum_by-append (λ b. cond (b == LINE_FEED) 1 0) (line w) (flat_map line lines),
    count_line w f.0,
    count_lines (before ++ w ∷ []) lines f.3,
  )

module _ {judge : Judge} {before : List Words} {left after : List ℕ} {why : Fault} where
  -- lines that were read before the fault
  pub behind_more : (done : List Words) {start : List ℕ} → HaveNoFault judge before done → start ≡ flat_map line done ++ left
      → IsFaultBehind judge (before ++ done) left after why → IsFaultBehind judge before start after why
  behind_more done f e h = record {
    more = done ++ h.more;
    rest = h.rest;
    faultless = faultless_append judge before done h.more f h.faultless;
    text_is = e ∙ simp (h.text_is, joined);
    here = subst (λ b. BeginsFaulty judge b h.rest after why) (append_assoc before done h.more) h.here;
  }

  -- no whole line is left
  pub behind_end : {end : Fault} → end ≡ why → (end ≡ fault.End) × IsFreeOf LINE_FEED left × (after ≡ left) → IsFaultBehind judge before left after why
  behind_end same h = record { more = []; rest = left; faultless = tt; text_is = refl; here = inr (h.1, h.2, sym same ∙ h.0) }

  -- a line with a fault is left
  pub behind_line : {words : Words} → AreWords words → left ≡ line words ++ after → judge before words ≡ Some why → IsFaultBehind judge before left after why
  behind_line {words} are is faulty = record {
    more = [];
    rest = left;
    faultless = tt;
    text_is = refl;
    here = inl (words, are, is, ap (λ b. judge b words) (append-nil before) ∙ faulty);
  }
