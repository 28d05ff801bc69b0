-- How a text is cut into lines, and a line into words.
use Rattle.script_reader.proofs.Common.{◌≡◌, ℕ, suc, zero, ◌+◌, ◌-◌, nat_lt, ◌<◌, ◌≤◌, ◌==◌, Bool, true, false, not, ◌&&◌, cond, List, [], ◌∷◌, ◌++◌, length}
use Rattle.script_reader.proofs.Common.{take, drop, get_or, Some, None, refl, sym, ap, subst, ◌∙◌, append_assoc, take-append-drop, arith, true≢false}
use Rattle.script_reader.proofs.Common.{AllByRecursion, list_all, slice_split, onto_first, join_with_byte, position, position_or_len, lt-ltb, take_rest}
use Rattle.script_reader.proofs.Common.{common_steps, All-from_recursion, recursion_from_All, length-slice_split, fails_before_first, position-Some, IsFreeOf}
use Rattle.script_reader.proofs.Common.{IsWord, AreWords, line, SPACE, LINE_FEED}
use Rattle.std.proofs.Common.{eq-eqb, eqb-true}
use Rattle.std.proofs.lemmas.Bool.{le-ltb}
use Rattle.std.proofs.Math.Seq.{drop-cons}
use Rattle.std.proofs.lemmas.List.Splits.{slice_split_none, slice_split_at, join_with_byte-slice_split}

-- a byte is not free of itself
itself : (c b : ℕ) → (b == c) ≡ false → b ≡ c → ⊥
itself c b free same = true≢false (sym (eq-eqb b c same) ∙ free)

-- what stands before the first of a byte, and what follows it, is fixed
pub cut_once : (c : ℕ) (xs ys us vs : List ℕ) → IsFreeOf c xs → IsFreeOf c us → xs ++ c ∷ ys ≡ us ++ c ∷ vs → (xs ≡ us) × (ys ≡ vs)
cut_once c [] ys [] vs f g e = (refl, cc)
cut_once c [] ys (u ∷ us) vs f g e = absurd (itself c u g.0 cc)
cut_once c (x ∷ xs) ys [] vs f g e = absurd (itself c x f.0 cc)
cut_once c (x ∷ xs) ys (u ∷ us) vs f g e =
    let rest = cut_once c xs ys us vs f.1 g.1 cc in
    let heads : x ≡ u = cc in
    (cc (heads, rest.0), rest.1)

-- a byte that stands there is found
pub not_free : (c : ℕ) (xs ys : List ℕ) → IsFreeOf c (xs ++ c ∷ ys) → ⊥
not_free c [] ys f = itself c c f.0 refl
not_free c (x ∷ xs) ys f = not_free c xs ys f.1

-- two lists without a byte are one without it
pub free-append : (c : ℕ) (xs ys : List ℕ) → IsFreeOf c xs → IsFreeOf c ys → IsFreeOf c (xs ++ ys)
free-append c [] ys f g = g
free-append c (x ∷ xs) ys f g = (f.0, free-append c xs ys f.1 g)

-- what stands before the first of a byte has none
before-free : (c : ℕ) (xs : List ℕ) (i : ℕ) → i < length xs → ((k : ℕ) → k < i → (get_or xs k 0 == c) ≡ false) → IsFreeOf c (take i xs)
before-free c [] i h f = absurd (omega arith)
before-free c (x ∷ xs) zero h f = tt
before-free c (x ∷ xs) (suc i) h f = (f 0 (omega arith), before-free c xs i (omega arith) (λ k less. f (suc k) (omega arith)))

-- a list that begins with a byte is that byte and the rest
split_first : {c : ℕ} {zs ys : List ℕ} → zs ≡ c ∷ ys → zs ≡ c ∷ take (length zs - 1) (drop 1 zs)
split_first {c} {ys} e = let P : List ℕ → Type 0 = λ us. us ≡ c ∷ take (length us - 1) (drop 1 us) in
    subst P (sym e) (ap (λ r. c ∷ r) (sym (take_rest (c ∷ ys) 1)))

-- if the search finds a byte, the text is what stands before it, the byte, and what follows
pub found_at : (c : ℕ) (xs : List ℕ) {i : ℕ} → position (λ b. b == c) xs ≡ Some i → (i < length xs)
    × IsFreeOf c (take i xs) × (xs ≡ take i xs ++ c ∷ take (length (drop i xs) - 1) (drop 1 (drop i xs)))
found_at c xs {i} e =
    let found = position-Some (λ b. b == c) xs i 0 e in
    let here : get_or xs i 0 ≡ c = eqb-true (get_or xs i 0) c found.1 in
    let back : drop i xs ≡ c ∷ drop (suc i) xs = drop-cons xs i 0 found.0 ∙ ap (λ x. x ∷ drop (suc i) xs) here in
    (found.0, before-free c xs i found.0 found.2, sym (take-append-drop i xs) ∙ ap (λ r. take i xs ++ r) (split_first back))

-- if it finds none, there is none
pub found_none : (c : ℕ) (xs : List ℕ) → position (λ b. b == c) xs ≡ None → IsFreeOf c xs
found_none c xs e =
    let past : length xs ≤ position_or_len (λ b. b == c) xs = grind (arith, common_steps) in
    recursion_from_All (λ b. (b == c) ≡ false) xs (λ k d less. fails_before_first (λ b. b == c) xs k d (omega arith))

-- the parts of a line are words
pub parts-words : (bytes : List ℕ) → IsFreeOf LINE_FEED bytes → AllByRecursion IsWord (slice_split (λ b. b == SPACE) bytes)
parts-words [] f = ((tt, tt), tt)
parts-words (x ∷ bytes) f = by (x == SPACE) refl (slice_split (λ b. b == SPACE) bytes) (parts-words bytes f.1)
  where
    by : (b : Bool) → (x == SPACE) ≡ b → (parts : List (List ℕ)) → AllByRecursion IsWord parts
        → AllByRecursion IsWord (cond b ([] ∷ parts) (onto_first x parts))
    by true e parts all = ((tt, tt), all)
    by false e [] all = (((e, tt), (f.0, tt)), tt)
    by false e (part ∷ parts) all = (((e, all.0.0), (f.0, all.0.1)), all.1)

-- a line is cut into words, which joined are the line
pub words_of_line : (bytes : List ℕ) → IsFreeOf LINE_FEED bytes → AreWords (slice_split (λ b. b == SPACE) bytes)
words_of_line bytes f = record { some = omega (arith, length-slice_split (λ b. b == SPACE) bytes); each = parts-words bytes f }

-- words that are joined are cut again as they were
pub split-join : (words : List (List ℕ)) → 0 < length words → AllByRecursion IsWord words → slice_split (λ b. b == SPACE) (join_with_byte SPACE words) ≡ words
split-join [] some each = absurd (omega arith)
split-join (w ∷ []) some each = slice_split_none (λ b. b == SPACE) w (All-from_recursion _ w each.0.0)
split-join (w ∷ v ∷ words) some each =
    slice_split_at (λ b. b == SPACE) w SPACE (join_with_byte SPACE (v ∷ words)) (All-from_recursion _ w each.0.0) refl
    ∙ ap (λ rest. w ∷ rest) (split-join (v ∷ words) (omega arith) each.1)

-- words that are joined have no line feed
pub join-free : (words : List (List ℕ)) → AllByRecursion IsWord words → IsFreeOf LINE_FEED (join_with_byte SPACE words)
join-free [] each = tt
join-free (w ∷ []) each = each.0.1
join-free (w ∷ v ∷ words) each = free-append LINE_FEED w _ each.0.1 (refl, join-free (v ∷ words) each.1)

-- the text of a line, and what follows it
pub line-append : (words : List (List ℕ)) (after : List ℕ) → line words ++ after ≡ join_with_byte SPACE words ++ LINE_FEED ∷ after
line-append words after = append_assoc (join_with_byte SPACE words) (LINE_FEED ∷ []) after

-- a text begins with one line at most
pub line_once : (ws vs : List (List ℕ)) (r s : List ℕ) → AreWords ws → AreWords vs → line ws ++ r ≡ line vs ++ s → (ws ≡ vs) × (r ≡ s)
line_once ws vs r s a b e =
    let cut = cut_once LINE_FEED (join_with_byte SPACE ws) r (join_with_byte SPACE vs) s (join-free ws a.each)
    (join-free vs b.each) (sym (line-append ws r) ∙ e ∙ line-append vs s) in
    (sym (split-join ws a.some a.each) ∙ ap (slice_split (λ b. b == SPACE)) cut.0 ∙ split-join vs b.some b.each, cut.1)

-- a text without a line feed begins with no line
pub no_line : {text : List ℕ} (vs : List (List ℕ)) (s : List ℕ) → IsFreeOf LINE_FEED text → text ≡ line vs ++ s → ⊥
no_line vs s f e = not_free LINE_FEED (join_with_byte SPACE vs) s (subst (IsFreeOf LINE_FEED) (e ∙ line-append vs s) f)

-- what a line that was taken says of its words
pub taken : (old bytes new : List ℕ) (words : List (List ℕ)) → (old ≡ bytes ++ LINE_FEED ∷ new)
    × IsFreeOf LINE_FEED bytes → words ≡ slice_split (λ b. b == SPACE) bytes → AreWords words × (old ≡ line words ++ new)
taken old bytes new words h e = (
  subst AreWords (sym e) (words_of_line bytes h.1),
  h.0 ∙ ap (λ b. b ++ LINE_FEED ∷ new) (sym (join_with_byte-slice_split SPACE bytes))
      ∙ sym (line-append (slice_split (λ b. b == SPACE) bytes) new) ∙ ap (λ w. line w ++ new) (sym e),
)

-- bytes that are no space and no line feed are a word
pub word_from_test : (word : List ℕ) → list_all (λ b. not (b == SPACE) && not (b == LINE_FEED)) word ≡ true → IsWord word
word_from_test [] h = (tt, tt)
word_from_test (b ∷ word) h = by (b == SPACE) refl (b == LINE_FEED) refl (list_all (λ b. not (b == SPACE) && not (b == LINE_FEED)) word) (word_from_test word) h
  where
    by : (p : Bool) → (b == SPACE) ≡ p → (q : Bool) → (b == LINE_FEED) ≡ q → (r : Bool) → (r ≡ true → IsWord word)
        → ((not p && not q) && r) ≡ true → IsWord (b ∷ word)
    by false e false f true rest h = let words = rest refl in ((e, words.0), (f, words.1))
    by true e q f r rest h = cc
    by false e true f r rest h = cc
    by false e false f false rest h = cc

-- where a byte stands first
first_of : (c : ℕ) (xs : List ℕ) (i : ℕ) → i < length xs → ((k : ℕ) → k < i → (get_or xs k 0 == c) ≡ false)
    → (get_or xs i 0 == c) ≡ true → position_or_len (λ b. b == c) xs ≡ i
first_of c [] i less before here = absurd (omega arith)
first_of c (x ∷ xs) zero less before here = ap (λ (b : Bool). cond (not b) (1 + position_or_len (λ b. b == c) xs) 0) here
first_of c (x ∷ xs) (suc i) less before here =
    ap (λ (b : Bool). cond (not b) (1 + position_or_len (λ b. b == c) xs) 0) (before 0 (omega arith))
    ∙ omega (arith, first_of c xs i (omega arith) (λ k lower. before (suc k) (omega arith)) here)

pub first_is_at : (c : ℕ) (xs : List ℕ) {i : ℕ} → i < length xs → ((k : ℕ) → k < i → (get_or xs k 0 == c) ≡ false)
    → (get_or xs i 0 == c) ≡ true → Some i ≡ position (λ b. b == c) xs
first_is_at c xs {i} less before here =
    let at = first_of c xs i less before here in
    sym ((λ t. cond (nat_lt (at t) (length xs)) (Some (at t)) None) ∙ ap (λ (b : Bool). cond b (Some i) None) (lt-ltb i (length xs) less))

-- or that it stands nowhere
none_of : (c : ℕ) (xs : List ℕ) → ((k : ℕ) → k < length xs → (get_or xs k 0 == c) ≡ false) → position_or_len (λ b. b == c) xs ≡ length xs
none_of c [] free = refl
none_of c (x ∷ xs) free = ap (λ (b : Bool). cond (not b) (1 + position_or_len (λ b. b == c) xs) 0)
    (free 0 (omega arith)) ∙ omega (arith, none_of c xs (λ k less. free (suc k) (omega arith)))

pub none_is_at : (c : ℕ) (xs : List ℕ) → ((k : ℕ) → k < length xs → (get_or xs k 0 == c) ≡ false) → None ≡ position (λ b. b == c) xs
none_is_at c xs free =
    let past = none_of c xs free in
    sym ((λ t. cond (nat_lt (past t) (length xs)) (Some (past t)) None)
    ∙ ap (λ (b : Bool). cond b (Some (length xs)) None) (le-ltb (length xs) (length xs) (omega arith)))
