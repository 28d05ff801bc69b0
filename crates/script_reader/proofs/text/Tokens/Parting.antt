-- Words, cut out of their line where they end.
use Rattle.script_reader.proofs.Common.{◌≡◌, ◌+◌, ◌-◌, ◌<◌, ◌≤◌, ◌==◌, ℕ, suc, zero, Bool, true, false, cond, List, [], ◌∷◌, ◌++◌, length, take, drop, get_or}
use Rattle.script_reader.proofs.Common.{refl, sym, ap, ◌∙◌, arith, slice_split, onto_first, count_by, sum_by-cons, length-slice_split, SPACE, word_at, word_end}
use Rattle.script_reader.proofs.Common.{IsCut}

abbrev is_space : ℕ → Bool
is_space b = b == SPACE

-- a byte counts if it is a space
spaces_cons : (b : ℕ) (line : List ℕ) → count_by is_space (b ∷ line) ≡ cond (is_space b) 1 0 + count_by is_space line
spaces_cons b line = sum_by-cons (λ x. cond (is_space x) 1 0) b line

-- a byte before the first word belongs to it
onto_here : {b : ℕ} (parts : List (List ℕ)) → word_at (onto_first b parts) 0 ≡ b ∷ word_at parts 0
onto_here [] = refl
onto_here (part ∷ parts) = refl

-- and to no other
onto_later : (b : ℕ) (parts : List (List ℕ)) (k : ℕ) → word_at (onto_first b parts) (suc k) ≡ word_at parts (suc k)
onto_later b [] k = refl
onto_later b (part ∷ parts) k = refl

-- the first word goes to its end
first_word : (line : List ℕ) → word_at (slice_split is_space line) 0 ≡ take (word_end line 0) line
first_word [] = refl
first_word (b ∷ line) = by (is_space b) (first_word line)
  where
    by : (here : Bool) → word_at (slice_split is_space line) 0 ≡ take (word_end line 0) line
        → word_at (cond here ([] ∷ slice_split is_space line) (onto_first b (slice_split is_space line))) 0
        ≡ take (cond here 0 (suc (word_end line 0))) (b ∷ line)
    by true rest = refl
    by false rest = onto_here (slice_split is_space line) ∙ ap (λ word. b ∷ word) rest

-- each other goes from behind the end of the one before to its own
later_word : (line : List ℕ) (k : ℕ) → word_at (slice_split is_space line) (suc k)
    ≡ take (word_end line (suc k) - suc (word_end line k)) (drop (suc (word_end line k)) line)
later_word [] k = refl
later_word (b ∷ line) zero = by (is_space b) (later_word line 0)
  where
    by : (here : Bool) → word_at (slice_split is_space line) 1 ≡ take (word_end line 1 - suc (word_end line 0)) (drop (suc (word_end line 0)) line)
        → word_at (cond here ([] ∷ slice_split is_space line) (onto_first b (slice_split is_space line))) 1
        ≡ take (suc (word_end line (cond here 0 1)) - suc (cond here 0 (suc (word_end line 0)))) (drop (suc (cond here 0 (suc (word_end line 0)))) (b ∷ line))
    by true rest = let same : word_end line 0 ≡ suc (word_end line 0) - 1 = omega arith in first_word line ∙ ap (λ n. take n line) same
    by false rest =
        let same : word_end line 1 - suc (word_end line 0) ≡ suc (word_end line 1) - suc (suc (word_end line 0)) = omega arith in
        onto_later b (slice_split is_space line) 0 ∙ rest ∙ ap (λ n. take n (drop (suc (word_end line 0)) line)) same
later_word (b ∷ line) (suc k) = by (is_space b) (λ j. later_word line j)
  where
    by : (here : Bool) → ((j : ℕ) → word_at (slice_split is_space line) (suc j)
        ≡ take (word_end line (suc j) - suc (word_end line j)) (drop (suc (word_end line j)) line))
        → word_at (cond here ([] ∷ slice_split is_space line) (onto_first b (slice_split is_space line))) (suc (suc k))
        ≡ take (suc (word_end line (cond here (suc k) (suc (suc k)))) - suc (suc (word_end line (cond here k (suc k)))))
        (drop (suc (suc (word_end line (cond here k (suc k))))) (b ∷ line))
    by true rest =
        let same : word_end line (suc k) - suc (word_end line k) ≡ suc (word_end line (suc k)) - suc (suc (word_end line k)) = omega arith in
        rest k ∙ ap (λ n. take n (drop (suc (word_end line k)) line)) same
    by false rest =
        let same : word_end line (suc (suc k)) - suc (word_end line (suc k)) ≡ suc (word_end line (suc (suc k))) - suc
        (suc (word_end line (suc k))) = omega arith in
        onto_later b (slice_split is_space line) (suc k) ∙ rest (suc k) ∙ ap (λ n. take n (drop (suc (word_end line (suc k))) line)) same

-- no word ends behind its line
end_within : (line : List ℕ) (k : ℕ) → word_end line k ≤ length line
end_within [] k = omega arith
end_within (b ∷ line) zero = grind (arith, end_within line 0)
end_within (b ∷ line) (suc k) = omega (arith, end_within line (cond (is_space b) k (suc k)))

-- a word that has another behind it ends before that
end_rises : (line : List ℕ) (k : ℕ) → k < count_by is_space line → word_end line k < word_end line (suc k)
end_rises [] k less = absurd (omega arith)
end_rises (b ∷ line) zero less = grind (arith, end_rises line 0, spaces_cons b line)
end_rises (b ∷ line) (suc k) less = grind (arith, end_rises line k, end_rises line (suc k), spaces_cons b line)

-- a word with no space behind it ends with the line
pub last_end : (line : List ℕ) (k : ℕ) → count_by is_space line ≤ k → word_end line k ≡ length line
last_end [] k few = refl
last_end (b ∷ line) zero few = grind (arith, last_end line 0, spaces_cons b line)
last_end (b ∷ line) (suc k) few = grind (arith, last_end line k, last_end line (suc k), spaces_cons b line)

-- a word that ends with a space ends there whatever follows
pub end_kept : (line more : List ℕ) (k : ℕ) → k < count_by is_space line → word_end (line ++ more) k ≡ word_end line k
end_kept [] more k less = absurd (omega arith)
end_kept (b ∷ line) more zero less = grind (arith, end_kept line more 0, spaces_cons b line)
end_kept (b ∷ line) more (suc k) less = grind (arith, end_kept line more k, end_kept line more (suc k), spaces_cons b line)

-- and the last word ends at a space that comes next
pub end_here : (line : List ℕ) (space k : ℕ) → is_space space ≡ true → count_by is_space line ≡ k → word_end (line ++ space ∷ []) k ≡ length line
end_here [] space zero is counted = ap (λ (h : Bool). cond h 0 1) is
end_here [] space (suc k) is counted = absurd (omega (arith, counted))
end_here (b ∷ line) space zero is counted = grind (arith, end_here line space 0, spaces_cons b line)
end_here (b ∷ line) space (suc k) is counted = grind (arith, end_here line space k, end_here line space (suc k), spaces_cons b line)

-- the bytes from one place to another are a word
pub record IsPart (line : List ℕ) (words : List (List ℕ)) (start end i : ℕ) : Type 0 where
  pub rises : start ≤ end
  pub within : end ≤ length line
  pub word : take (end - start) (drop start line) ≡ word_at words i

-- a line that is cut has its first word up to the first end
pub cut_first : {line : List ℕ} {spaces : ℕ} {ends : List ℕ} → IsCut line spaces ends → {words : List (List ℕ)}
    → slice_split is_space line ≡ words → IsPart line words 0 (get_or ends 0 0) 0
cut_first {line} {ends} cut are =
    let same = cut.each 0 (omega arith) (omega arith) in
    let size : get_or ends 0 0 - 0 ≡ word_end line 0 = omega (arith, same) in
    record {
      rises = omega arith;
      within = omega (arith, same, end_within line 0);
      word = ap (λ n. take n line) size ∙ sym (first_word line) ∙ ap (λ (ws : List (List ℕ)). word_at ws 0) are;
    }

-- and each other from behind an end to the next
pub cut_later : {line : List ℕ} {spaces : ℕ} {ends : List ℕ} → IsCut line spaces ends → {words : List (List ℕ)} → slice_split is_space line ≡ words
    → (i : ℕ) → (i ≡ 0 → ⊥) → i < 8 → i < length words → IsPart line words (get_or ends (i - 1) 0 + 1) (get_or ends i 0) i
cut_later cut are zero some early there = absurd (some refl)
cut_later {line} {spaces} {ends} cut are (suc k) some early there =
    let before : suc k - 1 ≡ k = omega arith in
    let few : suc k ≤ spaces = omega (arith, there, ap length are, length-slice_split is_space line, cut.counted) in
    let from : get_or ends (suc k - 1) 0 + 1 ≡ suc (word_end line k) =
    omega (arith, ap (λ j. get_or ends j 0) before, cut.each k (omega (arith, few)) (omega (arith, early))) in
    let to = cut.each (suc k) few early in
    record {
      rises = omega (arith, from, to, end_rises line k (omega (arith, there, ap length are, length-slice_split is_space line)));
      within = omega (arith, to, end_within line (suc k));
      word = (λ t. take (to t - from t) (drop (from t) line)) ∙ sym (later_word line k) ∙ ap (λ (ws : List (List ℕ)). word_at ws (suc k)) are;
    }
