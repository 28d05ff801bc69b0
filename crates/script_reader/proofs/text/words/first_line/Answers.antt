use Rattle.script_reader.proofs.Common.{◌≡◌, ◌≢◌, ◌<◌, ◌≤◌, ◌+◌, ◌-◌, ◌==◌, ◌||◌, ◌∷◌, ◌++◌, [], ℕ, Bool, true, false, List, length, take, drop, set, get_or}
use Rattle.script_reader.proofs.Common.{inl, inr, refl, sym, ap, ◌∙◌, arith, count_by, cases_lt, ne_eqb, take_more, take_rest, SPACE, LINE_FEED, word_end}
use Rattle.script_reader.proofs.Common.{IsCut}
use Rattle.std.proofs.Common.{eq-eqb, length-set, get_or-set_other, get_or-set_same}
use Rattle.std.proofs.lemmas.List.{length-take, drop-drop}
use Rattle.std.proofs.lemmas.List.Sums.{count_by_more_no, count_by_more_yes}
use Rattle.script_reader.proofs.Conditions.{neither}
use Rattle.script_reader.proofs.text.Tokens.Cutting.{first_is_at, none_is_at, found_at, found_none, taken}
use Rattle.script_reader.proofs.text.Tokens.Parting.{end_kept, end_here, last_end}
use Rattle.script_reader.proofs.text.words.first_line.Goals.{then-text-i-gt-SPACE-via-then-text-i-gt-SPACE}
use Rattle.script_reader.proofs.text.words.first_line.Goals.{then-text-i-gt-SPACE-via-else-text-i-gt-SPACE+then-not-ends_word}
use Rattle.script_reader.proofs.text.words.first_line.Goals as goal

-- what is known of a text up to a place in its first line
record IsCutUpTo (text : List ℕ) (i spaces : ℕ) (ends : List ℕ) : Type 0 where
  pub size : length ends ≡ 8
  pub line : (k : ℕ) → k < i → (get_or text k 0 == LINE_FEED) ≡ false
  pub counted : spaces ≡ count_by (λ b. b == SPACE) (take i text)
  pub before : (k : ℕ) → k < spaces → k < 8 → get_or ends k 0 ≡ word_end (take i text) k

-- what is known of each byte before one, and of that one
one_more : (text : List ℕ) (i : ℕ) → ((k : ℕ) → k < i → (get_or text k 0 == LINE_FEED) ≡ false) → (get_or text i 0 == LINE_FEED) ≡ false
    → (k : ℕ) → k < i + 1 → (get_or text k 0 == LINE_FEED) ≡ false
one_more text i before here k less = grind arith

-- the ends that were known stay as the line goes on
ends_stay : (text : List ℕ) {i : ℕ} (k : ℕ) → i < length text → k < count_by (λ b. b == SPACE) (take i text)
    → word_end (take i text) k ≡ word_end (take (i + 1) text) k
ends_stay text {i} k less known = sym (ap (λ l. word_end l k) (take_more text i 0 less) ∙ end_kept (take i text) (get_or text i 0 ∷ []) k known)

-- a byte of a word
in_word : (text : List ℕ) {i : ℕ} (spaces : ℕ) (ends : List ℕ) → i < length text → (get_or text i 0 == SPACE) ≡ false → (get_or text i 0 == LINE_FEED) ≡ false
    → IsCutUpTo text i spaces ends → IsCutUpTo text (i + 1) spaces ends
in_word text {i} spaces ends less space feed v = record {
  size = v.size;
  line = one_more text i v.line feed;
  counted = v.counted ∙ sym (count_by_more_no (λ b. b == SPACE) text i 0 less space);
  before = λ k lower early. v.before k lower early ∙ ends_stay text k less (omega (arith, lower, v.counted));
}

-- what is kept at other places stays
still : (ends new : List ℕ) (place end k : ℕ) → (place < 8 → new ≡ set ends place end) → (8 ≤ place → new ≡ ends) → k ≢ place → get_or new k 0 ≡ get_or ends k 0
still ends new place end k kept late other = grind (arith, get_or-set_other)

-- and at this place it is new
renewed : (ends : List ℕ) {new : List ℕ} {place end : ℕ} → length ends ≡ 8 → place < 8 → new ≡ set ends place end → get_or new place 0 ≡ end
renewed ends {place} {end} size early kept =
    let inside : place < length ends = omega arith in
    ap (λ (l : List ℕ). get_or l place 0) kept ∙ get_or-set_same ends place end 0 inside

-- as many are kept as before
same_size : (ends new : List ℕ) (place end : ℕ) → (place < 8 → new ≡ set ends place end) → (8 ≤ place → new ≡ ends) → length ends ≡ 8 → length new ≡ 8
same_size ends new place end kept late size = grind (arith, length-set)

-- a space
at_space : (text : List ℕ) {i : ℕ} (spaces : ℕ) (ends new : List ℕ) → (spaces < 8 → new ≡ set ends spaces i) → (8 ≤ spaces → new ≡ ends) → i < length text
    → (get_or text i 0 == SPACE) ≡ true → (get_or text i 0 == LINE_FEED) ≡ false → IsCutUpTo text i spaces ends → IsCutUpTo text (i + 1) (spaces + 1) new
at_space text {i} spaces ends new kept late less space feed v = record {
  size = same_size ends new spaces i kept late v.size;
  line = one_more text i v.line feed;
  counted = ap (λ n. n + 1) v.counted ∙ sym (count_by_more_yes (λ b. b == SPACE) text i 0 less space);
  before = λ k lower early. elim (cases_lt k spaces) [
    | inl known ↦
        let other : k ≢ spaces = omega arith in
        still ends new spaces i k kept late other ∙ v.before k known early ∙ ends_stay text k less (omega (arith, known, v.counted))
    | inr past ↦
        let same : k ≡ spaces = omega arith in
        let first : spaces < 8 = omega arith in
        let size : length (take i text) ≡ i = omega (arith, length-take i text, less) in
        ap (λ j. get_or new j 0) same
        ∙ renewed ends v.size first (kept first)
        ∙ sym (ap (λ j. word_end (take (i + 1) text) j) same ∙ ap (λ l. word_end l spaces) (take_more text i 0 less)
        ∙ end_here (take i text) (get_or text i 0) spaces space (sym v.counted) ∙ size)
  ];
}

-- the line feed
at_end : (text : List ℕ) {i : ℕ} (spaces : ℕ) (ends new : List ℕ) → (spaces < 8 → new ≡ set ends spaces i) → (8 ≤ spaces → new ≡ ends) → i < length text
    → IsCutUpTo text i spaces ends → IsCut (take i text) spaces new
at_end text {i} spaces ends new kept late less v = record {
  counted = v.counted;
  each = λ k few early. elim (cases_lt k spaces) [
    | inl known ↦ let other : k ≢ spaces = omega arith in still ends new spaces i k kept late other ∙ v.before k known early
    | inr past ↦
        let same : k ≡ spaces = omega arith in
        let first : spaces < 8 = omega arith in
        let size : length (take i text) ≡ i = omega (arith, length-take i text, less) in
        ap (λ j. get_or new j 0) same
        ∙ renewed ends v.size first (kept first)
        ∙ sym (last_end (take i text) k (omega (arith, past, v.counted)) ∙ size)
  ];
}

-- what stands behind a place, cut in two steps or in one
behind : (text : List ℕ) (i : ℕ) → take (length (drop i text) - 1) (drop 1 (drop i text)) ≡ take (length text - (i + 1)) (drop (i + 1) text)
behind text i = take_rest (drop i text) 1 ∙ drop-drop 1 i text ∙ sym (take_rest text (i + 1))

-- a byte behind a word that is no line feed
other_end : (space : Bool) {feed : Bool} → (space || feed) ≡ true → feed ≡ false → space ≡ true
other_end true ends other = refl
other_end false ends other = cc

-- a byte above a space
above : {b : ℕ} → SPACE < b → ((b == SPACE) ≡ false) × ((b == LINE_FEED) ≡ false)
above {b} more = (ne_eqb b SPACE (omega (arith, more)), ne_eqb b LINE_FEED (omega (arith, more)))

pub loop-i-preserved-then-text-i-gt-SPACE : goal.loop-i-preserved-then-text-i-gt-SPACE
loop-i-preserved-then-text-i-gt-SPACE c =
    let v = c.loop-i.invariant in
    let byte = get_or c.args.text.now c.loop-i.i 0 in
    let apart : ((byte == SPACE) ≡ false) × ((byte == LINE_FEED) ≡ false) = elim c.then-text-i-gt-SPACE.branch [
      | then-text-i-gt-SPACE-via-then-text-i-gt-SPACE w ↦ above w.if-text-i-gt-SPACE.true
      | then-text-i-gt-SPACE-via-else-text-i-gt-SPACE+then-not-ends_word w ↦ neither (sym w.ends_word.ensures ∙ w.if-not-ends_word.true)
    ] in
    let next = in_word c.args.text.now c.loop-i.spaces c.loop-i.ends c.loop-i-test.true apart.0 apart.1
    (record { size = v.size; line = v.line; counted = v.counted; before = v.before }) in
    record { size = next.size; line = next.line; counted = next.counted; before = next.before }

pub new-requires : goal.new-requires
new-requires c =
    let v = c.loop-i.invariant in
    at_end c.args.text.now c.loop-i.spaces c.loop-i.ends c.keep.new.ends c.keep.ensures.kept
    c.keep.ensures.late c.loop-i-test.true (record { size = v.size; line = v.line; counted = v.counted; before = v.before })

pub returns-then-text-i-eq-LINE_FEED-clause-found : goal.returns-then-text-i-eq-LINE_FEED-clause-found
returns-then-text-i-eq-LINE_FEED-clause-found c =
    let text = c.args.text.now in
    let i = c.loop-i.i in
    let found = found_at LINE_FEED text
    (sym (first_is_at LINE_FEED text c.loop-i-test.true c.loop-i.invariant.line (eq-eqb (get_or text i 0) LINE_FEED c.if-text-i-eq-LINE_FEED.true))) in
    taken text (take i text) (take (length text - (i + 1)) (drop (i + 1) text)) c.new.result (
      found.2
          ∙ ap (λ rest. take i text ++ LINE_FEED ∷ rest) (behind text i),
      found.1,
    ) c.new.ensures

pub loop-i-preserved : goal.loop-i-preserved
loop-i-preserved c =
    let v = c.loop-i.invariant in
    let feed = ne_eqb (get_or c.args.text.now c.loop-i.i 0) LINE_FEED c.if-text-i-eq-LINE_FEED.false in
    let space = other_end (get_or c.args.text.now c.loop-i.i 0 == SPACE)
    (sym c.ends_word.ensures ∙ c.if-not-ends_word.false) feed in
    let next = at_space c.args.text.now c.loop-i.spaces c.loop-i.ends c.keep.new.ends c.keep.ensures.kept
    c.keep.ensures.late c.loop-i-test.true space feed (record { size = v.size; line = v.line; counted = v.counted; before = v.before }) in
    record { size = next.size; line = next.line; counted = next.counted; before = next.before }

pub returns-clause-none : goal.returns-clause-none
returns-clause-none c = found_none LINE_FEED c.args.text.now
    (sym (none_is_at LINE_FEED c.args.text.now (λ k less. c.loop-i.invariant.line k (omega (arith, less, c.loop-i-test.false)))))
