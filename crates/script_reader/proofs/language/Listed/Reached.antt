-- Lines without fault are those of a text, as far as they go, so bytes are a text or have a first fault.
use Rattle.script_reader.proofs.Common.{◌≡◌, ◌⊎◌, inl, inr, ℕ, ◌<◌, ◌≤◌, Bool, true, false, List, [], ◌∷◌, ◌++◌, codes, map, drop, length, Some, None, All}
use Rattle.script_reader.proofs.Common.{cond, refl, sym, ap, subst, ◌∙◌, append_assoc, length-append, true≢false, arith, AllByRecursion, flat_map, is_none}
use Rattle.script_reader.proofs.Common.{bytes_eq, leb-false, append-nil, All-push, bytes_eq-Decides, MOST_OPERATIONS, MOST_CALLERS, MOST_SCRIPTS, word_at, line}
use Rattle.script_reader.proofs.Common.{number, finish_line, IsName, Words, Form, form_of, has_form, is_only, ranges_of, value_of, are_in_range, SubmissionOf}
use Rattle.script_reader.proofs.Common.{AreCallers, count_scripts, HaveNoFault, ListLanguage, Size, AreNumbersIn, AreSizes, IsListLanguage, IsOperationIn}
use Rattle.script_reader.proofs.Common.{IsScriptIn, IsText, IsTextOf, operation_fault, operation_words, lines_of, head_words, head_fault, size_pairs}
use Rattle.script_reader.proofs.Common.{have_names, seconds, size_words, size_ranges, judge, is_caller, lines_within}
use Rattle.script_reader.specs.Gathered.{callers_of}
use Rattle.script_reader.specs.ListLanguage.{IsFormOfOperations}
use Rattle.script_reader.specs.Statements.{HasFaultIn}
use Rattle.script_reader.proofs.Joined.{joined}
use Rattle.script_reader.proofs.Conditions.{both, passed}
use Rattle.script_reader.proofs.Judging.{some_none}
use Rattle.script_reader.proofs.LineFaults.LineKinds.{behind_keyword, none_applies, only_word}
use Rattle.script_reader.proofs.language.Listed.Numbers.{numbers_at}
use Rattle.script_reader.proofs.language.Grouped.Grouping.{callers_of-push, no-names}
use Rattle.script_reader.proofs.language.Listed.Standing.{outside_is, within_is, within_more, operation_goes_on}
use Rattle.script_reader.proofs.language.Grouped.Outside.{begins_script}
use Rattle.script_reader.proofs.language.Grouped.Submitting.{callers_more}
use Rattle.script_reader.proofs.language.Listed.Telling.{not_both}
use Rattle.script_reader.specs.declared.fault.Fault.TheVariants as fault
use Rattle.script_reader.proofs.Judged as judged

-- the words of a header that are pairs of names and numbers
pairs_at : (sizes : List Size) (ws : Words) (ns : List ℕ) → have_names sizes ws ≡ true → seconds ws ≡ map number ns
    → (ws ≡ size_pairs sizes ns) × (length (seconds ws) ≡ length (map (λ s. s.range) sizes))
pairs_at [] [] [] h e = (refl, refl)
pairs_at [] [] (n ∷ ns) h e = cc
pairs_at [] (w ∷ ws) ns h e = absurd (true≢false (sym h))
pairs_at (s ∷ sizes) [] ns h e = absurd (true≢false (sym h))
pairs_at (s ∷ sizes) (name ∷ []) ns h e = absurd (true≢false (sym h))
pairs_at (s ∷ sizes) (name ∷ w ∷ ws) [] h e = cc
pairs_at (s ∷ sizes) (name ∷ w ∷ ws) (n ∷ ns) h e =
    let parts = both h in
    let at : w ≡ number n = cc in
    let rest = pairs_at sizes ws ns parts.1 (ap (drop 1) e) in
    ((λ i. (bytes_eq-Decides name s.name).0 parts.0 i ∷ at i ∷ rest.0 i), omega (arith, rest.1))

names_many : (sizes : List Size) (ws : Words) → have_names sizes ws ≡ true → length (seconds ws) ≡ length (map (λ s. s.range) sizes)
names_many [] [] h = refl
names_many [] (w ∷ ws) h = absurd (true≢false (sym h))
names_many (s ∷ sizes) [] h = absurd (true≢false (sym h))
names_many (s ∷ sizes) (name ∷ []) h = absurd (true≢false (sym h))
names_many (s ∷ sizes) (name ∷ w ∷ ws) h = omega (arith, names_many sizes ws (both h).1)

-- the form of a line is one of the forms, and the line has it
form_found : (P : Form → Type 0) (forms : List Form) (words : Words) → AllByRecursion P forms → is_none (form_of forms words) ≡ false
    → (kind : Form) × (form_of forms words ≡ Some kind) × P kind × (has_form words kind ≡ true)
form_found P [] words all h = absurd (true≢false h)
form_found P (f ∷ forms) words all h = by (has_form words f) refl h (form_found P forms words all.1)
  where
    by : (b : Bool) → has_form words f ≡ b → is_none (cond b (Some f) (form_of forms words)) ≡ false
        → (is_none (form_of forms words) ≡ false → (kind : Form) × (form_of forms words ≡ Some kind) × P kind × (has_form words kind ≡ true))
        → (kind : Form) × (cond (has_form words f) (Some f) (form_of forms words) ≡ Some kind) × P kind × (has_form words kind ≡ true)
    by true e g rest = (f, ap (λ b. cond b (Some f) (form_of forms words)) e, all.0, e)
    by false e g rest =
        let found = rest g in (found.0, ap (λ b. cond b (Some f) (form_of forms words)) e ∙ found.1, found.2, found.3)

module _ {O S : Type 0} (g : ListLanguage O S) where
  -- scripts of a text with these sizes, which have ended
  pub record Between (lines : List Words) : Type 0 where
    pub sizes : List ℕ
    pub subs : List (SubmissionOf S)
    pub sized : AreSizes g sizes
    pub valid : AreCallers (IsScriptIn g sizes) (callers_of subs)
    pub lines_are : lines ≡ lines_of g sizes subs

  -- and one that has not ended, for which there is room
  pub record Inside (lines : List Words) : Type 0 where
    pub sizes : List ℕ
    pub subs : List (SubmissionOf S)
    pub name : List ℕ
    pub ops : List O
    pub sized : AreSizes g sizes
    pub valid : AreCallers (IsScriptIn g sizes) (callers_of subs)
    pub named : IsName name
    pub few : length ops ≤ MOST_OPERATIONS
    pub each : All (IsOperationIn g sizes) ops
    pub room : count_scripts (callers_of subs) < MOST_SCRIPTS
    pub space : is_caller name (callers_of subs) ≡ false → length (callers_of subs) < MOST_CALLERS
    pub lines_are : lines ≡ lines_within g sizes subs name ops

-- how far lines without fault go
data IsReached {O S : Type 0} (g : ListLanguage O S) (lines : List Words) : Type 0 where
  AtStart : lines ≡ [] → IsReached g lines
  AtHeader : (sizes : List ℕ) → AreSizes g sizes → lines ≡ head_words g sizes ∷ [] → IsReached g lines
  Outside : Between g lines → IsReached g lines
  WithinScript : Inside g lines → IsReached g lines

module _ {O S : Type 0} {g : ListLanguage O S} (lawful : IsListLanguage g) where
  -- a header
  header_step : {words : Words} → head_fault g words ≡ None → IsReached g (words ∷ [])
  header_step {words} none =
      let n1 = none_applies _ fault.Header _ none in
      let n2 = none_applies _ fault.Number _ n1.1 in
      let n3 = none_applies _ fault.Limit _ n2.1 in
      let head = both (passed n1.0) in
      let front = both head.0 in
      let ns : List ℕ = map value_of (size_words words) in
      let numbers = numbers_at (size_ranges g) (size_words words) (names_many g.sizes (drop 2 words) head.1) lawful.size_bits (passed n2.0) (passed n3.0) in
      let pairs = pairs_at g.sizes (drop 2 words) ns head.1 numbers.1 in
      AtHeader ns numbers.0 (ap (λ w. w ∷ []) (front_words words front.0 front.1
      ∙ (λ i. g.title ∷ codes "1" ∷ pairs.0 i)))
    where
      front_words : (words : Words) → bytes_eq (word_at words 0) g.title ≡ true → bytes_eq (word_at words 1) (codes "1") ≡ true
          → words ≡ g.title ∷ codes "1" ∷ drop 2 words
      front_words [] a b = absurd (true≢false (sym b))
      front_words (t ∷ []) a b = absurd (true≢false (sym b))
      front_words (t ∷ v ∷ words) a b = λ i. (bytes_eq-Decides t g.title).0 a i ∷ (bytes_eq-Decides v (codes "1")).0 b i ∷ words

  -- no callers
  no_callers : (sizes : List ℕ) → AreCallers (IsScriptIn g sizes) (callers_of [])
  no_callers sizes = record {
    few = omega arith;
    few_scripts = omega arith;
    names = λ k d less. absurd (omega arith);
    names_differ = no-names;
    scripts = λ k d less. absurd (omega arith);
    some_scripts = λ k d less. absurd (omega arith);
  }

  -- the line that begins the scripts
  scripts_step : {lines : List Words} (words : Words) (sizes : List ℕ) → AreSizes g sizes → lines ≡ head_words g sizes ∷ [] → judge g lines words ≡ None
      → IsReached g (lines ++ words ∷ [])
  scripts_step words sizes sized e none =
      let n = none_applies _ fault.Word _ (sym (ap (λ l. judge g l words) e) ∙ none) in
      Outside (record {
        sizes = sizes;
        subs = [];
        sized = sized;
        valid = no_callers sizes;
        lines_are = λ i. e i ++ only_word (codes "scripts") words (passed n.0) i ∷ [];
      })

  -- a line between scripts, which is not the last one
  outside_step : {lines : List Words} (words : Words) → (r : Between g lines) → judge g lines words ≡ None
      → is_only (codes "finish") words ≡ false → IsReached g (lines ++ words ∷ [])
  outside_step words r none more =
      let at = sym (ap (λ l. judge g l words) r.lines_are ∙ outside_is g lawful r.sizes r.subs words) ∙ none in
      let begun = begins_script (callers_of r.subs) words at more in
      WithinScript (record {
        sizes = r.sizes;
        subs = r.subs;
        name = begun.name;
        ops = [];
        sized = r.sized;
        valid = r.valid;
        named = begun.named;
        few = omega arith;
        each = λ k d less. absurd (omega arith);
        room = begun.room;
        space = begun.space;
        lines_are = λ i. r.lines_are i ++ begun.words_are i ∷ [];
      })

  -- a line with no fault behind so many operations is that of an operation, for which there is room
  operation_at : {sizes : List ℕ} → AreSizes g sizes → {count : ℕ} {words : Words} → operation_fault (g.forms sizes) count words ≡ None
      → (o : O) × IsOperationIn g sizes o × (words ≡ operation_words g o) × (count < MOST_OPERATIONS)
  operation_at {sizes} sized {count} {words} none =
      let n1 = none_applies _ fault.Word _ none in
      let n2 = none_applies _ fault.Number _ n1.1 in
      let n3 = none_applies _ fault.Limit _ n2.1 in
      let n4 = none_applies _ fault.Limit _ n3.1 in
      let found = form_found (IsFormOfOperations g) (g.forms sizes) words (lawful.every_form sizes sized) n1.0 in
      let kind : Form = found.0 in
      let behind = behind_keyword kind.keyword (length kind.ranges) words found.3 in
      let numbers = numbers_at kind.ranges (drop 1 words) behind.1 found.2.bits (passed n2.0)
      (sym (ap (λ f. are_in_range (drop 1 words) (ranges_of f)) found.1) ∙ passed n3.0) in
      let ns : List ℕ = map value_of (drop 1 words) in
      let o : O = g.operation kind.keyword ns in
      let its_numbers : g.numbers o ≡ ns = found.2.numbers ns numbers.0 in
      let is : words ≡ operation_words g o =
      behind.0 ∙ (λ i. sym (found.2.keyword ns numbers.0) i ∷ (numbers.1 ∙ ap (map number) (sym its_numbers)) i) in (
        o,
        record {
          kind = kind;
          kind_is = ap (form_of (g.forms sizes)) (sym is) ∙ found.1;
          within = subst (AreNumbersIn kind.ranges) (sym its_numbers) numbers.0;
        },
        is,
        leb-false MOST_OPERATIONS count n4.0,
      )

  -- what a line of a script is
  line_within : {sizes : List ℕ} → AreSizes g sizes → {count : ℕ} {words : Words} (last : Bool) → is_only (codes "end") words ≡ last
      → cond last None (operation_fault (g.forms sizes) count words) ≡ None
      → (words ≡ codes "end" ∷ []) ⊎ ((o : O) × IsOperationIn g sizes o × (words ≡ operation_words g o) × (count < MOST_OPERATIONS))
  line_within sized {words} true e none = inl (only_word (codes "end") words e)
  line_within sized false e none = inr (operation_at sized none)

  line_is : {lines : List Words} (words : Words) → (r : Inside g lines) → judge g lines words ≡ None
      → (words ≡ codes "end" ∷ []) ⊎ ((o : O) × IsOperationIn g r.sizes o × (words ≡ operation_words g o) × (length r.ops < MOST_OPERATIONS))
  line_is words r none =
      line_within r.sized (is_only (codes "end") words) refl
      (sym (ap (λ l. judge g l words) r.lines_are ∙ within_is g lawful r.sizes r.sized r.subs r.name r.ops words) ∙ none)

  -- the lines of a script that ends
  ended : (sizes : List ℕ) (subs : List (SubmissionOf S)) (name : List ℕ) (script : S)
      → lines_within g sizes subs name (g.operations script) ++ (codes "end" ∷ []) ∷ []
      ≡ lines_of g sizes (subs ++ record { caller = name; script = script } ∷ [])
  ended sizes subs name script = simp joined

  -- a line of a script
  within_step : {lines : List Words} (words : Words) → (r : Inside g lines) → judge g lines words ≡ None → IsReached g (lines ++ words ∷ [])
  within_step words r none = elim (line_is words r none) [
    | inl e ↦
        let made = lawful.every_script r.ops in
        let s : SubmissionOf S = record { caller = r.name; script = made.0 } in
        let script : IsScriptIn g r.sizes made.0 = record {
          few = subst (λ ops. length ops ≤ MOST_OPERATIONS) (sym made.1) r.few;
          each = subst (All (IsOperationIn g r.sizes)) (sym made.1) r.each;
        } in
        Outside (record {
          sizes = r.sizes;
          subs = r.subs ++ s ∷ [];
          sized = r.sized;
          valid = subst (AreCallers (IsScriptIn g r.sizes)) (sym (callers_of-push r.subs s))
              (callers_more (IsScriptIn g r.sizes) (callers_of r.subs) s r.valid r.named script r.room r.space);
          lines_are = (λ i. r.lines_are i ++ e i ∷ [])
              ∙ ap (λ ops. lines_within g r.sizes r.subs r.name ops ++ (codes "end" ∷ []) ∷ []) (sym made.1)
              ∙ ended r.sizes r.subs r.name made.0;
        })
    | inr o ↦ WithinScript (record {
      sizes = r.sizes;
      subs = r.subs;
      name = r.name;
      ops = r.ops ++ o.0 ∷ [];
      sized = r.sized;
      valid = r.valid;
      named = r.named;
      few = omega (arith, o.3, length-append r.ops (o.0 ∷ []));
      each = All-push (IsOperationIn g r.sizes) r.ops o.0 r.each o.1;
      room = r.room;
      space = r.space;
      lines_are = (λ i. r.lines_are i ++ o.2 i ∷ []) ∙ within_more g lawful r.sizes r.subs r.name r.ops (o.0 ∷ []);
    })
  ]

  -- one more line without fault
  reach : {lines : List Words} (words : Words) → IsReached g lines → judge g lines words ≡ None → is_only (codes "finish") words ≡ false
      → IsReached g (lines ++ words ∷ [])
  reach words (AtStart e) none more =
      subst (λ l. IsReached g (l ++ words ∷ [])) (sym e) (header_step (sym (ap (λ l. judge g l words) e) ∙ none))
  reach words (AtHeader sizes sized e) none more = scripts_step words sizes sized e none
  reach words (Outside r) none more = outside_step words r none more
  reach words (WithinScript r) none more = within_step words r none

  -- all lines without fault
  reach_all : {before : List Words} (more : List Words) → IsReached g before → HaveNoFault (judge g) before more → IsReached g (before ++ more)
  reach_all {before} [] r f = subst (IsReached g) (sym (append-nil before)) r
  reach_all {before} (w ∷ more) r f =
      subst (IsReached g) (append_assoc before (w ∷ []) more) (reach_all more (reach w r f.1 f.2) f.3)

  -- the last line stands behind scripts that have ended
  at_finish : {lines : List Words} → IsReached g lines → judge g lines (codes "finish" ∷ []) ≡ None → Between g lines
  at_finish (AtStart e) none =
      let head = both (passed (none_applies _ fault.Header _ (sym (ap (λ l. judge g l (codes "finish" ∷ [])) e) ∙ none)).0) in
      absurd (true≢false (sym (both head.0).1))
  at_finish (AtHeader sizes sized e) none = absurd (some_none (sym (ap (λ l. judge g l (codes "finish" ∷ [])) e) ∙ none) refl)
  at_finish (Outside r) none = r
  at_finish (WithinScript r) none = elim (line_is (codes "finish" ∷ []) r none) [
    | inl e ↦ absurd (true≢false (ap (is_only (codes "finish")) e))
    | inr o ↦ absurd (true≢false (ap (is_only (codes "finish")) o.2 ∙ operation_goes_on g lawful o.0))
  ]

  -- lines behind which the last line may stand are those of a text
  spells : {lines : List Words} → (r : Between g lines) → IsTextOf g (flat_map line lines ++ finish_line) r.sizes (callers_of r.subs)
  spells r = record {
    submissions = r.subs;
    text = ap (λ l. flat_map line l ++ finish_line) r.lines_are;
    callers_are = refl;
    sized = r.sized;
    valid = r.valid;
  }

  pub either : (text : List ℕ) → IsText g text ⊎ HasFaultIn g text
  either = judged.either (judge g) (IsText g) (λ lines f ends.
      let r = at_finish (reach_all lines (AtStart refl) f) ends in (r.sizes, callers_of r.subs, spells r))

  pub never_both : (text : List ℕ) → IsText g text → HasFaultIn g text → ⊥
  never_both text is (number, why, fault) = not_both g lawful text is.0 is.1 number why is.2 fault
