-- Margin calls are taken in the order in which they were queued.
use Rattle.books_model.proofs.Common.{◌≡◌, ℕ, ◌+◌, List, [], ◌∷◌, ◌++◌, length, drop, suc, refl, sym, ap, ◌∙◌, arith, append-nil, append_assoc}
use Rattle.books_model.proofs.Common.{drop-append_seam, Op, Value, Part, operations_in, ClearingBooks, run_from, run_part, run_parts, step_of, Step, Gives}
use Rattle.books_model.proofs.Common.{Declines, FindsNoBlock, queued_by, taken_by}
use Rattle.std.specs.List.{flat_map, zip}
use Rattle.std.proofs.lemmas.Grind.{flat_map-append}
use Rattle.books_model.specs.Laws.{done_of, queued}
use Rattle.books_model.proofs.Scripts.SizeLaws.{Keeps, step_keeps}
use Rattle.books_model.proofs.Scripts.Outcomes.{WhereDone, WhereEnds, gives, declines, finds_no_block, step_first, run_first, either_holds, weaker, both}
use Rattle.books_model.specs.declared.reply.Value.TheVariants as value
use Rattle.books_model.specs.declared.script.Part.TheVariants as part

-- the margin calls that operations queue, each with its value
abbrev queued_of : List (Op × Value) → List (ℕ × ℕ)
queued_of done = flat_map (λ d. queued_by d.0 d.1) done

-- each operation of a run tells a value
pub one_value_each : (k : ℕ) (ops : List Op) (books : ClearingBooks) → WhereEnds (λ values _. length values ≡ length ops) (run_from k ops books)
one_value_each k [] books = refl
one_value_each k (o ∷ ops) books =
    step_first (λ values _. length values ≡ length (o ∷ ops)) (λ _ _. Unit {0}) k (step_of o books) (λ next. run_from (k + 1) ops next) (any (step_of o books))
    (λ v next _. (λ values _. length values ≡ length ops, one_value_each (k + 1) ops next, λ values after same. ap suc same)) where
      any : (s : Step) → WhereDone (λ _ _. Unit {0}) s
      any (Gives v after) = gives _ v after tt
      any (Declines why) = declines _ why
      any FindsNoBlock = finds_no_block _

-- each run keeps the order
run_in_order : (k : ℕ) (ops : List Op) (books : ClearingBooks)
    → WhereEnds (λ values after. books.calls ++ queued_of (zip ops values) ≡ flat_map taken_by values ++ after.calls) (run_from k ops books)
run_in_order k [] books = append-nil books.calls
run_in_order k (o ∷ ops) books =
    step_first (λ values after. books.calls ++ queued_of (zip (o ∷ ops) values) ≡ flat_map taken_by values ++ after.calls)
    (Keeps o books) k (step_of o books) (λ next. run_from (k + 1) ops next) (step_keeps o books)
    (λ v next first. (
      λ values after. next.calls ++ queued_of (zip ops values) ≡ flat_map taken_by values ++ after.calls,
      run_in_order (k + 1) ops next,
      λ values after rest.
          sym (append_assoc books.calls (queued_by o v) (queued_of (zip ops values))) ∙ ap (λ xs. xs ++ queued_of (zip ops values)) first.1
          ∙ append_assoc (taken_by v) next.calls (queued_of (zip ops values)) ∙ ap (λ xs. taken_by v ++ xs) rest
          ∙ sym (append_assoc (taken_by v) (flat_map taken_by values) after.calls),
    ))

-- a part did these operations with these values, in front of what the parts behind it do, and kept the order
record DoneInOrder (p : Part) (books : ClearingBooks) (values : List Value) (after : ClearingBooks) : Type 0 where
  done : List (Op × Value)
  first : (parts : List Part) (more : List Value) → done_of (p ∷ parts) (values ++ more) ≡ done ++ done_of parts more
  order : books.calls ++ queued_of done ≡ flat_map taken_by values ++ after.calls

-- values of operations, and behind them those of others
zip-front : (ops : List Op) (values more : List Value) → length values ≡ length ops → zip ops (values ++ more) ≡ zip ops values
zip-front [] values more same = refl
zip-front (o ∷ ops) [] more same = absurd (cc)
zip-front (o ∷ ops) (v ∷ values) more same = ap (λ pairs. (o, v) ∷ pairs) (zip-front ops values more (omega (arith, same)))

behind : (ops : List Op) (values more : List Value) → length values ≡ length ops → drop (length ops) (values ++ more) ≡ more
behind ops values more same = ap (λ n. drop n (values ++ more)) (sym same) ∙ drop-append_seam values more

one_in_order : (o : Op) (books : ClearingBooks) (values : List Value) (after : ClearingBooks) → length values ≡ 1
    → books.calls ++ queued_of (zip (o ∷ []) values) ≡ flat_map taken_by values ++ after.calls → DoneInOrder (part.One o) books values after
one_in_order o books [] after same order = absurd (cc)
one_in_order o books (v ∷ w ∷ values) after same order = absurd (omega (arith, same))
one_in_order o books (v ∷ []) after same order = record { done = (o, v) ∷ []; first = λ parts more. refl; order = order }

-- each part keeps the order
part_in_order : (k : ℕ) (p : Part) (books : ClearingBooks) → WhereEnds (λ values after. DoneInOrder p books values after) (run_part k p books)
part_in_order k (part.One o) books =
    weaker _ (λ values after. DoneInOrder (part.One o) books values after) _ (λ values after h. one_in_order o books values after h.0 h.1)
    (both _ _ _ (one_value_each k (o ∷ []) books) (run_in_order k (o ∷ []) books))
part_in_order k (part.Either first second) books =
    either_holds (λ values after. DoneInOrder (part.Either first second) books values after) _ _
    (weaker _ (λ values after. DoneInOrder (part.Either first second) books (value.First ∷ values) after) _ (λ values after h. record {
      done = zip first values;
      first = λ parts more. ap (λ front. front ++ done_of parts (drop (length first) (values ++ more))) (zip-front first values more h.0)
          ∙ ap (λ back. zip first values ++ done_of parts back) (behind first values more h.0);
      order = h.1;
    }) (both _ _ _ (one_value_each k first books) (run_in_order k first books)))
    (weaker _ (λ values after. DoneInOrder (part.Either first second) books (value.Second ∷ values) after) _ (λ values after h. record {
      done = zip second values;
      first = λ parts more. ap (λ front. front ++ done_of parts (drop (length second) (values ++ more))) (zip-front second values more h.0)
          ∙ ap (λ back. zip second values ++ done_of parts back) (behind second values more h.0);
      order = h.1;
    }) (both _ _ _ (one_value_each (k + length first) second books) (run_in_order (k + length first) second books)))

-- and so does a run of parts
pub parts_in_order : (k : ℕ) (parts : List Part) (books : ClearingBooks)
    → WhereEnds (λ values after. books.calls ++ queued parts values ≡ flat_map taken_by values ++ after.calls) (run_parts k parts books)
parts_in_order k [] books = append-nil books.calls
parts_in_order k (p ∷ parts) books =
    run_first (λ values after. books.calls ++ queued (p ∷ parts) values ≡ flat_map taken_by values ++ after.calls)
    (λ values after. DoneInOrder p books values after) (run_part k p books) (λ next. run_parts (k + length (operations_in p)) parts next)
    (part_in_order k p books)
    (λ values next here. weaker (λ more after. next.calls ++ queued parts more ≡ flat_map taken_by more ++ after.calls)
    (λ more after. books.calls ++ queued (p ∷ parts) (values ++ more) ≡ flat_map taken_by (values ++ more) ++ after.calls) _
    (λ more after rest.
    ap (λ done. books.calls ++ queued_of done) (here.first parts more)
    ∙ ap (λ calls. books.calls ++ calls) (flat_map-append (λ (d : Op × Value). queued_by d.0 d.1) here.done (done_of parts more))
    ∙ sym (append_assoc books.calls (queued_of here.done) (queued parts more)) ∙ ap (λ calls. calls ++ queued parts more) here.order
    ∙ append_assoc (flat_map taken_by values) next.calls (queued parts more) ∙ ap (λ calls. flat_map taken_by values ++ calls) rest
    ∙ sym (append_assoc (flat_map taken_by values) (flat_map taken_by more) after.calls)
    ∙ ap (λ calls. calls ++ after.calls) (sym (flat_map-append taken_by values more)))
    (parts_in_order (k + length (operations_in p)) parts next))
