-- A day of a store, from jobs that were run in order, and what is printed of it.
use Rattle.txn_stores.proofs.Common.{◌≡◌, ℕ, ◌<◌, ◌≤◌, Bool, List, [], ◌∷◌, All, map, length, take, refl, sym, ap, ◌∙◌, subst, arith, All-map, Done}
use Rattle.txn_stores.proofs.Common.{AreOnceInOrder, Place, IsJournalOf, IsPlaceOf, StoreReply, Step, run_from, RanOf, state_left, text_of, IsDay, line_of_done}
use Rattle.txn_stores.proofs.Common.{place_of_done, script_count, is_done, ScriptMeans}
use Rattle.books_report.proofs.Common.{script_at, place_of_line, ran_of_line, scripts_of, places_run}
use Rattle.txn_commit.proofs.Common.{replay, HaveRecords, IsRunInOrder}
use Rattle.word_table.proofs.Common.{ClosedView}
use Rattle.std.specs.List.{zip}
use Rattle.std.proofs.Math.ListN.{get_or-map}
use Rattle.std.proofs.lemmas.List.{length-map}
use mathlib.Core.List.{map-map}
use Rattle.txn_commit.proofs.Orders.Interpreters.{answers_down, state_down, IsInterpreterStep}
use Rattle.txn_commit.proofs.Orders.Stores.{all_answers, at_the_end, runs_to}
use Rattle.books_report.specs.declared.line.Line.{Line}
use Rattle.books_report.specs.Stores.Output.{outcome_at, replies_of, state_after, AreRun, IsOutputOf, StoreOf}
use Rattle.txn_stores.specs.Journals.{places_of_done, scripts_done}
use Rattle.txn_stores.proofs.Journals.{jobs_are_journal}
use Rattle.txn_stores.proofs.Scripted.{run_stays}

-- what holds of images
pub all_of : {X Y : Type 0} (P : Y → Type 0) (f : X → Y) (xs : List X) → All P (map f xs) → All (λ x. P (f x)) xs
all_of P f xs all k d lt = subst P (get_or-map f xs k d) (all k (f d) (omega (arith, lt, length-map xs f)))

-- two images of each item, side by side
side_by_side : {X Y Z W : Type 0} (join : Y → Z → W) (f : X → Y) (g : X → Z) (xs : List X)
    → map (λ pair. join pair.0 pair.1) (zip (map f xs) (map g xs)) ≡ map (λ x. join (f x) (g x)) xs
side_by_side join f g [] = refl
side_by_side join f g (x ∷ xs) = ap (λ l. join (f x) (g x) ∷ l) (side_by_side join f g xs)

module _ {O V X S : Type 0} (store : StoreOf O V X) (stands : S → List ℕ → X → Type 0) where
  -- what a script of the input means on words of this shape
  abbrev pub means_on : (S → O → X → Step V X) → S → ℕ → ℕ → List ℕ → Bool → StoreReply V → List ℕ → Type 0
  means_on step shape c i = ScriptMeans (stands shape) (step shape) (script_at store.callers c i)

  -- the interpreter's reply at a place, and what it leaves
  abbrev reply_at : ℕ → ℕ → X → StoreReply V
  reply_at c i x = (outcome_at store x (record { caller = c; index = i })).0

  abbrev left_at : ℕ → ℕ → X → X
  left_at c i x = (outcome_at store x (record { caller = c; index = i })).1

  -- a script's meaning is one step of it
  is_step : (step : S → O → X → Step V X) (shape : S) → store.step ≡ step shape → IsInterpreterStep (means_on step shape) (stands shape) reply_at left_at
  is_step step shape same = subst
      (λ f. IsInterpreterStep (λ c i. ScriptMeans (stands shape) f (script_at store.callers c i)) (stands shape) reply_at left_at) same
      (record {
        replies = λ c i s t kept answer x m stand. m.replies x stand;
        keeps = λ c i s t kept answer x m stand is. m.leaves is x stand;
        reverts = λ c i s t kept answer x m stand is.
            run_stays x (run_from store.step 1 (script_at store.callers c i) x) (sym (ap is_done (m.replies x stand)) ∙ sym m.kept_where_done ∙ is);
      })

  -- replies and states down jobs are those down their places
  replies_down : (done : List (Done (StoreReply V))) (x : X) → answers_down reply_at left_at done x ≡ replies_of store x (places_of_done done)
  unfolding answers_down
  replies_down [] x = refl
  replies_down (item ∷ items) x = ap (λ l. reply_at item.caller item.index x ∷ l) (replies_down items (left_at item.caller item.index x))

  state_down_places : (done : List (Done (StoreReply V))) (x : X) → state_down left_at done x ≡ state_after store x (places_of_done done)
  unfolding state_down
  state_down_places [] x = refl
  state_down_places (item ∷ items) x = state_down_places items (left_at item.caller item.index x)

  -- what jobs came to that so many workers ran in one order over a table of this shape: as `run_in_order` tells it
  pub record CameTo (good : List ℕ → Type 0) (step : S → O → X → Step V X) (shape : S) (workers : ℕ) (closed : ClosedView S)
      (done : List (Done (StoreReply V))) : Type 0 where
    pub shape_is : closed.shape ≡ shape
    pub seats_are : closed.seats ≡ workers
    pub in_order : IsRunInOrder good (means_on step shape) closed done
    pub once : AreOnceInOrder (length store.callers) (script_count store.callers) done
    pub entries : HaveRecords closed.records done
    pub below : All (λ (ran : Done (StoreReply V)). ran.restarts < workers) done

  module _ (good : List ℕ → Type 0) (step : S → O → X → Step V X) (shape : S) (same : store.step ≡ step shape) (workers : ℕ)
      (closed : ClosedView S) (done : List (Done (StoreReply V))) (came : CameTo good step shape workers closed done)
      (opening : stands shape closed.base store.begins) where
    stood_to : (k : ℕ) → k ≤ length done
        → stands closed.shape (replay closed.base (take k came.in_order.entries)) (state_after store store.begins (places_of_done (take k done)))
    stood_to k le =
        subst (λ s. stands s (replay closed.base (take k came.in_order.entries)) (state_after store store.begins (places_of_done (take k done))))
        (sym came.shape_is)
        (subst (λ x. stands shape (replay closed.base (take k came.in_order.entries)) x) (state_down_places (take k done) store.begins)
        (runs_to good (means_on step shape) closed done came.in_order (stands shape) reply_at left_at (is_step step shape same) store.begins opening
        k le).state)

    pub day_made : IsDay store stands closed done
    day_made = record {
      rebuilt = came.in_order.rebuilt;
      entries = came.in_order.entries;
      as_many = came.in_order.as_many;
      of_items = came.in_order.of_items;
      of_records = came.in_order.of_records;
      apart = came.entries.apart;
      legal = came.in_order.legal;
      words = came.in_order.words;
      journal = jobs_are_journal store.callers done came.once;
      below = subst (λ n. All (λ item. item.restarts < n) done) (sym came.seats_are) came.below;
      replies = all_answers good (means_on step shape) closed done came.in_order (stands shape) reply_at left_at (is_step step shape same)
          store.begins opening ∙ replies_down done store.begins;
      stood = stood_to;
      left = subst (λ s. stands s closed.words (state_after store store.begins (places_of_done done))) (sym came.shape_is)
          (subst (λ x. stands shape closed.words x) (state_down_places done store.begins)
          (at_the_end good (means_on step shape) closed done came.in_order (stands shape) reply_at left_at (is_step step shape same)
          store.begins opening));
    }

  -- what is printed of a day
  module _ (closed : ClosedView S) (done : List (Done (StoreReply V))) (day : IsDay store stands closed done) where
    places_printed : places_run (scripts_done done) ≡ places_of_done done
    places_printed = map-map (λ (ran : RanOf (StoreReply V)). ran.place) _ done

    are_run : AreRun store closed.seats (scripts_done done)
    are_run = record {
      journal = subst (λ l. IsJournalOf store.callers l) (sym places_printed) day.journal;
      below = All-map (λ (ran : RanOf (StoreReply V)). ran.restarts < closed.seats) _ done day.below;
      replies = map-map (λ (ran : RanOf (StoreReply V)). ran.reply) _ done ∙ day.replies ∙ ap (replies_of store store.begins) (sym places_printed);
    }

    pub output_is : (text : List ℕ) → text ≡ text_of store (scripts_done done) (store.closing (state_left store (scripts_done done)))
        → IsOutputOf store closed.seats text
    output_is text is = record { scripts = scripts_done done; run = are_run; text_is = is }

    module _ (lines : List Line) (replies : List (StoreReply V)) (lines_are : lines ≡ map line_of_done done)
        (replies_are : replies ≡ map (λ (item : Done (StoreReply V)). item.reply) done) where
      pub places_fit : All (λ l. IsPlaceOf store.callers (place_of_line l)) lines
      places_fit = subst (λ (l : List Line). All (λ (x : Line). IsPlaceOf store.callers (place_of_line x)) l) (sym lines_are)
          (All-map (λ l. IsPlaceOf store.callers (place_of_line l)) line_of_done done
          (all_of (IsPlaceOf store.callers) place_of_done done day.journal.only))

      pub scripts_are : scripts_of lines replies ≡ scripts_done done
      scripts_are = ap (λ (l : List Line). scripts_of l replies) lines_are
          ∙ ap (λ (r : List (StoreReply V)). scripts_of (map line_of_done done) r) replies_are
          ∙ side_by_side ran_of_line line_of_done (λ (item : Done (StoreReply V)). item.reply) done

      pub left_printed : (words : List ℕ) (shape : S) → closed.shape ≡ shape → words ≡ closed.words
          → stands shape words (state_left store (scripts_of lines replies))
      left_printed words shape shape_is words_are =
          subst (λ (l : List (RanOf (StoreReply V))). stands shape words (state_left store l)) (sym scripts_are)
          (subst (λ (l : List Place). stands shape words (state_after store store.begins l)) (sym places_printed)
          (subst (λ (s : S). stands s words (state_after store store.begins (places_of_done done))) shape_is
          (subst (λ (w : List ℕ). stands closed.shape w (state_after store store.begins (places_of_done done))) (sym words_are) day.left)))
