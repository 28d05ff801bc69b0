-- The output of any store: a journal of the scripts in the order in which they were run, and the state that they leave.
use Rattle.std.specs.Prelude.{◌≡◌, ℕ, ◌<◌, List, [], ◌∷◌, ◌++◌, map, All, codes}
use Rattle.script_reader.specs.Text.{number, line, finish_line}
use Rattle.script_reader.specs.Gathered.{CallerOf, script_at}
use Rattle.script_reader.specs.Journal.{IsJournalOf, Place}
use Rattle.books_report.specs.declared.stores.reply.StoreReply.{StoreReply}
use Rattle.books_report.specs.declared.stores.reply.StoreReply.TheVariants as reply
use Rattle.books_report.specs.Journals.{RanOf, journal_lines, places_run}
use Rattle.books_report.specs.Stores.Interpreter.{Step, outcome_of}

-- the store of an input: the callers with their scripts, the state that it begins with, what one operation does, the word of
-- a value, and the lines of its header and of a state that is left
pub record StoreOf (O V X : Type 0) : Type 0 where
  pub callers : List (CallerOf (List O))
  pub begins : X
  pub step : O → X → Step V X
  pub value_word : V → List ℕ
  pub header : List ℕ
  pub closing : X → List ℕ

-- the words of a reply: `done` and the values, or at which operation it ended, and why. The one reason is `absent`.
abbrev pub store_reply_words : {V : Type 0} → (V → List ℕ) → StoreReply V → List (List ℕ)
store_reply_words value_word (reply.Done values) = codes "done" ∷ map value_word values
store_reply_words value_word (reply.Declined k) = codes "declined" ∷ number k ∷ codes "absent" ∷ []
store_reply_words value_word (reply.Full k) = codes "full" ∷ number k ∷ []

module _ {O V X : Type 0} (store : StoreOf O V X) where
  -- the whole text of a journal, with these lines behind its header
  abbrev pub text_of : List (RanOf (StoreReply V)) → List ℕ → List ℕ
  text_of scripts closing =
      line (codes "journal" ∷ []) ++ journal_lines (store_reply_words store.value_word) store.callers 1 scripts
      ++ store.header ++ closing ++ finish_line

  -- what the sequential interpreter comes to for the script at a place: its reply, and the state that it leaves
  abbrev pub outcome_at : X → Place → StoreReply V × X
  outcome_at state place = outcome_of store.step (script_at store.callers place.caller place.index) state

  -- what it replies to the scripts at these places, run one after the other from this state
  abbrev pub replies_of : X → List Place → List (StoreReply V)
  replies_of state [] = []
  replies_of state (place ∷ places) = (outcome_at state place).0 ∷ replies_of (outcome_at state place).1 places

  -- the state that they leave
  abbrev pub state_after : X → List Place → X
  state_after state [] = state
  state_after state (place ∷ places) = state_after (outcome_at state place).1 places

  -- the state that scripts leave of the one that the store begins with
  abbrev pub state_left : List (RanOf (StoreReply V)) → X
  state_left scripts = state_after store.begins (places_run scripts)

  -- the scripts are those of the callers, run in some order in which each stands once and each caller's in rising index, with
  -- each number of restarts below the limit and each reply that of the interpreter, run down the order
  pub record AreRun (limit : ℕ) (scripts : List (RanOf (StoreReply V))) : Type 0 where
    pub journal : IsJournalOf store.callers (places_run scripts)
    pub below : All (λ ran. ran.restarts < limit) scripts
    pub replies : map (λ ran. ran.reply) scripts ≡ replies_of store.begins (places_run scripts)

  -- the text is an output of the store: the journal of its scripts, as they were run, and then the state that they leave
  pub record IsOutputOf (limit : ℕ) (text : List ℕ) : Type 0 where
    pub scripts : List (RanOf (StoreReply V))
    pub run : AreRun limit scripts
    pub text_is : text ≡ text_of scripts (store.closing (state_left scripts))
