use Rattle.std.proofs.Common.{◌≡◌, ℕ, ◌<◌, List, [], length, sym, subst₂}
use Rattle.script_reader.specs.Gathered.{caller_at, script_at}
use Rattle.books_model.specs.declared.script.Part.{Part}
use Rattle.books_model.specs.Books.{ClearingBooks}
use Rattle.books_model.specs.Ranges.{IsScriptFor}
use Rattle.script_reader.specs.Input.{ClearingInput, IsInput}
use Rattle.collections_tests.proofs.scripts.replies.Goals as goal

-- a script of the first caller is one for the opening books
script_for : (input : ClearingInput) (index : ℕ) (books : ClearingBooks) (script : List Part) → IsInput input
    → 0 < length input.callers → index < length (caller_at input.callers 0).scripts → books ≡ input.books
    → script ≡ script_at input.callers 0 index → IsScriptFor books script
script_for input index books script valid caller within opening given =
    subst₂ (λ b s. IsScriptFor b s) (sym opening) (sym given)
    (valid.callers.scripts 0 (record { name = []; scripts = [] }) caller index [] within)

pub run_on_words-requires : goal.run_on_words-requires
run_on_words-requires c = record {
  range = script_for c.args.input.now c.args.index _ _ c.callers.ensures.valid c.requires.caller c.requires.index
      c.books.ensures c.script-script.ensures;
}

pub run_in_memory-requires : goal.run_in_memory-requires
run_in_memory-requires c = record {
  range = script_for c.args.input.now c.args.index _ _ c.callers.ensures.valid c.requires.caller c.requires.index
      c.books-2.ensures c.script-script.ensures;
}
