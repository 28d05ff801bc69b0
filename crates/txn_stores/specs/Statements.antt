-- What the laws of stores say.
use Rattle.std.specs.Prelude.{◌≡◌, List, length}
use Rattle.txn_commit.specs.declared.lists.Done.{Done}
use Rattle.txn_commit.specs.Lists.{jobs_of_first, AreOnceInOrder}
use Rattle.script_reader.specs.Gathered.{CallerOf, count_scripts}
use Rattle.script_reader.specs.Journal.{IsJournalOf}
use Rattle.txn_stores.specs.Journals.{places_of_done, script_count}

-- jobs of which each caller's were run once and in their order are a journal of the callers' scripts
abbrev pub JobsAreJournal : Type 0 → Type 0 → Type 0
JobsAreJournal S A = (callers : List (CallerOf S)) (jobs : List (Done A))
    → AreOnceInOrder (length callers) (script_count callers) jobs → IsJournalOf callers (places_of_done jobs)

-- all callers have as many jobs as scripts
abbrev pub JobsCounted : Type 0 → Type 0
JobsCounted S = (callers : List (CallerOf S)) → jobs_of_first (script_count callers) (length callers) ≡ count_scripts callers
