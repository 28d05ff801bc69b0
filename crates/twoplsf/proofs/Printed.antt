-- Lines of a journal that are written in two pieces.
use Rattle.twoplsf.proofs.Common.{◌≡◌, ℕ, ◌+◌, List, [], ◌∷◌, ◌++◌, map, length, sym, ap, ◌∙◌, append_assoc, arith, Reply, ClearingInput, Line, scripts_of}
use Rattle.twoplsf.proofs.Common.{line_of_done, journal_lines, Done, ran_of_item, reply_words}
use Rattle.script_reader.proofs.Common.{caller_at}
use Rattle.books_report.proofs.Common.{journal_line}
use Rattle.books_report.proofs.Outputs.Journals.{two_pieces}
use Rattle.twoplsf.proofs.Days.{beside}

-- lines behind others begin with the number behind theirs
lines_behind : (input : ClearingInput) (first : ℕ) (xs ys : List Done)
    → journal_lines reply_words input.callers first (map ran_of_item (xs ++ ys))
    ≡ journal_lines reply_words input.callers first (map ran_of_item xs) ++ journal_lines reply_words input.callers (first + length xs) (map ran_of_item ys)
lines_behind input first [] ys = let same : first ≡ first + 0 = omega arith in ap (λ n. journal_lines reply_words input.callers n (map ran_of_item ys)) same
lines_behind input first (x ∷ xs) ys =
    let line = journal_line reply_words first (caller_at input.callers x.caller).name (ran_of_item x) in
    let same : first + 1 + length xs ≡ first + length (x ∷ xs) = omega arith in
    ap (λ text. line ++ text) (lines_behind input (first + 1) xs ys)
    ∙ (ap (λ n. line ++ (journal_lines reply_words input.callers (first + 1) (map ran_of_item xs)
    ++ journal_lines reply_words input.callers n (map ran_of_item ys))) same
    ∙ sym (append_assoc line (journal_lines reply_words input.callers (first + 1) (map ran_of_item xs))
    (journal_lines reply_words input.callers (first + length (x ∷ xs)) (map ran_of_item ys))))

-- what is written of lines and replies is written of their items
pub items_written : (input : ClearingInput) (first : ℕ) (done : List Done) (text whole : List ℕ) (lines : List Line) (replies : List Reply)
    → lines ≡ map line_of_done done → replies ≡ map (λ (item : Done). item.reply) done
    → whole ≡ text ++ journal_lines reply_words input.callers first (scripts_of lines replies)
    → whole ≡ text ++ journal_lines reply_words input.callers first (map ran_of_item done)
items_written input first done text whole lines replies lines_are replies_are written =
    written ∙ ap (λ scripts. text ++ journal_lines reply_words input.callers first scripts) ((λ i. scripts_of (lines_are i) (replies_are i)) ∙ beside done)

-- two pieces, one behind the other, are the lines of all
pub pieces_joined : (input : ClearingInput) (first second : ℕ) (done xs ys : List Done) (text front back whole : List ℕ)
    → done ≡ xs ++ ys → second ≡ first + length xs → front ≡ text ++ journal_lines reply_words input.callers first (map ran_of_item xs)
    → back ≡ journal_lines reply_words input.callers second (map ran_of_item ys) → whole ≡ front ++ back
    → whole ≡ text ++ journal_lines reply_words input.callers first (map ran_of_item done)
pieces_joined input first second done xs ys text front back whole split next f b joined =
    two_pieces text (journal_lines reply_words input.callers first (map ran_of_item xs))
    (journal_lines reply_words input.callers (first + length xs) (map ran_of_item ys)) front whole f
    (joined ∙ (ap (λ t. front ++ t) b ∙ ap (λ n. front ++ journal_lines reply_words input.callers n (map ran_of_item ys)) next))
    ∙ ap (λ t. text ++ t) (sym (ap (λ items. journal_lines reply_words input.callers first (map ran_of_item items)) split ∙ lines_behind input first xs ys))
