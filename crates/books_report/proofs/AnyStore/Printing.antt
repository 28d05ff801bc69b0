-- The text of headers and of journal lines, one piece after another.
use Rattle.books_report.proofs.Common.{◌≡◌, ◌+◌, ◌++◌, [], ◌∷◌, ℕ, List, Result, Ok, Err, if◌then◌else◌, lit<, sym, ap, ◌∙◌, LINE_FEED, caller_at, Line}
use Rattle.books_report.proofs.Common.{StoreReply, ran_of_line, scripts_of, journal_line, journal_lines, store_reply_words}
use Rattle.script_reader.proofs.Common.{CallerOf}
use Rattle.std.proofs.Common.{OnOk, is_ok}
use Rattle.std.proofs.Math.Utf8.{encode}
use Rattle.std.proofs.lemmas.Str.{encode_ascii}
use Rattle.books_report.proofs.Outputs.Journals.{piece_written}

-- a line feed that is pushed stands there if the push was done
pub feed_pushed : {A E : Type 0} (r : Result A E) (before now : List ℕ) (P : Type 0)
    → now ≡ (if is_ok r then before ++ encode 10 else before) → (now ≡ before ++ LINE_FEED ∷ [] → P) → OnOk r P
feed_pushed (Ok x) before now P h follows = follows (h ∙ ap (λ feed. before ++ feed) (encode_ascii 10 (lit< tt)))
feed_pushed (Err e) before now P h follows = tt

-- one more line is written, and the others are left
pub line_next : {S V : Type 0} (word : V → List ℕ) (callers : List (CallerOf S)) {whole : List ℕ} (before : List ℕ) {now name : List ℕ}
    (serial : ℕ) {lines left : List Line}
    {replies others : List (StoreReply V)} {l : Line} {answer : StoreReply V}
    → before ++ journal_lines (store_reply_words word) callers serial (scripts_of lines replies) ≡ whole → lines ≡ l ∷ left → replies ≡ answer ∷ others
    → name ≡ (caller_at callers l.caller).name → now ≡ before ++ journal_line (store_reply_words word) serial name (ran_of_line l answer)
    → now ++ journal_lines (store_reply_words word) callers (serial + 1) (scripts_of left others) ≡ whole
line_next word callers before {now} serial {l} {answer} so_far next answered named written =
    piece_written before now (journal_line (store_reply_words word) serial (caller_at callers l.caller).name (ran_of_line l answer)) _
    (sym (λ i. before ++ journal_lines (store_reply_words word) callers serial (scripts_of (next i) (answered i))) ∙ so_far)
    (written ∙ ap (λ n. before ++ journal_line (store_reply_words word) serial n (ran_of_line l answer)) named)
