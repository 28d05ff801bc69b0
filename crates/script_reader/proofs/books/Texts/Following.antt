-- Lines that were read, and the fault behind them.
use Rattle.script_reader.proofs.Common.{◌≡◌, ℕ, ◌<◌, List, [], ◌∷◌, ◌++◌, codes, length, ap, ◌∙◌, length-append, arith, flat_map, join_with_byte, SPACE}
use Rattle.script_reader.proofs.Common.{LINE_FEED, line, end_line, Words}
use Rattle.script_reader.proofs.Joined.{joined}

-- a line is not empty
pub line_shorter : (words : Words) {before : List ℕ} (after : List ℕ) → before ≡ line words ++ after → length after < length before
line_shorter words after e = omega (arith, ap length e, length-append (line words) after, length-append (join_with_byte SPACE words) (LINE_FEED ∷ []))

-- the text that was read, with one more line
pub more_text : {start : List ℕ} (left after : List ℕ) (done : List Words) (words : Words) → start ≡ flat_map line done ++ left
    → left ≡ line words ++ after → start ≡ flat_map line (done ++ words ∷ []) ++ after
more_text left after done words e is = e ∙ simp (is, joined)

-- with one more script: the line that begins it, others, and the line that ends it
pub more_script : {start left middle : List ℕ} (after : List ℕ) (done : List Words) {words first : Words} (lines : List Words)
    → start ≡ flat_map line done ++ left
    → left ≡ line words ++ middle → words ≡ first → middle ≡ flat_map line lines ++ (end_line ++ after)
    → start ≡ flat_map line (done ++ (first ∷ (lines ++ (codes "end" ∷ []) ∷ []))) ++ after
more_script {left} {middle} after done {first} lines e f is rest = e ∙ simp (f, is, rest, joined)
