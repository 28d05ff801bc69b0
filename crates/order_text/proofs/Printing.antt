-- The text of a header, one piece after another.
use Rattle.order_text.proofs.Common.{◌≡◌, ◌++◌, [], ◌∷◌, ℕ, List, codes, SPACE, number, BookInput}
use Rattle.script_reader.specs.declared.text.words.TheConstants.{LINE_FEED}
use Rattle.books_report.proofs.Outputs.Journals.{two_pieces}
use Rattle.order_text.specs.Output.{order_header_line}

-- the words in front, the sizes behind their names, and the line feed are the header
pub header_of : (text titled first sized now : List ℕ) (input : BookInput) → titled ≡ text ++ codes "orders 1"
    → first ≡ titled ++ SPACE ∷ (codes "blocks" ++ SPACE ∷ number input.blocks)
    → sized ≡ first ++ SPACE ∷ (codes "instruments" ++ SPACE ∷ number input.instruments) → now ≡ sized ++ LINE_FEED ∷ [] → now ≡ text ++ order_header_line input
header_of text titled first sized now input title blocks instruments feed =
    let front : List ℕ = codes "orders 1" ++ SPACE ∷ (codes "blocks" ++ SPACE ∷ number input.blocks) in
    let behind : List ℕ = SPACE ∷ (codes "instruments" ++ SPACE ∷ number input.instruments) in
    two_pieces text (front ++ behind) (LINE_FEED ∷ []) sized now
    (two_pieces text front behind first sized
    (two_pieces text (codes "orders 1") (SPACE ∷ (codes "blocks" ++ SPACE ∷ number input.blocks)) titled first title blocks)
    instruments) feed
