-- The text of identifiers and of headers, one piece after another.
use Rattle.record_text.proofs.Common.{◌≡◌, ◌++◌, [], ◌∷◌, ℕ, List, codes, sym, ap, ◌∙◌, flat_map, SPACE, number, StoreInput, ids_word}
use Rattle.script_reader.specs.declared.text.words.TheConstants.{LINE_FEED}
use Rattle.books_report.proofs.Outputs.Journals.{join-map, two_pieces}
use Rattle.record_text.specs.declared.words.TheConstants.{COMMA}
use Rattle.record_text.specs.Output.{record_header_line}

-- a comma and an identifier
abbrev pub joined_id : ℕ → List ℕ
joined_id id = COMMA ∷ number id

-- the first identifier and then the others are their word
pub ids_joined : (text before now : List ℕ) (id : ℕ) (ids : List ℕ) → before ≡ text ++ number id → now ≡ before ++ flat_map joined_id ids
    → now ≡ text ++ ids_word (id ∷ ids)
ids_joined text before now id ids first rest =
    two_pieces text (number id) (flat_map joined_id ids) before now first rest
    ∙ ap (λ xs. text ++ xs) (sym (join-map COMMA number (number id) ids))

-- the words in front, the blocks behind their name, and the line feed are the header
pub header_of : (text titled sized now : List ℕ) (input : StoreInput) → titled ≡ text ++ codes "records 1"
    → sized ≡ titled ++ SPACE ∷ (codes "blocks" ++ SPACE ∷ number input.blocks) → now ≡ sized ++ LINE_FEED ∷ [] → now ≡ text ++ record_header_line input
header_of text titled sized now input title size feed =
    two_pieces text (codes "records 1" ++ SPACE ∷ (codes "blocks" ++ SPACE ∷ number input.blocks)) (LINE_FEED ∷ []) sized now
    (two_pieces text (codes "records 1") (SPACE ∷ (codes "blocks" ++ SPACE ∷ number input.blocks)) titled sized title size) feed
