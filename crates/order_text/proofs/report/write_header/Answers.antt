use Rattle.order_text.proofs.Common.{◌++◌, ◌∷◌, codes, ap, ◌∙◌, string_bytes, SPACE, number}
use Rattle.books_report.proofs.AnyStore.Printing.{feed_pushed}
use Rattle.order_text.proofs.Printing.{header_of}
use Rattle.order_text.proofs.report.write_header.Goals as goal

pub returns : goal.returns
returns c =
    let titled = string_bytes c.push_str.new.self in
    let first = string_bytes c.write_size.new.text in
    let sized = string_bytes c.write_size-2.new.text in
    let blocks = c.in_ok-write_size.ensures ∙ ap (λ n. titled ++ SPACE ∷ (codes "blocks" ++ SPACE ∷ number n)) c.blocks-2.ensures in
    let instruments = c.in_ok-write_size-2.ensures ∙ ap (λ n. first ++ SPACE ∷ (codes "instruments" ++ SPACE ∷ number n)) c.instruments.ensures in
    feed_pushed c.push.result sized (string_bytes c.push.new.self) _ c.push.ensures.bytes (header_of (string_bytes c.args.text.now) titled first sized
    (string_bytes c.push.new.self) c.args.input.now c.in_ok-push_str.ensures.bytes blocks instruments)
