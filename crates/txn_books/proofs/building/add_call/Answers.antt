use Rattle.txn_books.proofs.Common.{◌==◌, length, sym, ap, ◌∙◌, subst, put_call, ChangesWithRoom, Stands, IsGoodFor}
use Rattle.txn_books.proofs.OnBooks.Built.{built_good, led, fresh, as_many, roomy, call_room, built_of}
use Rattle.txn_books.proofs.building.add_call.Goals as goal

pub new-plain-requires : goal.new-plain-requires
new-plain-requires c = built_good c.args.shape.now c.args.words.items c.requires.books.0 c.requires.books.1

pub queue_call-requires-clause-stands : goal.queue_call-requires-clause-stands
queue_call-requires-clause-stands c =
    record { at = fresh (IsGoodFor c.args.shape.now) c.args.shape.now c.args.words.items c.new-plain.result c.new-plain.ensures.view (λ x good. good) }

pub returns-in-Ok : goal.returns-in-Ok
returns-in-Ok c =
    let shape = c.args.shape.now in
    let first = c.requires.books.0 in
    let goes = c.in-Ok.ensures.goes_on in
    let view = c.new-plain.ensures.view in
    let did = led (ChangesWithRoom (Stands shape) (λ b. length b.calls == b.ring)
    (λ b. put_call b c.args.account c.args.shortfall) c.in-Ok.field-0) shape c.args.words.items c.new-plain.result
    c.queue_call.new.w view goes.shape goes.origin goes.sound
    (c.in-Ok.ensures.queued).at in
    let long = as_many shape c.args.words.items c.new-plain.result c.queue_call.new.w view goes.origin in
    let stands = roomy shape (λ b. length b.calls == b.ring) (λ b. put_call b c.args.account c.args.shortfall)
    c.in-Ok.field-0 c.args.words.items _ did first c.requires.books.1.stands (call_room first c.requires.books.2) in
    built_of shape c.args.words.items c.into_words.result.items (λ b. put_call b c.args.account c.args.shortfall) first c.requires.books.1
    (ap length c.into_words.ensures ∙ long) (subst (λ ws. Stands shape ws (put_call first c.args.account c.args.shortfall)) (sym c.into_words.ensures) stands)
