use Rattle.books_report.proofs.Checks.Cuts.{cut_is, can_cut}
use Rattle.books_report.proofs.check.second_and_fourth_word.Goals as goal

pub returns-in_err-text : goal.returns-in_err-text
returns-in_err-text c = λ a b third d rest e fa fb fc fd. absurd (can_cut a _ c.in_err-text.ensures.none e)

pub returns-in_err-second : goal.returns-in_err-second
returns-in_err-second c = λ a b third d rest e fa fb fc fd.
    let one = cut_is a _ c.in_ok-text.ensures.found e fa in
    absurd (can_cut b _ c.in_err-second.ensures.none one.1)

pub returns-in_err-text-2 : goal.returns-in_err-text-2
returns-in_err-text-2 c = λ a b third d rest e fa fb fc fd.
    let one = cut_is a _ c.in_ok-text.ensures.found e fa in
    let two = cut_is b _ c.in_ok-second.ensures.found one.1 fb in
    absurd (can_cut third _ c.in_err-text-2.ensures.none two.1)

pub returns-in_err-fourth : goal.returns-in_err-fourth
returns-in_err-fourth c = λ a b third d rest e fa fb fc fd.
    let one = cut_is a _ c.in_ok-text.ensures.found e fa in
    let two = cut_is b _ c.in_ok-second.ensures.found one.1 fb in
    let three = cut_is third _ c.in_ok-text-2.ensures.found two.1 fc in
    absurd (can_cut d _ c.in_err-fourth.ensures.none three.1)

pub returns : goal.returns
returns c = λ a b third d rest e fa fb fc fd.
    let one = cut_is a _ c.in_ok-text.ensures.found e fa in
    let two = cut_is b _ c.in_ok-second.ensures.found one.1 fb in
    let three = cut_is third _ c.in_ok-text-2.ensures.found two.1 fc in
    let four = cut_is d _ c.in_ok-fourth.ensures.found three.1 fd in
    (two.0, four.0)
