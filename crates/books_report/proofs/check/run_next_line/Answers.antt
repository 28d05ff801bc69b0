use Rattle.books_report.proofs.Common.{◌≡◌, ◌≢◌, ℕ, ◌+◌, ◌++◌, List, set, length, Bor, Option, Some, None, refl, ap, ◌∙◌, arith, rules, IfSome, IfNone}
use Rattle.books_report.proofs.Common.{same_Some, none-some, IfOk-from_err, outcome_of, HasRun, BeginsWithLine, BeginsWithNone, journal_line, Ran, ran_of_line}
use Rattle.books_report.proofs.Common.{reply_words}
use Rattle.books_report.proofs.Checks.Audits.{named, begins_with_line, expected_begins}
use Rattle.books_report.proofs.check.run_next_line.Goals as goal

pub returns-in_default : goal.returns-in_default
returns-in_default c = record {
  fits = c.requires.fits;
  right = tt;
  wrong = λ scripts at run ran left m e.
      let n = named c.args.input.now scripts c.args.books.now c.args.done.now run c.args.text.now ran left m e in
      none-some _ (c.in_default.ensures.named (length scripts + 1) ran.place.caller (ran.place.index + 1) ran.restarts
      n.rest n.within n.left n.below n.text_is);
}

pub returns-in_err-reply : goal.returns-in_err-reply
returns-in_err-reply c = let failed = c.from_residual.ensures.0 in search IfOk-from_err

pub returns-in_err-write_line : goal.returns-in_err-write_line
returns-in_err-write_line c = let failed = c.from_residual-in_err-write_line.ensures.0 in search IfOk-from_err

pub returns : goal.returns
returns c = record {
  fits = search rules;
  right = right_by c.text_behind.result c.text_behind.ensures.begins;
  wrong = wrong_by c.text_behind.result c.text_behind.ensures.none;
}
  where
    right_by : (r : Option (Bor (List ℕ))) → IfSome r (λ left. c.args.text.now ≡ c.as_bytes.result.now ++ left.now)
        → IfSome r (λ left. (scripts : List Ran) → length scripts + 1 ≡ c.args.serial → HasRun c.args.input.now scripts c.args.books.now c.args.done.now
        → BeginsWithLine c.args.input.now scripts c.args.text.now left.now c.run_plain.new.books
        (set c.args.done.now c.in-Some.line.caller (c.in-Some.line.index + 1)))
    right_by (Some left) e = λ scripts at run.
        let found = c.in-Some.ensures.found in
        let ran = c.in_ok-reply.ensures in
        let line = c.in-Some.line in
        let script_is = c.script-script.ensures in
        begins_with_line c.args.input.now scripts c.args.books.now c.args.done.now run line c.in_ok-reply.reply
        c.run_plain.new.books (set c.args.done.now line.caller (line.index + 1)) c.requires.fits.even found.0 found.1
        (ran.reply ∙ ap (λ s. (outcome_of s c.args.books.now).0) script_is) (ran.books ∙ ap (λ s. (outcome_of s c.args.books.now).1) script_is) refl
        c.from.result c.args.text.now c.name-name.result.now c.as_bytes.result.now left.now (omega (arith, at, c.from.ensures)) c.name-name.ensures
        (c.as_bytes.ensures.value ∙ c.in_ok-write_line.ensures
        ∙ ap (λ l. l ++ journal_line reply_words c.from.result c.name-name.result.now
        (ran_of_line line c.in_ok-reply.reply)) c.new-expected.ensures.bytes) found.2 e
    right_by None e = tt

    wrong_by : (r : Option (Bor (List ℕ))) → IfNone r ((left : List ℕ) → c.args.text.now ≢ c.as_bytes.result.now ++ left)
        → IfNone r ((scripts : List Ran) → length scripts + 1 ≡ c.args.serial
        → HasRun c.args.input.now scripts c.args.books.now c.args.done.now → BeginsWithNone c.args.input.now scripts c.args.text.now)
    wrong_by (Some left) none = tt
    wrong_by None none = λ scripts at run ran behind m e.
        let found = c.in-Some.ensures.found in
        let done = c.in_ok-reply.ensures in
        let line = c.in-Some.line in
        let script_is = c.script-script.ensures in
        let n = named c.args.input.now scripts c.args.books.now c.args.done.now run c.args.text.now ran behind m e in
        let its = same_Some line _ (c.in-Some.ensures.named (length scripts + 1) ran.place.caller (ran.place.index + 1)
        ran.restarts n.rest n.within n.left n.below n.text_is) in
        none behind
        (expected_begins c.args.input.now scripts c.args.books.now c.args.done.now run line c.in_ok-reply.reply
        c.run_plain.new.books (set c.args.done.now line.caller (line.index + 1)) c.requires.fits.even found.0 found.1
        (done.reply ∙ ap (λ s. (outcome_of s c.args.books.now).0) script_is) (done.books ∙ ap (λ s. (outcome_of s c.args.books.now).1) script_is) refl
        c.from.result behind (omega (arith, at, c.from.ensures)) c.name-name.ensures
        (c.as_bytes.ensures.value ∙ c.in_ok-write_line.ensures
        ∙ ap (λ l. l ++ journal_line reply_words c.from.result c.name-name.result.now
        (ran_of_line line c.in_ok-reply.reply)) c.new-expected.ensures.bytes) m its e)
