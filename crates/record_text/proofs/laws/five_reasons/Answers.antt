use Rattle.record_text.proofs.Common.{record_language}
use Rattle.books_report.proofs.AnyStore.Reasons.{reason_is}
use Rattle.record_text.proofs.laws.five_reasons.Goals as goal

pub returns : goal.returns
returns c text number why h = reason_is record_language text number why h
