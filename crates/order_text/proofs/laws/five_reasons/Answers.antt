use Rattle.order_text.proofs.Common.{order_language}
use Rattle.books_report.proofs.AnyStore.Reasons.{reason_is}
use Rattle.order_text.proofs.laws.five_reasons.Goals as goal

pub returns : goal.returns
returns c text number why h = reason_is order_language text number why h
