-- What a script on records replies.
use Rattle.books_report.specs.declared.stores.reply.StoreReply.{StoreReply}
use Rattle.record_text.specs.declared.reply.RecordValue.{RecordValue}

-- the values that its operations tell, or at which operation it ended, and why
abbrev pub RecordReply : Type 0
RecordReply = StoreReply RecordValue
