-- What a script on a limit order book replies.
use Rattle.books_report.specs.declared.stores.reply.StoreReply.{StoreReply}
use Rattle.order_text.specs.declared.reply.OrderValue.{OrderValue}

-- the values that its operations tell, or at which operation it ended, and why
abbrev pub OrderReply : Type 0
OrderReply = StoreReply OrderValue
