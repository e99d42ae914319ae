use Rattle.rx_explain.proofs.Laws.{answer_at, reply_at}
use Rattle.rx_explain.proofs.law.reply_is_shown.Goals as goal

pub returns-clause-record_is : goal.returns-clause-record_is
returns-clause-record_is c lot plan ts L before t is = reply_at lot plan ts 1 L before t is

pub returns-clause-transaction_is : goal.returns-clause-transaction_is
returns-clause-transaction_is c lot plan place h L before t is = answer_at lot plan place h h.list 1 L before t is
