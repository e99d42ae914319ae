use Rattle.rx_schedule.proofs.Interleaved.{ends, finds, leaves, others, prefixes, replies}
use Rattle.rx_schedule.proofs.law.law_of_core.Goals as goal

pub returns-clause-books : goal.returns-clause-books
returns-clause-books c = ends

pub returns-clause-replies : goal.returns-clause-replies
returns-clause-replies c = replies

pub returns-clause-prefixes : goal.returns-clause-prefixes
returns-clause-prefixes c = prefixes

pub returns-clause-others : goal.returns-clause-others
returns-clause-others c = others

pub returns-clause-finds : goal.returns-clause-finds
returns-clause-finds c = finds

pub returns-clause-leaves : goal.returns-clause-leaves
returns-clause-leaves c = leaves
