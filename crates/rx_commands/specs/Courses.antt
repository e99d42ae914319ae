-- Plumbing: a batch of which the first records are done.
use Rattle.std.specs.Prelude.{◌≡◌, ◌≤◌, length, take}
use Rattle.std.specs.List.{All}
use Rattle.rx_fields.specs.declared.limits.TheConstants.{MOST_DETAILS}
use Rattle.rx_d0_values.specs.declared.transmission.Heard.{Heard}
use Rattle.rx_serial.specs.Underway.{IsAwaited, Underway, scope_of}
use Rattle.rx_ledger.specs.Basis.{Holds}
use Rattle.rx_ledger.specs.Fold.{fold_ledger, fold_replies}
use Rattle.rx_ledger.specs.Ledger.{Ledger}
use Rattle.rx_ledger.specs.Named.{key_in}
use Rattle.rx_commands.specs.declared.replay.batch.Batch.{Batch}
use Rattle.rx_commands.specs.declared.replay.course.Course.{Course}

-- books and replies are those of the records that are done, adjudicated one after another on the opening books
pub record IsCourse (b : Batch) (c : Course) : Type 0 where
  pub few : length b.asked.now ≤ MOST_DETAILS
  pub within : c.done ≤ length b.asked.now
  pub period : c.order.books.period ≡ b.sheet.now.figures.period
  pub awaited : All (IsAwaited c.order) b.asked.now
  pub ledger : c.order.books.ledger ≡ fold_ledger b.lot b.sheet.now 1 (take c.done b.asked.now) b.opening.now.ledger
  pub replies : c.replies.items ≡ fold_replies b.lot b.sheet.now 1 (take c.done b.asked.now) b.opening.now.ledger

-- what the transactions of the record ask for is answered for, whatever stands
abbrev pub IsHeardOf : Underway → Heard → Type 0
IsHeardOf u h = (L : Ledger) → All (Holds (scope_of u) (key_in h) L) h.list
