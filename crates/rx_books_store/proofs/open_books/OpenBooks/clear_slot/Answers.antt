use Rattle.std.proofs.Common.{◌≡◌, Bor, Option, Some, None, false, refl, sym, ◌∙◌}
use Rattle.std.specs.Option.{is_some, option_copied}
use Rattle.rx_ledger.specs.declared.row.Row.{Row}
use Rattle.rx_ledger.specs.Ledger.{row_under}
use Rattle.rx_books_store.proofs.Taken.{without-none}
use Rattle.rx_books_store.proofs.open_books.OpenBooks.clear_slot.Goals as goal

copied_none : (o : Option (Bor Row)) → is_some o ≡ false → option_copied o ≡ None
copied_none None none = refl
copied_none (Some r) none = cc

pub returns-else-is_some : goal.returns-else-is_some
returns-else-is_some c =
    let found : option_copied c.row_at.result ≡ row_under c.args.self.now.books.ledger c.args.key.now =
    rw c.requires at c.row_at.ensures in
    without-none c.args.self.now c.args.key.now
    (sym found ∙ copied_none c.row_at.result (sym c.is_some.ensures ∙ c.if-is_some.false))
