-- Plumbing: the two forms of books, and books that are lent opened.
use Rattle.rx_books_store.specs.declared.books.Form.{Form}
use Rattle.rx_books_store.specs.declared.books.Form.TheVariants.{Plain, Amended}
use Rattle.rx_books_store.specs.declared.lent.Lent.{Lent}
use Rattle.rx_books_store.specs.declared.lent.Lent.TheVariants.{Own, Made}
use Rattle.rx_books_store.specs.LedgerBooks.{LedgerBooks}

-- the books that they are
abbrev pub books_in : Form → LedgerBooks
books_in (Plain opened) = opened.books
books_in (Amended books) = books

-- the books that are lent
abbrev pub books_lent : Lent → LedgerBooks
books_lent (Own books) = books.now.books
books_lent (Made books) = books.books
