-- Plumbing: the definitions that the contracts of books and parcels cite, for the crates above.
pub use Rattle.rx_books_store.specs.BooksFile
pub use Rattle.rx_books_store.specs.BooksText
pub use Rattle.rx_books_store.specs.LedgerBooks
pub use Rattle.rx_books_store.specs.OpenBooks
pub use Rattle.rx_books_family.specs.Books
pub use Rattle.rx_books_family.specs.FamilyBook
pub use Rattle.rx_books_parcel.specs.Footprints
pub use Rattle.rx_books_parcel.specs.Parcels
