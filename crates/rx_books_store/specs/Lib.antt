-- Plumbing: which files there are.
pub mod BooksFile
pub mod BooksText
pub mod Figures
pub mod Form
pub mod Held
pub mod Kept
pub mod LedgerBooks
pub mod Lists
pub mod OpenBooks
pub mod Opening
pub mod Parts
pub mod Patching
pub mod Quick
pub mod ReadClaims
pub mod Standing
pub mod Store
pub mod WholeBooks
