-- Plumbing: this program's own words, as `rx_print` writes them.
pub use Rattle.rx_print.specs.Said.{said, say}
