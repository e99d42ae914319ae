-- Plumbing: the definitions that the contracts of requests and replies cite, for the crates above.
pub use Rattle.rx_d0_values.specs.Billed
pub use Rattle.rx_d0_values.specs.CodeList
pub use Rattle.rx_d0_values.specs.Echoed
pub use Rattle.rx_d0_values.specs.Listed
pub use Rattle.rx_d0_values.specs.Priced
pub use Rattle.rx_d0_request.specs.Request
pub use Rattle.rx_d0_request.specs.Written
pub use Rattle.rx_d0_reply.specs.Fault
pub use Rattle.rx_d0_reply.specs.Limits
pub use Rattle.rx_d0_reply.specs.Text
