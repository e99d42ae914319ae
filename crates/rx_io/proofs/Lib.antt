-- Laws of what goes from a source to a consumer, and to a sink.
pub mod Passing
pub mod Patching
