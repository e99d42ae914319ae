-- Lemmas of what is written.
mod AccountRead
mod Minus
