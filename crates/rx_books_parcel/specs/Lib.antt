-- Plumbing: which files there are.
pub mod Agreement
pub mod Footprints
pub mod Parcels
