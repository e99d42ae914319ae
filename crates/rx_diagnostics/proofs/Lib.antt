-- Plumbing: which files there are.
pub mod FaultyParts
pub mod FirstFaults
pub mod KnownNames
pub mod Lacking
pub mod LeastApart
pub mod Listings
pub mod Searches
pub mod Totals
