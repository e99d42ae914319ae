-- Plumbing: which files there are.
pub mod Amended
pub mod Books
pub mod FamilyBook
pub mod Shelves
