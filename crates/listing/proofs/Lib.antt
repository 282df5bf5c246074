-- The proofs behind the listing.
pub mod Lengths
pub mod Loaded
pub mod Rows
pub mod Texts
