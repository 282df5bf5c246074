-- The proofs behind the sheet's calls and laws.
pub mod Apart
pub mod Facts
pub mod Freeing
pub mod Laid
pub mod Meeting
pub mod Placing
pub mod Rows
pub mod Serves
pub mod Sided
