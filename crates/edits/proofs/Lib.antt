-- The proofs behind lists of edits.
pub mod Running
