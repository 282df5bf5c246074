-- The proofs behind the laws, and the lemmas that the crates above cite.
pub mod Centres
pub mod Insides
pub mod Jumping
pub mod Leasts
pub mod Positioning
pub mod Searching
pub mod Turning
