-- What the calls of this crate mean, and the few lemmas that ghost members cite.
pub mod Copies
pub mod Draws
pub mod Kept
pub mod KeptLaws
pub mod KeptSteps
pub mod Laws
pub mod LayoutLaws
pub mod Lines
pub mod Picture
pub mod Runs
pub mod Soundness
pub mod Stores
pub mod ViewLaws
pub mod Views
