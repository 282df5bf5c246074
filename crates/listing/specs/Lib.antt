-- What the listing of a box is.
pub mod Lines
pub mod Listing
