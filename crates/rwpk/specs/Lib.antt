-- How a box is read and written.
pub mod Boxes
pub mod Bytes
pub mod Fields
pub mod Header
pub mod Laws
pub mod Loading
pub mod Parts
pub mod Rows
pub mod Sentences
pub mod Writing
