-- What packing and unpacking make of pictures.
pub mod Carries
pub mod Maps
pub mod Moves
pub mod Promise
pub mod Rows
pub mod Strips
