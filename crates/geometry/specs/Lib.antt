-- What the calls of this crate mean.
pub mod Boxes
pub mod Centre
pub mod FirstFree
pub mod Jumps
pub mod Least
pub mod Places
pub mod Positions
pub mod Standard
pub mod TurnLaws
pub mod Turns
