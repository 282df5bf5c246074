-- The rules of a sheet.
pub mod Blocked
pub mod Claims
pub mod Contents
pub mod Held
pub mod Rules
pub mod Serving
pub mod Sound
pub mod Words
