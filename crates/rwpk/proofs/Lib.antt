-- The proofs behind the readers and the laws of the box.
pub mod Back
pub mod BoxBack
pub mod BoxThere
pub mod Chains
pub mod Copied
pub mod Laying
pub mod Numbers
pub mod Parted
pub mod Puts
pub mod Reading
pub mod Stands
pub mod There
