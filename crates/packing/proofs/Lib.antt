-- Lemmas of packing and unpacking.
mod Carrying
mod Filling
mod Holding
mod Lying
mod Marking
mod Numbering
mod Promised
mod Returning
mod Strips
