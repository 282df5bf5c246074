-- What a list of edits answers and leaves.
pub mod Runs
pub mod Told
