-- What a job answers and leaves.
pub mod Runs
pub mod Steps
