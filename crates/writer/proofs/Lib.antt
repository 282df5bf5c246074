-- The proofs behind the job.
pub mod Fitting
pub mod Running
