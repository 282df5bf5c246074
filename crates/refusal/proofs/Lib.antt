-- That refusals' numbers differ.
pub mod Differ
