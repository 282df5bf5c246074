-- The worked film.
pub mod Film
