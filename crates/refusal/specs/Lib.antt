-- What each refusal returns and says.
pub mod Numbers
pub mod Sentences
