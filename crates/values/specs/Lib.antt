-- What the functions on values are called with, and what they give.
-- Nothing here is to be believed: what functions ask and give, and their proofs need.
pub mod Chained
pub mod MatchAnswers
pub mod Matchings
pub mod Slots
