-- What an expression is evaluated with, and what comes of it.
-- Nothing here is to be believed: what functions ask and give, and their proofs need.
pub mod Evaluating
pub mod Chains
