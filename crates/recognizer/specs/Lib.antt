-- What the contracts of the code say: the machine of `grammar` in numbers.
-- Nothing here is to be believed: what functions ask and give, and their proofs need.
pub mod Classes
pub mod Coded
