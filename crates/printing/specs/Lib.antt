-- What is told of a call as text, and the pieces that it is printed in.
-- To believe:
pub mod Pieces
-- What functions ask and give, and their proofs need:
pub mod PutLines
