-- The answers of all calls: code and place, the first check of a list that applies, the lowest number that passes a test, and what
-- every call promises.
-- To believe:
pub mod Answers
pub mod StandardLaws
pub mod Promises
-- What functions ask and give, and their proofs need:
pub mod Results
pub mod Searches
pub mod GivenSlices
