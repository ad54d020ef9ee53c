-- The meaning of a text over its names: values, matching, the rules, and which byte stands for which constructor.
-- To believe:
pub mod NamedValues
pub mod Circuits
pub mod NamedRules
pub mod Promises
