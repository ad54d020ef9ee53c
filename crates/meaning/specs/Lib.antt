-- What a circuit means, without bytes: values, matching, one cycle, a run, and the rules of the paper that they agree with.
-- To believe:
pub mod Decisions
pub mod Constants
pub mod Rules
pub mod Values
pub mod RuleLaws
pub mod Ordered
pub mod Promises
-- What the promises pin down, so that it need not be believed:
pub mod Elaboration
pub mod Matching
pub mod Undecided
pub mod Evaluation
pub mod Run
