-- The sheet of a text before the check, which declared types it refuses, the order of
-- its records, and what code 14 tells.
-- To believe:
pub mod RefusedTypes
pub mod DelayConstants
pub mod RecordWalk
pub mod TextDepths
pub mod NamedTypes
pub mod Promises
