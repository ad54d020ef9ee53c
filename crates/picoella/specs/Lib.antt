-- The language picoELLA on an abstract tree: types, patterns, expressions, and when an expression has a type.
-- To believe:
pub mod Language
