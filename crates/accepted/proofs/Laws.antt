-- The one door: the laws of the check that crates above it use, handed on by their names. Whatever else stands in the proofs of
-- `structure`, `typing` and `verdict` may change without a crate above noticing. Assumes nothing.
pub use Rattle.structure.proofs.DepthCounts.{feedback-number}
pub use Rattle.structure.proofs.Passes.{written, well-named, types-fit}
pub use Rattle.typing.proofs.Alternatives.{in-sheet, next-matching, first-matching, second-matching}
pub use Rattle.typing.proofs.Judged.{RulesHold}
pub use Rattle.typing.proofs.KindNumbers.{numbered, last-kind}
pub use Rattle.typing.proofs.PatternNumbers.{pattern-kind, no-pattern}
pub use Rattle.typing.proofs.PatternTypes.{fits-typed}
pub use Rattle.typing.proofs.TypeRecordsOf.{type-of-record}
pub use Rattle.typing.proofs.Typings.{within-fits}
pub use Rattle.verdict.proofs.Exact.{exact, accepted-judged, input-context}
pub use Rattle.verdict.proofs.OneWay.{Carried, to-root, to_part, carried-only}
pub use Rattle.verdict.proofs.Places.{accepted-by-types}
pub use Rattle.verdict.proofs.PlacesSmall.{verdict-place}
pub use Rattle.verdict.proofs.VerdictFirst.{verdict-first, first-accepted}
pub use Rattle.accepted.proofs.Refusing.{Refusing, refusing-answer}
