-- The place of a name's first letter and the number of its letters in one number, and back.
use Rattle.std.specs.Prelude.{ℕ, ◌+◌, ◌*◌, ◌<◌, ◌≡◌}
use Rattle.std.proofs.Common.{arith}
use Rattle.std.proofs.lemmas.Nat.{div-mul-add}
use Rattle.symbols.specs.Names.{place_of, count_of}
use Rattle.symbols.specs.declared.spans.Span.TheInside.{Inside}

abbrev pub span_at : (place count : ℕ) → ℕ
span_at place count = place * 32 + count

abbrev pub parts_of : ℕ → Inside
parts_of n = record { parts = n }

pub parts-again : (place count : ℕ) → count < 32 → (place_of (span_at place count) ≡ place) × (count_of (span_at place count) ≡ count)
parts-again place count h = (div-mul-add place 32 count h, omega arith)
