-- A sheet is accepted exactly where it passes codes 1 to 6 and decodes to a well-typed expression. Decoding succeeds on a sheet
-- that passes; no judgement of the circuit fails just where its rules hold, and they hold just where its expression is typed;
-- and the type of an expression has one record.
-- Assumes nothing.
use Prim.Native.Nat.{ℕ}
use mathlib.Core.List.{List}
use mathlib.Core.Option.{Option, none, some}
use mathlib.Core.Path.{◌≡◌, refl}
use mathlib.Core.Logic.{◌↔◌}
use Rattle.records.specs.Trees.{type_at, circuit, type_record_of}
use Rattle.records.specs.Decoding.{expression_of}
use Rattle.records.proofs.TypeRecords.{input-type, same-type-same-record}
use Rattle.records.proofs.Grown.{grown-circuit}
use Rattle.records.proofs.Decoding.{decodes}
use Rattle.typing.specs.Judgements.{judgements, first_failing}
use Rattle.structure.specs.Rules.{Passes}
use Rattle.verdict.specs.Verdict.{refusing, by_types, verdict}
use Rattle.verdict.specs.Scopes.{inputs}
use Rattle.verdict.specs.Promises.{WellTyped, Exact}
use Rattle.answers.specs.Answers.{Accepted, IllTyped}
use Rattle.structure.proofs.Passes.{written, types-fit}
use Rattle.verdict.proofs.Places.{accepted-by-types}
use Rattle.typing.proofs.Judged.{RulesHold, NoneFails, passed-judged, judged-passed}
use Rattle.typing.specs.Judging.{Context}
use Rattle.typing.proofs.TypeRecordsOf.{type-of-record}
use Rattle.typing.proofs.Typings.{judged-typed, typed-judged}

-- the type rules accept exactly where no judgement of the circuit fails, with the type of the circuit
pub types-accept : (s : List ℕ) (t : ℕ)
    → by_types s ≡ Accepted t ↔ (NoneFails s (inputs s) (circuit s) × (type_record_of s (inputs s) (circuit s) ≡ t))
unfolding by_types
types-accept s t = (go (first_failing s (judgements s (inputs s) (circuit s))), λ p. rw (p.0, p.1))
  where
    go : (o : Option ℕ) → refusing o IllTyped (Accepted (type_record_of s (inputs s) (circuit s))) ≡ Accepted t
        → (o ≡ none) × (type_record_of s (inputs s) (circuit s) ≡ t)
    go none e = (refl, cc)
    go (some r) e = (cc, cc)

-- the context of the circuit
pub input-context : {s : List ℕ} → Passes s → Context s (inputs s)
input-context p = (input-type (written p), tt)

-- what a sheet that passes has where it is accepted
pub accepted-judged : {s : List ℕ} (t : ℕ) → Passes s → verdict s ≡ Accepted t
    → RulesHold s (inputs s) (circuit s) × (type_record_of s (inputs s) (circuit s) ≡ t)
accepted-judged {s} t p e =
    let f = (types-accept s t).0 ((accepted-by-types s t).0 e).1 in (passed-judged s (inputs s) (circuit s) f.0, f.1)

pub exact : Exact
exact s t = (there, λ p. back p.0 p.1)
  where
    there : verdict s ≡ Accepted t → Passes s × WellTyped s t
    there e =
        let p = ((accepted-by-types s t).0 e).0 in
        let w = written p in
        let j = accepted-judged t p e in
        let c = input-context p in
        let g = grown-circuit w in (
          p,
          (
            rw j.1 at (type-of-record w (inputs s) (circuit s) g c j.0),
            (
              expression_of s (circuit s),
              decodes w,
              rw j.1 at (judged-typed w (inputs s) (circuit s) g c j.0),
            ),
          ),
        )

    back : Passes s → WellTyped s t → verdict s ≡ Accepted t
    back p (r, (e, d, h)) =
        let w = written p in
        let fit = types-fit p in
        let c = input-context p in
        let g = grown-circuit w in
        let same : expression_of s (circuit s) ≡ e = let f = decodes w in cc in
        let j = typed-judged w fit (inputs s) (circuit s) g c (type_at s t) (rw same h) in
        let found = type-of-record w (inputs s) (circuit s) g c j.0 in
        let u = same-type-same-record w fit (type_record_of s (inputs s) (circuit s)) t found r j.1 in
        (accepted-by-types s t).1 (p, (types-accept s t).1 (judged-passed s (inputs s) (circuit s) j.0, u))
