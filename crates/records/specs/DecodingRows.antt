-- Two sheets with the expression that each says, found by hand from docs/SHEETS.md: its sheet T, and one that has each form that T
-- has not. They decode so, by computation.
use Rattle.std.specs.Prelude.{◌≡◌, refl, List, [], ◌∷◌, map}
use Rattle.std.proofs.Math.Option.{Option, some}
use Rattle.picoella.specs.Language.{
  Ty,
  Flat,
  TyTuple,
  Whole,
  Constructor,
  Parts,
  Bar,
  Expr,
  Const,
  Var,
  Tuple,
  Index1,
  Index2,
  Let,
  LetRec,
  If,
  Delay,
}
use Rattle.records.specs.Words.{word, count}
use Rattle.records.specs.Kinds.{row_of, kind_of}
use Rattle.records.specs.Trees.{type_within, type_at, chain_within, chain, alternatives_within, alternatives, tree_within, tree_at, circuit}
use Rattle.records.specs.Decoding.{decode}
use Rattle.records.specs.SheetOf.{Record, words, sheet_of}

pub data DecodingRow : Type 0 where
  says_expression : List Record → Expr → DecodingRow

-- a flat type of two constructors as record 1, one of three as record 2, and their pair
abbrev pub two_flat : Ty
two_flat = Flat 1 2

abbrev pub three_flat : Ty
three_flat = Flat 2 3

abbrev pub both_flat : Ty
both_flat = TyTuple two_flat three_flat

abbrev pub decoding_rows : List DecodingRow
decoding_rows =
    says_expression
    (words 1 1 1 2 17 0
    ∷ words 16 0 2 0 0 0
    ∷ words 38 0 1 3 16 0
    ∷ words 40 0 1 4 5 0
    ∷ words 64 0 2 0 0 0
    ∷ words 39 0 6 8 15 7
    ∷ words 33 0 1 0 0 0
    ∷ words 49 0 1 1 0 0
    ∷ words 39 0 9 11 13 10
    ∷ words 33 0 0 0 0 0
    ∷ words 49 0 1 2 0 0
    ∷ words 32 0 1 12 0 0
    ∷ words 64 0 1 0 0 0
    ∷ words 32 0 1 14 0 0
    ∷ words 64 0 2 0 0 0
    ∷ words 33 0 0 0 0 0
    ∷ words 33 0 0 0 0 0
    ∷ [])
    (LetRec two_flat
    (Delay (4 ∷ []) two_flat (2 ∷ [])
    (If (Var 1) (Constructor 1 2 1)
    (If (Var 0) (Constructor 1 2 2) (Const two_flat (1 ∷ [])) (Const two_flat (2 ∷ [])))
    (Var 0)))
    (Var 0))
    ∷ says_expression
    (words 1 1 3 4 21 0
    ∷ words 16 2 2 0 0 0
    ∷ words 16 3 3 0 0 0
    ∷ words 17 0 1 2 0 0
    ∷ words 37 0 5 10 0 0
    ∷ words 34 0 6 8 0 0
    ∷ words 35 0 7 0 0 0
    ∷ words 33 0 0 0 0 0
    ∷ words 36 0 9 0 0 0
    ∷ words 33 0 0 0 0 0
    ∷ words 39 0 11 12 13 16
    ∷ words 33 0 0 0 0 0
    ∷ words 33 0 1 0 0 0
    ∷ words 32 0 3 14 0 0
    ∷ words 64 15 1 0 0 0
    ∷ words 64 0 3 0 0 0
    ∷ words 50 17 18 20 0 0
    ∷ words 48 0 3 0 0 0
    ∷ words 49 19 1 1 0 0
    ∷ words 49 0 1 2 0 0
    ∷ words 48 0 2 0 0 0
    ∷ [])
    (Let (Tuple (Index1 (Var 0)) (Index2 (Var 0)))
    (If (Var 0) (Bar (Parts (Bar (Constructor 1 2 1) (Constructor 1 2 2)) (Whole three_flat)) (Whole both_flat))
    (Var 1)
    (Const both_flat (1 ∷ 3 ∷ []))))
    ∷ []

-- each row has its expression, by computation
abbrev named_expression : DecodingRow → Option Expr
named_expression (says_expression rs e) = some e

abbrev found_expression : DecodingRow → Option Expr
found_expression (says_expression rs e) = decode (sheet_of rs)

decoding_rows_hold : map found_expression decoding_rows ≡ map named_expression decoding_rows
unfolding decode circuit tree_at tree_within alternatives alternatives_within chain chain_within type_at type_within kind_of row_of word count
decoding_rows_hold = refl
