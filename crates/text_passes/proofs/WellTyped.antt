-- The sheet of a text is accepted exactly where its text is within the limits and, with names as
-- distances, well typed: the
-- annotation of delays does not matter to types, and the types of the sheet are those that the text
-- declares.
-- Assumes nothing.
use Prim.Native.Nat.{ℕ, zero, suc}
use mathlib.Core.Path.{◌≡◌, refl, ap, sym, subst, ◌∙◌}
use mathlib.Core.Bool.{Bool, true, false}
use mathlib.Core.List.{List, [], ◌∷◌}
use mathlib.Core.Option.{Option, none, some}
use native.Mathlib.Omega.{arith}
use borrow.Author.Tests.{ltb-true, ltb-false}
use lib.Dec.{ltb}
use lib.ListN.{length}
use Rattle.picoella.specs.Language.{Ty, Expr, Const, Var, Tuple, Index1, Index2, Let, LetRec, If, Delay, Typed}
use Rattle.picoella.specs.Language.{t_const, t_var, t_tuple, t_index1, t_index2, t_let, t_letrec, t_if, t_delay}
use Rattle.records.specs.Words.{word_a}
use Rattle.records.specs.Kinds.{types}
use Rattle.records.specs.Trees.{type_at, TypeRecord, Declared}
use Rattle.answers.specs.Answers.{lowest}
use Rattle.answers.proofs.Kept as Answers
use Rattle.answers.specs.Answers.{Accepted}
use Rattle.structure.specs.Rules.{Passes}
use Rattle.verdict.specs.Verdict.{verdict}
use Rattle.accepted.proofs.Laws.{exact}
use Rattle.grammar.specs.Tokens.{Token}
use Rattle.grammar.specs.Source.{identifier, Declaration, Expression, Text, text}
use Rattle.layout.specs.Resolved.{type_meant}
use Rattle.layout.specs.Distances.{unplaced, expression_meant}
use Rattle.layout.specs.Layout.{sheet_of_text}
use Rattle.layout.specs.Promises.{types_of, input_name}
use Rattle.layout.proofs.Kept as Translation
use Rattle.layout.proofs.Kept.{names-good}
use Rattle.text_passes.specs.RefusedTypes.{declaration_at, over_counted, refused_pair}
use Rattle.text_passes.specs.TextDepths.{text_expressions, first_too_deep}
use Rattle.text_meaning.specs.Promises.{declarations}
use Rattle.text_passes.specs.NamedTypes.{type_name_of}
use Rattle.text_passes.specs.Promises.{FittingText}
use Rattle.text_passes.proofs.TypesReady.{types-sorted}
use Rattle.text_passes.proofs.PairTypes.{declared-named}
use Rattle.text_passes.proofs.TextDeep.{deep-as}
use Rattle.text_passes.proofs.Verdicts.{none_after, none_before, all-counted, all_fit, types-stand, sheet-counted, searched, type-declared}

-- the types that a text declares
pub record DeclaredIn (t : Text) (σ : Ty) : Type 0 where
  pub number : ℕ
  pub declared : Declaration
  pub at : declaration_at (declarations t) number ≡ some declared
  pub type : type_meant (types_of t) (type_name_of declared) ≡ σ

-- the text's expression, with names as distances, has the type that declaration number τ declares
pub record TypedText (t : Text) (τ : ℕ) : Type 0 where
  pub declared : Declaration
  pub at : declaration_at (declarations t) τ ≡ some declared
  pub typed :
      Typed (DeclaredIn t) (type_meant (types_of t) (input_name t) ∷ []) (expression_meant t) (type_meant (types_of t) (type_name_of declared))

module _ {D : Ty → Type 0} where
  without-places : {Γ : List Ty} {e : Expr} {τ : Ty} → Typed D Γ e τ → Typed D Γ (unplaced e) τ
  without-places (t_const h) = t_const h
  without-places (t_var h) = t_var h
  without-places (t_tuple x y d) = t_tuple (without-places x) (without-places y) d
  without-places (t_index1 x) = t_index1 (without-places x)
  without-places (t_index2 x) = t_index2 (without-places x)
  without-places (t_let x y) = t_let (without-places x) (without-places y)
  without-places (t_letrec x y) = t_letrec (without-places x) (without-places y)
  without-places (t_if x p y z) = t_if (without-places x) p (without-places y) (without-places z)
  without-places (t_delay h x) = t_delay h (without-places x)

  with-places : {Γ : List Ty} (e : Expr) {τ : Ty} → Typed D Γ (unplaced e) τ → Typed D Γ e τ
  with-places (Const σ v) (t_const h) = t_const h
  with-places (Var n) (t_var h) = t_var h
  with-places (Tuple e f) (t_tuple x y d) = t_tuple (with-places e x) (with-places f y) d
  with-places (Index1 e) (t_index1 x) = t_index1 (with-places e x)
  with-places (Index2 e) (t_index2 x) = t_index2 (with-places e x)
  with-places (Let e f) (t_let x y) = t_let (with-places e x) (with-places f y)
  with-places (LetRec σ e f) (t_letrec x y) = t_letrec (with-places e x) (with-places f y)
  with-places (If e p f g) (t_if x h y z) = t_if (with-places e x) h (with-places f y) (with-places g z)
  with-places (Delay q σ v e) (t_delay h x) = t_delay h (with-places e x)

-- where more types are declared
more-declared : {D C : Ty → Type 0} → ((σ : Ty) → D σ → C σ) → {Γ : List Ty} {e : Expr} {τ : Ty} → Typed D Γ e τ → Typed C Γ e τ
more-declared f (t_const h) = t_const h
more-declared f (t_var h) = t_var h
more-declared f (t_tuple {σ = σ} {τ = τ} x y d) = t_tuple (more-declared f x) (more-declared f y) (f _ d)
more-declared f (t_index1 x) = t_index1 (more-declared f x)
more-declared f (t_index2 x) = t_index2 (more-declared f x)
more-declared f (t_let x y) = t_let (more-declared f x) (more-declared f y)
more-declared f (t_letrec x y) = t_letrec (more-declared f x) (more-declared f y)
more-declared f (t_if x p y z) = t_if (more-declared f x) p (more-declared f y) (more-declared f z)
more-declared f (t_delay h x) = t_delay h (more-declared f x)

same-decoded : {o : Option Expr} {e f : Expr} → o ≡ some e → o ≡ some f → e ≡ f
same-decoded p q = cc

same_declared : {o : Option Declaration} {c d : Declaration} → o ≡ some c → o ≡ some d → c ≡ d
same_declared p q = cc

no-declared : {o : Option Declaration} {c : Declaration} → o ≡ none → o ≡ some c → ⊥
no-declared p q = let no : ◌≡◌ {A = ℕ} 0 1 = cc in omega arith

module _ (ts : List Token) (d : Declaration) (ds : List Declaration) (w : List ℕ) (p : ℕ) (e : Expression)
    (f : FittingText ts (text d ds (identifier w p) e)) where
  abbrev source : Text
  source = text d ds (identifier w p) e

  abbrev sheet : List ℕ
  sheet = sheet_of_text (text d ds (identifier w p) e)

  -- a declaration's record is a type record, of the type that the name stands for
  pub record_of : (i : ℕ) (c : Declaration) → declaration_at (d ∷ ds) i ≡ some c
      → TypeRecord sheet i × (type_at sheet i ≡ type_meant (types_of source) (type_name_of c))
  record_of zero c at = absurd (no-declared (none_before (d ∷ ds)) at)
  record_of (suc k) c at = go (ltb k (length (d ∷ ds))) refl
    where
      go : (b : Bool) → ltb k (length (d ∷ ds)) ≡ b
          → TypeRecord sheet (suc k) × (type_at sheet (suc k) ≡ type_meant (types_of source) (type_name_of c))
      go false h = absurd (no-declared (none_after (d ∷ ds) k (ltb-false k (length (d ∷ ds)) h)) at)
      go true h =
          let l = ltb-true k (length (d ∷ ds)) h in
          let n = sheet-counted ts d ds w p e f in
          let meant = (Translation.kept).types_as_declared source f.good in
          let stand = types-stand d ds w p e in
          let r = declared-named (d ∷ ds) (names-good d ds w p e f.good).0 stand meant k l in
          let same : r.0 ≡ c = same_declared r.1 at in (
            record {
              past = omega arith;
              there = omega (arith, l, n);
              sort = types-sorted 1 [] (d ∷ ds) stand (suc k) (omega arith) (omega (arith, l));
            },
            ap (type_at sheet) (sym r.2) ∙ meant (type_name_of r.0) ∙ ap (λ c. type_meant (types_of source) (type_name_of c)) same,
          )

  to-sheet : (σ : Ty) → DeclaredIn source σ → Declared sheet σ
  to-sheet σ x = let r = record_of x.number x.declared x.at in (x.number, r.0, r.1 ∙ x.type)

  to-text : lowest (over_counted (d ∷ ds)) (suc (length (d ∷ ds))) ≡ none → (σ : Ty) → Declared sheet σ → DeclaredIn source σ
  to-text counts σ x =
      let y = type-declared ts d ds w p e f counts x.0 x.1 in
      record { number = x.0; declared = y.declared; at = y.at; type = sym y.type ∙ x.2 }

  input_is : type_at sheet (word_a sheet 0) ≡ type_meant (types_of source) (input_name source)
  input_is = (Translation.kept).input_as_declared source f.good

  pub from-accepted : (τ : ℕ) → verdict sheet ≡ Accepted τ
      → ((i : ℕ) → over_counted (d ∷ ds) i ≡ false)
      × ((i : ℕ) → refused_pair (d ∷ ds) i ≡ false)
      × (first_too_deep (text_expressions source) ≡ none)
      × TypedText source τ
  from-accepted τ a =
      let all = (exact sheet τ).0 a in
      let passes = all.0 in
      let x = searched ts d ds w p e f in
      let counts = sym x.recorded ∙ passes.records in
      let fit = sym (x.typed counts) ∙ passes.types in
      let y = type-declared ts d ds w p e f counts τ all.1.0 in
      let meant = (Translation.kept).decodes_to_text ts source f.read f.good in
      let same : all.1.1.0 ≡ meant.0 = same-decoded all.1.1.1 meant.1 in
      let typed : Typed (Declared sheet) (type_at sheet (word_a sheet 0) ∷ []) meant.0 (type_at sheet τ) =
      subst (λ g. Typed (Declared sheet) (type_at sheet (word_a sheet 0) ∷ []) g (type_at sheet τ)) same all.1.1.2 in
      let bare : Typed (Declared sheet) (type_at sheet (word_a sheet 0) ∷ []) (expression_meant source) (type_at sheet τ) =
      subst (λ g. Typed (Declared sheet) (type_at sheet (word_a sheet 0) ∷ []) g (type_at sheet τ)) meant.2 (without-places typed) in
      let named : Typed (Declared sheet) (type_meant (types_of source) (input_name source) ∷ []) (expression_meant source)
      (type_meant (types_of source) (type_name_of y.declared)) =
      subst (λ σ. Typed (Declared sheet) (σ ∷ []) (expression_meant source) (type_meant (types_of source) (type_name_of y.declared))) input_is
      (subst (λ σ. Typed (Declared sheet) (type_at sheet (word_a sheet 0) ∷ []) (expression_meant source) σ) y.type bare) in (
        all-counted (d ∷ ds) counts,
        all_fit (d ∷ ds) fit,
        sym (deep-as ts d ds w p e f.read f.good) ∙ passes.depths,
        record { declared = y.declared; at = y.at; typed = more-declared (to-text counts) named },
      )

  pub passing : ((i : ℕ) → over_counted (d ∷ ds) i ≡ false) → ((i : ℕ) → refused_pair (d ∷ ds) i ≡ false)
      → first_too_deep (text_expressions source) ≡ none → Passes sheet
  passing few fit deep =
      let x = searched ts d ds w p e f in
      let counts = ((Answers.kept).lowest_none (over_counted (d ∷ ds)) (suc (length (d ∷ ds)))).1 (λ i h. few i) in
      let pairs = ((Answers.kept).lowest_none (refused_pair (d ∷ ds)) (suc (length (d ∷ ds)))).1 (λ i h. fit i) in
      record {
        length = x.fits;
        header = x.headed;
        records = x.recorded ∙ counts;
        namings = x.named;
        types = x.typed counts ∙ pairs;
        depths = deep-as ts d ds w p e f.read f.good ∙ deep;
      }

  pub to-accepted : (τ : ℕ) → ((i : ℕ) → over_counted (d ∷ ds) i ≡ false) → ((i : ℕ) → refused_pair (d ∷ ds) i ≡ false)
      → first_too_deep (text_expressions source) ≡ none → TypedText source τ → verdict sheet ≡ Accepted τ
  to-accepted τ few fit deep y =
      let passes = passing few fit deep in
      let r = record_of τ y.declared y.at in
      let meant = (Translation.kept).decodes_to_text ts source f.read f.good in
      let named = more-declared to-sheet y.typed in
      let typed : Typed (Declared sheet) (type_at sheet (word_a sheet 0) ∷ []) (expression_meant source) (type_at sheet τ) =
      subst (λ σ. Typed (Declared sheet) (σ ∷ []) (expression_meant source) (type_at sheet τ)) (sym input_is)
      (subst (λ σ. Typed (Declared sheet) (type_meant (types_of source) (input_name source) ∷ []) (expression_meant source) σ) (sym r.1) named) in
      let placed : Typed (Declared sheet) (type_at sheet (word_a sheet 0) ∷ []) meant.0 (type_at sheet τ) =
      with-places meant.0
      (subst (λ g. Typed (Declared sheet) (type_at sheet (word_a sheet 0) ∷ []) g (type_at sheet τ)) (sym meant.2) typed) in
      (exact sheet τ).1 (passes, (r.0, (meant.0, meant.1, placed)))
