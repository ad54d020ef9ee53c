-- The sheet of a text is accepted exactly where its text is within the limits and well typed over
-- its names.
-- Assumes nothing.
use Prim.Native.Nat.{ℕ, zero, suc, ◌≤◌}
use mathlib.Core.Path.{◌≡◌, refl, ap, sym, subst, ◌∙◌}
use mathlib.Core.Logic.{◌⊎◌, inl, inr}
use mathlib.Core.Bool.{Bool, true, false, cond}
use mathlib.Core.List.{List, [], ◌∷◌}
use mathlib.Core.Option.{Option, some}
use native.Mathlib.Omega.{arith}
use Rattle.picoella.specs.Language.{Ty, Flat, TyTuple, leaves}
use Rattle.records.specs.Trees.{type_at, TypeRecord}
use Rattle.records.proofs.TypeRecords.{pair-record, same-type-same-record}
use Rattle.structure.specs.Rules.{Passes}
use Rattle.accepted.proofs.Laws.{written, types-fit}
use Rattle.grammar.specs.Tokens.{Token}
use Rattle.grammar.specs.Source.{identifier, Declaration, Constructors, PairOf, Expression, text}
use Rattle.name_rules.specs.Declared.{same_name, input, at_first, type_role}
use Rattle.name_rules.specs.Checks.{AllPass}
use Rattle.name_rules.specs.Constants.{letters, constants_of_text, constant_checks}
use Rattle.name_rules.specs.Names.{after_all, is_one, declarations_checks, expression_checks, name_checks}
use Rattle.name_rules.proofs.SameName.{same-equal}
use Rattle.layout.specs.Resolved.{TypeEntry, type_entry, type_meant, after_entry, type_entries_from, type_entries}
use Rattle.layout.specs.Layout.{sheet_of_text}
use Rattle.layout.proofs.ConstructorTables.{pass-both, passes}
use Rattle.layout.proofs.Tables.{is_named}
use Rattle.layout.proofs.Kept as Translation
use Rattle.layout.proofs.Kept.{names-good}
use Rattle.text_passes.specs.RefusedTypes.{declaration_at}
use Rattle.text_passes.specs.TextDepths.{text_expressions, first_too_deep}
use Rattle.text_passes.specs.NamedTypes.{typed_name, PairDeclared, NameTyped, type_name_of, NameTypedText, name_typed_text}
use Rattle.text_passes.specs.Promises.{FittingText, AcceptedExactly, AnsweredSeven}
use Rattle.text_passes.proofs.PairTypes.{StandsDeclared, declared-stands}
use Rattle.text_passes.proofs.TextDeep.{deep-as}
use Rattle.text_passes.proofs.Verdicts.{types-stand, searched, seven}
use Rattle.text_passes.proofs.WellTyped.{DeclaredIn, TypedText, record_of, from-accepted, passing, to-accepted}
use Rattle.text_passes.proofs.NamedTyping.{TypesKnown, pair-means, pair-at, type-in-table, parts-of}
use Rattle.text_passes.proofs.NamedTyping.{scope-input, name-sound, name-found}

-- a name in the table is that of a declaration
record Numbered (ds : List Declaration) (t : List ℕ) : Type 0 where
  before : ℕ
  declared : Declaration
  at : declaration_at ds (suc before) ≡ some declared
  name : type_name_of declared ≡ t

later : {d : Declaration} {ds : List Declaration} {t : List ℕ} → Numbered ds t → Numbered (d ∷ ds) t
later x = record { before = suc x.before; declared = x.declared; at = x.at; name = x.name }

in_table : (t : List ℕ) (i : ℕ) (T : List TypeEntry) (d : Declaration) → is_named t (after_entry i T d) ≡ true → (is_named t T ≡ true) ⊎ (t ≡ type_name_of d)
in_table t i T (Constructors n c cs) h = go (same_name t (letters n)) (same-equal t (letters n)) h
  where
    go : (b : Bool) → (b ≡ true → t ≡ letters n) → cond b true (is_named t T) ≡ true → (is_named t T ≡ true) ⊎ (t ≡ letters n)
    go true f h = inr (f refl)
    go false f h = inl h
in_table t i T (PairOf n a b) h = go (same_name t (letters n)) (same-equal t (letters n)) h
  where
    go : (b : Bool) → (b ≡ true → t ≡ letters n) → cond b true (is_named t T) ≡ true → (is_named t T ≡ true) ⊎ (t ≡ letters n)
    go true f h = inr (f refl)
    go false f h = inl h

numbered-from : (t : List ℕ) (i : ℕ) (T : List TypeEntry) (ds : List Declaration) → is_named t (type_entries_from i T ds) ≡ true
    → (is_named t T ≡ true) ⊎ Numbered ds t
numbered-from t i T [] h = inl h
numbered-from t i T (d ∷ ds) h = go (numbered-from t (suc i) (after_entry i T d) ds h)
  where
    first : (is_named t T ≡ true) ⊎ (t ≡ type_name_of d) → (is_named t T ≡ true) ⊎ Numbered (d ∷ ds) t
    first (inl x) = inl x
    first (inr x) = inr (record { before = 0; declared = d; at = refl; name = sym x })

    go : (is_named t (after_entry i T d) ≡ true) ⊎ Numbered ds t → (is_named t T ≡ true) ⊎ Numbered (d ∷ ds) t
    go (inl x) = first (in_table t i T d x)
    go (inr x) = inr (later x)

numbered-all : (t : List ℕ) (ds : List Declaration) → is_named t (type_entries ds) ≡ true → Numbered ds t
numbered-all t ds h = go (numbered-from t 1 [] ds h)
  where
    go : (false ≡ true) ⊎ Numbered ds t → Numbered ds t
    go (inl x) = absurd (let no : ◌≡◌ {A = ℕ} 0 1 = cc in omega arith)
    go (inr x) = x

-- a name that is not there stands for a flat type
unnamed-flat : (t : List ℕ) (T : List TypeEntry) → is_named t T ≡ false → leaves (type_meant T t) ≤ 64
unnamed-flat t [] h = omega arith
unnamed-flat t (type_entry v j τ ∷ T) h = go (same_name t v) (unnamed-flat t T) h
  where
    go : (b : Bool) → (is_named t T ≡ false → leaves (type_meant T t) ≤ 64) → cond b true (is_named t T) ≡ false → leaves (cond b τ (type_meant T t)) ≤ 64
    go true f h = absurd (let no : ◌≡◌ {A = ℕ} 0 1 = cc in omega arith)
    go false f h = f h

same-found : {o : Option Declaration} {c d : Declaration} → o ≡ some c → o ≡ some d → c ≡ d
same-found p q = cc

module _ (ts : List Token) (d : Declaration) (ds : List Declaration) (w : List ℕ) (p : ℕ) (e : Expression)
    (f : FittingText ts (text d ds (identifier w p) e)) (ok : Passes (sheet_of_text (text d ds (identifier w p) e))) where
  abbrev A : List Declaration
  A = d ∷ ds

  abbrev M : List ℕ → Ty
  M t = type_meant (type_entries (d ∷ ds)) t

  abbrev sheet : List ℕ
  sheet = sheet_of_text (text d ds (identifier w p) e)

  stood : (k : ℕ) (c : Declaration) → declaration_at A (suc k) ≡ some c
      → StandsDeclared A (names-good d ds w p e f.good).0 (types-stand d ds w p e)
      ((Translation.kept).types_as_declared (text d ds (identifier w p) e) f.good) (suc k) c
      × (is_named (type_name_of c) (type_entries A) ≡ true)
  stood k c h =
      declared-stands A (names-good d ds w p e f.good).0 (types-stand d ds w p e)
      ((Translation.kept).types_as_declared (text d ds (identifier w p) e) f.good) k c h

  record-named : (t : List ℕ) → is_named t (type_entries A) ≡ true → (r : ℕ) × TypeRecord sheet r × (type_at sheet r ≡ M t)
  record-named t h =
      let n = numbered-all t A h in
      let r = record_of ts d ds w p e f (suc n.before) n.declared n.at in
      (suc n.before, r.0, r.1 ∙ ap (type_meant (type_entries A)) n.name)

  one_type : (t u : List ℕ) → is_named t (type_entries A) ≡ true → is_named u (type_entries A) ≡ true → M t ≡ M u → t ≡ u
  one_type t u h g same =
      let a = numbered-all t A h in
      let b = numbered-all u A g in
      let r = record_of ts d ds w p e f (suc a.before) a.declared a.at in
      let q = record_of ts d ds w p e f (suc b.before) b.declared b.at in
      let ea : type_at sheet (suc a.before) ≡ M t = r.1 ∙ ap (type_meant (type_entries A)) a.name in
      let eb : type_at sheet (suc b.before) ≡ M u = q.1 ∙ ap (type_meant (type_entries A)) b.name in
      let n = same-type-same-record (written ok) (types-fit ok) (suc a.before) (suc b.before) r.0 q.0 (ea ∙ same ∙ sym eb) in
      let c : a.declared ≡ b.declared = same-found a.at (ap (declaration_at A) n ∙ b.at) in
      sym a.name ∙ ap type_name_of c ∙ b.name

  small-type : (t : List ℕ) → leaves (M t) ≤ 64
  small-type t = go (is_named t (type_entries A)) refl
    where
      sized : (τ : Ty) (r : ℕ) → TypeRecord sheet r → type_at sheet r ≡ τ → leaves τ ≤ 64
      sized (Flat i n) r x e = omega arith
      sized (TyTuple σ ρ) r x e =
          let k = (pair-record (written ok) r σ ρ x e).0 in
          let h = (types-fit ok).small r x.there k in
          subst (λ τ. leaves τ ≤ 64) e h

      go : (b : Bool) → is_named t (type_entries A) ≡ b → leaves (M t) ≤ 64
      go true h = let r = record-named t h in sized (M t) r.0 r.1 r.2
      go false h = unnamed-flat t (type_entries A) h

  known : TypesKnown A
  known =
      record {
        good = (names-good d ds w p e f.good).0;
        one = one_type;
        small = small-type;
        flats = λ k n c cs h. (stood k (Constructors n c cs) h).0;
        pairs = λ k n a b h. let x = stood k (PairOf n a b) h in (x.0.0, x.0.1, x.0.2, x.1);
        numbered = λ t h. let n = numbered-all t A h in (n.before, n.declared, n.at, n.name);
      }

  pair-declared : (t u v : List ℕ) → PairDeclared A t u v → DeclaredIn (text d ds (identifier w p) e) (TyTuple (M u) (M v))
  pair-declared t u v x =
      let y = pair-at x in
      record {
        number = suc y.0;
        declared = PairOf (identifier t y.1) (identifier u y.2) (identifier v y.3);
        at = y.4;
        type = (pair-means A known x).0;
      }

  of-names : (u v : List ℕ) → is_named u (type_entries A) ≡ true → is_named v (type_entries A) ≡ true
      → DeclaredIn (text d ds (identifier w p) e) (TyTuple (M u) (M v)) → (t : List ℕ) × PairDeclared A t u v
  of-names u v hu hv x = go x.number x.declared x.at x.type
    where
      go : (i : ℕ) (c : Declaration) → declaration_at A i ≡ some c → M (type_name_of c) ≡ TyTuple (M u) (M v) → (t : List ℕ) × PairDeclared A t u v
      go zero c at same = absurd (let no : ◌≡◌ {A = ℕ} 0 1 = cc in omega arith)
      go (suc k) c at same =
          let q = parts-of A known (type_name_of c) (M u) (M v) (stood k c at).1 same in
          let a = one_type q.first u q.first-named hu q.first-is in
          let b = one_type q.second v q.second-named hv q.second_is in
          (type_name_of c, subst (λ z. PairDeclared A (type_name_of c) z v) a (subst (λ z. PairDeclared A (type_name_of c) q.first z) b q.declared))

  input-named : is_named w (type_entries A) ≡ true
  input-named =
      let t = text d ds (identifier w p) e in
      let names = (pass-both (name_checks t) (constants_of_text t) f.good).0 in
      let D = after_all at_first A in
      type-in-table A known w (passes (pass-both (declarations_checks at_first A) (is_one type_role D (identifier w p) ∷ expression_checks D [] e) names).1)

  constants : AllPass (constant_checks A e)
  constants =
      let t = text d ds (identifier w p) e in (pass-both (name_checks t) (constants_of_text t) f.good).1

  by-distances : (τ : ℕ) → NameTypedText (text d ds (identifier w p) e) τ → TypedText (text d ds (identifier w p) e) τ
  by-distances τ (name_typed_text {c = c} at y) =
      record {
        declared = c;
        at = at;
        typed =
            (name-sound A known (DeclaredIn (text d ds (identifier w p) e)) pair-declared of-names y
            (names-good d ds w p e f.good).1 (scope-input input-named)).0;
      }

  by_names : (τ : ℕ) → TypedText (text d ds (identifier w p) e) τ → NameTypedText (text d ds (identifier w p) e) τ
  by_names τ x =
      let y =
      name-found A known (DeclaredIn (text d ds (identifier w p) e)) pair-declared of-names e (names-good d ds w p e f.good).1 constants
      (scope-input input-named) x.typed in
      name_typed_text x.at
      (subst (NameTyped A (typed_name input w ∷ []) e) (one_type y.type (type_name_of x.declared) y.known (own τ x.at) y.means) y.typed)
    where
      own : (i : ℕ) {c : Declaration} → declaration_at A i ≡ some c → is_named (type_name_of c) (type_entries A) ≡ true
      own zero h = absurd (let no : ◌≡◌ {A = ℕ} 0 1 = cc in omega arith)
      own (suc k) {c} h = (stood k c h).1

pub accepted_exactly : AcceptedExactly
accepted_exactly ts (text d ds (identifier w p) e) f τ = (
  λ a. let x = from-accepted ts d ds w p e f τ a in
      (x.0, x.1, x.2, by_names ts d ds w p e f (passing ts d ds w p e f x.0 x.1 x.2) τ x.3),
  λ b. to-accepted ts d ds w p e f τ b.0 b.1 b.2 (by-distances ts d ds w p e f (passing ts d ds w p e f b.0 b.1 b.2) τ b.3),
)

pub answered_seven : AnsweredSeven
answered_seven ts (text d ds (identifier w p) e) f =
    let t = text d ds (identifier w p) e in
    let x = seven (searched ts d ds w p e f) (first_too_deep (text_expressions t)) (deep-as ts d ds w p e f.read f.good) in (
      λ a. let b = x.0 a in (b.0, b.1, b.2, λ τ y. b.3 τ ((accepted_exactly ts t f τ).1 (b.0, b.1, b.2, y))),
      λ b. x.1 (b.0, b.1, b.2, λ τ y. b.3 τ ((accepted_exactly ts t f τ).0 y).3),
    )
