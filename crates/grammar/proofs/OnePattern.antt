-- Tokens have one reading as declarations, as a constant and as a pattern: by induction on two derivations at once.
-- Assumes nothing.
use Prim.Native.Nat.{ℕ}
use native.Mathlib.Omega.{arith}
use mathlib.Core.Path.{◌≡◌, refl, sym, ap, ap₂, subst}
use mathlib.Core.List.{List, [], ◌∷◌}
use Rattle.grammar.specs.Tokens.{Token, keyword, symbol, INPUT}
use Rattle.grammar.specs.Tokens.{closes}
use Rattle.grammar.specs.Source.{Identifier, identifier, Declaration, Constructors, SourceConstant, ConstantPair, SourcePattern, Alone, PatternPair, Either}
use Rattle.grammar.specs.Grammar.{ReadsOthers, no_other, one_other, ReadsDeclaration, reads_constructors, reads_pair_of}
use Rattle.grammar.specs.Grammar.{ReadsMore, no_more, one_more, ReadsConstant, reads_constructor, reads_undefined, reads_both}
use Rattle.grammar.specs.Grammar.{ReadsPattern, reads_alone, reads_parts, reads_alone_or, reads_parts_or}
use Rattle.grammar.specs.Machine.{lead_of, lead_number}

abbrev pub tail : List Token → List Token
tail [] = []
tail (t ∷ ts) = ts

-- the number of the first token
abbrev pub leading : List Token → ℕ
leading [] = 0
leading (t ∷ ts) = lead_number (lead_of t)

-- one result and one rest
abbrev pub SameReading : {A : Type 0} → A → A → List Token → List Token → Type 0
SameReading x y r q = (x ≡ y) × (r ≡ q)

one-others : {a r q : List Token} {cs ds : List Identifier} → ReadsOthers a cs r → ReadsOthers a ds q → SameReading cs ds r q
one-others no_other no_other = (refl, refl)
one-others (one_other {q = p} {w} h) (one_other k) = let e = one-others h k in (ap (λ l. identifier w p ∷ l) e.0, e.1)

pub one-declaration : {a r q : List Token} {d e : Declaration} → ReadsDeclaration a d r → ReadsDeclaration a e q → SameReading d e r q
one-declaration (reads_constructors {q = p} {t} {v} {w} h) (reads_constructors k) =
    let e = one-others h k in (ap (λ l. Constructors (identifier v p) (identifier w t) l) e.0, e.1)
one-declaration reads_pair_of reads_pair_of = (refl, refl)

declaration-leads : {a r : List Token} {d : Declaration} → ReadsDeclaration a d r → leading a ≡ 128
declaration-leads (reads_constructors h) = refl
declaration-leads reads_pair_of = refl

no-declaration : {p : ℕ} {a r : List Token} {d : Declaration} → ReadsDeclaration (keyword INPUT p ∷ a) d r → ⊥
no-declaration h = let e : ◌≡◌ {A = ℕ} 130 128 = declaration-leads h in omega arith

pub one_list : {a r q : List Token} {ds es : List Declaration} → ReadsMore a ds r → ReadsMore a es q → SameReading ds es r q
one_list no_more no_more = (refl, refl)
one_list no_more (one_more h k) = absurd (no-declaration h)
one_list (one_more h k) no_more = absurd (no-declaration h)
one_list (one_more h k) (one_more {r = r'} {ds = ds'} h' k') =
    let e = one-declaration h h' in
    let f = one_list k (subst (λ x. ReadsMore x ds' r') (sym e.1) k') in
    (ap₂ ◌∷◌ e.0 f.0, f.1)

pub one-constant : {a r q : List Token} {c d : SourceConstant} → ReadsConstant a c r → ReadsConstant a d q → SameReading c d r q
one-constant reads_constructor reads_constructor = (refl, refl)
one-constant reads_undefined reads_undefined = (refl, refl)
one-constant (reads_both {p} h k) (reads_both {s = s'} {r = r'} {d = d'} h' k') =
    let e = one-constant h h' in
    let f = one-constant {q = symbol closes s' ∷ r'} k (subst (λ x. ReadsConstant x d' (symbol closes s' ∷ r')) (sym (ap tail e.1)) k') in
    (ap₂ (ConstantPair p) e.0 f.0, ap tail f.1)

-- tokens that do not go on with a bar
abbrev pub Unbarred : List Token → Type 0
Unbarred r = leading r ≡ 124 → ⊥

-- the second of two readings, moved to the rest that the first leaves
pub moved-pattern : {a b r : List Token} {m : SourcePattern} → a ≡ b → ReadsPattern b m r → ReadsPattern a m r
moved-pattern {r} {m} e h = subst (λ x. ReadsPattern x m r) (sym e) h

pub one-pattern : {a r q : List Token} {m n : SourcePattern} → ReadsPattern a m r → ReadsPattern a n q → Unbarred r → Unbarred q → SameReading m n r q
one-pattern reads_alone reads_alone u v = (refl, refl)
one-pattern reads_alone (reads_alone_or h) u v = absurd (u refl)
one-pattern (reads_alone_or h) reads_alone u v = absurd (v refl)
one-pattern (reads_alone_or {p} {w} h) (reads_alone_or k) u v = let e = one-pattern h k u v in (ap (Either (Alone (identifier w p))) e.0, e.1)
one-pattern (reads_parts h k) (reads_parts h' k') u v =
    let e = one-pattern h h' (λ z. omega arith) (λ z. omega arith) in
    let f = one-pattern k (moved-pattern (ap tail e.1) k') (λ z. omega arith) (λ z. omega arith) in
    (ap₂ PatternPair e.0 f.0, ap tail f.1)
one-pattern (reads_parts h k) (reads_parts_or h' k' l') u v =
    let e = one-pattern h h' (λ z. omega arith) (λ z. omega arith) in
    let f = one-pattern k (moved-pattern (ap tail e.1) k') (λ z. omega arith) (λ z. omega arith) in
    absurd (u (ap (λ x. leading (tail x)) f.1))
one-pattern (reads_parts_or h k l) (reads_parts h' k') u v =
    let e = one-pattern h h' (λ z. omega arith) (λ z. omega arith) in
    let f = one-pattern k (moved-pattern (ap tail e.1) k') (λ z. omega arith) (λ z. omega arith) in
    absurd (v (ap (λ x. leading (tail x)) (sym f.1)))
one-pattern (reads_parts_or h k l) (reads_parts_or h' k' l') u v =
    let e = one-pattern h h' (λ z. omega arith) (λ z. omega arith) in
    let f = one-pattern k (moved-pattern (ap tail e.1) k') (λ z. omega arith) (λ z. omega arith) in
    let g = one-pattern l (moved-pattern (ap (λ x. tail (tail x)) f.1) l') u v in
    (ap₂ Either (ap₂ PatternPair e.0 f.0) g.0, g.1)
