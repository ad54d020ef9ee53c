-- A text has one reading. An expression is brought into a form in which the indices follow it from left to right (`Suffixed`): two such
-- derivations of one list of tokens agree where neither goes on with `[`.
-- Assumes nothing.
use Prim.Native.Nat.{ℕ, ◌<◌}
use native.Mathlib.Omega.{arith}
use mathlib.Core.Path.{◌≡◌, refl, sym, ap, ap₂, subst, subst₂}
use mathlib.Core.List.{List, ◌∷◌}
use Rattle.grammar.specs.Tokens.{Token, keyword, symbol, name_token, LET, INIT, REC, IF, MATCHES, THEN, ELSE, DELAY, IN}
use Rattle.grammar.specs.Tokens.{opens, closes, comma, equals, query, index_opens, index_closes, one, two}
use Rattle.grammar.specs.Source.{identifier, Declaration, SourceConstant, SourcePattern, Text, text}
use Rattle.grammar.specs.Source.{Expression, NameUse, UndefinedOf, PairExpression, FirstOf, SecondOf, LetExpression, LetRecExpression, IfExpression, DelayExpression}
use Rattle.grammar.specs.Grammar.{ReadsMore, ReadsConstant, ReadsPattern, ReadsText, reads_text}
use Rattle.grammar.specs.Grammar.{ReadsExpression, reads_named, reads_undefined_of, reads_pair, reads_first, reads_second, reads_let}
use Rattle.grammar.specs.Grammar.{reads_let_rec, reads_if, reads_delay}
use Rattle.grammar.proofs.OnePattern.{tail, leading, SameReading, one-declaration, one_list, one-constant, one-pattern, moved-pattern}

-- the indices after an expression
data Indices : Expression → List Token → Expression → List Token → Type 0 where
  no_index : {e : Expression} {r : List Token} → Indices e r e r
  then-first : {p q s : ℕ} {e f : Expression} {a r : List Token}
      → Indices (FirstOf e) a f r → Indices e (symbol index_opens p ∷ symbol one q ∷ symbol index_closes s ∷ a) f r
  then-second : {p q s : ℕ} {e f : Expression} {a r : List Token}
      → Indices (SecondOf e) a f r → Indices e (symbol index_opens p ∷ symbol two q ∷ symbol index_closes s ∷ a) f r

data Suffixed : List Token → Expression → List Token → Type 0 where
  s-named : {p : ℕ} {w : List ℕ} {a r : List Token} {e : Expression}
      → Indices (NameUse (identifier w p)) a e r → Suffixed (name_token w p ∷ a) e r
  s-undefined : {p q : ℕ} {w : List ℕ} {a r : List Token} {e : Expression}
      → Indices (UndefinedOf (identifier w q)) a e r → Suffixed (symbol query p ∷ name_token w q ∷ a) e r
  s_pair : {p q s : ℕ} {a b c r : List Token} {e f g : Expression}
      → Suffixed a e (symbol comma q ∷ b) → Suffixed b f (symbol closes s ∷ c) → Indices (PairExpression e f) c g r
      → Suffixed (symbol opens p ∷ a) g r
  s-let : {p q s t u v : ℕ} {w : List ℕ} {a b c r : List Token} {e f g : Expression}
      → Suffixed a e (keyword IN u ∷ b) → Suffixed b f (symbol closes v ∷ c) → Indices (LetExpression (identifier w s) e f) c g r
      → Suffixed (symbol opens p ∷ keyword LET q ∷ name_token w s ∷ symbol equals t ∷ a) g r
  s-let-rec : {p q s t u v x y z o : ℕ} {m n : List ℕ} {a b c r : List Token} {e f g : Expression}
      → Suffixed a e (keyword IN z ∷ b) → Suffixed b f (symbol closes o ∷ c) → Indices (LetRecExpression (identifier m u) (identifier n x) e f) c g r
      → Suffixed
      (symbol opens p ∷ keyword LET q ∷ keyword INIT s ∷ symbol query t ∷ name_token m u ∷ keyword REC v ∷ name_token n x ∷ symbol equals y ∷ a) g r
  s_if : {p q s t u v : ℕ} {a b c d k r : List Token} {e f g h : Expression} {m : SourcePattern}
      → Suffixed a e (keyword MATCHES s ∷ b) → ReadsPattern b m (keyword THEN t ∷ c)
      → Suffixed c f (keyword ELSE u ∷ d) → Suffixed d g (symbol closes v ∷ k) → Indices (IfExpression e m f g) k h r
      → Suffixed (symbol opens p ∷ keyword IF q ∷ a) h r
  s-delay : {p q s t u v : ℕ} {a b k r : List Token} {c : SourceConstant} {e g : Expression}
      → ReadsConstant a c (symbol comma t ∷ b) → Suffixed b e (symbol closes u ∷ symbol closes v ∷ k) → Indices (DelayExpression c e) k g r
      → Suffixed (symbol opens p ∷ keyword DELAY q ∷ symbol opens s ∷ a) g r

-- one index more at the end
more-first : {p q s : ℕ} {e f : Expression} {a r : List Token}
    → Indices e a f (symbol index_opens p ∷ symbol one q ∷ symbol index_closes s ∷ r) → Indices e a (FirstOf f) r
more-first no_index = then-first no_index
more-first (then-first h) = then-first (more-first h)
more-first (then-second h) = then-second (more-first h)

more-second : {p q s : ℕ} {e f : Expression} {a r : List Token}
    → Indices e a f (symbol index_opens p ∷ symbol two q ∷ symbol index_closes s ∷ r) → Indices e a (SecondOf f) r
more-second no_index = then-second no_index
more-second (then-first h) = then-first (more-second h)
more-second (then-second h) = then-second (more-second h)

suffix-first : {p q s : ℕ} {e : Expression} {a r : List Token}
    → Suffixed a e (symbol index_opens p ∷ symbol one q ∷ symbol index_closes s ∷ r) → Suffixed a (FirstOf e) r
suffix-first (s-named i) = s-named (more-first i)
suffix-first (s-undefined i) = s-undefined (more-first i)
suffix-first (s_pair h k i) = s_pair h k (more-first i)
suffix-first (s-let h k i) = s-let h k (more-first i)
suffix-first (s-let-rec h k i) = s-let-rec h k (more-first i)
suffix-first (s_if h m k l i) = s_if h m k l (more-first i)
suffix-first (s-delay c h i) = s-delay c h (more-first i)

suffix-second : {p q s : ℕ} {e : Expression} {a r : List Token}
    → Suffixed a e (symbol index_opens p ∷ symbol two q ∷ symbol index_closes s ∷ r) → Suffixed a (SecondOf e) r
suffix-second (s-named i) = s-named (more-second i)
suffix-second (s-undefined i) = s-undefined (more-second i)
suffix-second (s_pair h k i) = s_pair h k (more-second i)
suffix-second (s-let h k i) = s-let h k (more-second i)
suffix-second (s-let-rec h k i) = s-let-rec h k (more-second i)
suffix-second (s_if h m k l i) = s_if h m k l (more-second i)
suffix-second (s-delay c h i) = s-delay c h (more-second i)

suffixed : {a r : List Token} {e : Expression} → ReadsExpression a e r → Suffixed a e r
suffixed reads_named = s-named no_index
suffixed reads_undefined_of = s-undefined no_index
suffixed (reads_pair h k) = s_pair (suffixed h) (suffixed k) no_index
suffixed (reads_first h) = suffix-first (suffixed h)
suffixed (reads_second h) = suffix-second (suffixed h)
suffixed (reads_let h k) = s-let (suffixed h) (suffixed k) no_index
suffixed (reads_let_rec h k) = s-let-rec (suffixed h) (suffixed k) no_index
suffixed (reads_if h m k l) = s_if (suffixed h) m (suffixed k) (suffixed l) no_index
suffixed (reads_delay c h) = s-delay c (suffixed h) no_index

-- tokens that do not go on with `[`
abbrev Ended : List Token → Type 0
Ended r = leading r ≡ 91 → ⊥

one-indices : {e f g : Expression} {a r q : List Token} → Indices e a f r → Indices e a g q → Ended r → Ended q → SameReading f g r q
one-indices no_index no_index u v = (refl, refl)
one-indices no_index (then-first k) u v = absurd (u refl)
one-indices no_index (then-second k) u v = absurd (u refl)
one-indices (then-first h) no_index u v = absurd (v refl)
one-indices (then-second h) no_index u v = absurd (v refl)
one-indices (then-first h) (then-first k) u v = one-indices h k u v
one-indices (then-second h) (then-second k) u v = one-indices h k u v

-- the second of two, moved to where the first leaves off
moved : {a b r : List Token} {e : Expression} → a ≡ b → Suffixed b e r → Suffixed a e r
moved {r} {e} h s = subst (λ x. Suffixed x e r) (sym h) s

moved-indices : {a b r : List Token} {e f g : Expression} → e ≡ f → a ≡ b → Indices f b g r → Indices e a g r
moved-indices {r} {g} h k i = subst₂ (λ x y. Indices x y g r) (sym h) (sym k) i

-- no expression begins with a keyword
leads : {a r : List Token} {e : Expression} → Suffixed a e r → leading a < 128
leads (s-named i) = omega arith
leads (s-undefined i) = omega arith
leads (s_pair h k i) = omega arith
leads (s-let h k i) = omega arith
leads (s-let-rec h k i) = omega arith
leads (s_if h m k l i) = omega arith
leads (s-delay c h i) = omega arith

same_if : {e e' f f' g g' : Expression} {m m' : SourcePattern} → e ≡ e' → m ≡ m' → f ≡ f' → g ≡ g' → IfExpression e m f g ≡ IfExpression e' m' f' g'
same_if h i j k = cc

one-suffixed : {a r q : List Token} {e f : Expression} → Suffixed a e r → Suffixed a f q → Ended r → Ended q → SameReading e f r q
one-suffixed (s-named i) (s-named j) u v = one-indices i j u v
one-suffixed (s-undefined i) (s-undefined j) u v = one-indices i j u v
one-suffixed (s_pair h k i) (s_pair h' k' i') u v =
    let x = one-suffixed h h' (λ z. omega arith) (λ z. omega arith) in
    let y = one-suffixed k (moved (ap tail x.1) k') (λ z. omega arith) (λ z. omega arith) in
    one-indices i (moved-indices (ap₂ PairExpression x.0 y.0) (ap tail y.1) i') u v
one-suffixed (s-let {s} {w} h k i) (s-let h' k' i') u v =
    let x = one-suffixed h h' (λ z. omega arith) (λ z. omega arith) in
    let y = one-suffixed k (moved (ap tail x.1) k') (λ z. omega arith) (λ z. omega arith) in
    one-indices i (moved-indices (ap₂ (LetExpression (identifier w s)) x.0 y.0) (ap tail y.1) i') u v
one-suffixed (s-let-rec {u = p} {x = q} {m} {n} h k i) (s-let-rec h' k' i') u v =
    let x = one-suffixed h h' (λ z. omega arith) (λ z. omega arith) in
    let y = one-suffixed k (moved (ap tail x.1) k') (λ z. omega arith) (λ z. omega arith) in
    one-indices i (moved-indices (ap₂ (LetRecExpression (identifier m p) (identifier n q)) x.0 y.0) (ap tail y.1) i') u v
one-suffixed (s_if h m k l i) (s_if h' m' k' l' i') u v =
    let x = one-suffixed h h' (λ z. omega arith) (λ z. omega arith) in
    let n = one-pattern m (moved-pattern (ap tail x.1) m') (λ z. omega arith) (λ z. omega arith) in
    let y = one-suffixed k (moved (ap tail n.1) k') (λ z. omega arith) (λ z. omega arith) in
    let z = one-suffixed l (moved (ap tail y.1) l') (λ z. omega arith) (λ z. omega arith) in
    one-indices i (moved-indices (same_if x.0 n.0 y.0 z.0) (ap tail z.1) i') u v
one-suffixed (s-delay c h i) (s-delay c' h' i') u v =
    let x = one-constant c c' in
    let y = one-suffixed h (moved (ap tail x.1) h') (λ z. omega arith) (λ z. omega arith) in
    one-indices i (moved-indices (ap₂ DelayExpression x.0 y.0) (ap (λ l. tail (tail l)) y.1) i') u v
one-suffixed (s_pair h k i) (s-let h' k' i') u v = absurd (omega (arith, leads h))
one-suffixed (s_pair h k i) (s-let-rec h' k' i') u v = absurd (omega (arith, leads h))
one-suffixed (s_pair h k i) (s_if h' m' k' l' i') u v = absurd (omega (arith, leads h))
one-suffixed (s_pair h k i) (s-delay c' h' i') u v = absurd (omega (arith, leads h))
one-suffixed (s-let h k i) (s_pair h' k' i') u v = absurd (omega (arith, leads h'))
one-suffixed (s-let-rec h k i) (s_pair h' k' i') u v = absurd (omega (arith, leads h'))
one-suffixed (s_if h m k l i) (s_pair h' k' i') u v = absurd (omega (arith, leads h'))
one-suffixed (s-delay c h i) (s_pair h' k' i') u v = absurd (omega (arith, leads h'))

same_text : {d d' : Declaration} {ds ds' : List Declaration} {v v' : List ℕ} {p p' : ℕ} {c c' : List Token} {e e' : Expression}
    → d ≡ d' → ds ≡ ds' → name_token v p ∷ c ≡ name_token v' p' ∷ c' → e ≡ e' → text d ds (identifier v p) e ≡ text d' ds' (identifier v' p') e'
same_text {v} {v'} {p} {p'} f g h k = let i : v ≡ v' = cc in let j : p ≡ p' = cc in cc

pub one_reading : {ts : List Token} {t u : Text} → ReadsText ts t → ReadsText ts u → t ≡ u
one_reading (reads_text d m e) (reads_text {p = p'} {w = w'} {c = c'} {ds = ds'} d' m' e') =
    let x = one-declaration d d' in
    let y = one_list m (subst (λ z. ReadsMore z ds' (name_token w' p' ∷ c')) (sym x.1) m') in
    let z = one-suffixed (suffixed e) (moved (ap tail y.1) (suffixed e')) (λ n. omega arith) (λ n. omega arith) in
    same_text x.0 y.0 y.1 z.0
