-- The grammar (docs/SHEETS.md, "Grammar"), one constructor a production, over placed tokens: `ReadsX ts x rest` says that ts begins with a
-- spelling of x and that rest is left. With {..} for none or more:
--
--     Text  = Decl {Decl} INPUT name Expr
--     Decl  = TYPE name = name {| name} IN   |   TYPE name = ( name , name ) IN
--     Expr  = name | ? name | ( Expr , Expr ) | Expr [ 1 ] | Expr [ 2 ] | ( LET name = Expr IN Expr )
--           | ( LET INIT ? name REC name = Expr IN Expr )
--           | ( IF Expr MATCHES Pat THEN Expr ELSE Expr ) | ( DELAY ( Const , Expr ) )
--     Const = name | ? name | ( Const , Const )
--     Pat   = Alt | Alt | Pat, with a bar between the two       Alt = name | ( Pat , Pat )
--
-- Brackets stand around each pair, LET, IF and DELAY, and never group. Whether a name is declared is no question of the grammar.
use Rattle.std.specs.Prelude.{ℕ, List, [], ◌∷◌}
use Rattle.grammar.specs.Tokens.{Token, keyword, symbol, name_token, TYPE, IN, INPUT, LET, INIT, REC, IF, MATCHES, THEN, ELSE, DELAY}
use Rattle.grammar.specs.Tokens.{opens, closes, comma, equals, bar, query, index_opens, index_closes, one, two}
use Rattle.grammar.specs.Source.{Identifier, identifier, Declaration, Constructors, PairOf, SourceConstant, OfConstructor, Undefined, ConstantPair}
use Rattle.grammar.specs.Source.{SourcePattern, Alone, PatternPair, Either, Text, text}
use Rattle.grammar.specs.Source.{Expression, NameUse, UndefinedOf, PairExpression, FirstOf, SecondOf, LetExpression, LetRecExpression, IfExpression, DelayExpression}

-- the constructors after the first, up to IN
pub data ReadsOthers : List Token → List Identifier → List Token → Type 0 where
  no_other : {p : ℕ} {r : List Token} → ReadsOthers (keyword IN p ∷ r) [] r
  one_other : {p q : ℕ} {w : List ℕ} {a r : List Token} {cs : List Identifier}
      → ReadsOthers a cs r → ReadsOthers (symbol bar p ∷ name_token w q ∷ a) (identifier w q ∷ cs) r

pub data ReadsDeclaration : List Token → Declaration → List Token → Type 0 where
  reads_constructors : {p q s t : ℕ} {v w : List ℕ} {a r : List Token} {cs : List Identifier}
      → ReadsOthers a cs r
      → ReadsDeclaration (keyword TYPE p ∷ name_token v q ∷ symbol equals s ∷ name_token w t ∷ a) (Constructors (identifier v q) (identifier w t) cs) r
  reads_pair_of : {p q s t u v x y z : ℕ} {m n o : List ℕ} {r : List Token}
      → ReadsDeclaration
      (keyword TYPE p ∷ name_token m q ∷ symbol equals s ∷ symbol opens t ∷ name_token n u ∷ symbol comma v ∷ name_token o x ∷ symbol closes y ∷ keyword IN z ∷ r)
      (PairOf (identifier m q) (identifier n u) (identifier o x)) r

pub data ReadsConstant : List Token → SourceConstant → List Token → Type 0 where
  reads_constructor : {p : ℕ} {w : List ℕ} {r : List Token} → ReadsConstant (name_token w p ∷ r) (OfConstructor (identifier w p)) r
  reads_undefined : {p q : ℕ} {w : List ℕ} {r : List Token} → ReadsConstant (symbol query p ∷ name_token w q ∷ r) (Undefined (identifier w q)) r
  reads_both : {p q s : ℕ} {a b r : List Token} {c d : SourceConstant}
      → ReadsConstant a c (symbol comma q ∷ b) → ReadsConstant b d (symbol closes s ∷ r)
      → ReadsConstant (symbol opens p ∷ a) (ConstantPair p c d) r

-- an alternative alone, or an alternative, a bar and a pattern
pub data ReadsPattern : List Token → SourcePattern → List Token → Type 0 where
  reads_alone : {p : ℕ} {w : List ℕ} {r : List Token} → ReadsPattern (name_token w p ∷ r) (Alone (identifier w p)) r
  reads_parts : {p q s : ℕ} {a b r : List Token} {m n : SourcePattern}
      → ReadsPattern a m (symbol comma q ∷ b) → ReadsPattern b n (symbol closes s ∷ r)
      → ReadsPattern (symbol opens p ∷ a) (PatternPair m n) r
  reads_alone_or : {p q : ℕ} {w : List ℕ} {a r : List Token} {o : SourcePattern}
      → ReadsPattern a o r → ReadsPattern (name_token w p ∷ symbol bar q ∷ a) (Either (Alone (identifier w p)) o) r
  reads_parts_or : {p q s t : ℕ} {a b c r : List Token} {m n o : SourcePattern}
      → ReadsPattern a m (symbol comma q ∷ b) → ReadsPattern b n (symbol closes s ∷ symbol bar t ∷ c) → ReadsPattern c o r
      → ReadsPattern (symbol opens p ∷ a) (Either (PatternPair m n) o) r

pub data ReadsExpression : List Token → Expression → List Token → Type 0 where
  reads_named : {p : ℕ} {w : List ℕ} {r : List Token} → ReadsExpression (name_token w p ∷ r) (NameUse (identifier w p)) r
  reads_undefined_of : {p q : ℕ} {w : List ℕ} {r : List Token} → ReadsExpression (symbol query p ∷ name_token w q ∷ r) (UndefinedOf (identifier w q)) r
  reads_pair : {p q s : ℕ} {a b r : List Token} {e f : Expression}
      → ReadsExpression a e (symbol comma q ∷ b) → ReadsExpression b f (symbol closes s ∷ r)
      → ReadsExpression (symbol opens p ∷ a) (PairExpression e f) r
  reads_first : {p q s : ℕ} {a r : List Token} {e : Expression}
      → ReadsExpression a e (symbol index_opens p ∷ symbol one q ∷ symbol index_closes s ∷ r) → ReadsExpression a (FirstOf e) r
  reads_second : {p q s : ℕ} {a r : List Token} {e : Expression}
      → ReadsExpression a e (symbol index_opens p ∷ symbol two q ∷ symbol index_closes s ∷ r) → ReadsExpression a (SecondOf e) r
  reads_let : {p q s t u v : ℕ} {w : List ℕ} {a b r : List Token} {e f : Expression}
      → ReadsExpression a e (keyword IN u ∷ b) → ReadsExpression b f (symbol closes v ∷ r)
      → ReadsExpression (symbol opens p ∷ keyword LET q ∷ name_token w s ∷ symbol equals t ∷ a) (LetExpression (identifier w s) e f) r
  reads_let_rec : {p q s t u v x y z o : ℕ} {m n : List ℕ} {a b r : List Token} {e f : Expression}
      → ReadsExpression a e (keyword IN z ∷ b) → ReadsExpression b f (symbol closes o ∷ r)
      → ReadsExpression
      (symbol opens p ∷ keyword LET q ∷ keyword INIT s ∷ symbol query t ∷ name_token m u ∷ keyword REC v ∷ name_token n x ∷ symbol equals y ∷ a)
      (LetRecExpression (identifier m u) (identifier n x) e f) r
  reads_if : {p q s t u v : ℕ} {a b c d r : List Token} {e f g : Expression} {m : SourcePattern}
      → ReadsExpression a e (keyword MATCHES s ∷ b) → ReadsPattern b m (keyword THEN t ∷ c)
      → ReadsExpression c f (keyword ELSE u ∷ d) → ReadsExpression d g (symbol closes v ∷ r)
      → ReadsExpression (symbol opens p ∷ keyword IF q ∷ a) (IfExpression e m f g) r
  reads_delay : {p q s t u v : ℕ} {a b r : List Token} {c : SourceConstant} {e : Expression}
      → ReadsConstant a c (symbol comma t ∷ b) → ReadsExpression b e (symbol closes u ∷ symbol closes v ∷ r)
      → ReadsExpression (symbol opens p ∷ keyword DELAY q ∷ symbol opens s ∷ a) (DelayExpression c e) r

-- the declarations after the first, up to INPUT
pub data ReadsMore : List Token → List Declaration → List Token → Type 0 where
  no_more : {p : ℕ} {r : List Token} → ReadsMore (keyword INPUT p ∷ r) [] r
  one_more : {a b r : List Token} {d : Declaration} {ds : List Declaration}
      → ReadsDeclaration a d b → ReadsMore b ds r → ReadsMore a (d ∷ ds) r

pub data ReadsText : List Token → Text → Type 0 where
  reads_text : {p : ℕ} {w : List ℕ} {a b c : List Token} {d : Declaration} {ds : List Declaration} {e : Expression}
      → ReadsDeclaration a d b → ReadsMore b ds (name_token w p ∷ c) → ReadsExpression c e []
      → ReadsText a (text d ds (identifier w p) e)
