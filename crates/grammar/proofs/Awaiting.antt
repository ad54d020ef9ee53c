-- What the stack of the machine says of the tokens read so far: the states that wait on it, each in a production that is read up to a part
-- that it awaits. ts are the tokens of the whole text.
-- Assumes nothing.
use Prim.Native.Nat.{ℕ}
use mathlib.Core.List.{List, [], ◌∷◌}
use Rattle.grammar.specs.Tokens.{Token, keyword, symbol, name_token, IN, LET, INIT, REC, IF, MATCHES, THEN, ELSE, DELAY}
use Rattle.grammar.specs.Tokens.{opens, closes, comma, equals, bar, query}
use Rattle.grammar.specs.Source.{Declaration, SourceConstant, SourcePattern, Expression, Text, Identifier}
use Rattle.grammar.specs.Grammar.{ReadsOthers, ReadsDeclaration, ReadsMore, ReadsText}
use Rattle.grammar.specs.Grammar.{ReadsConstant, ReadsExpression}
use Rattle.grammar.specs.Grammar.{ReadsPattern, reads_alone, reads_parts, reads_alone_or, reads_parts_or}
use Rattle.grammar.specs.Rows.{State, in_pair_first, in_pair_second, in_let_bound, in_let_body, in_rec_bound, in_rec_body, in_tested, in_matched}
use Rattle.grammar.specs.Rows.{in_then, in_else, in_pattern_first, in_pattern_second, in_constant_first, in_constant_second, in_delay_constant, in_delayed}

-- an expression up to the end completes the text
abbrev pub AwaitsBody : List Token → List Token → Type 0
AwaitsBody ts a = (e : Expression) → ReadsExpression a e [] → (t : Text) × ReadsText ts t

-- more declarations, INPUT and a name bring an expression
abbrev pub AwaitsDeclared : List Token → List Token → Type 0
AwaitsDeclared ts a = (ds : List Declaration) (w : List ℕ) (p : ℕ) (c : List Token) → ReadsMore a ds (name_token w p ∷ c) → AwaitsBody ts c

-- so does a declaration first
abbrev pub AwaitsDeclaration : List Token → List Token → Type 0
AwaitsDeclaration ts a = (d : Declaration) (r : List Token) → ReadsDeclaration a d r → AwaitsDeclared ts r

-- so do the further constructors of one
abbrev pub Constructs : List Token → List Token → Type 0
Constructs ts a = (cs : List Identifier) (r : List Token) → ReadsOthers a cs r → AwaitsDeclared ts r

-- a pattern that begins at s has been read up to a, where its last alternatives are awaited
abbrev pub AwaitsBegun : List Token → List Token → Type 0
AwaitsBegun s a = (m : SourcePattern) (r : List Token) → ReadsPattern a m r → (n : SourcePattern) × ReadsPattern s n r

pub data AwaitsAlternative : List Token → List Token → Type 0 where
  alternative-name : {p : ℕ} {w : List ℕ} {r : List Token} → AwaitsAlternative (name_token w p ∷ r) r
  alternative-parts : {p q s : ℕ} {a b r : List Token} {m n : SourcePattern}
      → ReadsPattern a m (symbol comma q ∷ b) → ReadsPattern b n (symbol closes s ∷ r) → AwaitsAlternative (symbol opens p ∷ a) r

pub alone : {a r : List Token} → AwaitsAlternative a r → (n : SourcePattern) × ReadsPattern a n r
alone alternative-name = (_, reads_alone)
alone (alternative-parts h k) = (_, reads_parts h k)

pub barred : {a b r : List Token} {q : ℕ} {m : SourcePattern}
    → AwaitsAlternative a (symbol bar q ∷ b) → ReadsPattern b m r → (n : SourcePattern) × ReadsPattern a n r
barred alternative-name l = (_, reads_alone_or l)
barred (alternative-parts h k) l = (_, reads_parts_or h k l)

-- an expression is awaited
pub data Awaits (ts : List Token) : List State → List Token → Type 0 where
  await-end : {a : List Token} → AwaitsBody ts a → Awaits ts [] a
  await-pair-first : {K : List State} {p : ℕ} {a : List Token} → Awaits ts K (symbol opens p ∷ a) → Awaits ts (in_pair_first ∷ K) a
  await-pair-second : {K : List State} {p q : ℕ} {a b : List Token} {e : Expression}
      → Awaits ts K (symbol opens p ∷ a) → ReadsExpression a e (symbol comma q ∷ b) → Awaits ts (in_pair_second ∷ K) b
  await-let-bound : {K : List State} {p q s t : ℕ} {w : List ℕ} {a : List Token}
      → Awaits ts K (symbol opens p ∷ keyword LET q ∷ name_token w s ∷ symbol equals t ∷ a) → Awaits ts (in_let_bound ∷ K) a
  await-let-body : {K : List State} {p q s t u : ℕ} {w : List ℕ} {a b : List Token} {e : Expression}
      → Awaits ts K (symbol opens p ∷ keyword LET q ∷ name_token w s ∷ symbol equals t ∷ a)
      → ReadsExpression a e (keyword IN u ∷ b) → Awaits ts (in_let_body ∷ K) b
  await-rec-bound : {K : List State} {p q s t u v x y : ℕ} {m n : List ℕ} {a : List Token}
      → Awaits ts K
      (symbol opens p ∷ keyword LET q ∷ keyword INIT s ∷ symbol query t ∷ name_token m u ∷ keyword REC v ∷ name_token n x ∷ symbol equals y ∷ a)
      → Awaits ts (in_rec_bound ∷ K) a
  await-rec-body : {K : List State} {p q s t u v x y z : ℕ} {m n : List ℕ} {a b : List Token} {e : Expression}
      → Awaits ts K
      (symbol opens p ∷ keyword LET q ∷ keyword INIT s ∷ symbol query t ∷ name_token m u ∷ keyword REC v ∷ name_token n x ∷ symbol equals y ∷ a)
      → ReadsExpression a e (keyword IN z ∷ b) → Awaits ts (in_rec_body ∷ K) b
  await-tested : {K : List State} {p q : ℕ} {a : List Token}
      → Awaits ts K (symbol opens p ∷ keyword IF q ∷ a) → Awaits ts (in_tested ∷ K) a
  await-then : {K : List State} {p q s t : ℕ} {a b c : List Token} {e : Expression} {m : SourcePattern}
      → Awaits ts K (symbol opens p ∷ keyword IF q ∷ a)
      → ReadsExpression a e (keyword MATCHES s ∷ b) → ReadsPattern b m (keyword THEN t ∷ c) → Awaits ts (in_then ∷ K) c
  await-else : {K : List State} {p q s t u : ℕ} {a b c d : List Token} {e f : Expression} {m : SourcePattern}
      → Awaits ts K (symbol opens p ∷ keyword IF q ∷ a)
      → ReadsExpression a e (keyword MATCHES s ∷ b) → ReadsPattern b m (keyword THEN t ∷ c) → ReadsExpression c f (keyword ELSE u ∷ d)
      → Awaits ts (in_else ∷ K) d
  await-delayed : {K : List State} {p q s t : ℕ} {a b : List Token} {c : SourceConstant}
      → Awaits ts K (symbol opens p ∷ keyword DELAY q ∷ symbol opens s ∷ a) → ReadsConstant a c (symbol comma t ∷ b)
      → Awaits ts (in_delayed ∷ K) b

-- an alternative of a pattern is awaited
pub data AwaitsPattern (ts : List Token) : List State → List Token → Type 0 where
  await-matched : {K : List State} {p q s : ℕ} {a b c : List Token} {e : Expression}
      → Awaits ts K (symbol opens p ∷ keyword IF q ∷ a) → ReadsExpression a e (keyword MATCHES s ∷ b) → AwaitsBegun b c
      → AwaitsPattern ts (in_matched ∷ K) c
  await-pattern-first : {K : List State} {p : ℕ} {a c : List Token}
      → AwaitsPattern ts K (symbol opens p ∷ a) → AwaitsBegun a c → AwaitsPattern ts (in_pattern_first ∷ K) c
  await-pattern-second : {K : List State} {p q : ℕ} {a b c : List Token} {m : SourcePattern}
      → AwaitsPattern ts K (symbol opens p ∷ a) → ReadsPattern a m (symbol comma q ∷ b) → AwaitsBegun b c
      → AwaitsPattern ts (in_pattern_second ∷ K) c

-- a constant is awaited
pub data AwaitsConstant (ts : List Token) : List State → List Token → Type 0 where
  await-delay-constant : {K : List State} {p q s : ℕ} {a : List Token}
      → Awaits ts K (symbol opens p ∷ keyword DELAY q ∷ symbol opens s ∷ a) → AwaitsConstant ts (in_delay_constant ∷ K) a
  await-constant-first : {K : List State} {p : ℕ} {a : List Token}
      → AwaitsConstant ts K (symbol opens p ∷ a) → AwaitsConstant ts (in_constant_first ∷ K) a
  await-constant-second : {K : List State} {p q : ℕ} {a b : List Token} {c : SourceConstant}
      → AwaitsConstant ts K (symbol opens p ∷ a) → ReadsConstant a c (symbol comma q ∷ b) → AwaitsConstant ts (in_constant_second ∷ K) b

-- the part that a state waited for has been read
pub data After (ts : List Token) : State → List State → List Token → Type 0 where
  awaits-after : {q : State} {K : List State} {a b : List Token} {e : Expression}
      → Awaits ts (q ∷ K) a → ReadsExpression a e b → After ts q K b

pub data AfterAlternative (ts : List Token) : State → List State → List Token → Type 0 where
  after-alternative : {q : State} {K : List State} {a b : List Token}
      → AwaitsPattern ts (q ∷ K) a → AwaitsAlternative a b → AfterAlternative ts q K b

pub data AfterConstant (ts : List Token) : State → List State → List Token → Type 0 where
  after-constant : {q : State} {K : List State} {a b : List Token} {c : SourceConstant}
      → AwaitsConstant ts (q ∷ K) a → ReadsConstant a c b → AfterConstant ts q K b

-- a state of the end, and of an index, with what was read before it
pub data Indexing (ts : List Token) : List State → List Token → Type 0 where
  indexing : {K : List State} {a b : List Token} {e : Expression} → Awaits ts K a → ReadsExpression a e b → Indexing ts K b
