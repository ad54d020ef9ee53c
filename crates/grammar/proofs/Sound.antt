-- The grammar derives what the machine reads on tokens. What is known in each state is a statement about the tokens read so far, `SoundFrom`:
-- which production is being read from where, and what follows once the part that is awaited is there. Each row keeps it (`moves`).
-- Assumes nothing.
use Prim.Native.Nat.{ℕ}
use mathlib.Core.Logic.{◌⊎◌, inl, inr}
use mathlib.Core.List.{List, [], ◌∷◌}
use Rattle.grammar.specs.Tokens.{Token, keyword, symbol, name_token, TYPE, IN, INPUT, LET, INIT, REC, MATCHES, THEN, ELSE, DELAY}
use Rattle.grammar.specs.Tokens.{opens, closes, comma, equals, bar, query, index_opens, index_closes, one, two}
use Rattle.grammar.specs.Source.{identifier, SourceConstant, Expression}
use Rattle.grammar.specs.Grammar.{no_other, one_other, reads_constructors, reads_pair_of, no_more, one_more}
use Rattle.grammar.specs.Grammar.{ReadsConstant, reads_constructor, reads_undefined, reads_both}
use Rattle.grammar.specs.Grammar.{ReadsExpression, reads_named, reads_undefined_of, reads_pair, reads_first, reads_second, reads_let}
use Rattle.grammar.specs.Grammar.{reads_let_rec, reads_if, reads_delay}
use Rattle.grammar.specs.Rows.{State, Lead, a_symbol, a_keyword, a_name, Action, Transition, on, transitions}
use Rattle.grammar.specs.Rows.{start, declared, type_name, type_equals, type_body, constructor_end, constructor_next}
use Rattle.grammar.specs.Rows.{pair_first_type, pair_comma, pair_second_type, pair_close, pair_in, input_type, expression}
use Rattle.grammar.specs.Rows.{undefined_type, bracket, done, in_pair_first, in_pair_second, let_name, let_equals}
use Rattle.grammar.specs.Rows.{in_let_bound, in_let_body, init_query, init_type, rec_word, rec_name, rec_equals, in_rec_bound}
use Rattle.grammar.specs.Rows.{in_rec_body, in_tested, pattern, in_matched, in_pattern_first, in_pattern_second, in_then}
use Rattle.grammar.specs.Rows.{in_else, delay_bracket, constant, in_delay_constant, in_constant_first, in_constant_second}
use Rattle.grammar.specs.Rows.{in_delayed, delay_close, index, index_one, index_two}
use Rattle.grammar.specs.Machine.{Config, dead, live, no_word, back, perform}
use Rattle.grammar.proofs.Awaiting.{AwaitsBody, AwaitsDeclared, AwaitsDeclaration, Constructs, AwaitsAlternative, alternative-name, alternative-parts}
use Rattle.grammar.proofs.Awaiting.{alone, barred, Awaits, await-end, await-pair-first, await-pair-second, await-let-bound}
use Rattle.grammar.proofs.Awaiting.{await-let-body, await-rec-bound, await-rec-body, await-tested, await-then, await-else}
use Rattle.grammar.proofs.Awaiting.{await-delayed, AwaitsPattern, await-matched, await-pattern-first, await-pattern-second}
use Rattle.grammar.proofs.Awaiting.{AwaitsConstant, await-delay-constant, await-constant-first, await-constant-second}
use Rattle.grammar.proofs.Awaiting.{After, awaits-after, AfterAlternative, after-alternative, AfterConstant, after-constant, Indexing, indexing}

-- nothing waits while declarations are read, and none at the end
abbrev pub Empty : List State → Type 0
Empty [] = Unit {0}
Empty (q ∷ K) = ⊥

abbrev pub SoundFrom : List Token → State → List State → List Token → Type 0
SoundFrom ts start K b = Empty K × AwaitsDeclaration ts b
SoundFrom ts declared K b = Empty K × AwaitsDeclared ts b
SoundFrom ts type_name K b = Empty K × (p : ℕ) × AwaitsDeclaration ts (keyword TYPE p ∷ b)
SoundFrom ts type_equals K b = Empty K × (p : ℕ) × (w : List ℕ) × (q : ℕ) × AwaitsDeclaration ts (keyword TYPE p ∷ name_token w q ∷ b)
SoundFrom ts type_body K b = Empty K × (p : ℕ) × (w : List ℕ) × (q : ℕ) × (s : ℕ) × AwaitsDeclaration ts (keyword TYPE p ∷ name_token w q ∷ symbol equals s ∷ b)
SoundFrom ts constructor_end K b = Empty K × Constructs ts b
SoundFrom ts constructor_next K b = Empty K × (p : ℕ) × Constructs ts (symbol bar p ∷ b)
SoundFrom ts pair_first_type K b = Empty K × (p : ℕ) × (m : List ℕ) × (q : ℕ) × (s : ℕ) × (t : ℕ)
    × AwaitsDeclaration ts (keyword TYPE p ∷ name_token m q ∷ symbol equals s ∷ symbol opens t ∷ b)
SoundFrom ts pair_comma K b = Empty K × (p : ℕ) × (m : List ℕ) × (q : ℕ) × (s : ℕ) × (t : ℕ) × (n : List ℕ) × (u : ℕ)
    × AwaitsDeclaration ts (keyword TYPE p ∷ name_token m q ∷ symbol equals s ∷ symbol opens t ∷ name_token n u ∷ b)
SoundFrom ts pair_second_type K b = Empty K × (p : ℕ) × (m : List ℕ) × (q : ℕ) × (s : ℕ) × (t : ℕ) × (n : List ℕ) × (u : ℕ) × (v : ℕ)
    × AwaitsDeclaration ts (keyword TYPE p ∷ name_token m q ∷ symbol equals s ∷ symbol opens t ∷ name_token n u ∷ symbol comma v ∷ b)
SoundFrom ts pair_close K b = Empty K × (p : ℕ) × (m : List ℕ) × (q : ℕ) × (s : ℕ) × (t : ℕ) × (n : List ℕ) × (u : ℕ) × (v : ℕ) × (o : List ℕ) × (x : ℕ)
    × AwaitsDeclaration ts (keyword TYPE p ∷ name_token m q ∷ symbol equals s ∷ symbol opens t ∷ name_token n u ∷ symbol comma v ∷ name_token o x ∷ b)
SoundFrom ts pair_in K b = Empty K × (p : ℕ) × (m : List ℕ) × (q : ℕ) × (s : ℕ) × (t : ℕ) × (n : List ℕ) × (u : ℕ) × (v : ℕ) × (o : List ℕ) × (x : ℕ) × (y : ℕ)
    × AwaitsDeclaration ts (keyword TYPE p ∷ name_token m q ∷ symbol equals s ∷ symbol opens t ∷ name_token n u ∷ symbol comma v ∷ name_token o x ∷ symbol closes y ∷ b)
SoundFrom ts input_type K b = Empty K × (p : ℕ) × AwaitsDeclared ts (keyword INPUT p ∷ b)
SoundFrom ts expression K b = Awaits ts K b
SoundFrom ts undefined_type K b = ((p : ℕ) × Awaits ts K (symbol query p ∷ b)) ⊎ ((p : ℕ) × AwaitsConstant ts K (symbol query p ∷ b))
SoundFrom ts bracket K b = (p : ℕ) × Awaits ts K (symbol opens p ∷ b)
SoundFrom ts done K b = Empty K × Indexing ts K b
SoundFrom ts in_pair_first K b = After ts in_pair_first K b
SoundFrom ts in_pair_second K b = After ts in_pair_second K b
SoundFrom ts let_name K b = (p : ℕ) × (q : ℕ) × Awaits ts K (symbol opens p ∷ keyword LET q ∷ b)
SoundFrom ts let_equals K b = (p : ℕ) × (q : ℕ) × (w : List ℕ) × (s : ℕ) × Awaits ts K (symbol opens p ∷ keyword LET q ∷ name_token w s ∷ b)
SoundFrom ts in_let_bound K b = After ts in_let_bound K b
SoundFrom ts in_let_body K b = After ts in_let_body K b
SoundFrom ts init_query K b = (p : ℕ) × (q : ℕ) × (s : ℕ)
    × Awaits ts K (symbol opens p ∷ keyword LET q ∷ keyword INIT s ∷ b)
SoundFrom ts init_type K b = (p : ℕ) × (q : ℕ) × (s : ℕ) × (t : ℕ)
    × Awaits ts K (symbol opens p ∷ keyword LET q ∷ keyword INIT s ∷ symbol query t ∷ b)
SoundFrom ts rec_word K b = (p : ℕ) × (q : ℕ) × (s : ℕ) × (t : ℕ) × (m : List ℕ) × (u : ℕ)
    × Awaits ts K (symbol opens p ∷ keyword LET q ∷ keyword INIT s ∷ symbol query t ∷ name_token m u ∷ b)
SoundFrom ts rec_name K b = (p : ℕ) × (q : ℕ) × (s : ℕ) × (t : ℕ) × (m : List ℕ) × (u : ℕ) × (v : ℕ)
    × Awaits ts K (symbol opens p ∷ keyword LET q ∷ keyword INIT s ∷ symbol query t ∷ name_token m u ∷ keyword REC v ∷ b)
SoundFrom ts rec_equals K b = (p : ℕ) × (q : ℕ) × (s : ℕ) × (t : ℕ) × (m : List ℕ) × (u : ℕ) × (v : ℕ) × (n : List ℕ) × (x : ℕ)
    × Awaits ts K (symbol opens p ∷ keyword LET q ∷ keyword INIT s ∷ symbol query t ∷ name_token m u ∷ keyword REC v ∷ name_token n x ∷ b)
SoundFrom ts in_rec_bound K b = After ts in_rec_bound K b
SoundFrom ts in_rec_body K b = After ts in_rec_body K b
SoundFrom ts in_tested K b = After ts in_tested K b
SoundFrom ts pattern K b = AwaitsPattern ts K b
SoundFrom ts in_matched K b = AfterAlternative ts in_matched K b
SoundFrom ts in_pattern_first K b = AfterAlternative ts in_pattern_first K b
SoundFrom ts in_pattern_second K b = AfterAlternative ts in_pattern_second K b
SoundFrom ts in_then K b = After ts in_then K b
SoundFrom ts in_else K b = After ts in_else K b
SoundFrom ts delay_bracket K b = (p : ℕ) × (q : ℕ) × Awaits ts K (symbol opens p ∷ keyword DELAY q ∷ b)
SoundFrom ts constant K b = AwaitsConstant ts K b
SoundFrom ts in_delay_constant K b = AfterConstant ts in_delay_constant K b
SoundFrom ts in_constant_first K b = AfterConstant ts in_constant_first K b
SoundFrom ts in_constant_second K b = AfterConstant ts in_constant_second K b
SoundFrom ts in_delayed K b = After ts in_delayed K b
SoundFrom ts delay_close K b = (p : ℕ) × After ts in_delayed K (symbol closes p ∷ b)
SoundFrom ts index K b = (p : ℕ) × Indexing ts K (symbol index_opens p ∷ b)
SoundFrom ts index_one K b = (p : ℕ) × (q : ℕ) × Indexing ts K (symbol index_opens p ∷ symbol one q ∷ b)
SoundFrom ts index_two K b = (p : ℕ) × (q : ℕ) × Indexing ts K (symbol index_opens p ∷ symbol two q ∷ b)

abbrev pub SoundAt : List Token → Config → List Token → Type 0
SoundAt ts dead b = Unit {0}
SoundAt ts (live q K w) b = SoundFrom ts q K b

module _ {ts : List Token} where
  ended : {a : List Token} (K : List State) → Empty K → AwaitsBody ts a → Awaits ts K a
  ended [] u h = await-end h
  ended (q ∷ K) u h = absurd u

  -- what was awaited has been read
  returned : {K : List State} {a b : List Token} {e : Expression}
      → Awaits ts K a → ReadsExpression a e b → SoundAt ts (back K no_word) b
  returned (await-end h) d = (tt, indexing (await-end h) d)
  returned (await-pair-first w) d = awaits-after (await-pair-first w) d
  returned (await-pair-second w u) d = awaits-after (await-pair-second w u) d
  returned (await-let-bound w) d = awaits-after (await-let-bound w) d
  returned (await-let-body w u) d = awaits-after (await-let-body w u) d
  returned (await-rec-bound w) d = awaits-after (await-rec-bound w) d
  returned (await-rec-body w u) d = awaits-after (await-rec-body w u) d
  returned (await-tested w) d = awaits-after (await-tested w) d
  returned (await-then w u v) d = awaits-after (await-then w u v) d
  returned (await-else w u v x) d = awaits-after (await-else w u v x) d
  returned (await-delayed w u) d = awaits-after (await-delayed w u) d

  alternative-read : {K : List State} {a b : List Token} → AwaitsPattern ts K a → AwaitsAlternative a b → SoundAt ts (back K no_word) b
  alternative-read (await-matched w u g) d = after-alternative (await-matched w u g) d
  alternative-read (await-pattern-first w g) d = after-alternative (await-pattern-first w g) d
  alternative-read (await-pattern-second w u g) d = after-alternative (await-pattern-second w u g) d

  constant-read : {K : List State} {a b : List Token} {c : SourceConstant}
      → AwaitsConstant ts K a → ReadsConstant a c b → SoundAt ts (back K no_word) b
  constant-read (await-delay-constant w) d = after-constant (await-delay-constant w) d
  constant-read (await-constant-first w) d = after-constant (await-constant-first w) d
  constant-read (await-constant-second w u) d = after-constant (await-constant-second w u) d

  undefined-read : {K : List State} {w : List ℕ} {p : ℕ} {b : List Token}
      → SoundFrom ts undefined_type K (name_token w p ∷ b) → SoundAt ts (back K no_word) b
  undefined-read (inl h) = returned h.1 reads_undefined_of
  undefined-read (inr h) = constant-read h.1 reads_undefined

  indexed : {q : State} {K : List State} {b : List Token} → After ts q K b → Indexing ts (q ∷ K) b
  indexed (awaits-after w d) = indexing w d

  index-first : {K : List State} {b : List Token} {p q s : ℕ}
      → Indexing ts K (symbol index_opens p ∷ symbol one q ∷ symbol index_closes s ∷ b) → SoundAt ts (back K no_word) b
  index-first (indexing w d) = returned w (reads_first d)

  index-second : {K : List State} {b : List Token} {p q s : ℕ}
      → Indexing ts K (symbol index_opens p ∷ symbol two q ∷ symbol index_closes s ∷ b) → SoundAt ts (back K no_word) b
  index-second (indexing w d) = returned w (reads_second d)

  pair-comma : {K : List State} {b : List Token} {p : ℕ} → After ts in_pair_first K (symbol comma p ∷ b) → Awaits ts (in_pair_second ∷ K) b
  pair-comma (awaits-after (await-pair-first w) d) = await-pair-second w d

  pair-closed : {K : List State} {b : List Token} {p : ℕ} → After ts in_pair_second K (symbol closes p ∷ b) → SoundAt ts (back K no_word) b
  pair-closed (awaits-after (await-pair-second w u) d) = returned w (reads_pair u d)

  let-in : {K : List State} {b : List Token} {p : ℕ} → After ts in_let_bound K (keyword IN p ∷ b) → Awaits ts (in_let_body ∷ K) b
  let-in (awaits-after (await-let-bound w) d) = await-let-body w d

  let-closed : {K : List State} {b : List Token} {p : ℕ} → After ts in_let_body K (symbol closes p ∷ b) → SoundAt ts (back K no_word) b
  let-closed (awaits-after (await-let-body w u) d) = returned w (reads_let u d)

  rec-in : {K : List State} {b : List Token} {p : ℕ} → After ts in_rec_bound K (keyword IN p ∷ b) → Awaits ts (in_rec_body ∷ K) b
  rec-in (awaits-after (await-rec-bound w) d) = await-rec-body w d

  rec-closed : {K : List State} {b : List Token} {p : ℕ} → After ts in_rec_body K (symbol closes p ∷ b) → SoundAt ts (back K no_word) b
  rec-closed (awaits-after (await-rec-body w u) d) = returned w (reads_let_rec u d)

  if-matches : {K : List State} {b : List Token} {p : ℕ} → After ts in_tested K (keyword MATCHES p ∷ b) → AwaitsPattern ts (in_matched ∷ K) b
  if-matches (awaits-after (await-tested w) d) = await-matched w d (λ m r k. (m, k))

  matched-bar : {K : List State} {b : List Token} {p : ℕ} → AfterAlternative ts in_matched K (symbol bar p ∷ b) → AwaitsPattern ts (in_matched ∷ K) b
  matched-bar (after-alternative (await-matched w u g) d) = await-matched w u (λ m r k. g _ r (barred d k).1)

  matched-then : {K : List State} {b : List Token} {p : ℕ} → AfterAlternative ts in_matched K (keyword THEN p ∷ b) → Awaits ts (in_then ∷ K) b
  matched-then (after-alternative (await-matched w u g) d) = await-then w u (g _ _ (alone d).1).1

  first-bar : {K : List State} {b : List Token} {p : ℕ} → AfterAlternative ts in_pattern_first K (symbol bar p ∷ b) → AwaitsPattern ts (in_pattern_first ∷ K) b
  first-bar (after-alternative (await-pattern-first w g) d) = await-pattern-first w (λ m r k. g _ r (barred d k).1)

  first-comma : {K : List State} {b : List Token} {p : ℕ} → AfterAlternative ts in_pattern_first K (symbol comma p ∷ b) → AwaitsPattern ts (in_pattern_second ∷ K) b
  first-comma (after-alternative (await-pattern-first w g) d) = await-pattern-second w (g _ _ (alone d).1).1 (λ m r k. (m, k))

  second-bar : {K : List State} {b : List Token} {p : ℕ} → AfterAlternative ts in_pattern_second K (symbol bar p ∷ b) → AwaitsPattern ts (in_pattern_second ∷ K) b
  second-bar (after-alternative (await-pattern-second w u g) d) = await-pattern-second w u (λ m r k. g _ r (barred d k).1)

  second-closed : {K : List State} {b : List Token} {p : ℕ} → AfterAlternative ts in_pattern_second K (symbol closes p ∷ b) → SoundAt ts (back K no_word) b
  second-closed (after-alternative (await-pattern-second w u g) d) = alternative-read w (alternative-parts u (g _ _ (alone d).1).1)

  then-else : {K : List State} {b : List Token} {p : ℕ} → After ts in_then K (keyword ELSE p ∷ b) → Awaits ts (in_else ∷ K) b
  then-else (awaits-after (await-then w u v) d) = await-else w u v d

  else-closed : {K : List State} {b : List Token} {p : ℕ} → After ts in_else K (symbol closes p ∷ b) → SoundAt ts (back K no_word) b
  else-closed (awaits-after (await-else w u v x) d) = returned w (reads_if u v x d)

  delay-comma : {K : List State} {b : List Token} {p : ℕ} → AfterConstant ts in_delay_constant K (symbol comma p ∷ b) → Awaits ts (in_delayed ∷ K) b
  delay-comma (after-constant (await-delay-constant w) d) = await-delayed w d

  constant-comma : {K : List State} {b : List Token} {p : ℕ} → AfterConstant ts in_constant_first K (symbol comma p ∷ b) → AwaitsConstant ts (in_constant_second ∷ K) b
  constant-comma (after-constant (await-constant-first w) d) = await-constant-second w d

  constant-closed : {K : List State} {b : List Token} {p : ℕ} → AfterConstant ts in_constant_second K (symbol closes p ∷ b) → SoundAt ts (back K no_word) b
  constant-closed (after-constant (await-constant-second w u) d) = constant-read w (reads_both u d)

  delay-closed : {K : List State} {b : List Token} {p q : ℕ}
      → After ts in_delayed K (symbol closes p ∷ symbol closes q ∷ b) → SoundAt ts (back K no_word) b
  delay-closed (awaits-after (await-delayed w u) d) = returned w (reads_delay u d)

-- each row of a state keeps what is known
abbrev pub Moves : List Token → State → Lead → Action → Type 0
Moves ts q (a_symbol s) a = (K : List State) (b : List Token) (p : ℕ) → SoundFrom ts q K (symbol s p ∷ b) → SoundAt ts (perform a K no_word) b
Moves ts q (a_keyword k) a = (K : List State) (b : List Token) (p : ℕ) → SoundFrom ts q K (keyword k p ∷ b) → SoundAt ts (perform a K no_word) b
Moves ts q a_name a =
    (K : List State) (b : List Token) (w : List ℕ) (p : ℕ) → SoundFrom ts q K (name_token w p ∷ b) → SoundAt ts (perform a K no_word) b

abbrev pub EachTransition : (Lead → Action → Type 0) → List Transition → Type 0
EachTransition P [] = Unit {0}
EachTransition P (on l a ∷ more) = P l a × EachTransition P more

pub moves : (ts : List Token) (q : State) → EachTransition (Moves ts q) (transitions q)
moves ts start = ((λ K b p h. (h.0, p, h.1)), tt)
moves ts declared = ((λ K b p h. (h.0, p, λ d r k. λ ds w s c l. h.1 (d ∷ ds) w s c (one_more k l))), ((λ K b p h. (h.0, p, h.1)), tt))
moves ts type_name = ((λ K b w p h. (h.0, h.1, w, p, h.2)), tt)
moves ts type_equals = ((λ K b p h. (h.0, h.1, h.2, h.3, p, h.4)), tt)
moves ts type_body = ((λ K b w p h. (h.0, λ cs r k. h.5 _ r (reads_constructors k))), ((λ K b p h. (h.0, h.1, h.2, h.3, h.4, p, h.5)), tt))
moves ts constructor_end = ((λ K b p h. (h.0, p, h.1)), ((λ K b p h. (h.0, h.1 [] b no_other)), tt))
moves ts constructor_next = ((λ K b w p h. (h.0, λ cs r k. h.2 (identifier w p ∷ cs) r (one_other k))), tt)
moves ts pair_first_type = ((λ K b w p h. (h.0, h.1, h.2, h.3, h.4, h.5, w, p, h.6)), tt)
moves ts pair_comma = ((λ K b p h. (h.0, h.1, h.2, h.3, h.4, h.5, h.6, h.7, p, h.8)), tt)
moves ts pair_second_type = ((λ K b w p h. (h.0, h.1, h.2, h.3, h.4, h.5, h.6, h.7, h.8, w, p, h.9)), tt)
moves ts pair_close = ((λ K b p h. (h.0, h.1, h.2, h.3, h.4, h.5, h.6, h.7, h.8, h.9, h.10, p, h.11)), tt)
moves ts pair_in = ((λ K b p h. (h.0, h.12 _ b reads_pair_of)), tt)
moves ts input_type = ((λ K b w p h. ended K h.0 (h.2 [] w p b no_more)), tt)
moves ts expression = ((λ K b w p h. returned h reads_named), ((λ K b p h. inl (p, h)), ((λ K b p h. (p, h)), tt)))
moves ts undefined_type = ((λ K b w p h. undefined-read h), tt)
moves ts bracket = ((λ K b w p h. awaits-after (await-pair-first h.1) reads_named), ((λ K b p h. inl (p, await-pair-first h.1)), ((λ K b p h. (p, await-pair-first h.1)), ((λ K b p h. (h.0, p, h.1)), ((λ K b p h. await-tested h.1), ((λ K b p h. (h.0, p, h.1)), tt))))))
moves ts done = ((λ K b p h. (p, h.1)), tt)
moves ts in_pair_first = ((λ K b p h. (p, indexed h)), ((λ K b p h. pair-comma h), tt))
moves ts in_pair_second = ((λ K b p h. (p, indexed h)), ((λ K b p h. pair-closed h), tt))
moves ts let_name = ((λ K b w p h. (h.0, h.1, w, p, h.2)), ((λ K b p h. (h.0, h.1, p, h.2)), tt))
moves ts let_equals = ((λ K b p h. await-let-bound h.4), tt)
moves ts in_let_bound = ((λ K b p h. (p, indexed h)), ((λ K b p h. let-in h), tt))
moves ts in_let_body = ((λ K b p h. (p, indexed h)), ((λ K b p h. let-closed h), tt))
moves ts init_query = ((λ K b p h. (h.0, h.1, h.2, p, h.3)), tt)
moves ts init_type = ((λ K b w p h. (h.0, h.1, h.2, h.3, w, p, h.4)), tt)
moves ts rec_word = ((λ K b p h. (h.0, h.1, h.2, h.3, h.4, h.5, p, h.6)), tt)
moves ts rec_name = ((λ K b w p h. (h.0, h.1, h.2, h.3, h.4, h.5, h.6, w, p, h.7)), tt)
moves ts rec_equals = ((λ K b p h. await-rec-bound h.9), tt)
moves ts in_rec_bound = ((λ K b p h. (p, indexed h)), ((λ K b p h. rec-in h), tt))
moves ts in_rec_body = ((λ K b p h. (p, indexed h)), ((λ K b p h. rec-closed h), tt))
moves ts in_tested = ((λ K b p h. (p, indexed h)), ((λ K b p h. if-matches h), tt))
moves ts pattern = ((λ K b w p h. alternative-read h alternative-name), ((λ K b p h. await-pattern-first h (λ m r k. (m, k))), tt))
moves ts in_matched = ((λ K b p h. matched-bar h), ((λ K b p h. matched-then h), tt))
moves ts in_pattern_first = ((λ K b p h. first-bar h), ((λ K b p h. first-comma h), tt))
moves ts in_pattern_second = ((λ K b p h. second-bar h), ((λ K b p h. second-closed h), tt))
moves ts in_then = ((λ K b p h. (p, indexed h)), ((λ K b p h. then-else h), tt))
moves ts in_else = ((λ K b p h. (p, indexed h)), ((λ K b p h. else-closed h), tt))
moves ts delay_bracket = ((λ K b p h. await-delay-constant h.2), tt)
moves ts constant = ((λ K b w p h. constant-read h reads_constructor), ((λ K b p h. inr (p, h)), ((λ K b p h. await-constant-first h), tt)))
moves ts in_delay_constant = ((λ K b p h. delay-comma h), tt)
moves ts in_constant_first = ((λ K b p h. constant-comma h), tt)
moves ts in_constant_second = ((λ K b p h. constant-closed h), tt)
moves ts in_delayed = ((λ K b p h. (p, indexed h)), ((λ K b p h. (p, h)), tt))
moves ts delay_close = ((λ K b p h. delay-closed h.1), tt)
moves ts index = ((λ K b p h. (h.0, p, h.1)), ((λ K b p h. (h.0, p, h.1)), tt))
moves ts index_one = ((λ K b p h. index-first h.2), tt)
moves ts index_two = ((λ K b p h. index-second h.2), tt)
