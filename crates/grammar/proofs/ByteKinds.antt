-- What a byte is, and what it begins.
-- Assumes nothing.
use Prim.Native.Nat.{ℕ}
use mathlib.Core.Path.{◌≡◌, refl, sym, ap, subst, ◌∙◌}
use mathlib.Core.Bool.{Bool, true, false, cond}
use lib.Dec.{T, eqb, eqb→eq}
use Rattle.grammar.specs.Tokens.{ByteClass, is_blank, is_lower, is_upper, is_other, is_symbol, between, unlettered, byte_class}
use Rattle.grammar.specs.Tokens.{Keyword, TYPE, IN, INPUT, LET, INIT, REC, IF, MATCHES, THEN, ELSE, DELAY, spelling}
use Rattle.grammar.specs.Tokens.{Symbol, opens, closes, comma, equals, bar, query, index_opens, index_closes, one, two}
use Rattle.grammar.specs.Rows.{Lead, a_symbol, a_keyword, a_name}
use Rattle.grammar.specs.Machine.{lead_byte, alike, symbol_byte, first_letter}

-- a byte that stands for its likes is of their kind
pub kind-alike : (b : ℕ) → byte_class (alike b) ≡ byte_class b
kind-alike b = go (between 97 122 b) refl
  where
    go : (x : Bool) → between 97 122 b ≡ x → byte_class (cond x 97 b) ≡ byte_class b
    go true e = sym (ap (λ y. cond y is_lower (cond (between 65 90 b) is_upper (unlettered b))) e)
    go false e = refl

-- what a byte of each kind is: its symbol's byte, or for a letter nothing more
abbrev IsByte : ℕ → ByteClass → Type 0
IsByte b is_lower = alike b ≡ 97
IsByte b is_upper = alike b ≡ b
IsByte b is_blank = Unit {0}
IsByte b is_other = Unit {0}
IsByte b (is_symbol s) = b ≡ symbol_byte s

one_of : (b : ℕ) (P : ByteClass → Type 0) (n : ℕ) (k l : ByteClass) → (b ≡ n → P k) → P l → P (cond (eqb b n) k l)
one_of b P n k l h i = go (eqb b n) (eqb→eq b n)
  where
    go : (x : Bool) → (T x → b ≡ n) → P (cond x k l)
    go true e = h (e tt)
    go false e = i

is-unlettered : (b : ℕ) → IsByte b (unlettered b)
is-unlettered b =
    one_of b (IsByte b) 32 _ _ (λ e. tt)
    (one_of b (IsByte b) 10 _ _ (λ e. tt)
    (one_of b (IsByte b) 40 _ _ (λ e. e)
    (one_of b (IsByte b) 41 _ _ (λ e. e)
    (one_of b (IsByte b) 44 _ _ (λ e. e)
    (one_of b (IsByte b) 61 _ _ (λ e. e)
    (one_of b (IsByte b) 124 _ _ (λ e. e)
    (one_of b (IsByte b) 63 _ _ (λ e. e)
    (one_of b (IsByte b) 91 _ _ (λ e. e)
    (one_of b (IsByte b) 93 _ _ (λ e. e)
    (one_of b (IsByte b) 49 _ _ (λ e. e)
    (one_of b (IsByte b) 50 _ _ (λ e. e)
    tt)))))))))))

is_byte : (b : ℕ) → IsByte b (byte_class b)
is_byte b = go (between 97 122 b) refl
  where
    go : (x : Bool) → between 97 122 b ≡ x → IsByte b (cond x is_lower (cond (between 65 90 b) is_upper (unlettered b)))
    go true e = ap (λ y. cond y 97 b) e
    go false e = upper (between 65 90 b)
      where
        upper : (y : Bool) → IsByte b (cond y is_upper (unlettered b))
        upper true = ap (λ z. cond z 97 b) e
        upper false = is-unlettered b

pub alike-lower : (b : ℕ) → byte_class b ≡ is_lower → alike b ≡ 97
alike-lower b h = subst (IsByte b) h (is_byte b)

pub alike-upper : (b : ℕ) → byte_class b ≡ is_upper → alike b ≡ b
alike-upper b h = subst (IsByte b) h (is_byte b)

symbol-alike : (s : Symbol) → alike (symbol_byte s) ≡ symbol_byte s
symbol-alike opens = refl
symbol-alike closes = refl
symbol-alike comma = refl
symbol-alike equals = refl
symbol-alike bar = refl
symbol-alike query = refl
symbol-alike index_opens = refl
symbol-alike index_closes = refl
symbol-alike one = refl
symbol-alike two = refl

pub alike-symbol : (b : ℕ) (s : Symbol) → byte_class b ≡ is_symbol s → alike b ≡ symbol_byte s
alike-symbol b s h = ap alike (subst (IsByte b) h (is_byte b)) ∙ symbol-alike s

-- the kind of the byte that a token begins with
abbrev pub lead_kind : Lead → ByteClass
lead_kind (a_symbol s) = is_symbol s
lead_kind (a_keyword k) = is_upper
lead_kind a_name = is_lower

symbol-kind : (s : Symbol) → byte_class (symbol_byte s) ≡ is_symbol s
symbol-kind opens = refl
symbol-kind closes = refl
symbol-kind comma = refl
symbol-kind equals = refl
symbol-kind bar = refl
symbol-kind query = refl
symbol-kind index_opens = refl
symbol-kind index_closes = refl
symbol-kind one = refl
symbol-kind two = refl

keyword-kind : (k : Keyword) → byte_class (first_letter (spelling k)) ≡ is_upper
keyword-kind TYPE = refl
keyword-kind IN = refl
keyword-kind INPUT = refl
keyword-kind LET = refl
keyword-kind INIT = refl
keyword-kind REC = refl
keyword-kind IF = refl
keyword-kind MATCHES = refl
keyword-kind THEN = refl
keyword-kind ELSE = refl
keyword-kind DELAY = refl

pub lead-kind : (l : Lead) → byte_class (lead_byte l) ≡ lead_kind l
lead-kind (a_symbol s) = symbol-kind s
lead-kind (a_keyword k) = keyword-kind k
lead-kind a_name = refl

-- a byte that a row is found by is of the kind of what the row begins with
pub found-kind : (b : ℕ) (l : Lead) → alike b ≡ lead_byte l → byte_class b ≡ lead_kind l
found-kind b l e = sym (kind-alike b) ∙ ap byte_class e ∙ lead-kind l
