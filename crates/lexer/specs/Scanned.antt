-- The tokens of a text as the code finds them: past the blanks, a symbol or a run of letters.
use Rattle.std.specs.Prelude.{ℕ, suc, ◌+◌, ◌-◌, ◌≤◌, ◌<◌, ◌≡◌, Bool, true, false, cond, List, [], ◌∷◌, length, take, drop, get_or, ltb}
use Rattle.grammar.specs.Tokens.{ByteClass, is_blank, is_lower, is_upper, is_other, is_symbol, byte_class, is_letter, Token, Tokens, keyword, symbol, name_token}
use Rattle.grammar.specs.Machine.{lead_byte, lead_of}
use Rattle.recognizer.specs.Coded.{lead_bytes}

abbrev pub blank_class : ByteClass → Bool
blank_class is_blank = true
blank_class is_lower = false
blank_class is_upper = false
blank_class is_other = false
blank_class (is_symbol s) = false

-- how many blanks the bytes begin with
abbrev pub blanks_in : List ℕ → ℕ
blanks_in [] = 0
blanks_in (b ∷ bs) = cond (blank_class (byte_class b)) (suc (blanks_in bs)) 0

-- how many letters
abbrev pub letters_in : List ℕ → ℕ
letters_in [] = 0
letters_in (b ∷ bs) = cond (is_letter (byte_class b)) (suc (letters_in bs)) 0

-- the end of a token by the class of its first byte
abbrev pub token_end : List ℕ → (start class : ℕ) → ℕ
token_end text start class = cond (ltb class 10) (start + 1) (start + letters_in (drop start text))

abbrev pub place_of_token : Token → ℕ
place_of_token (keyword k p) = p
place_of_token (symbol s p) = p
place_of_token (name_token w p) = p

-- a name's letters are the bytes of the token
abbrev pub NamedBy : Token → List ℕ → Type 0
NamedBy (keyword k p) w = Unit {0}
NamedBy (symbol s p) w = Unit {0}
NamedBy (name_token v p) w = (v ≡ w) × (length v ≤ 16)

-- the first of the tokens of a text, found from `start` to `end` with its first byte's class; the others begin after it
pub record FirstToken (text : List ℕ) (start end class : ℕ) (t : Token) (others : List Token) : Type 0 where
  pub placed : place_of_token t ≡ start
  pub longer : start < end
  pub ends : end ≤ length text
  pub few_classes : class < 18
  pub leads : get_or lead_bytes class 0 ≡ lead_byte (lead_of t)
  pub letters : NamedBy t (take (end - start) (drop start text))
  pub following : Tokens end (drop end text) others

-- what is found from i on
abbrev pub FoundFrom : List ℕ → ℕ → (start end class : ℕ) → Type 0
FoundFrom text i start end class =
    (t : Token) (others : List Token) → Tokens i (drop i text) (t ∷ others) → FirstToken text start end class t others
