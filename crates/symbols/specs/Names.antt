-- The names of a text by their places in it, and the table that finds them: for each hash the last name with it, and from each name the
-- last one before it with the same hash. What a search finds is said without the hashes.
use Rattle.std.specs.Prelude.{ℕ, zero, suc, ◌+◌, ◌*◌, ◌/◌, ◌%◌, ◌≤◌, ◌<◌, ◌≡◌, cond, List, [], ◌∷◌, length, take, drop, get_or, eqb, Option, None, Some}
use Rattle.grammar.specs.Sizes.{text_table}
use Rattle.name_rules.specs.Declared.{Role, a_type, a_constructor, DeclaredName, declared_as, same_name, at_first}
use Rattle.name_rules.specs.TokenWalk.{role_in}

-- how many hashes there are
abbrev pub hashes : ℕ
hashes = 4096

-- a span is the place of a name's first letter and the number of its letters in one number
abbrev pub place_of : ℕ → ℕ
place_of span = span / 32

abbrev pub count_of : ℕ → ℕ
count_of span = span % 32

abbrev pub letters_from : List ℕ → (place count : ℕ) → List ℕ
letters_from text place count = take count (drop place text)

abbrev pub letters_at : List ℕ → ℕ → List ℕ
letters_at text span = letters_from text (place_of span) (count_of span)

abbrev pub Inside : List ℕ → ℕ → Type 0
Inside text span = place_of span + count_of span ≤ length text

-- letter by letter, below 4,096
abbrev pub hashed_from : ℕ → List ℕ → ℕ
hashed_from h [] = h
hashed_from h (b ∷ w) = hashed_from ((h * 31 + b) % hashes) w

abbrev pub hash_of : List ℕ → ℕ
hash_of w = hashed_from 0 w

-- the last of the first n names that is the same as w, counted from 1, or 0
abbrev pub nearest : (text spans : List ℕ) → List ℕ → ℕ → ℕ
nearest text spans w zero = 0
nearest text spans w (suc k) = cond (same_name w (letters_at text (get_or spans k 0))) (suc k) (nearest text spans w k)

-- the last of the first n names with a hash, counted from 1, or 0
abbrev pub last_hashed : (text spans : List ℕ) (hash : ℕ) → ℕ → ℕ
last_hashed text spans hash zero = 0
last_hashed text spans hash (suc k) =
    cond (eqb (hash_of (letters_at text (get_or spans k 0))) hash) (suc k) (last_hashed text spans hash k)

-- an entry that was found, counted from 1, or 0
abbrev pub entry_number : Option ℕ → ℕ
entry_number None = 0
entry_number (Some k) = suc k

-- the table of the first n names
pub record Hashed (text : List ℕ) (n : ℕ) (spans links heads : List ℕ) : Type 0 where
  pub spans_long : length spans ≡ text_table
  pub links_long : length links ≡ text_table
  pub heads_long : length heads ≡ hashes
  pub room : n ≤ text_table
  pub inside : (k : ℕ) → k < n → Inside text (get_or spans k 0)
  pub heads_right : (b : ℕ) → b < hashes → get_or heads b 0 ≡ last_hashed text spans b n
  pub links_right : (k : ℕ) → k < n → get_or links k 0 ≡ last_hashed text spans (hash_of (letters_at text (get_or spans k 0))) k

-- the first names are declared, as types or constructors, above `input`; those after them are bound
abbrev pub role_named : ℕ → Role
role_named zero = a_type
role_named (suc n) = a_constructor

abbrev pub declared_names : (text spans roles : List ℕ) → ℕ → List DeclaredName
declared_names text spans roles zero = at_first
declared_names text spans roles (suc k) =
    declared_as (letters_at text (get_or spans k 0)) (role_named (get_or roles k 0)) ∷ declared_names text spans roles k

abbrev pub bound_names : (text spans : List ℕ) (base : ℕ) → ℕ → List (List ℕ)
bound_names text spans base zero = []
bound_names text spans base (suc k) = letters_at text (get_or spans (base + k) 0) ∷ bound_names text spans base k

-- the roles of the declared names
pub record Roles (roles : List ℕ) (base : ℕ) : Type 0 where
  pub roles_long : length roles ≡ text_table
  pub few_roles : (k : ℕ) → k < base → get_or roles k 0 < 2

-- what a name stands for among the declared names and so many bound ones
abbrev pub role_among : (text spans roles : List ℕ) (base extra span : ℕ) → ℕ
role_among text spans roles base extra span =
    role_in (letters_at text span) (bound_names text spans base extra) (declared_names text spans roles base)

-- among the declared names alone
abbrev pub declared_role : (text spans roles : List ℕ) (base span : ℕ) → ℕ
declared_role text spans roles base span = role_in (letters_at text span) [] (declared_names text spans roles base)

-- each bound name has with it what its letters stand for among the declared names
abbrev pub BoundRoles : (text spans roles : List ℕ) (base n : ℕ) → Type 0
BoundRoles text spans roles base n = (k : ℕ) → base ≤ k → k < n → get_or roles k 0 ≡ declared_role text spans roles base (get_or spans k 0)
