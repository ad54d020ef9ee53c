-- An instruction never writes less than what is written, moves the cursor down by as many records as it writes, if they fit, and never up.
-- Assumes nothing.
use Prim.Native.Nat.{ℕ, ◌+◌, ◌-◌, ◌≤◌}
use mathlib.Core.Path.{◌≡◌, refl}
use mathlib.Core.List.{List, [], ◌∷◌}
use native.Mathlib.Omega.{arith}
use lib.ListN.{length}
use Rattle.records.specs.SheetOf.{Record, words}
use Rattle.instructions.specs.Instruction.{Instruction, declare_type, count_constructor, first_type, second_type, input_has, use_name, use_constant, use_undefined, open_pair, open_let, open_rec, open_if, open_delay, take_first, take_second, close, close_if, begin_pattern, match_type, match_one, open_parts, next_part, close_parts, next_alternative, use_leaf, use_zeros, open_constant, close_constant, end_constant, constant_has}
use Rattle.instructions.specs.Assembly.{DeclaredType, leaves_numbered}
use Rattle.instructions.specs.Emission.{Slot, of_number, barrier, first_waits, second_waits, Emission, emission, top, pop, completed, zeros_written, emit, emit_all, written_of, cursor_of}
use Rattle.emitting.proofs.AdvanceLaws.{completed-grows, zeros-written-length}

completed-lower : (R : List Record) (c : ℕ) (S : List Slot) → cursor_of (completed R c S) ≤ c
completed-lower R c [] = omega arith
completed-lower R c (of_number n ∷ S) = omega arith
completed-lower R c (barrier ∷ S) = omega arith
completed-lower R c (first_waits ∷ S) = let l = completed-lower (words 35 0 c 0 0 0 ∷ R) (c - 1) S in omega arith
completed-lower R c (second_waits ∷ S) = let l = completed-lower (words 36 0 c 0 0 0 ∷ R) (c - 1) S in omega arith

completed-balance : (R : List Record) (c : ℕ) (S : List Slot) → length (written_of (completed R c S)) ≤ c + length R
    → cursor_of (completed R c S) + length (written_of (completed R c S)) ≡ c + length R
completed-balance R c [] h = refl
completed-balance R c (of_number n ∷ S) h = refl
completed-balance R c (barrier ∷ S) h = refl
completed-balance R c (first_waits ∷ S) h =
    let g = completed-grows (words 35 0 c 0 0 0 ∷ R) (c - 1) S in
    let b = completed-balance (words 35 0 c 0 0 0 ∷ R) (c - 1) S (omega arith) in
    omega arith
completed-balance R c (second_waits ∷ S) h =
    let g = completed-grows (words 36 0 c 0 0 0 ∷ R) (c - 1) S in
    let b = completed-balance (words 36 0 c 0 0 0 ∷ R) (c - 1) S (omega arith) in
    omega arith

module _ (T : List DeclaredType) where
  pub emit-lower : (R : List Record) (c : ℕ) (S : List Slot) (x : ℕ) (i : Instruction) → cursor_of (emit T (emission R c S x) i) ≤ c
  emit-lower R c S x declare_type = omega arith
  emit-lower R c S x count_constructor = omega arith
  emit-lower R c S x (first_type t) = omega arith
  emit-lower R c S x (second_type t) = omega arith
  emit-lower R c S x (input_has t) = omega arith
  emit-lower R c S x (use_name t) = let l = completed-lower (words 33 0 t 0 0 0 ∷ R) (c - 1) S in omega arith
  emit-lower R c S x (use_constant t n) = let l = completed-lower (words 32 0 t (c - 1) 0 0 ∷ words 64 0 n 0 0 0 ∷ R) (c - 2) S in omega arith
  emit-lower R c S x (use_undefined t) = let l = completed-lower (words 32 0 t (c - leaves_numbered T t) 0 0 ∷ zeros_written (leaves_numbered T t) R c 0) (c - leaves_numbered T t - 1) S in omega arith
  emit-lower R c S x open_pair = let l = completed-lower (words 34 0 (top S) (top (pop S)) 0 0 ∷ R) (c - 1) (pop (pop (pop S))) in omega arith
  emit-lower R c S x open_let = let l = completed-lower (words 37 0 (top S) (top (pop S)) 0 0 ∷ R) (c - 1) (pop (pop (pop S))) in omega arith
  emit-lower R c S x (open_rec t) = let l = completed-lower (words 38 0 t (top S) (top (pop S)) 0 ∷ R) (c - 1) (pop (pop (pop S))) in omega arith
  emit-lower R c S x open_if = let l = completed-lower (words 39 0 (top S) (top (pop S)) (top (pop (pop S))) (top (pop (pop (pop S)))) ∷ R) (c - 1) (pop (pop (pop (pop (pop S))))) in omega arith
  emit-lower R c S x open_delay = let l = completed-lower (words 40 0 (top S) c (top (pop S)) 0 ∷ R) (c - 1) (pop (pop (pop S))) in omega arith
  emit-lower R c S x take_first = omega arith
  emit-lower R c S x take_second = omega arith
  emit-lower R c S x close = omega arith
  emit-lower R c S x close_if = omega arith
  emit-lower R c S x begin_pattern = omega arith
  emit-lower R c S x (match_type t) = omega arith
  emit-lower R c S x (match_one t n) = omega arith
  emit-lower R c S x open_parts = omega arith
  emit-lower R c S x next_part = omega arith
  emit-lower R c S x close_parts = omega arith
  emit-lower R c S x next_alternative = omega arith
  emit-lower R c S x (use_leaf t n) = omega arith
  emit-lower R c S x (use_zeros t) = omega arith
  emit-lower R c S x (open_constant t) = omega arith
  emit-lower R c S x close_constant = omega arith
  emit-lower R c S x end_constant = omega arith
  emit-lower R c S x (constant_has t) = omega arith

  pub emit-grows : (R : List Record) (c : ℕ) (S : List Slot) (x : ℕ) (i : Instruction) → length R ≤ length (written_of (emit T (emission R c S x) i))
  emit-grows R c S x declare_type = omega arith
  emit-grows R c S x count_constructor = omega arith
  emit-grows R c S x (first_type t) = omega arith
  emit-grows R c S x (second_type t) = omega arith
  emit-grows R c S x (input_has t) = omega arith
  emit-grows R c S x (use_name t) = let l = completed-grows (words 33 0 t 0 0 0 ∷ R) (c - 1) S in omega arith
  emit-grows R c S x (use_constant t n) = let l = completed-grows (words 32 0 t (c - 1) 0 0 ∷ words 64 0 n 0 0 0 ∷ R) (c - 2) S in omega arith
  emit-grows R c S x (use_undefined t) = let z = zeros-written-length (leaves_numbered T t) R c 0 in let l = completed-grows (words 32 0 t (c - leaves_numbered T t) 0 0 ∷ zeros_written (leaves_numbered T t) R c 0) (c - leaves_numbered T t - 1) S in omega arith
  emit-grows R c S x open_pair = let l = completed-grows (words 34 0 (top S) (top (pop S)) 0 0 ∷ R) (c - 1) (pop (pop (pop S))) in omega arith
  emit-grows R c S x open_let = let l = completed-grows (words 37 0 (top S) (top (pop S)) 0 0 ∷ R) (c - 1) (pop (pop (pop S))) in omega arith
  emit-grows R c S x (open_rec t) = let l = completed-grows (words 38 0 t (top S) (top (pop S)) 0 ∷ R) (c - 1) (pop (pop (pop S))) in omega arith
  emit-grows R c S x open_if = let l = completed-grows (words 39 0 (top S) (top (pop S)) (top (pop (pop S))) (top (pop (pop (pop S)))) ∷ R) (c - 1) (pop (pop (pop (pop (pop S))))) in omega arith
  emit-grows R c S x open_delay = let l = completed-grows (words 40 0 (top S) c (top (pop S)) 0 ∷ R) (c - 1) (pop (pop (pop S))) in omega arith
  emit-grows R c S x take_first = omega arith
  emit-grows R c S x take_second = omega arith
  emit-grows R c S x close = omega arith
  emit-grows R c S x close_if = omega arith
  emit-grows R c S x begin_pattern = omega arith
  emit-grows R c S x (match_type t) = omega arith
  emit-grows R c S x (match_one t n) = omega arith
  emit-grows R c S x open_parts = omega arith
  emit-grows R c S x next_part = omega arith
  emit-grows R c S x close_parts = omega arith
  emit-grows R c S x next_alternative = omega arith
  emit-grows R c S x (use_leaf t n) = omega arith
  emit-grows R c S x (use_zeros t) = let z = zeros-written-length (leaves_numbered T t) R c x in omega arith
  emit-grows R c S x (open_constant t) = omega arith
  emit-grows R c S x close_constant = omega arith
  emit-grows R c S x end_constant = omega arith
  emit-grows R c S x (constant_has t) = omega arith

  pub emit-balance : (R : List Record) (c : ℕ) (S : List Slot) (x : ℕ) (i : Instruction) → length (written_of (emit T (emission R c S x) i)) ≤ c + length R
      → cursor_of (emit T (emission R c S x) i) + length (written_of (emit T (emission R c S x) i)) ≡ c + length R
  emit-balance R c S x declare_type h = omega arith
  emit-balance R c S x count_constructor h = omega arith
  emit-balance R c S x (first_type t) h = omega arith
  emit-balance R c S x (second_type t) h = omega arith
  emit-balance R c S x (input_has t) h = omega arith
  emit-balance R c S x (use_name t) h =
      let g = completed-grows (words 33 0 t 0 0 0 ∷ R) (c - 1) S in
      let b = completed-balance (words 33 0 t 0 0 0 ∷ R) (c - 1) S (omega arith) in
      omega arith
  emit-balance R c S x (use_constant t n) h =
      let g = completed-grows (words 32 0 t (c - 1) 0 0 ∷ words 64 0 n 0 0 0 ∷ R) (c - 2) S in
      let b = completed-balance (words 32 0 t (c - 1) 0 0 ∷ words 64 0 n 0 0 0 ∷ R) (c - 2) S (omega arith) in
      omega arith
  emit-balance R c S x (use_undefined t) h =
      let z = zeros-written-length (leaves_numbered T t) R c 0 in let g = completed-grows (words 32 0 t (c - leaves_numbered T t) 0 0 ∷ zeros_written (leaves_numbered T t) R c 0) (c - leaves_numbered T t - 1) S in
      let b = completed-balance (words 32 0 t (c - leaves_numbered T t) 0 0 ∷ zeros_written (leaves_numbered T t) R c 0) (c - leaves_numbered T t - 1) S (omega arith) in
      omega arith
  emit-balance R c S x open_pair h =
      let g = completed-grows (words 34 0 (top S) (top (pop S)) 0 0 ∷ R) (c - 1) (pop (pop (pop S))) in
      let b = completed-balance (words 34 0 (top S) (top (pop S)) 0 0 ∷ R) (c - 1) (pop (pop (pop S))) (omega arith) in
      omega arith
  emit-balance R c S x open_let h =
      let g = completed-grows (words 37 0 (top S) (top (pop S)) 0 0 ∷ R) (c - 1) (pop (pop (pop S))) in
      let b = completed-balance (words 37 0 (top S) (top (pop S)) 0 0 ∷ R) (c - 1) (pop (pop (pop S))) (omega arith) in
      omega arith
  emit-balance R c S x (open_rec t) h =
      let g = completed-grows (words 38 0 t (top S) (top (pop S)) 0 ∷ R) (c - 1) (pop (pop (pop S))) in
      let b = completed-balance (words 38 0 t (top S) (top (pop S)) 0 ∷ R) (c - 1) (pop (pop (pop S))) (omega arith) in
      omega arith
  emit-balance R c S x open_if h =
      let g = completed-grows (words 39 0 (top S) (top (pop S)) (top (pop (pop S))) (top (pop (pop (pop S)))) ∷ R) (c - 1) (pop (pop (pop (pop (pop S))))) in
      let b = completed-balance (words 39 0 (top S) (top (pop S)) (top (pop (pop S))) (top (pop (pop (pop S)))) ∷ R) (c - 1) (pop (pop (pop (pop (pop S))))) (omega arith) in
      omega arith
  emit-balance R c S x open_delay h =
      let g = completed-grows (words 40 0 (top S) c (top (pop S)) 0 ∷ R) (c - 1) (pop (pop (pop S))) in
      let b = completed-balance (words 40 0 (top S) c (top (pop S)) 0 ∷ R) (c - 1) (pop (pop (pop S))) (omega arith) in
      omega arith
  emit-balance R c S x take_first h = omega arith
  emit-balance R c S x take_second h = omega arith
  emit-balance R c S x close h = omega arith
  emit-balance R c S x close_if h = omega arith
  emit-balance R c S x begin_pattern h = omega arith
  emit-balance R c S x (match_type t) h = omega arith
  emit-balance R c S x (match_one t n) h = omega arith
  emit-balance R c S x open_parts h = omega arith
  emit-balance R c S x next_part h = omega arith
  emit-balance R c S x close_parts h = omega arith
  emit-balance R c S x next_alternative h = omega arith
  emit-balance R c S x (use_leaf t n) h = omega arith
  emit-balance R c S x (use_zeros t) h = let z = zeros-written-length (leaves_numbered T t) R c x in omega arith
  emit-balance R c S x (open_constant t) h = omega arith
  emit-balance R c S x close_constant h = omega arith
  emit-balance R c S x end_constant h = omega arith
  emit-balance R c S x (constant_has t) h = omega arith

  pub written_grows : (E : Emission) (is : List Instruction) → length (written_of E) ≤ length (written_of (emit_all T E is))
  written_grows E [] = omega arith
  written_grows (emission R c S x) (i ∷ is) =
      let one = emit-grows R c S x i in
      let all = written_grows (emit T (emission R c S x) i) is in
      omega arith
