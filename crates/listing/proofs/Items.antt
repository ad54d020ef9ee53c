-- The texts of a line's leaves, added one after the other.
-- Assumes nothing.
use Prim.Native.Nat.{ℕ, suc, ◌+◌, ◌≤◌, ◌<◌}
use mathlib.Core.Path.{◌≡◌, refl, sym, ap, ◌∙◌}
use mathlib.Core.List.{List, [], ◌∷◌, ◌++◌, append_assoc, append-nil}
use native.Mathlib.Omega.{arith}
use native.Mathlib.Numerals.{add-one}
use lib.ListN.{length, get_or, take, drop, length-append, take-append-drop}
use lib.Seq.{take-suc}
use Rattle.listing.specs.Lines.{leaf_text, leaf_texts}
use Rattle.listing.specs.Texts.{Written, HasRoom, Added}
use Rattle.listing.proofs.Added.{added-long, added_then}

texts-append : (xs ys : List ℕ) → leaf_texts (xs ++ ys) ≡ leaf_texts xs ++ leaf_texts ys
texts-append [] ys = refl
texts-append (x ∷ xs) ys = rw (texts-append xs ys) (sym (append_assoc (leaf_text x) (leaf_texts xs) (leaf_texts ys)))

module _ (leaves : List ℕ) (i : ℕ) where
  next-text : i < length leaves → leaf_texts (take (suc i) leaves) ≡ leaf_texts (take i leaves) ++ leaf_text (get_or leaves i 0)
  next-text h = rw (take-suc leaves i 0 h, texts-append (take i leaves) (get_or leaves i 0 ∷ []), append-nil) refl

  front-short : length (leaf_texts (take i leaves)) ≤ length (leaf_texts leaves)
  front-short =
      let e =
      ap (λ l. length (leaf_texts l)) (sym (take-append-drop i leaves))
      ∙ ap length (texts-append (take i leaves) (drop i leaves))
      ∙ length-append (leaf_texts (take i leaves)) (leaf_texts (drop i leaves))
      in
      omega arith

module _ {old now : Written} (leaves : List ℕ) (i : ℕ) (a : Added old (leaf_texts (take i leaves)) now) (h : i < length leaves) where
  pub leaf-room : HasRoom old (length (leaf_texts leaves)) → HasRoom now (length (leaf_text (get_or leaves i 0)))
  leaf-room room =
      let f = front-short leaves (suc i) in
      let l = added-long a in
      let r = a.room in
      let e = ap length (next-text leaves i h) ∙ length-append (leaf_texts (take i leaves)) (leaf_text (get_or leaves i 0)) in
      omega arith

  pub leaf-added : {new : Written} → Added now (leaf_text (get_or leaves i 0)) new → Added old (leaf_texts (take (i + 1) leaves)) new
  leaf-added b = rw (add-one i, next-text leaves i h) (added_then a b)
