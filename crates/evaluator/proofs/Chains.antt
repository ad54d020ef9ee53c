-- Chains of first and second parts: a first part is the front of its pair's value and a second part its end, by their widths; so the
-- leaves of a chain's value, from some leaf on, are leaves of the value at its end, which are read there.
-- Assumes nothing.
use Prim.Native.Nat.{ℕ, ◌+◌, ◌-◌, ◌*◌, ◌≤◌, ◌<◌}
use mathlib.Core.Bool.{Bool}
use mathlib.Core.List.{List, ◌++◌}
use mathlib.Core.Path.{◌≡◌, refl, sym, ap, ◌∙◌}
use native.Mathlib.Omega.{arith}
use lib.ListN.{length, get_or, take, drop, replicate, length-append, length-drop}
use lib.Seq.{take-take, take-length, take-append-le, drop-drop, length-take-le}
use Rattle.picoella.specs.Language.{leaves}
use Rattle.records.specs.Words.{word, word_a, count}
use Rattle.records.specs.Kinds.{expression, name, first, second}
use Rattle.records.specs.Says.{kind_at}
use Rattle.records.specs.Trees.{type_at, tree_at, type_record_of}
use Rattle.records.specs.Written.{Written}
use Rattle.records.proofs.Table.{ask_of_kind}
use Rattle.verdict.specs.Scopes.{Scope}
use Rattle.meaning.specs.Undecided.{undecided_rule}
use Rattle.behaviour.specs.Evaluated.{value_at}
use Rattle.behaviour.proofs.Evaluated.{name-value, name-stored, first-value, first-stored, second-value, second-stored}
use Rattle.behaviour.proofs.Firings.{name-fired, first-fired, second-fired}
use Rattle.values.specs.Slots.{slot, frames}
use Rattle.evaluator.specs.Evaluating.{EvaluatingIn, EvaluatedIn, Evaluated}
use Rattle.evaluator.specs.Chains.{ChainIn, ChainEnded, PartEvaluatingIn, PartEvaluatedIn, PartEvaluated}
use Rattle.evaluator.proofs.Frames.{middle, front-own, front-few, end-own, end-few, zeros-long, put_whole}
use Rattle.evaluator.proofs.Wanted.{wanted-none, wanted-one}
use Rattle.evaluator.proofs.Readiness.{ready-written, ready-there, evaluating-at, in-circuit, names-few, entry-few, value-long, part-higher}
use Rattle.evaluator.proofs.LentParts.{first-scope, second-scope, fits-room}
use Rattle.evaluator.proofs.LentNames.{name-in-scope, name-stands}
use Rattle.evaluator.proofs.Parts.{room-done}

-- m leaves from some leaf on, of the front of a value that has them
front-part : (from m k : ℕ) (v : List ℕ) → from + m ≤ k → take m (drop from (take k v)) ≡ take m (drop from v)
front-part from m k v h =
    middle from m (take k v) ∙ ap (drop from) (take-take (from + m) k v h) ∙ sym (middle from m v)

-- and of a value that stands in the front of some bytes
front-part-of : (from m : ℕ) (v rest : List ℕ) → from + m ≤ length v → take m (drop from (v ++ rest)) ≡ take m (drop from v)
front-part-of from m v rest h =
    middle from m (v ++ rest) ∙ ap (drop from) (take-append-le (from + m) v rest h) ∙ sym (middle from m v)

part-long : (from m : ℕ) (v : List ℕ) → from + m ≤ length v → length (take m (drop from v)) ≡ m
part-long from m v h = length-take-le m (drop from v) (let l = length-drop from v in omega arith)

module _ {s : List ℕ} {n : ℕ} {W env : List ℕ} {names rec : ℕ} {out Γ : List ℕ} (r : EvaluatingIn s n W env names rec out Γ) where
  abbrev ρ : List (List ℕ)
  ρ = frames s Γ env

  abbrev val : ℕ → List ℕ
  val x = value_at undecided_rule s Γ ρ x

  w : Written s
  w = ready-written r.at_hand

  b : rec < count s
  b = ready-there r.at_hand

  long : (x : ℕ) → Scope s x Γ → length (val x) ≡ get_or W x 0
  long x c = value-long r.at_hand c r.values

  own-long : length (val rec) ≡ get_or W rec 0
  own-long = long rec r.at_hand.scope

  -- an expression in scope here is at hand, with some room
  pub at-hand-too : {x : ℕ} → Scope s x Γ → EvaluatingIn s n W env names x (replicate (get_or W x 0) 0) Γ
  at-hand-too {x} c =
      evaluating-at r.at_hand c env names (replicate (get_or W x 0) 0) r.at_hand.many r.at_hand.wide (zeros-long (get_or W x 0))
      r.values

  -- the record is the end of its own
  pub chain-here : (from : ℕ) → ChainIn s W Γ ρ rec from rec from
  chain-here from =
      record {
        higher = omega arith;
        scope = r.at_hand.scope;
        inside = λ m h. h;
        stands = λ m h. refl;
        stored = λ h. refl;
        noted = λ f. refl;
      }

  abbrev cut : ℕ
  cut = leaves (type_at s (word_a s (type_record_of s Γ (tree_at s (word_a s rec)))))

  module _ (e : kind_at s rec ≡ expression first) {x : ℕ} (ex : x ≡ word s rec 2) where
    scope₁ : Scope s x Γ
    scope₁ = first-scope r.at_hand e ex

    pub first-evaluating : EvaluatingIn s n W env names x (replicate (get_or W x 0) 0) Γ
    first-evaluating = at-hand-too scope₁

    front : val rec ≡ take cut (val x)
    front = rw ex (first-value w Γ ρ b e)

    pub first-narrow : get_or W rec 0 ≤ get_or W x 0
    first-narrow =
        let a = own-long in let l = long x scope₁ in let f = front-few cut (val x) in let k = ap length front in omega arith

    first-front : val rec ≡ take (get_or W rec 0) (val x)
    first-front = front ∙ sym (front-own cut (val x)) ∙ rw (← front, own-long) refl

    pub first-chained : {from end to : ℕ} → ChainIn s W Γ ρ x from end to → ChainIn s W Γ ρ rec from end to
    first-chained {from} c =
        let h = part-higher r.at_hand first e 2 refl (unfold ask_of_kind in refl) ex in
        let k = first-narrow in
        record {
          higher = omega (arith, h.0, c.higher);
          scope = c.scope;
          inside = λ m f. c.inside m (omega arith);
          stands = λ m f. rw first-front (front-part from m (get_or W rec 0) (val x) f) ∙ c.stands m (omega arith);
          stored = λ h. rw ex (first-stored w Γ ρ b e h) ∙ c.stored h;
          noted = λ f. rw ex (first-fired w Γ ρ b e f) ∙ c.noted f;
        }

    -- it is read from the first leaf of its pair on
    pub first-asked : PartEvaluatingIn s n W env names x 0 out Γ
    first-asked =
        record { value_room = replicate (get_or W x 0) 0; evaluating = first-evaluating; fits = let k = first-narrow in let l = r.at_hand.room in omega arith }

    pub first_done : {whole : Bool} {held fired env₁ held₁ fired₁ o : List ℕ}
        → PartEvaluated whole s n W env names x 0 held fired out env₁ held₁ fired₁ o
        → EvaluatedIn whole s Γ env names rec held fired env₁ held₁ fired₁ o
    first_done {held = held} {fired} p =
        let q = p.done Γ first-asked in
        let d = q.evaluated in
        record {
          value = q.part ∙ rw (d.value, r.at_hand.room) (sym first-front);
          stored = wanted-one d.stored (rw ex (first-stored w Γ ρ b e held));
          noted = wanted-one d.noted (rw ex (first-fired w Γ ρ b e fired));
          wide = d.wide;
          kept = d.kept;
        }

  module _ (e : kind_at s rec ≡ expression second) {x : ℕ} (ex : x ≡ word s rec 2) where
    scope₂ : Scope s x Γ
    scope₂ = second-scope r.at_hand e ex

    pub second-evaluating : EvaluatingIn s n W env names x (replicate (get_or W x 0) 0) Γ
    second-evaluating = at-hand-too scope₂

    end-part : val rec ≡ drop cut (val x)
    end-part = rw ex (second-value w Γ ρ b e)

    pub second-narrow : get_or W rec 0 ≤ get_or W x 0
    second-narrow =
        let a = own-long in let l = long x scope₂ in let f = end-few cut (val x) in let k = ap length end-part in omega arith

    second-end : val rec ≡ drop (get_or W x 0 - get_or W rec 0) (val x)
    second-end = end-part ∙ sym (end-own cut (val x)) ∙ rw (← end-part, own-long, long x scope₂) refl

    pub second-chained : {from start end to : ℕ} → start ≡ from + (get_or W x 0 - get_or W rec 0) → ChainIn s W Γ ρ x start end to
        → ChainIn s W Γ ρ rec from end to
    second-chained {from} {start} es c =
        let h = part-higher r.at_hand second e 2 refl (unfold ask_of_kind in refl) ex in
        let k = second-narrow in
        let turned : get_or W x 0 - get_or W rec 0 + from ≡ start = omega arith in
        record {
          higher = omega (arith, h.0, c.higher);
          scope = c.scope;
          inside = λ m f. c.inside m (omega arith);
          stands = λ m f. rw (second-end, drop-drop from (get_or W x 0 - get_or W rec 0) (val x), turned) (c.stands m (omega arith));
          stored = λ h. rw ex (second-stored w Γ ρ b e h) ∙ c.stored h;
          noted = λ f. rw ex (second-fired w Γ ρ b e f) ∙ c.noted f;
        }

    -- it is read from where the first part ends
    module _ {start : ℕ} (es : start ≡ get_or W x 0 - get_or W rec 0) where
      pub second-asked : PartEvaluatingIn s n W env names x start out Γ
      second-asked =
          record {
            value_room = replicate (get_or W x 0) 0;
            evaluating = second-evaluating;
            fits = let k = second-narrow in let l = r.at_hand.room in omega arith;
          }

      pub second-done : {whole : Bool} {held fired env₁ held₁ fired₁ o : List ℕ}
          → PartEvaluated whole s n W env names x start held fired out env₁ held₁ fired₁ o
          → EvaluatedIn whole s Γ env names rec held fired env₁ held₁ fired₁ o
      second-done {held = held} {fired} p =
          let q = p.done Γ second-asked in
          let d = q.evaluated in
          let l : length out ≡ length (val rec) = r.at_hand.room ∙ sym own-long in
          record {
            value = q.part ∙ rw (d.value, es, ← second-end, l) (take-length (val rec));
            stored = wanted-one d.stored (rw ex (second-stored w Γ ρ b e held));
            noted = wanted-one d.noted (rw ex (second-fired w Γ ρ b e fired));
            wide = d.wide;
            kept = d.kept;
          }

-- a part of a name's value is read in its slot
module _ {s : List ℕ} {n : ℕ} {W env : List ℕ} {names rec from : ℕ} {out Γ : List ℕ}
    (g : PartEvaluatingIn s n W env names rec from out Γ) (e : kind_at s rec ≡ expression name) {k : ℕ} (ek : k ≡ word s rec 2) where
  abbrev r' : EvaluatingIn s n W env names rec g.value_room Γ
  r' = g.evaluating

  pub name-part-few : k < names
  name-part-few = name-in-scope r'.at_hand e ek

  pub name-part-room : (64 * (names - 1 - k) + from + length out ≤ length env) × (length env ≤ 4096)
  name-part-room =
      let f = names-few r'.at_hand r'.at_hand.scope in
      let o = entry-few r'.at_hand r'.at_hand.scope in
      let h = name-part-few in
      let m = r'.at_hand.many in
      let l = r'.at_hand.wide in
      let u = g.fits in
      (omega arith, omega arith)

  pub name-part-done : {whole : Bool} {held fired out' : List ℕ}
      → out' ≡ take (length out) (drop (64 * (names - 1 - k) + from) env)
      → PartEvaluatedIn whole s Γ env names rec from held fired out env held fired out'
  name-part-done {held = held} {fired} q =
      let w = ready-written r'.at_hand in
      let b = ready-there r'.at_hand in
      let stands : slot (names - 1 - k) (get_or W rec 0) env ≡ value_at undecided_rule s Γ (frames s Γ env) rec =
      rw (← r'.at_hand.room) (name-stands r'.at_hand e ek ∙ rw ek (sym (name-value w Γ (frames s Γ env) b e))) in
      record {
        value = value_at undecided_rule s Γ (frames s Γ env) rec;
        evaluated = record {
          value = refl;
          stored = wanted-none (name-stored w Γ (frames s Γ env) b e held);
          noted = wanted-none (name-fired w Γ (frames s Γ env) b e fired);
          wide = r'.at_hand.wide;
          kept = refl;
        };
        part = q ∙ rw (← drop-drop from (64 * (names - 1 - k)) env, ← stands)
            (sym (front-part from (length out) (get_or W rec 0) (drop (64 * (names - 1 - k)) env) g.fits));
      }

-- a part of what an expression gives is read at the end of its chain
module _ {s : List ℕ} {n : ℕ} {W env : List ℕ} {names rec from : ℕ} {out Γ : List ℕ}
    (g : PartEvaluatingIn s n W env names rec from out Γ) {end to : ℕ} (ended : ChainEnded s n W rec from end to) where
  abbrev r'' : EvaluatingIn s n W env names rec g.value_room Γ
  r'' = g.evaluating

  abbrev π : List (List ℕ)
  π = frames s Γ env

  pub the-chain : ChainIn s W Γ π rec from end to
  the-chain = ended.ended env names g.value_room Γ r''

  pub end-there : end < n
  end-there =
      let h : end < count s = (in-circuit r''.at_hand the-chain.scope).there in
      let c = r''.at_hand.sized.counted in
      omega arith

  pub end_low : end < 4096
  end_low = let h = end-there in let f = r''.at_hand.sized.few in omega arith

  end-inside : to + length out ≤ get_or W end 0
  end-inside = the-chain.inside (length out) g.fits

  pub end-few-leaves : get_or W end 0 ≤ 64
  end-few-leaves = entry-few r''.at_hand the-chain.scope

  pub to-few : to + length out ≤ 64
  to-few = let h = end-inside in let f = end-few-leaves in omega arith

  -- the part, as it is read at the end
  same-part : take (length out) (drop from (value_at undecided_rule s Γ π rec)) ≡ take (length out) (drop to (value_at undecided_rule s Γ π end))
  same-part = the-chain.stands (length out) g.fits

  -- in place, where the end is a name
  pub end-part-ready : PartEvaluatingIn s n W env names end to out Γ
  end-part-ready =
      record { value_room = replicate (get_or W end 0) 0; evaluating = at-hand-too r'' the-chain.scope; fits = end-inside }

  pub in-place-done : {whole : Bool} {held fired env₁ held₁ fired₁ o : List ℕ}
      → PartEvaluated whole s n W env names end to held fired out env₁ held₁ fired₁ o
      → PartEvaluatedIn whole s Γ env names rec from held fired out env₁ held₁ fired₁ o
  in-place-done {held = held} {fired} p =
      let q = p.done Γ end-part-ready in
      let d = q.evaluated in
      record {
        value = value_at undecided_rule s Γ π rec;
        evaluated = record {
          value = refl;
          stored = wanted-one d.stored (the-chain.stored held);
          noted = wanted-one d.noted (the-chain.noted fired);
          wide = d.wide;
          kept = d.kept;
        };
        part = q.part ∙ rw d.value (sym same-part);
      }

  -- in some room, where it is evaluated
  module _ {c : ℕ} (ec : c ≡ get_or W end 0) {R : List ℕ} (e_r : R ≡ replicate 64 0) where
    pub end-in-room : c ≤ length R
    end-in-room = fits-room r''.at_hand the-chain.scope ec e_r

    module _ {whole : Bool} {held fired env₁ held₁ fired₁ o₁ : List ℕ}
        (p : Evaluated whole s n W env names end held fired (take (c - 0) R) env₁ held₁ fired₁ o₁) where
      d₁ : EvaluatedIn whole s Γ env names end held fired env₁ held₁ fired₁ o₁
      d₁ = room-done r'' the-chain.scope ec e_r p

      o-long : length o₁ ≡ c
      o-long = ap length d₁.value ∙ value-long r''.at_hand the-chain.scope r''.values ∙ sym ec

      o-has : to + length out ≤ length o₁
      o-has = let h = end-inside in let l = o-long in omega arith

      pub part-in-room : to + length out ≤ length (o₁ ++ drop (c - 0) R)
      part-in-room =
          let f = to-few in
          let i = end-in-room in
          let l = o-long in
          let h = o-has in
          let k = length-append o₁ (drop (c - 0) R) in
          omega arith

      abbrev piece : List ℕ
      piece = take (to + length out - to) (drop to (o₁ ++ drop (c - 0) R))

      same-many : to + length out - to ≡ length out
      same-many = omega arith

      piece_is : piece ≡ take (length out) (drop to o₁)
      piece_is = rw same-many (front-part-of to (length out) o₁ (drop (c - 0) R) o-has)

      pub piece-fits : length piece ≡ length out
      piece-fits = ap length piece_is ∙ part-long to (length out) o₁ o-has

      pub from-room-done : {out' : List ℕ} → out' ≡ piece ++ drop (length piece) out
          → PartEvaluatedIn whole s Γ env names rec from held fired out env₁ held₁ fired₁ out'
      from-room-done {out'} q =
          record {
            value = value_at undecided_rule s Γ π rec;
            evaluated = record {
              value = refl;
              stored = wanted-one d₁.stored (the-chain.stored held);
              noted = wanted-one d₁.noted (the-chain.noted fired);
              wide = d₁.wide;
              kept = d₁.kept;
            };
            part = put_whole piece out out' piece-fits q ∙ piece_is ∙ rw d₁.value (sym same-part);
          }
