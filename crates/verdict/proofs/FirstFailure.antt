-- Where no judgement of a list fails, each holds; where one does, the first that fails has all before it hold. By induction on the
-- list.
-- Assumes nothing.
use Prim.Native.Nat.{ℕ}
use mathlib.Core.Bool.{Bool, true, false, cond}
use mathlib.Core.List.Memᴰ
use mathlib.Core.List.{List, [], ◌∷◌}
use mathlib.Core.Option.{none, some}
use mathlib.Core.Path.{◌≡◌, refl, sym, ap}
use native.Mathlib.Omega.{arith}
use Rattle.typing.specs.Judgements.{Judgement, holds, first_failing}
use Rattle.verdict.specs.Promises.{AllHold, FailsFirst}

some-is-not-none : (r : ℕ) → some r ≡ none → ⊥
some-is-not-none r e = let z : ◌≡◌ {A = ℕ} 0 1 = cc in omega arith

all_hold : (s : List ℕ) (k : Judgement) (ks : List Judgement) → holds s k.rule ≡ true → AllHold s ks → AllHold s (k ∷ ks)
all_hold s k ks here rest j (Memᴰ.head e) = rw e here
all_hold s k ks here rest j (Memᴰ.tail m) = rest j m

pub none-fails : (s : List ℕ) (js : List Judgement) → first_failing s js ≡ none → AllHold s js
none-fails s [] e = λ j m. elim m [ ]
none-fails s (k ∷ ks) e = go (holds s k.rule) refl e (none-fails s ks)
  where
    go : (b : Bool) → holds s k.rule ≡ b → cond b (first_failing s ks) (some k.at) ≡ none
        → (first_failing s ks ≡ none → AllHold s ks) → AllHold s (k ∷ ks)
    go true h e rest = all_hold s k ks h (rest e)
    go false h e rest = absurd (some-is-not-none k.at e)

pub first-failure : (s : List ℕ) (js : List Judgement) (r : ℕ) → first_failing s js ≡ some r → FailsFirst s js r
first-failure s [] r e = absurd (some-is-not-none r (sym e))
first-failure s (k ∷ ks) r e = go (holds s k.rule) refl e (first-failure s ks r)
  where
    go : (b : Bool) → holds s k.rule ≡ b → cond b (first_failing s ks) (some k.at) ≡ some r
        → (first_failing s ks ≡ some r → FailsFirst s ks r) → FailsFirst s (k ∷ ks) r
    go true h e rest = let f = rest e in record {
      before = k ∷ f.before;
      failing = f.failing;
      after = f.after;
      split = ap (◌∷◌ k) f.split;
      hold = all_hold s k f.before h f.hold;
      fails = f.fails;
      place = f.place;
    }
    go false h e rest = record {
      before = [];
      failing = k;
      after = ks;
      split = refl;
      hold = λ j m. elim m [ ];
      fails = h;
      place = cc;
    }
