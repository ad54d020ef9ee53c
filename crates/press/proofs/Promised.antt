-- The promises of one press away: the change that is told is the lowest that alters the output
-- leaf, and none is told exactly where none does; its answer says what its checks say; and what is
-- compared is what previews show.
-- Assumes nothing.
use Prim.Native.Nat.{ℕ, zero, suc, ◌≤◌, ◌<◌}
use mathlib.Core.Path.{◌≡◌, refl, sym, ap, ◌∙◌}
use mathlib.Core.Bool.{Bool, true, false, not, ◌&&◌}
use mathlib.Core.Logic.{◌≢◌}
use mathlib.Core.List.{List, [], ◌∷◌}
use mathlib.Core.Option.{Option, none, some}
use native.Mathlib.Omega.{arith}
use native.Mathlib.Decide.{ℕ_discrete, dec_lt}
use lib.Dec.{eqb, leb}
use lib.ListN.{get_or, set}
use borrow.Author.Tests.{eq-eqb, leb-false, lt-leb, ne_eqb}
use Rattle.picoella.specs.Language.{bounds}
use Rattle.answers.specs.Answers.{code, lowest, NoneApplies, is_some}
use Rattle.answers.specs.GivenSlices.{no_slice}
use Rattle.answers.specs.Answers.{Answer}
use Rattle.answers.specs.Answers.{Done, Refused}
use Rattle.answers.proofs.First.{none-split, when-none, when-some}
use Rattle.answers.proofs.StandardLaws.{zero-done}
use Rattle.answers.proofs.Lowest.{lowest-is, lowest_none, lowest-none-fails, lowest-some-passes}
use Rattle.verdict.specs.Verdict.{sheet_checks, output_type}
use Rattle.accepted.proofs.Calls.{none-of-call, call-laws, accepted-output}
use Rattle.accepted.proofs.Laws.{first-accepted}
use Rattle.accepted.proofs.Small.{accepted-few}
use Rattle.stimulus.specs.Stimulus.{input_type, input_leaves}
use Rattle.stimulus.specs.OneCycle.{not_one_cycle}
use Rattle.stimulus.proofs.OneCycle.{one-cycle-typed}
use Rattle.stimulus.proofs.OneCycleCalls.{after-cycle-small}
use Rattle.behaviour.specs.Run.{output_leaves}
use Rattle.probe.specs.OutputLeaf.{leaf_for, leaf_check}
use Rattle.probe.proofs.Inputs.{set-within}
use Rattle.probe.proofs.Shown.{shown-at}
use Rattle.press.specs.Press.{alters_to, constructor_for, leaf_found, change_to, change_at, one_press, own_press_checks, press_checks, press_answer, press_done, final_press, press_found, press_leaf, press_constructor}
use Rattle.press.specs.Press.{Press}
use Rattle.press.specs.Press.{Change, NoChange}
use Rattle.press.specs.Promises.{Alters, LowestChange, PressTold, PressNone, FormedPress, PressLaws, PressRefusedUntold, PressAsShown}

never_both : (b : Bool) → b ≡ true → b ≡ false → ⊥
never_both b t f = let z : ◌≡◌ {A = ℕ} 0 1 = cc in omega arith

neither : (a b : Bool) → (not a && not b) ≡ true → (a ≡ false) × (b ≡ false)
neither true true e = let z : ◌≡◌ {A = ℕ} 0 1 = cc in absurd (omega arith)
neither true false e = let z : ◌≡◌ {A = ℕ} 0 1 = cc in absurd (omega arith)
neither false true e = let z : ◌≡◌ {A = ℕ} 0 1 = cc in absurd (omega arith)
neither false false e = (refl, refl)

differ : (m n : ℕ) → eqb m n ≡ false → m ≢ n
differ m n e q = never_both (eqb m n) (eq-eqb m n q) e

module _ (s i : List ℕ) (l : ℕ) where
  abbrev count : ℕ → ℕ
  count j = get_or (bounds (input_type s)) j 0

  -- the test is that of a change
  change-passes : (j k : ℕ) → Alters s i l j (suc k) → (k < count j) × (alters_to s i l j (suc k) ≡ true)
  change-passes j k a =
      let h = a.constructor in
      (omega arith, rw (ne_eqb (suc k) (get_or i j 0) a.other, ne_eqb (leaf_for s l (set i j (suc k))) (leaf_for s l i) a.altered) refl)

  passing-alters : (j k : ℕ) → j < input_leaves s → k < count j → alters_to s i l j (suc k) ≡ true → Alters s i l j (suc k)
  passing-alters j k h g e =
      let n = neither (eqb (suc k) (get_or i j 0)) (eqb (leaf_for s l (set i j (suc k))) (leaf_for s l i)) e in
      record {
        there = h;
        defined = omega arith;
        constructor = g;
        other = differ (suc k) (get_or i j 0) n.0;
        altered = differ (leaf_for s l (set i j (suc k))) (leaf_for s l i) n.1;
      }

  -- a leaf that has a change has a lowest constructor
  has_some : (j c : ℕ) → Alters s i l j c → is_some (constructor_for s i l j) ≡ true
  unfolding constructor_for
  has_some j zero a = let h = a.defined in absurd (omega arith)
  has_some j (suc k) a = go (constructor_for s i l j) refl
    where
      p : (k < count j) × (alters_to s i l j (suc k) ≡ true)
      p = change-passes j k a

      go : (o : Option ℕ) → lowest (λ q. alters_to s i l j (suc q)) (count j) ≡ o → is_some o ≡ true
      go (some q) e = refl
      go none e = absurd (never_both (alters_to s i l j (suc k)) p.1 (lowest-none-fails (λ q. alters_to s i l j (suc q)) (count j) e k p.0))

  -- what is told
  told-lowest : (j k : ℕ) → leaf_found s i l ≡ some j → constructor_for s i l j ≡ some k → LowestChange s i l j (suc k)
  unfolding leaf_found constructor_for
  told-lowest j k e f =
      let a = lowest-some-passes (λ q. is_some (constructor_for s i l q)) (input_leaves s) j e in
      let b = lowest-some-passes (λ q. alters_to s i l j (suc q)) (count j) k f in
      record {
        alters = passing-alters j k a.0 b.0 b.1;
        first_leaf = λ q d h. leaf-least q d h a.2 (dec_lt q j);
        first_constructor = λ d h. constructor-least d h b.2;
      }
    where
      leaf-least : (q d : ℕ) → Alters s i l q d → ((r : ℕ) → r < j → is_some (constructor_for s i l r) ≡ false) → Dec (q < j) → j ≤ q
      leaf-least q d h before (yes g) = absurd (never_both (is_some (constructor_for s i l q)) (has_some q d h) (before q g))
      leaf-least q d h before (no g) = omega arith

      constructor-least : (d : ℕ) → Alters s i l j d → ((r : ℕ) → r < k → alters_to s i l j (suc r) ≡ false) → suc k ≤ d
      constructor-least zero h before = let g = h.defined in absurd (omega arith)
      constructor-least (suc d) h before = go (dec_lt d k)
        where
          go : Dec (d < k) → suc k ≤ suc d
          go (yes g) = absurd (never_both (alters_to s i l j (suc d)) (change-passes j d h).1 (before d g))
          go (no g) = omega arith

  -- both ways, by cases on what the two searches find
  told-case : (o : Option ℕ) → leaf_found s i l ≡ o → (j c : ℕ) → change_at o (constructor_for s i l) ≡ Change j c → LowestChange s i l j c
  told-case none e j c q = let z : ◌≡◌ {A = ℕ} 0 1 = cc in absurd (omega arith)
  told-case (some m) e j c q = go (constructor_for s i l m) refl q
    where
      go : (o : Option ℕ) → constructor_for s i l m ≡ o → change_to m o ≡ Change j c → LowestChange s i l j c
      go none f q = let z : ◌≡◌ {A = ℕ} 0 1 = cc in absurd (omega arith)
      go (some k) f q =
          let x : m ≡ j = cc in
          let y : suc k ≡ c = cc in
          rw (← x, ← y) (told-lowest m k e f)

  lowest-told : (j c : ℕ) → LowestChange s i l j c → one_press s i l ≡ Change j c
  unfolding one_press leaf_found constructor_for
  lowest-told j zero h = let g = h.alters.defined in absurd (omega arith)
  lowest-told j (suc k) h =
      let p = change-passes j k h.alters in
      let f : constructor_for s i l j ≡ some k =
      lowest-is (λ q. alters_to s i l j (suc q)) (count j) k p.0 p.1 (λ q g. no_lower q g) in
      let e : leaf_found s i l ≡ some j =
      lowest-is (λ q. is_some (constructor_for s i l q)) (input_leaves s) j h.alters.there (ap is_some f) (λ q g. no-leaf q g (constructor_for s i l q) refl) in
      rw (e, f) refl
    where
      no_lower : (q : ℕ) → q < k → alters_to s i l j (suc q) ≡ false
      no_lower q g = go (alters_to s i l j (suc q)) refl
        where
          go : (b : Bool) → alters_to s i l j (suc q) ≡ b → b ≡ false
          go false e = refl
          go true e =
              let p = change-passes j k h.alters in
              let m = h.first_constructor (suc q) (passing-alters j q h.alters.there (omega arith) e) in
              absurd (omega arith)

      no-leaf : (q : ℕ) → q < j → (o : Option ℕ) → constructor_for s i l q ≡ o → is_some o ≡ false
      no-leaf q g none e = refl
      no-leaf q g (some d) e =
          let b = lowest-some-passes (λ r. alters_to s i l q (suc r)) (count q) d e in
          let t = h.alters.there in
          let m = h.first_leaf q (suc d) (passing-alters q d (omega arith) b.0 b.1) in
          absurd (omega arith)

  none-case : (o : Option ℕ) → leaf_found s i l ≡ o → change_at o (constructor_for s i l) ≡ NoChange → (j c : ℕ) → Alters s i l j c → ⊥
  unfolding leaf_found
  none-case none e q j c a =
      never_both (is_some (constructor_for s i l j)) (has_some j c a)
      (lowest-none-fails (λ q. is_some (constructor_for s i l q)) (input_leaves s) e j a.there)
  none-case (some m) e q j c a = go (constructor_for s i l m) refl q (lowest-some-passes (λ q. is_some (constructor_for s i l q)) (input_leaves s) m e).1
    where
      go : (o : Option ℕ) → constructor_for s i l m ≡ o → change_to m o ≡ NoChange → is_some (constructor_for s i l m) ≡ true → ⊥
      go none f q t = never_both (is_some (constructor_for s i l m)) t (ap is_some f)
      go (some k) f q t = let z : ◌≡◌ {A = ℕ} 0 1 = cc in omega arith

  none_told : ((j c : ℕ) → Alters s i l j c → ⊥) → one_press s i l ≡ NoChange
  unfolding one_press leaf_found constructor_for
  none_told f =
      let e : leaf_found s i l ≡ none =
      lowest_none (λ q. is_some (constructor_for s i l q)) (input_leaves s) (λ q g. no-leaf q g (constructor_for s i l q) refl) in
      rw e refl
    where
      no-leaf : (q : ℕ) → q < input_leaves s → (o : Option ℕ) → constructor_for s i l q ≡ o → is_some o ≡ false
      no-leaf q g none e = refl
      no-leaf q g (some d) e =
          let b = lowest-some-passes (λ r. alters_to s i l q (suc r)) (count q) d e in
          absurd (f q (suc d) (passing-alters q d g b.0 b.1))

pub press-told : PressTold
unfolding one_press
press-told s i l j c = (told-case s i l (leaf_found s i l) refl j c, lowest-told s i l j c)

pub press-none-told : PressNone
unfolding one_press
press-none-told s i l = (none-case s i l (leaf_found s i l) refl, none_told s i l)

-- the answer
press-formed : (s stim : List ℕ) (l : ℕ) → NoneApplies (press_checks s stim l) → FormedPress s stim l
press-formed s stim l h =
    let p = none-split (sheet_checks s) (own_press_checks s stim l) h in
    record {
      accepted = first-accepted s p.0;
      one_cycle = when-none (not_one_cycle s stim) 0 p.1.0;
      fitting = p.1.1.0;
      there = leb-false (output_leaves s) l (when-none (leb (output_leaves s) l) (output_leaves s) p.1.1.1.0);
    }

formed-none : (s stim : List ℕ) (l : ℕ) → FormedPress s stim l → NoneApplies (press_checks s stim l)
formed-none s stim l f =
    none-of-call s (own_press_checks s stim l) (output_type s) f.accepted
    (rw f.one_cycle refl, (f.fitting, (rw (lt-leb (output_leaves s) l f.there) refl, tt)))

pub press_laws : PressLaws
unfolding press_answer
press_laws s stim l =
    call-laws s (own_press_checks s stim l) (press-formed s stim l, formed-none s stim l) refl refl
    (λ t v. after-cycle-small s stim (leaf_check s l ∷ []) (
      λ p g. let z = when-some (leb (output_leaves s) l) (output_leaves s) p g in
          let k : output_leaves s ≤ 64 = rw (accepted-output s t v) at (accepted-few s v) in omega arith,
      λ g. omega arith,
    ))
    no_slice

untold : (a : Answer) (p : Press) → code a ≢ 0 → press_done a p ≡ NoChange
untold (Done n) p f = absurd (f refl)
untold (Refused c n) p f = refl

pub press-refused-untold : PressRefusedUntold
unfolding final_press
press-refused-untold s stim l f = untold (press_answer s stim l) (one_press s stim l) f

-- what is told, as numbers
told-change : (p : Press) (found j c : ℕ) → found ≡ press_found p → j ≡ press_leaf p → c ≡ press_constructor p → found ≡ 1 → p ≡ Change j c
told-change (Change i d) found j c f x y e = rw (x, y) refl
told-change NoChange found j c f x y e = let z : ◌≡◌ {A = ℕ} 0 1 = sym f ∙ e in absurd (omega arith)

told_none : (p : Press) (found : ℕ) → found ≡ press_found p → found ≡ 0 → p ≡ NoChange
told_none (Change i d) found f e = let z : ◌≡◌ {A = ℕ} 1 0 = sym f ∙ e in absurd (omega arith)
told_none NoChange found f e = refl

-- a change that is no alteration leaves the value
same-leaf : (s stim : List ℕ) (l i d : ℕ) → ((j c : ℕ) → Alters s stim l j c → ⊥) → i < input_leaves s → 1 ≤ d → d ≤ get_or (bounds (input_type s)) i 0
    → d ≢ get_or stim i 0 → leaf_for s l (set stim i d) ≡ leaf_for s l stim
same-leaf s stim l i d never h o b n = go (ℕ_discrete (leaf_for s l (set stim i d)) (leaf_for s l stim))
  where
    go : Dec (leaf_for s l (set stim i d) ≡ leaf_for s l stim) → leaf_for s l (set stim i d) ≡ leaf_for s l stim
    go (yes e) = e
    go (no f) = absurd (never i d (record { there = h; defined = o; constructor = b; other = n; altered = f }))

pub press-as-shown : PressAsShown
unfolding final_press
press-as-shown s stim l found j c g shown result out e p =
    let a = zero-done (press_laws s stim l) g.result_is in
    let f = (((press_laws s stim l).lowest_first (Done 0)).0 a).0 in
    let v = f.accepted in
    let typed = one-cycle-typed s stim (rw f.one_cycle refl, (f.fitting, tt)) in
    let here = shown-at s v stim typed l shown result out e p in
    let final : final_press s stim l ≡ one_press s stim l = rw a refl in (
      here.0,
      record {
        told = λ q shown' result' other e' p'.
            let t : one_press s stim l ≡ Change j c = sym final ∙ told-change (final_press s stim l) found j c g.found_is g.input_is g.constructor_is q in
            let m = ((press-told s stim l j c).0 t).alters in
            let there = shown-at s v (set stim j c) (set-within typed j c m.constructor) l shown' result' other e' p' in
            (there.0, λ z. m.altered (sym there.1 ∙ z ∙ here.1));
        untold = λ q i d h o b n shown' result' other e' p'.
            let t : one_press s stim l ≡ NoChange = sym final ∙ told_none (final_press s stim l) found g.found_is q in
            let there = shown-at s v (set stim i d) (set-within typed i d b) l shown' result' other e' p' in
            (there.0, there.1 ∙ same-leaf s stim l i d ((press-none-told s stim l).0 t) h o b n ∙ sym here.1);
      },
    )
