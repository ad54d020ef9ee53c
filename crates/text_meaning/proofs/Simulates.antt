-- The rules over names follow 000's rules: where these reduce an expression of the check's language to a constant, the circuit of which it is
-- the form with distances gives that constant by its names, and the two are so related again after the cycle. By induction on 000's
-- derivation; that the expression is typed gives the type of each constant.
-- Assumes nothing.
use Prim.Native.Nat.{ℕ}
use mathlib.Core.Path.{◌≡◌, ap, sym, subst, ◌∙◌}
use mathlib.Core.Bool.{true}
use mathlib.Core.List.{List, [], ◌∷◌}
use Rattle.picoella.specs.Language.{Ty, OfType, Expr, Typed, t_const, t_var, t_tuple, t_index1, t_index2, t_let, t_letrec, t_if, t_delay}
use Rattle.grammar.specs.Source.{Declaration}
use Rattle.name_rules.specs.Declared.{is_declared, constructor_role, at_first}
use Rattle.name_rules.specs.Names.{after_all}
use Rattle.meaning.specs.Undecided.{undecided_constant}
use Rattle.meaning.specs.Constants.{ConstantTree, ConstantOf, of_tuple, ConstantsOf, of_more, flatten, match}
use Rattle.meaning.specs.Rules.{
  branch,
  Reduces,
  r_const,
  r_tuple,
  r_let,
  r_var,
  r_delay,
  r_if,
  r_index1,
  r_index2,
  r_letrec,
  Iterates,
  i_unchanged,
  i_again,
}
use Rattle.meaning.proofs.FlattenOneToOne.{flatten-typed, flatten-one}
use Rattle.layout.specs.Resolved.{constructor_meant, constructor_entries}
use Rattle.text_meaning.specs.NamedValues.{matches_named}
use Rattle.text_meaning.specs.Circuits.{
  NamedCircuit,
  Uses,
  Always,
  Pairs,
  FirstPart,
  SecondPart,
  Binds,
  FeedsBack,
  Chooses,
  Delays,
}
use Rattle.text_meaning.specs.NamedRules.{
  Binding,
  gives_bound,
  gives_constructor,
  gives_always,
  gives_pair,
  gives_first,
  gives_second,
  gives_let,
  gives_feedback,
  gives_if,
  gives_delay,
  comes_unchanged,
  comes_again,
}
use Rattle.text_meaning.proofs.Naming.{name_tree, KnownType, known-pair, name-one}
use Rattle.text_meaning.proofs.Matched.{IsNumber, pattern-matched, branch-named}
use Rattle.text_meaning.proofs.Related.{
  Scoped,
  scoped-name,
  StandsFor,
  Related,
  related-name,
  related-constructor,
  related-always,
  related-pair,
  related-first,
  related-second,
  related-let,
  related-feedback,
  related-if,
  related-delay,
  AllKnown,
  one_known,
  Followed,
  FeedbackFollowed,
}
use Rattle.text_meaning.proofs.InScope.{
  bottom-of-type,
  typed-as,
  comes-from,
  first-of-type,
  second-of-type,
  first-known,
  second-known,
  branch-of-type,
  elem-known,
  binding-found,
  not_found,
}

module _ {ds : List Declaration} where
  -- the constant of a delay after the cycle
  stands-for : {τ : Ty} {k : ConstantTree} {v : List ℕ} → KnownType ds τ → ConstantOf τ k → flatten k ≡ v → StandsFor ds τ v (name_tree ds k)
  stands-for {τ} {k} {v} known of e =
      record { value = λ c of_c e-c. ap (name_tree ds) (flatten-one of_c of (e-c ∙ sym e)); known = known }

module _
    {ds : List Declaration}
    {Declared : Ty → Type 0}
    (numbered : (w : List ℕ) → is_declared constructor_role w (after_all at_first ds) ≡ true
    → IsNumber ds w (constructor_meant (constructor_entries ds) w))
  where
    mutual
      pub rules-follow : {Γ : List Ty} {bound : List (List ℕ)} {l : List ConstantTree} {ρ : List Binding} {e f : Expr} {c : NamedCircuit} {τ : Ty}
          {k : ConstantTree} → Reduces undecided_constant l e k f → Typed Declared Γ e τ → ConstantsOf Γ l → AllKnown ds Γ
          → Scoped ds bound l ρ → Related ds bound e c → Followed ds Declared Γ bound ρ c τ k f
      rules-follow (r_const {c = k} of p) (t_const h) env types scope (related-constructor {w = w} n d s) =
          record {
            of_type = of;
            known = s.known;
            typed = t_const h;
            after = Uses w;
            gives = rw (s.value k of p) (gives_constructor (not_found n scope) d);
            related = related-constructor n d s;
          }
      rules-follow (r_const {c = k} of p) (t_const h) env types scope (related-always {x = x} s) =
          record {
            of_type = of;
            known = s.known;
            typed = t_const h;
            after = Always x;
            gives = rw (s.value k of p) gives_always;
            related = related-always s;
          }
      rules-follow (r_tuple x y) (t_tuple s t d) env types scope (related-pair a b) =
          let u = rules-follow x s env types scope a in
          let v = rules-follow y t env types scope b in
          record {
            of_type = of_tuple u.of_type v.of_type;
            known = known-pair u.known v.known;
            typed = t_tuple u.typed v.typed d;
            after = Pairs u.after v.after;
            gives = gives_pair u.gives v.gives;
            related = related-pair u.related v.related;
          }
      rules-follow (r_let x y) (t_let s t) env types scope (related-let {w = w} a b) =
          let u = rules-follow x s env types scope a in
          let v = rules-follow y t (of_more u.of_type env) (one_known u.known types) (scoped-name scope) b in
          record {
            of_type = v.of_type;
            known = v.known;
            typed = t_let u.typed v.typed;
            after = Binds w u.after v.after;
            gives = gives_let u.gives v.gives;
            related = related-let u.related v.related;
          }
      rules-follow (r_var x) (t_var n) env types scope (related-name {w = w} a) =
          let h = elem-known n env types x in
          record {
            of_type = h.0;
            known = h.1;
            typed = t_var n;
            after = Uses w;
            gives = gives_bound (binding-found a scope x);
            related = related-name a;
          }
      rules-follow (r_delay {c = k} {d = j} of p x q) (t_delay {τ = τ} h t) env types scope (related-delay {x = held} s a) =
          let u = rules-follow x t env types scope a in
          record {
            of_type = of;
            known = s.known;
            typed = t_delay (subst (OfType τ) q (flatten-typed u.of_type)) u.typed;
            after = Delays (name_tree ds j) u.after;
            gives = rw (s.value k of p) (gives_delay u.gives);
            related = related-delay (stands-for u.known u.of_type q) u.related;
          }
      rules-follow (r_index1 {c = k} {d = j} x) (t_index1 t) env types scope (related-first a) =
          let u = rules-follow x t env types scope a in
          record {
            of_type = first-of-type u.of_type;
            known = first-known u.known;
            typed = t_index1 u.typed;
            after = FirstPart u.after;
            gives = gives_first u.gives;
            related = related-first u.related;
          }
      rules-follow (r_index2 x) (t_index2 t) env types scope (related-second a) =
          let u = rules-follow x t env types scope a in
          record {
            of_type = second-of-type u.of_type;
            known = second-known u.known;
            typed = t_index2 u.typed;
            after = SecondPart u.after;
            gives = gives_second u.gives;
            related = related-second u.related;
          }
      rules-follow (r_if {c = k} {d = j} {b = i} x y z e) (t_if {p = p} t h s r) env types scope (related-if {m = m} q a checked b g) =
          let u = rules-follow x t env types scope a in
          let v = rules-follow y s env types scope b in
          let w = rules-follow z r env types scope g in
          record {
            of_type = subst (ConstantOf _) e (branch-of-type (match p k) v.of_type w.of_type);
            known = v.known;
            typed = t_if u.typed h v.typed w.typed;
            after = Chooses u.after m v.after w.after;
            gives = gives_if u.gives v.gives w.gives
                (branch-named ds (matches_named (after_all at_first ds) m (name_tree ds k)) v.known v.of_type w.of_type
                ∙ ap (name_tree ds)
                (ap (λ x. branch undecided_constant x j i)
                (pattern-matched ds numbered m checked u.known (typed-as q h) u.of_type
                ∙ ap (λ p. match p k) (sym q))
                ∙ e));
            related = related-if q u.related checked v.related w.related;
          }
      rules-follow (r_letrec x y) (t_letrec {σ = σ} s t) env types scope (related-feedback {w = w} {i = i} k e a b) =
          let u = settles x s env types k (bottom-of-type σ) scope a in
          let v = rules-follow y t (of_more u.of_type env) (one_known k types) (scoped-name scope) b in
          record {
            of_type = v.of_type;
            known = v.known;
            typed = t_letrec u.typed v.typed;
            after = FeedsBack i w u.after v.after;
            gives = gives_feedback (comes-from e u.comes) v.gives;
            related = related-feedback k e u.related v.related;
          }

      settles : {Γ : List Ty} {bound : List (List ℕ)} {l : List ConstantTree} {ρ : List Binding} {w : List ℕ} {e f : Expr} {c : NamedCircuit}
          {σ : Ty} {j k : ConstantTree} → Iterates undecided_constant l e j k f → Typed Declared (σ ∷ Γ) e σ → ConstantsOf Γ l → AllKnown ds Γ
          → KnownType ds σ → ConstantOf σ j → Scoped ds bound l ρ → Related ds (w ∷ bound) e c
          → FeedbackFollowed ds Declared (σ ∷ Γ) (w ∷ bound) ρ w c σ j k f
      settles (i_unchanged x) t env types known of scope a =
          let u = rules-follow x t (of_more of env) (one_known known types) (scoped-name scope) a in
          record {
            of_type = of;
            typed = u.typed;
            after = u.after;
            comes = comes_unchanged u.gives;
            related = u.related;
          }
      settles (i_again x differs y) t env types known of scope a =
          let u = rules-follow x t (of_more of env) (one_known known types) (scoped-name scope) a in
          let v = settles y t env types known u.of_type scope a in
          record {
            of_type = v.of_type;
            typed = v.typed;
            after = v.after;
            comes = comes_again u.gives (λ e. differs (name-one ds known of u.of_type e)) v.comes;
            related = v.related;
          }
