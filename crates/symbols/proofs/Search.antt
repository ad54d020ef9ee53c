-- The table of names: a search through the names with one hash finds the last that is the same; a name is added, and taken away.
-- Assumes nothing.
use Prim.Native.Nat.{ℕ, zero, suc, ◌+◌, ◌-◌, ◌≤◌, ◌<◌, min}
use native.Mathlib.Omega.{arith}
use native.Mathlib.Numerals.{add-one}
use native.Mathlib.Decide.{ℕ_discrete, dec_lt}
use mathlib.Core.Path.{◌≡◌, refl, sym, ap, ap₂, subst, ◌∙◌}
use mathlib.Core.Bool.{Bool, true, false, cond}
use mathlib.Core.List.{List}
use lib.ListN.{length, get_or, set, length-set, replicate, get_or-replicate, length-replicate}
use lib.Seq.{get_or-set_same, get_or-set_other}
use lib.Dec.{T, eqb, eqb→eq}
use borrow.Author.Tests.{eq-eqb, ne_eqb}
use Rattle.std.proofs.lemmas.Grind.{get_or_default_zero}
use Rattle.name_rules.specs.Declared.{same_name}
use Rattle.name_rules.proofs.SameName.{same-equal}
use Rattle.symbols.specs.Names.{letters_at, Inside, hash_of, nearest, last_hashed, Hashed}

abbrev pub entry_name : (text spans : List ℕ) → ℕ → List ℕ
entry_name text spans k = letters_at text (get_or spans k 0)

-- as it is read, with any default
pub entry-read : (text spans : List ℕ) (k x : ℕ) → k < length spans → letters_at text (get_or spans k x) ≡ entry_name text spans k
entry-read text spans k x h = ap (letters_at text) (get_or_default_zero spans k x h)

-- one of two by a test, with what the test says
choose : (a b : ℕ) (P : ℕ → Type 0) (x y : ℕ) → (a ≡ b → P x) → ((a ≡ b → ⊥) → P y) → P (cond (eqb a b) x y)
choose a b P x y h k = go (eqb a b) (eqb→eq a b) refl
  where
    go : (t : Bool) → (T t → a ≡ b) → eqb a b ≡ t → P (cond t x y)
    go true e f = h (e tt)
    go false e f = k (λ g. let z : true ≡ false = sym (eq-eqb a b g) ∙ f in let o : ◌≡◌ {A = ℕ} 0 1 = cc in omega arith)

-- names with other hashes are others
other-hash : (v w : List ℕ) → (hash_of v ≡ hash_of w → ⊥) → same_name w v ≡ false
other-hash v w n = go (same_name w v) refl
  where
    go : (x : Bool) → same_name w v ≡ x → x ≡ false
    go true e = absurd (n (ap hash_of (sym (same-equal w v e))))
    go false e = refl

-- an entry, counted from 1, has a hash
abbrev pub HasHash : (text spans : List ℕ) (hash k : ℕ) → Type 0
HasHash text spans hash k = (j : ℕ) → k ≡ suc j → hash_of (entry_name text spans j) ≡ hash

module _ (text spans : List ℕ) where
  pub nearest-below : (w : List ℕ) (m : ℕ) → nearest text spans w m ≤ m
  nearest-below w zero = omega arith
  nearest-below w (suc k) = go (same_name w (entry_name text spans k)) (nearest-below w k)
    where
      go : (x : Bool) → nearest text spans w k ≤ k → cond x (suc k) (nearest text spans w k) ≤ suc k
      go true h = omega arith
      go false h = omega arith

  pub last-below : (b m : ℕ) → last_hashed text spans b m ≤ m
  last-below b zero = omega arith
  last-below b (suc k) =
      let h = last-below b k in
      choose (hash_of (entry_name text spans k)) b (λ x. x ≤ suc k) (suc k) (last_hashed text spans b k) (λ e. omega arith) (λ e. omega arith)

  last-hash : (b m : ℕ) → HasHash text spans b (last_hashed text spans b m)
  last-hash b zero = λ j e. absurd (omega arith)
  last-hash b (suc k) =
      choose (hash_of (entry_name text spans k)) b (HasHash text spans b) (suc k) (last_hashed text spans b k)
      (λ e j f. let g : k ≡ j = omega arith in ap (λ i. hash_of (entry_name text spans i)) (sym g) ∙ e)
      (λ e. last-hash b k)

  -- names with other hashes are passed over
  passed_over : (w : List ℕ) (limit m : ℕ)
      → nearest text spans w (min limit m) ≡ nearest text spans w (min limit (last_hashed text spans (hash_of w) m))
  passed_over w limit zero = refl
  passed_over w limit (suc k) =
      let again = passed_over w limit k in
      choose (hash_of (entry_name text spans k)) (hash_of w)
      (λ x. nearest text spans w (min limit (suc k)) ≡ nearest text spans w (min limit x)) (suc k) (last_hashed text spans (hash_of w) k)
      (λ e. refl) (λ n. go (dec_lt k limit) n ∙ again)
    where
      go : Dec (k < limit) → (hash_of (entry_name text spans k) ≡ hash_of w → ⊥)
          → nearest text spans w (min limit (suc k)) ≡ nearest text spans w (min limit k)
      go (yes l) n =
          let e : min limit (suc k) ≡ suc k = omega arith in
          let f : min limit k ≡ k = omega arith in
          ap (nearest text spans w) e
          ∙ ap (λ x. cond x (suc k) (nearest text spans w k)) (other-hash (entry_name text spans k) w n)
          ∙ sym (ap (nearest text spans w) f)
      go (no l) n = let e : min limit (suc k) ≡ min limit k = omega (arith, l) in ap (nearest text spans w) e

  module _ (w : List ℕ) (limit n : ℕ) (low : limit ≤ n) where
    pub search-first : (k : ℕ) → k ≡ last_hashed text spans (hash_of w) n
        → (k ≤ n) × HasHash text spans (hash_of w) k × (nearest text spans w limit ≡ nearest text spans w (min limit k))
    search-first k e =
        let f : limit ≡ min limit n = omega arith in (
          subst (λ x. x ≤ n) (sym e) (last-below (hash_of w) n),
          subst (HasHash text spans (hash_of w)) (sym e) (last-hash (hash_of w) n),
          ap (nearest text spans w) f ∙ passed_over w limit n ∙ ap (λ x. nearest text spans w (min limit x)) (sym e),
        )

    -- the entry k, of a link
    module _ (link k : ℕ) (is : link ≡ suc k) (e : nearest text spans w limit ≡ nearest text spans w (min limit link)) where
      pub search-found : k < limit → true ≡ same_name w (entry_name text spans k) → suc k ≡ nearest text spans w limit
      search-found l s =
          let f : min limit link ≡ suc k = omega arith in
          sym (e ∙ ap (nearest text spans w) f ∙ ap (λ x. cond x (suc k) (nearest text spans w k)) (sym s))

      -- the entry before it with its hash
      pub search-next : (j : ℕ) → link ≤ n → (k < limit → false ≡ same_name w (entry_name text spans k))
          → HasHash text spans (hash_of w) link → j ≡ last_hashed text spans (hash_of (entry_name text spans k)) k
          → (j ≤ n) × HasHash text spans (hash_of w) j × (nearest text spans w limit ≡ nearest text spans w (min limit j)) × (j < link)
      search-next j l s h f =
          let g : j ≡ last_hashed text spans (hash_of w) k = f ∙ ap (λ b. last_hashed text spans b k) (h k is) in
          let low' : j ≤ k = subst (λ x. x ≤ k) (sym g) (last-below (hash_of w) k) in (
            omega (arith, low'),
            subst (HasHash text spans (hash_of w)) (sym g) (last-hash (hash_of w) k),
            e ∙ one_less (dec_lt limit link) ∙ passed_over w limit k ∙ ap (λ x. nearest text spans w (min limit x)) (sym g),
            omega (arith, low'),
          )
        where
          one_less : Dec (limit < link) → nearest text spans w (min limit link) ≡ nearest text spans w (min limit k)
          one_less (yes m) = let o : min limit link ≡ min limit k = omega arith in ap (nearest text spans w) o
          one_less (no m) =
              let o : min limit link ≡ suc k = omega (arith, m) in
              let r : min limit k ≡ k = omega (arith, m) in
              ap (nearest text spans w) o
              ∙ ap (λ x. cond x (suc k) (nearest text spans w k)) (sym (s (omega (arith, m))))
              ∙ sym (ap (nearest text spans w) r)

-- no name
pub none-hashed : (text spans links : List ℕ) → length spans ≡ 65536 → length links ≡ 65536 → Hashed text 0 spans links (replicate 4096 0)
none-hashed text spans links l m = record {
  spans_long = l;
  links_long = m;
  heads_long = length-replicate {A = ℕ} 4096 0;
  room = omega arith;
  inside = λ k h. absurd (omega arith);
  heads_right = λ b h. get_or-replicate {A = ℕ} 4096 b 0 0 h;
  links_right = λ k h. absurd (omega arith);
}

module _ {text : List ℕ} {n : ℕ} {spans links heads : List ℕ} (t : Hashed text n spans links heads) where
  -- one name more
  module _ (span h : ℕ) (fits : Inside text span) (room : n < 65536) (right : h ≡ hash_of (letters_at text span)) (low : h < 4096) where
    abbrev more : List ℕ
    more = set spans n span

    last-kept : (b m : ℕ) → m ≤ n → last_hashed text more b m ≡ last_hashed text spans b m
    last-kept b zero l = refl
    last-kept b (suc k) l =
        ap₂ (λ v r. cond (eqb (hash_of (letters_at text v)) b) (suc k) r)
        (get_or-set_other spans n k span 0 (λ e. omega arith)) (last-kept b k (omega arith))

    new-span : get_or more n 0 ≡ span
    new-span = get_or-set_same spans n span 0 (omega (arith, t.spans_long))

    last-new : (b : ℕ) → last_hashed text more b (n + 1) ≡ cond (eqb h b) (suc n) (last_hashed text spans b n)
    last-new b =
        ap (last_hashed text more b) (add-one n)
        ∙ ap₂ (λ v r. cond (eqb v b) (suc n) r) (ap (λ v. hash_of (letters_at text v)) new-span ∙ sym right) (last-kept b n (omega arith))

    heads-more : (b : ℕ) → b < 4096 → get_or (set heads h (n + 1)) b 0 ≡ last_hashed text more b (n + 1)
    heads-more b l = go (ℕ_discrete b h)
      where
        go : Dec (b ≡ h) → get_or (set heads h (n + 1)) b 0 ≡ last_hashed text more b (n + 1)
        go (yes e) =
            ap (λ x. get_or (set heads h (n + 1)) x 0) e
            ∙ get_or-set_same heads h (n + 1) 0 (omega (arith, t.heads_long))
            ∙ sym (last-new b ∙ ap (λ x. cond x (suc n) (last_hashed text spans b n)) (eq-eqb h b (sym e)) ∙ sym (add-one n))
        go (no e) =
            get_or-set_other heads h b (n + 1) 0 e
            ∙ t.heads_right b l
            ∙ sym (last-new b ∙ ap (λ x. cond x (suc n) (last_hashed text spans b n)) (ne_eqb h b (λ f. e (sym f))))

    links-more : (k : ℕ) → k < n + 1
        → get_or (set links n (get_or heads h 0)) k 0 ≡ last_hashed text more (hash_of (letters_at text (get_or more k 0))) k
    links-more k l = go (ℕ_discrete k n)
      where
        go : Dec (k ≡ n) → get_or (set links n (get_or heads h 0)) k 0 ≡ last_hashed text more (hash_of (letters_at text (get_or more k 0))) k
        go (yes e) =
            subst (λ x. get_or (set links n (get_or heads h 0)) x 0 ≡ last_hashed text more (hash_of (letters_at text (get_or more x 0))) x) (sym e)
            (get_or-set_same links n (get_or heads h 0) 0 (omega (arith, t.links_long))
            ∙ t.heads_right h low
            ∙ sym (last-kept h n (omega arith))
            ∙ ap (λ b. last_hashed text more b n) (right ∙ sym (ap (λ v. hash_of (letters_at text v)) new-span)))
        go (no e) =
            get_or-set_other links n k (get_or heads h 0) 0 e
            ∙ t.links_right k (omega (arith, e))
            ∙ sym (last-kept (hash_of (letters_at text (get_or spans k 0))) k (omega (arith, e)))
            ∙ ap (λ v. last_hashed text more (hash_of (letters_at text v)) k) (sym (get_or-set_other spans n k span 0 e))

    inside-more : (k : ℕ) → k < n + 1 → Inside text (get_or more k 0)
    inside-more k l = go (ℕ_discrete k n)
      where
        go : Dec (k ≡ n) → Inside text (get_or more k 0)
        go (yes e) = subst (Inside text) (sym (ap (λ x. get_or more x 0) e ∙ new-span)) fits
        go (no e) = subst (Inside text) (sym (get_or-set_other spans n k span 0 e)) (t.inside k (omega (arith, e)))

    pub hashed-more : Hashed text (n + 1) (set spans n span) (set links n (get_or heads h 0)) (set heads h (n + 1))
    hashed-more = record {
      spans_long = length-set spans n span ∙ t.spans_long;
      links_long = length-set links n (get_or heads h 0) ∙ t.links_long;
      heads_long = length-set heads h (n + 1) ∙ t.heads_long;
      room = omega arith;
      inside = inside-more;
      heads_right = heads-more;
      links_right = links-more;
    }

  -- one name less
  module _ (h : ℕ) (some : 0 < n) (right : h ≡ hash_of (letters_at text (get_or spans (n - 1) 0))) where
    last_less : (b : ℕ) → last_hashed text spans b n ≡ cond (eqb h b) n (last_hashed text spans b (n - 1))
    last_less b =
        let e : n ≡ suc (n - 1) = omega arith in
        ap (last_hashed text spans b) e
        ∙ ap₂ (λ v m. cond (eqb v b) m (last_hashed text spans b (n - 1))) (sym right) (sym e)

    heads-less : (b : ℕ) → b < 4096 → get_or (set heads h (get_or links (n - 1) 0)) b 0 ≡ last_hashed text spans b (n - 1)
    heads-less b l = go (ℕ_discrete b h)
      where
        go : Dec (b ≡ h) → get_or (set heads h (get_or links (n - 1) 0)) b 0 ≡ last_hashed text spans b (n - 1)
        go (yes e) =
            ap (λ x. get_or (set heads h (get_or links (n - 1) 0)) x 0) e
            ∙ get_or-set_same heads h (get_or links (n - 1) 0) 0 (omega (arith, t.heads_long, e))
            ∙ t.links_right (n - 1) (omega arith)
            ∙ ap (λ x. last_hashed text spans x (n - 1)) (sym right ∙ sym e)
        go (no e) =
            get_or-set_other heads h b (get_or links (n - 1) 0) 0 e
            ∙ t.heads_right b l
            ∙ last_less b
            ∙ ap (λ x. cond x n (last_hashed text spans b (n - 1))) (ne_eqb h b (λ f. e (sym f)))

    pub hashed-less : Hashed text (n - 1) spans links (set heads h (get_or links (n - 1) 0))
    hashed-less = record {
      spans_long = t.spans_long;
      links_long = t.links_long;
      heads_long = length-set heads h (get_or links (n - 1) 0) ∙ t.heads_long;
      room = omega (arith, t.room);
      inside = λ k l. t.inside k (omega arith);
      heads_right = heads-less;
      links_right = λ k l. t.links_right k (omega arith);
    }
