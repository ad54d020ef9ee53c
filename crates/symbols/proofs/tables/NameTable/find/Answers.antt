-- From one name with the hash to the one before it; each that is passed over is another.
-- Assumes nothing.
use Rattle.std.proofs.Common.{sym, ap, ◌∙◌, arith, get_or}
use Rattle.name_rules.specs.Declared.{same_name}
use Rattle.symbols.specs.Names.{hash_of, letters_at, nearest, last_hashed}
use Rattle.symbols.proofs.Search.{search-first, search-next, search-found, last-below, entry-read}
use Rattle.symbols.proofs.tables.NameTable.find.Goals as goal
use Rattle.symbols.proofs.tables.NameTable.find.Goals.{then-k-limit+else-same, else-k-limit}

pub loop-k-init : goal.loop-k-init
loop-k-init c =
    let s = c.args.self.now in
    let r = search-first s.text.now s.spans c.letters-letters.result.now c.args.limit s.count c.requires.1 _
    (s.hashed.heads_right _ c.hash.ensures.1 ∙ ap (λ b. last_hashed s.text.now s.spans b s.count) c.hash.ensures.0) in
    record { low = r.0; hashed = r.1; passed = r.2 }

pub loop-k-smaller : goal.loop-k-smaller
loop-k-smaller c =
    let s = c.args.self.now in
    let i = c.loop-k.invariant in
    let l = i.low in
    let t = s.hashed.room in
    let k = s.hashed.links_right c.in-Some.k (let e = c.in-Some.ensures in omega arith) in
    let b = last-below s.text.now s.spans (hash_of (letters_at s.text.now (get_or s.spans c.in-Some.k 0))) c.in-Some.k in
    let e = c.in-Some.ensures in
    omega arith

pub loop-k-preserved : goal.loop-k-preserved
loop-k-preserved c =
    let s = c.args.self.now in
    let i = c.loop-k.invariant in
    let l = i.low in
    let t = s.hashed.room in
    let r = search-next s.text.now s.spans c.letters-letters.result.now c.args.limit s.count c.requires.1 c.loop-k.link c.in-Some.k
    (sym c.in-Some.ensures) i.passed _ l
    (λ h. elim c.if-k-limit.branch [
      | then-k-limit+else-same w ↦
          sym w.if-same.false
          ∙ w.same.ensures
          ∙ ap (same_name c.letters-letters.result.now) (w.letters.ensures ∙ entry-read s.text.now s.spans c.in-Some.k w.index-spans-k.result (let e = c.in-Some.ensures in omega (arith, s.hashed.spans_long)))
      | else-k-limit w ↦ absurd (let g = w.if-k-limit.false in omega arith)
    ]) i.hashed (s.hashed.links_right _ (let e = c.in-Some.ensures in omega arith)) in
    record { low = r.0; hashed = r.1; passed = r.2 }

pub returns-then-same : goal.returns-then-same
returns-then-same c =
    let s = c.args.self.now in
    search-found s.text.now s.spans c.letters-letters.result.now c.args.limit s.count c.requires.1 c.loop-k.link c.in-Some.k (sym c.in-Some.ensures)
    c.loop-k.invariant.passed c.if-k-limit.true
    (sym c.if-same.true
    ∙ c.same.ensures
    ∙ ap (same_name c.letters-letters.result.now)
    (c.letters.ensures ∙ entry-read s.text.now s.spans c.in-Some.k c.index-spans-k.result (let e = c.in-Some.ensures in let l = c.loop-k.invariant.low in let t = s.hashed.room in omega (arith, s.hashed.spans_long))))
    ∙ ap (λ w. nearest s.text.now s.spans w c.args.limit) c.letters-letters.ensures
