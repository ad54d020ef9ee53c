-- What a replay gives, as a line: the number returned is not 0 exactly where it is a refusal, and
-- then its code and place are read back.
-- Assumes nothing.
use Prim.Native.Nat.{ℕ}
use mathlib.Core.List.{List, []}
use mathlib.Core.Path.{◌≡◌, refl, sym, ap, ◌∙◌}
use native.Mathlib.Omega.{arith}
use lib.ListN.{length, replicate, length-replicate}
use Rattle.answers.specs.Answers.{packed, code_of_result, place_of_result}
use Rattle.answers.specs.Answers.{Answer}
use Rattle.answers.specs.Answers.{Done, Refused}
use Rattle.answers.proofs.Kept as Answers
use Rattle.listing.specs.Lines.{ascii, word_line, numbers_line, refused_line}
use Rattle.listing.specs.Texts.{Written, Added}
use Rattle.listing.specs.Seen.{written}
use Rattle.listing.specs.declared.Text.{Text}
use Rattle.listing.proofs.Front.{front-taken, front-inside}
use Rattle.replay.specs.Replay.{Finding}
use Rattle.replay.specs.Replay.{Agrees, Differs}
use Rattle.replay.specs.Replay.{finding, replay_answer, differs_given, cycle_given, leaf_given, ReplayGiven}
use Rattle.replay.proofs.Answered.{replay_laws, replay-done}
use Rattle.replay_line.specs.ReplayLine.{finding_line, replay_line, replay_printed, LineTold}

-- the answer depends on the next slice's length alone
by_length : (s stim recorded next next₂ : List ℕ) → length next ≡ length next₂ → replay_answer s stim recorded next ≡ replay_answer s stim recorded next₂
unfolding replay_answer
by_length s stim recorded next next₂ e = rw e refl

-- a text that is what is printed, in the buffer that was lent to it
pub line-told : {s stim recorded : List ℕ} (t : Text) {after : List ℕ} → after ≡ t.buffer.now → {end : ℕ} → end ≡ length (written t).bytes
    → (written t).bytes ≡ replay_printed s stim recorded → LineTold s stim recorded after end
line-told t loan ends e = record { text = front-taken t loan ends ∙ e; inside = front-inside t loan ends }

module _ {s stim recorded next : List ℕ} {result differs cycle leaf : ℕ} {next' : List ℕ}
    (r : ReplayGiven s stim recorded next result differs cycle leaf next') (long : length next ≡ length s)
  where
    same : replay_answer s stim recorded next ≡ replay_answer s stim recorded (replicate (length s) 0)
    same =
        by_length s stim recorded next (replicate (length s) 0) (long ∙ sym (length-replicate {A = ℕ} (length s) 0))

    told : {old new : Written} {text : List ℕ} → Added old text new → old.bytes ≡ []
        → text ≡ replay_line (replay_answer s stim recorded next) (finding s stim recorded) → new.bytes ≡ replay_printed s stim recorded
    unfolding replay_printed
    told a none e = a.bytes ∙ rw none (e ∙ rw same refl)

    pub refusal-told : (result ≡ 0 → ⊥) → {c p : ℕ} → c ≡ code_of_result result → p ≡ place_of_result result → {old new : Written}
        → Added old (refused_line c p) new → old.bytes ≡ [] → new.bytes ≡ replay_printed s stim recorded
    refusal-told f {c} {p} ec ep a none = told a none (go (replay_answer s stim recorded next) refl)
      where
        go : (a : Answer) → replay_answer s stim recorded next ≡ a → refused_line c p ≡ replay_line a (finding s stim recorded)
        go (Done q) e =
            let z : q ≡ 0 = (((replay_laws s stim recorded next).lowest_first (Done q)).0 e).1 in
            absurd (f (r.result_is ∙ rw (e, z) refl))
        go (Refused k q) e =
            let small = (replay_laws s stim recorded next).place_small in
            let apart = (Answers.kept).taken_apart k q (rw e at small) in
            let ek : c ≡ k = ec ∙ ap code_of_result (r.result_is ∙ ap packed e) ∙ apart.0 in
            let eq : p ≡ q = ep ∙ ap place_of_result (r.result_is ∙ ap packed e) ∙ apart.1 in
            rw (ek, eq) refl

    module _ (z : result ≡ 0) where
      beside : (differs ≡ differs_given (Done 0) (finding s stim recorded))
          × (cycle ≡ cycle_given (Done 0) (finding s stim recorded)) × (leaf ≡ leaf_given (Done 0) (finding s stim recorded))
      beside =
          let e = replay-done r z in
          (r.differs_is ∙ rw e refl, r.cycle_is ∙ rw e refl, r.leaf_is ∙ rw e refl)

      pub difference-told : (differs ≡ 0 → ⊥) → {old new : Written}
          → Added old (numbers_line (ascii "cycle ") cycle (ascii " leaf ") leaf) new → old.bytes ≡ []
          → new.bytes ≡ replay_printed s stim recorded
      difference-told f a none = told a none (rw (replay-done r z) (go (finding s stim recorded) beside.0 beside.1 beside.2))
        where
          go : (g : Finding) → differs ≡ differs_given (Done 0) g → cycle ≡ cycle_given (Done 0) g → leaf ≡ leaf_given (Done 0) g
              → numbers_line (ascii "cycle ") cycle (ascii " leaf ") leaf ≡ finding_line g
          go (Agrees n) a b c = absurd (f a)
          go (Differs k l) a b c = rw (b, c) refl

      pub agreement-told : differs ≡ 0 → {old new : Written}
          → Added old (word_line (ascii "agrees ") cycle) new → old.bytes ≡ [] → new.bytes ≡ replay_printed s stim recorded
      agreement-told f a none = told a none (rw (replay-done r z) (go (finding s stim recorded) beside.0 beside.1))
        where
          go : (g : Finding) → differs ≡ differs_given (Done 0) g → cycle ≡ cycle_given (Done 0) g → word_line (ascii "agrees ") cycle ≡ finding_line g
          go (Agrees n) a b = rw b refl
          go (Differs k l) a b = absurd (omega arith)
