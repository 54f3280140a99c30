-- Each pair is one of those that a transfer still hands out (specs, `PairsLeft`). Assumes nothing.
use Prim.Native.Nat.{ℕ, ◌+◌, ◌-◌, ◌%◌, ◌<◌, min}
use native.Mathlib.Omega.{arith}
use mathlib.Core.Path.{◌≡◌, refl, sym, ap, ◌∙◌}
use mathlib.Core.Bool.{Bool, true, false, cond, false≢true}
use mathlib.Core.Logic.Iff
use mathlib.Core.Logic.{◌↔◌, ◌⊎◌, inl, inr, ⊎_elim}
use native.Mathlib.Nat.{eq-zero-or-pos}
use lib.Dec.{ltb, eqb}
use borrow.Author.Tests.{lt-ltb, le-ltb, ltb-true, ltb-false, eqb-true, eqb-false, ne_eqb}
use Rattle.countdown.specs.Countdown.{active_of}
use Rattle.console.specs.Modes.{is_general}
use Rattle.console.specs.declared.vram_dma.TransferMode.{TransferMode}
use Rattle.console.specs.declared.vram_dma.TransferMode.TheVariants as mode
use Rattle.console.specs.declared.vram_dma.VramDma.{VramDma}
use Rattle.transfer.specs.Pair.{moving_of, left_after, cursor_after, block_after, advanced_of}
use Rattle.transfer.specs.PairsLeft.{pairs_left, movable, PairsLeft}
use Rattle.transfer.specs.PairSteps.{Ready}
use Rattle.transfer.specs.QuestionSteps.{Moving}
use Rattle.transfer.proofs.PairSteps.{steps}
use Rattle.transfer.proofs.QuestionSteps.{when_general, question_steps}

-- of the numbers alone: what is left, an owed escape, the destination
abbrev count : ℕ → Bool → ℕ → ℕ
count left owed dest = cond (ltb 0 left) (min (left + cond owed 1 0) (65536 - dest)) 0

abbrev after : Bool → ℕ → Bool → ℕ
after carried left owed = cond carried 0 (cond owed left (left - 1))

none_left : (owed : Bool) (dest : ℕ) → count 0 owed dest ≡ 0
none_left owed dest = refl

some_left : (left : ℕ) (owed : Bool) (dest : ℕ) → 0 < left → count left owed dest ≡ min (left + cond owed 1 0) (65536 - dest)
some_left left owed dest some = rw (lt-ltb 0 left some)

-- a pair at the last address
last_one : (left : ℕ) (owed : Bool) → 0 < left → 1 ≡ min (left + cond owed 1 0) (65536 - 65535)
last_one left true some = omega arith
last_one left false some = omega arith

-- and one before it
escaped_one : (left dest : ℕ) → 0 < left → dest + 1 < 65536 → min (left + 0) (65536 - (dest + 1)) + 1 ≡ min (left + 1) (65536 - dest)
escaped_one left dest some low = omega arith

counted_one : (left dest : ℕ) → 1 < left → dest + 1 < 65536 → min (left - 1 + 0) (65536 - (dest + 1)) + 1 ≡ min (left + 0) (65536 - dest)
counted_one left dest some low = omega arith

single : (left dest : ℕ) → left ≡ 1 → dest < 65536 → 1 ≡ min (left + 0) (65536 - dest)
single left dest one low = omega arith

count_falls :
    (left dest : ℕ) (owed : Bool) → 0 < left → dest < 65536 →
    count (after (eqb dest 0xFFFF) left owed) false ((dest + 1) % 65536) + 1 ≡ count left owed dest
count_falls left dest owed some low = by (eqb dest 0xFFFF) refl owed ∙ sym (some_left left owed dest some)
  where
    next : (dest ≡ 0xFFFF → ⊥) → (dest + 1) % 65536 ≡ dest + 1
    next ne = omega arith

    inside : (dest ≡ 0xFFFF → ⊥) → dest + 1 < 65536
    inside ne = omega arith

    by :
        (carried : Bool) → eqb dest 0xFFFF ≡ carried → (owed : Bool) →
        count (after carried left owed) false ((dest + 1) % 65536) + 1 ≡ min (left + cond owed 1 0) (65536 - dest)
    by true c owed = let at : dest ≡ 65535 = eqb-true dest 0xFFFF c in rw at (last_one left owed some)
    by false c true =
        let ne : (dest ≡ 0xFFFF → ⊥) = eqb-false dest 0xFFFF c in
        rw (next ne, lt-ltb 0 left some) (escaped_one left dest some (inside ne))
    by false c false =
        let ne : (dest ≡ 0xFFFF → ⊥) = eqb-false dest 0xFFFF c in
        ⊎_elim
        (λ (z : left - 1 ≡ 0). rw (z) (single left dest (omega (arith, z, some)) low))
        (λ (more : 0 < left - 1). rw (next ne, lt-ltb 0 (left - 1) more) (counted_one left dest (omega (arith, more)) (inside ne)))
        (eq-zero-or-pos (left - 1))

-- and of two pairs the second comes unless the first brings left to 0
two_of :
    (left dest : ℕ) (owed : Bool) → 0 < left → dest < 65536 →
    min 2 (count left owed dest) ≡ cond (eqb (after (eqb dest 0xFFFF) left owed) 0) 1 2
two_of left dest owed some low = ap (min 2) (some_left left owed dest some) ∙ by (eqb dest 0xFFFF) refl owed
  where
    twice : (n : ℕ) → 1 < left → dest + 1 < 65536 → n ≡ left + 0 → 2 ≡ min 2 (min n (65536 - dest))
    twice n more inside e = omega arith

    by :
        (carried : Bool) → eqb dest 0xFFFF ≡ carried → (owed : Bool) →
        min 2 (min (left + cond owed 1 0) (65536 - dest)) ≡ cond (eqb (after carried left owed) 0) 1 2
    by true c owed = let at : dest ≡ 65535 = eqb-true dest 0xFFFF c in rw at (ap (min 2) (sym (last_one left owed some)))
    by false c true =
        let ne : (dest ≡ 0xFFFF → ⊥) = eqb-false dest 0xFFFF c in
        rw (ne_eqb left 0 (λ z. omega (arith, z, some))) (omega (arith, some, low, ne))
    by false c false =
        let ne : (dest ≡ 0xFFFF → ⊥) = eqb-false dest 0xFFFF c in
        ⊎_elim
        (λ (z : left - 1 ≡ 0). rw (z) (omega (arith, z, some, low)))
        (λ (more : 0 < left - 1). rw (ne_eqb (left - 1) 0 (λ z. omega (arith, z, more))) (omega (arith, more, low, ne)))
        (eq-zero-or-pos (left - 1))

-- mode, readiness and block with it
abbrev movable_of : Bool → Bool → ℕ → ℕ → ℕ
movable_of general waiting block all = cond general all (cond waiting 0 (min block all))

not_general : (ended : Bool) (m : TransferMode) → is_general m ≡ false → is_general (cond ended mode.Idle m) ≡ false
not_general true m e = refl
not_general false m e = e

-- the mode after a pair is General or nothing is left
general_on : (left : ℕ) (owed : Bool) (dest : ℕ) (m : TransferMode) (waiting : Bool) (block : ℕ) → is_general m ≡ true →
    movable_of (is_general (cond (eqb left 0) mode.Idle m)) waiting block (count left owed dest) ≡ count left owed dest
general_on left owed dest m waiting block e = by (eqb left 0) refl waiting
  where
    by :
        (ended : Bool) → eqb left 0 ≡ ended → (waiting : Bool) →
        movable_of (is_general (cond ended mode.Idle m)) waiting block (count left owed dest) ≡ count left owed dest
    by false c waiting = rw e
    by true c true = let z : left ≡ 0 = eqb-true left 0 c in rw z
    by true c false = let z : left ≡ 0 = eqb-true left 0 c in rw z (omega arith)

block_falls : (block all : ℕ) → 0 < block → min (block - 1) all + 1 ≡ min block (all + 1)
block_falls block all some = omega arith

positive : (left dest : ℕ) (owed : Bool) → 0 < left → dest < 65536 → 0 < count left owed dest
positive left dest owed some low = rw (lt-ltb 0 left some) (by owed)
  where
    by : (owed : Bool) → 0 < min (left + cond owed 1 0) (65536 - dest)
    by true = omega arith
    by false = omega arith

left_of : (left dest : ℕ) (owed : Bool) → 0 < count left owed dest → 0 < left
left_of left dest owed some = by (ltb 0 left) refl some
  where
    by : (b : Bool) → ltb 0 left ≡ b → 0 < cond b (min (left + cond owed 1 0) (65536 - dest)) 0 → 0 < left
    by true e h = ltb-true 0 left e
    by false e h = absurd (omega (arith, h))

least : (block all : ℕ) → 0 < block → 0 < all → 0 < min block all
least block all b a = omega arith

module _ (d : VramDma) (low : d.cursor.dest < 65536) where
  abbrev all : ℕ
  all = pairs_left d.cursor

  abbrev waiting : Bool
  waiting = active_of d.block.ready_in

  moves : Moving d → 0 < movable d
  moves m = by (is_general d.cursor.mode) refl m.going
    where
      some : 0 < all
      some = positive d.cursor.remaining d.cursor.dest d.cursor.escape_byte m.left low

      by :
          (g : Bool) → is_general d.cursor.mode ≡ g →
          (d.cursor.mode ≡ mode.General) ⊎ ((0 < d.block.remaining) × (d.block.ready_in.0 ≡ 0)) →
          0 < movable_of g waiting d.block.remaining all
      by true e h = some
      by false e (inl h) = absurd (false≢true (sym e ∙ ap is_general h))
      by false e (inr h) = rw (le-ltb 0 d.block.ready_in.0 (omega (arith, h.1))) (least d.block.remaining all h.0 some)

  may : 0 < movable d → Moving d
  may h = by (is_general d.cursor.mode) refl waiting refl h
    where
      left : 0 < all → 0 < d.cursor.remaining
      left = left_of d.cursor.remaining d.cursor.dest d.cursor.escape_byte

      by :
          (g : Bool) → is_general d.cursor.mode ≡ g → (w : Bool) → waiting ≡ w → 0 < movable_of g w d.block.remaining all →
          Moving d
      by true e w k h = record { left = left h; going = inl ((when_general d.cursor.mode).0 e) }
      by false e true k h = absurd (omega (arith, h))
      by false e false k h =
          let idle = ltb-false 0 d.block.ready_in.0 k in
          record { left = left (omega (arith, h)); going = inr (omega (arith, h), omega (arith, idle)) }

  moving : (moving_of d ≡ true) ↔ (0 < movable d)
  moving = Iff.trans (question_steps d).moving (moves, may)

  module _ (r : Ready d) where
    some : 0 < d.cursor.remaining
    some = ((question_steps d).moving.0 r.moving).left

    one_left : pairs_left (advanced_of d).cursor + 1 ≡ all
    unfolding advanced_of cursor_after
    one_left = count_falls d.cursor.remaining d.cursor.dest d.cursor.escape_byte some low

    in_general : is_general d.cursor.mode ≡ true → movable (advanced_of d) ≡ pairs_left (advanced_of d).cursor
    unfolding advanced_of cursor_after block_after
    in_general e =
        general_on (left_after d.cursor) false ((d.cursor.dest + 1) % 65536) d.cursor.mode waiting (d.block.remaining - 1) e

    in_block :
        is_general d.cursor.mode ≡ false → waiting ≡ false →
        movable (advanced_of d) ≡ min (d.block.remaining - 1) (pairs_left (advanced_of d).cursor)
    unfolding advanced_of cursor_after block_after
    in_block e ready = rw (not_general (eqb (left_after d.cursor) 0) d.cursor.mode e, ready)

    one_movable : movable (advanced_of d) + 1 ≡ movable d
    one_movable = by (is_general d.cursor.mode) refl ((question_steps d).moving.0 r.moving).going
      where
        by :
            (g : Bool) → is_general d.cursor.mode ≡ g →
            (d.cursor.mode ≡ mode.General) ⊎ ((0 < d.block.remaining) × (d.block.ready_in.0 ≡ 0)) →
            movable (advanced_of d) + 1 ≡ movable_of g waiting d.block.remaining all
        by true e h = ap (λ (n : ℕ). n + 1) (in_general e) ∙ one_left
        by false e (inl h) = absurd (false≢true (sym e ∙ ap is_general h))
        by false e (inr h) =
            let ready : waiting ≡ false = le-ltb 0 d.block.ready_in.0 (omega (arith, h.1)) in
            rw ready
            (ap (λ (n : ℕ). n + 1) (in_block e ready) ∙ block_falls d.block.remaining (pairs_left (advanced_of d).cursor) h.0
            ∙ ap (min d.block.remaining) one_left)

pub pairs_left_lem : (d : VramDma) → d.cursor.dest < 65536 → PairsLeft d
pairs_left_lem d low =
    record {
      moving = moving d low;
      one_left = λ r. rw (steps d r) (one_left d low r);
      one_movable = λ r. rw (steps d r) (one_movable d low r);
      unowed = λ e. rw e (least_of d.cursor.remaining);
      of_two = λ some. two_of d.cursor.remaining d.cursor.dest d.cursor.escape_byte some low;
    }
  where
    least_of : (left : ℕ) → count left false d.cursor.dest ≡ min left (65536 - d.cursor.dest)
    least_of left = by (ltb 0 left) refl
      where
        by : (b : Bool) → ltb 0 left ≡ b → cond b (min (left + 0) (65536 - d.cursor.dest)) 0 ≡ min left (65536 - d.cursor.dest)
        by true e = omega arith
        by false e = let none = ltb-false 0 left e in omega (arith, none)
