-- The pair and the escape drain do what document 01 says of them (specs, `PairSteps`). Assumes nothing.
use Prim.Native.Nat.{◌-◌, ◌<◌}
use native.Mathlib.Omega.{arith}
use mathlib.Core.Path.{◌≡◌, refl, sym, ap, ◌∙◌}
use mathlib.Core.Bool.{Bool, true, false, not, ◌&&◌, ◌||◌, and-true, and-false, false≢true}
use mathlib.Core.Logic.{⊎_elim}
use native.Mathlib.Nat.{eq-zero-or-pos}
use lib.Dec.{ltb, lit<}
use borrow.Author.Tests.{lt-ltb, le-ltb, eq-eqb, ne_eqb}
use Rattle.std.specs.Prelude.{Some, None}
use Rattle.std.proofs.lemmas.Bool.{and_from, and_left}
use Rattle.countdown.specs.Countdown.{active_of}
use Rattle.console.specs.Modes.{is_general}
use Rattle.console.specs.declared.vram_dma.VramDma.{VramDma}
use Rattle.transfer.specs.Pair.{NextAnswer, moving_of, cursor_after, block_after, arb_after, pair_of, cause_of, advanced_of}
use Rattle.transfer.specs.Pair.{next_byte_of, with_quota, drain_of}
use Rattle.transfer.specs.PairSteps.{Ready, Moved, PairSteps}
use Rattle.transfer.specs.declared.pair.BytePair.{BytePair}
use Rattle.transfer.specs.declared.pair.Cause.{Cause}
use Rattle.transfer.specs.declared.pair.NextByte.{NextByte}

-- bytes are left wherever the engine moves
still : (b g r : Bool) → ((b && false && r) || (g && false)) ≡ false
still false false r = refl
still false true r = refl
still true false r = refl
still true true r = refl

never : (d : VramDma) → d.cursor.remaining ≡ 0 → moving_of d ≡ false
unfolding moving_of
never d none =
    let t : ltb 0 d.cursor.remaining ≡ false = le-ltb 0 d.cursor.remaining (omega arith) in
    rw t (still (ltb 0 d.block.remaining) (is_general d.cursor.mode) (not (active_of d.block.ready_in)))

-- at a carry too
pub block_falls : (d : VramDma) → (advanced_of d).block.remaining ≡ d.block.remaining - 1
unfolding advanced_of block_after
block_falls d = refl

module _ (d : VramDma) (r : Ready d) where
  pub steps : next_byte_of d ≡ record { answer = Some (pair_of d.cursor, cause_of d.cursor); dma = advanced_of d }
  unfolding next_byte_of
  steps = rw (lt-ltb 0 d.cursor.quota r.quota, r.moving)

  -- where the engine moves, something is left
  pub some_left : 0 < d.cursor.remaining
  some_left = ⊎_elim (λ none. absurd (false≢true (sym (never d none) ∙ r.moving))) (λ some. some) (eq-zero-or-pos d.cursor.remaining)

  moved : Moved d (advanced_of d)
  unfolding advanced_of cursor_after block_after arb_after
  moved =
      record {
        quota = omega (arith, r.quota);
        counted = λ unpaid inside. rw (ne_eqb _ _ inside, unpaid) (omega (arith, some_left));
        escaped = λ owed inside. rw (ne_eqb _ _ inside, owed);
        paid = refl;
        block = block_falls d;
        last = λ one. (rw (eq-eqb _ _ one), rw (eq-eqb _ _ one, and-false), rw (eq-eqb _ _ one, and-false));
        not_last = λ more. (rw (ne_eqb _ _ more), rw (ne_eqb _ _ more, and-true), rw (ne_eqb _ _ more, and-true));
        source = refl;
        dest = refl;
        carried = λ edge. (rw edge, rw (eq-eqb _ _ edge), block_falls d);
        ended = λ none. (rw (eq-eqb _ _ none), rw (eq-eqb _ _ none, and-false));
        going = λ some. (rw (ne_eqb _ _ some), rw (ne_eqb _ _ some, and-true));
        rest = refl;
      }

  moves : Moved d (next_byte_of d).dma
  moves = rw steps moved

no_quota : (d : VramDma) → d.cursor.quota ≡ 0 → next_byte_of d ≡ record { answer = None; dma = d }
unfolding next_byte_of
no_quota d none = rw (le-ltb 0 d.cursor.quota (omega arith))

not_moving : (d : VramDma) → moving_of d ≡ false → next_byte_of d ≡ record { answer = None; dma = d }
unfolding next_byte_of
not_moving d still = rw (still, and-false)

-- the drain's pair is a pair with a quota of 1
one : (d : VramDma) → moving_of d ≡ true → Ready (with_quota 1 d)
unfolding moving_of
one d moving = record { quota = lit< tt; moving = moving }

pub drained : (d : VramDma) → d.cursor.escape_byte ≡ true → moving_of d ≡ true → drain_of d ≡ next_byte_of (with_quota 1 d)
unfolding drain_of
drained d owed moving = rw (and_from d.cursor.escape_byte (moving_of d) owed moving)

drains :
    (d : VramDma) → d.cursor.escape_byte ≡ true → moving_of d ≡ true →
    ((drain_of d).answer ≡ Some (pair_of d.cursor, cause_of d.cursor)) × ((drain_of d).dma.cursor.quota ≡ 0)
unfolding advanced_of cursor_after
drains d owed moving = rw (drained d owed moving, steps (with_quota 1 d) (one d moving)) (refl, refl)

drain_moves : (d : VramDma) → d.cursor.escape_byte ≡ true → moving_of d ≡ true → Moved (with_quota 1 d) (drain_of d).dma
drain_moves d owed moving = rw (drained d owed moving) (moves (with_quota 1 d) (one d moving))

none_owed : (d : VramDma) → d.cursor.escape_byte ≡ false → drain_of d ≡ record { answer = None; dma = d }
unfolding drain_of
none_owed d paid = rw (and_left d.cursor.escape_byte (moving_of d) paid)

owed_still : (d : VramDma) → moving_of d ≡ false → drain_of d ≡ record { answer = None; dma = d }
unfolding drain_of
owed_still d still = rw (still, and-false)

pub pair_steps : PairSteps
pair_steps =
    record {
      never = never;
      gives = λ d r. rw (steps d r);
      moves = moves;
      no_quota = no_quota;
      not_moving = not_moving;
      drains = drains;
      drain_moves = drain_moves;
      none_owed = none_owed;
      owed_still = owed_still;
    }

pub no_pair_lem : (p : BytePair) (k : Cause) → ◌≡◌ {A = NextAnswer} None (Some (p, k)) → ⊥
no_pair_lem p k e = cc

-- a pair is answered by an engine that is ready
pub is_ready : (d : VramDma) (p : BytePair) (k : Cause) → (next_byte_of d).answer ≡ Some (p, k) → Ready d
is_ready d p k h = by (moving_of d) refl
  where
    by : (b : Bool) → moving_of d ≡ b → Ready d
    by false m = absurd (no_pair_lem p k (sym (ap (λ (x : NextByte). x.answer) (not_moving d m)) ∙ h))
    by true m =
        ⊎_elim (λ none. absurd (no_pair_lem p k (sym (ap (λ (x : NextByte). x.answer) (no_quota d none)) ∙ h)))
        (λ some. record { quota = some; moving = m }) (eq-zero-or-pos d.cursor.quota)
