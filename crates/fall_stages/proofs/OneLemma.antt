-- One lemma for every countdown of the fall, every length and both speeds (specs/Windows.antt, `OneLemma`), from the law of
-- every countdown. Assumes nothing.
use Prim.Native.Nat.{ℕ, suc}
use mathlib.Core.Path.{◌≡◌, refl, ap, ◌∙◌}
use mathlib.Core.Bool.{Bool, true, false, cond}
use lib.Dec.{eqb}
use Rattle.countdown.specs.Countdown.{armed, active_of, stepped, after}
use Rattle.countdown.specs.declared.Countdown.{Countdown}
use Rattle.countdown.proofs.Counts.{counts}
use Rattle.console.specs.declared.vram_dma.VramDma.{VramDma}
use Rattle.fall_stages.specs.Fall.{gates, fall_of}
use Rattle.fall_stages.specs.Windows.{Window, at_step, SteppedOnce, Since, by_call, by_fall, then_fall, then_other, Nth, arming, later, Lasts, OneLemma}
use Rattle.fall_stages.specs.declared.FallInput.{FallInput}

module _ (w : Window) (s : SteppedOnce w) where
  -- one fall steps it or leaves it, from what it holds there
  one_fall :
      (g : Bool) (i : FallInput) (double : Bool) (d : VramDma) (k : ℕ) → gates i ≡ g → (fall_of i double d).refused ≡ false →
      at_step w i double d ≡ after k (armed w.ticks) →
      w.countdown (fall_of i double d).dma ≡ after (cond g k (suc k)) (armed w.ticks)
  one_fall true i double d k g n h = s.gated i double d g ∙ h
  one_fall false i double d k g n h = s.ungated i double d n g ∙ ap stepped h

  since_after : {k : ℕ} {e : VramDma} → Since w k e → w.countdown e ≡ after k (armed w.ticks)
  since_after (by_call d h) = h
  since_after (by_fall i double d n a) = one_fall (gates i) i double d 0 refl n (rw a)
  since_after (then_fall i double k d r n a c) = one_fall (gates i) i double d k refl n (rw (a, c) (since_after r))
  since_after (then_other k d e r h) = h ∙ since_after r

  nth_after : {k : ℕ} {i : FallInput} {double : Bool} {d : VramDma} → Nth w k i double d → at_step w i double d ≡ after k (armed w.ticks)
  nth_after (arming i double d a) = rw a
  nth_after (later i double k d r a c) = rw (a, c) (since_after r)

  pub lasts : Lasts w
  lasts =
      record {
        holds = λ k e r. ap (λ (c : Countdown). c.0) (since_after r) ∙ (counts w.ticks k).holds;
        finds = λ k i double d r. ap (λ (c : Countdown). c.0) (nth_after r) ∙ (counts w.ticks k).holds;
        active = λ k i double d r. ap active_of (nth_after r) ∙ (counts w.ticks k).active;
        drains = λ k i double d r. ap (λ (c : Countdown). eqb c.0 1) (nth_after r) ∙ (counts w.ticks k).drains;
      }

pub one_lemma : OneLemma
one_lemma w s = lasts w s
