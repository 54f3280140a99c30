-- A fall is declined in document 01's order, and leaves and tells what the fall gives (specs, `FallCallSteps`). Assumes nothing.
use Prim.Native.Nat.{◌≤◌}
use mathlib.Core.Path.{◌≡◌, refl, sym, ap}
use mathlib.Core.Bool.{Bool, true, false}
use borrow.Author.Tests.{lt-ltb, le-ltb}
use Rattle.console.specs.Reached.{unreached}
use Rattle.console.proofs.Refusals.{numbered}
use Rattle.console.specs.declared.Cgb.{Cgb}
use Rattle.console.specs.declared.VramDmaClaim.{VramDmaClaim}
use Rattle.fall_stages.specs.declared.FallInput.{FallInput}
use Rattle.fall_stages.proofs.Steps.{fall_steps}
use Rattle.answers.specs.Answers.{tells_commit}
use Rattle.fall_call.specs.Fall.{fallen, fall_refusal, fallen_state, fall_call_of}
use Rattle.fall_call.specs.FallCallSteps.{FallRefusals, FallCallSteps}

pub fall_refusals : (s : Cgb) (i : FallInput) → FallRefusals s i
unfolding fall_refusal
fall_refusals s i =
    record {
      first_7 = λ seven. numbered (rw seven);
      then_1 = λ reached high. numbered (rw (reached, lt-ltb 3 i.mode high));
      then_14 = λ reached low over. numbered (rw (reached, le-ltb 3 i.mode low, over));
      accepted = λ reached low fine. rw (reached, le-ltb 3 i.mode low, fine);
    }

module _ (s : Cgb) (i : FallInput) (reached : unreached s ≡ false) (low : i.mode ≤ 3) where
  leaves : (over : Bool) → (fallen s i).refused ≡ over → (fall_call_of s i).state.vram_dma ≡ (fallen s i).dma
  unfolding fall_call_of fallen_state
  leaves true e =
      rw (((fall_refusals s i).then_14 reached low e).reason) (sym ((fall_steps i s.double_speed s.vram_dma).refused_keeps e).0)
  leaves false e = rw ((fall_refusals s i).accepted reached low e)

  tells : (over : Bool) → (fallen s i).refused ≡ over → tells_commit (fall_call_of s i).answer ≡ (fallen s i).claim.committed
  unfolding fall_call_of
  tells true e =
      rw (((fall_refusals s i).then_14 reached low e).reason)
      (sym (ap (λ (c : VramDmaClaim). c.committed) ((fall_steps i s.double_speed s.vram_dma).refused_keeps e).1))
  tells false e = rw ((fall_refusals s i).accepted reached low e)

pub fall_call_steps : (s : Cgb) (i : FallInput) → FallCallSteps s i
unfolding fall_call_of
fall_call_steps s i =
    record {
      refusals = fall_refusals s i;
      accepted = λ none. rw none;
      declined = λ r some. rw some;
      leaves = λ reached low. leaves s i reached low (fallen s i).refused refl;
      tells = λ reached low. tells s i reached low (fallen s i).refused refl;
    }
