-- What is shown of the fall as a call (document 01, "Declined by input", "Declined by state": "Order: 7 first wherever a state is
-- given; .. a fall 1, 14"): each number exactly where its reason holds and none in front of it, what the call leaves and what it
-- tells, declined or not.
use Rattle.std.specs.Prelude.{◌<◌, ◌≤◌, ◌≡◌, true, false, Some, None, Ok, Err}
use Rattle.console.specs.Reached.{unreached}
use Rattle.console.specs.Refusals.{Numbered}
use Rattle.console.specs.declared.Cgb.{Cgb}
use Rattle.console.specs.declared.refusal.Refusal.{Refusal}
use Rattle.console.specs.declared.refusal.Refusal.TheVariants.{State, Mode, Granted}
use Rattle.fall_stages.specs.declared.FallInput.{FallInput}
use Rattle.answers.specs.Answers.{tells_commit}
use Rattle.fall_call.specs.Fall.{fallen, fall_refusal, fallen_state, fall_call_of}

-- `FallSteps` tells exactly when a fall overflows
pub record FallRefusals (s : Cgb) (i : FallInput) : Type 0 where
  pub first_7 : unreached s ≡ true → Numbered (fall_refusal s i) State 7
  pub then_1 : unreached s ≡ false → 3 < i.mode → Numbered (fall_refusal s i) Mode 1
  pub then_14 : unreached s ≡ false → i.mode ≤ 3 → (fallen s i).refused ≡ true → Numbered (fall_refusal s i) Granted 14
  pub accepted : unreached s ≡ false → i.mode ≤ 3 → (fallen s i).refused ≡ false → fall_refusal s i ≡ None

pub record FallCallSteps (s : Cgb) (i : FallInput) : Type 0 where
  pub refusals : FallRefusals s i
  -- accepted: the fall's claim and the fall's state; declined: its refusal, and the state as given
  pub accepted :
      fall_refusal s i ≡ None → fall_call_of s i ≡ record { answer = Ok (fallen s i).claim; state = fallen_state (fallen s i) s }
  pub declined : (r : Refusal) → fall_refusal s i ≡ Some r → fall_call_of s i ≡ record { answer = Err r; state = s }
  -- declined with 14 the fall is the engine as given, without a claim: so of every state that passes 7 and every mode
  pub leaves : unreached s ≡ false → i.mode ≤ 3 → (fall_call_of s i).state.vram_dma ≡ (fallen s i).dma
  pub tells : unreached s ≡ false → i.mode ≤ 3 → tells_commit (fall_call_of s i).answer ≡ (fallen s i).claim.committed
