-- A switch is declined in document 01's order (specs, `SwitchRefusals`). Assumes nothing.
use native.Mathlib.Omega.{arith}
use mathlib.Core.Path.{◌≡◌}
use mathlib.Core.Bool.{true, false}
use lib.Dec.{ltb}
use borrow.Author.Tests.{lt-ltb, le-ltb}
use Rattle.std.proofs.Common.{Some, None}
use Rattle.console.proofs.Refusals.{numbered}
use Rattle.console.specs.declared.Cgb.{Cgb}
use Rattle.console.specs.declared.refusal.Refusal.TheVariants.{Deferred}
use Rattle.transfer.proofs.Conditions.{when_false}
use Rattle.cut.specs.CutSteps.{ReadyBlock}
use Rattle.cut.specs.Cut.{ready_block}
use Rattle.speed_switch.specs.declared.switch.SwitchInput.{SwitchInput}
use Rattle.cut.proofs.CutSteps.{cut_steps}
use Rattle.speed_calls.specs.Speed.{defers, switch_refusal}
use Rattle.speed_calls.specs.SwitchCallSteps.{Attempted, SwitchRefusals}

module _ (s : Cgb) (i : SwitchInput) where
  ready : ReadyBlock s.vram_dma → ready_block s.vram_dma ≡ true
  ready k = (cut_steps.ready_block_lem s.vram_dma).1 k

  not_ready : (ReadyBlock s.vram_dma → ⊥) → ready_block s.vram_dma ≡ false
  not_ready k = (when_false (ready_block s.vram_dma) (cut_steps.ready_block_lem s.vram_dma)).1 k

  calm : s.speed_switch_blackout ≡ 0 → ltb 0 s.speed_switch_blackout ≡ false
  calm none = le-ltb 0 s.speed_switch_blackout (omega arith)

  phase : Attempted s i → ltb 4 i.dot_phase ≡ false
  phase a = le-ltb 4 i.dot_phase a.phase

  -- the last reason as one test
  deferred : Attempted s i → s.speed_switch_blackout ≡ 0 → s.key1_armed ≡ true → defers s ≡ true → switch_refusal s i ≡ Some Deferred
  unfolding switch_refusal
  deferred a none armed defer = rw (a.reached, defer, phase a, a.unheld, calm none, armed)

  free : Attempted s i → s.speed_switch_blackout ≡ 0 → s.key1_armed ≡ true → defers s ≡ false → switch_refusal s i ≡ None
  unfolding switch_refusal
  free a none armed at_once = rw (a.reached, at_once, phase a, a.unheld, calm none, armed)

  pub switch_refusals : SwitchRefusals s i
  unfolding switch_refusal defers
  switch_refusals =
      record {
        first_7 = λ seven. numbered (rw seven);
        then_3 = λ reached high. numbered (rw (reached, lt-ltb 4 i.dot_phase high));
        then_5 = λ reached low held. numbered (rw (reached, le-ltb 4 i.dot_phase low, held));
        then_11 = λ a running. numbered (rw (a.reached, phase a, a.unheld, lt-ltb 0 s.speed_switch_blackout running));
        then_12 = λ a none unarmed. numbered (rw (a.reached, phase a, a.unheld, calm none, unarmed));
        then_13 = λ a none armed double k. numbered (deferred a none armed (rw (double, ready k)));
        upward = λ a none armed single. free a none armed (rw single);
        downward = λ a none armed double k. free a none armed (rw (double, not_ready k));
      }
