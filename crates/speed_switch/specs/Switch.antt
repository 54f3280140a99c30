-- The switch (document 01, section 4; speed_switch.rs, `attempt_speed_switch`), where nothing defers it.
use Rattle.std.specs.Prelude.{ℕ, ◌+◌, ◌-◌, Bool, false, cond, not, ◌&&◌, ◌||◌, eqb}
use Rattle.console.specs.Set.{with_vram_dma, with_double_speed, with_key1_armed, with_speed_switch_blackout, with_switch_relock_debit, with_console_state}
use Rattle.console.specs.Set.{with_console_blackout_anchor}
use Rattle.console.specs.declared.Cgb.{Cgb}
use Rattle.blackout.specs.Blackout.{relock_edges}
use Rattle.cut.specs.Cut.{outcome_of, engine_after}
use Rattle.speed_switch.specs.declared.switch.SwitchInput.{SwitchInput}
use Rattle.speed_switch.specs.declared.switch.Switched.{Switched}

-- "Blackout: 131,077 edges upward, 262,146 downward, changed by the relock debit; interrupt ready leaves 5 or 2": a debit adds
-- 2 upward and takes 2 downward
unfoldable pub blackout_of : Bool → Bool → Bool → ℕ
blackout_of up debit ready =
    cond ready (relock_edges up) (cond up (131077 + cond debit 2 0) (262146 - cond debit 2 0))

-- the relock debit: set upward at phase 3, cleared by the next upward switch, kept downward
abbrev pub debit_after : Bool → Bool → ℕ → Bool
debit_after up debit phase = (up && not debit && eqb phase 3) || (not up && debit)

unfoldable pub switched_of : SwitchInput → Cgb → Switched
switched_of i s =
    let up = not s.double_speed in
    record {
      outcome = outcome_of up s.vram_dma;
      state =
          with_vram_dma (engine_after up s.vram_dma)
          (with_double_speed up
          (with_key1_armed false
          (with_speed_switch_blackout (blackout_of up s.switch_relock_debit i.interrupt_ready)
          (with_switch_relock_debit (debit_after up s.switch_relock_debit i.dot_phase)
          (with_console_state (with_console_blackout_anchor i.master_edge s.console_state) s)))));
    }
