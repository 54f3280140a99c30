-- What the ledger follows of the engine: the lock, source, destination, left and the owed escape; and the calls that leave them
-- alone. Assumes nothing.
use Prim.Native.Nat.{ℕ}
use mathlib.Core.Path.{◌≡◌, refl, ap}
use mathlib.Core.Bool.{Bool, true, false, cond}
use Rattle.console.specs.Set.{with_vram_dma, with_switch_relock_debit}
use Rattle.console.specs.declared.Cgb.{Cgb}
use Rattle.console.specs.declared.vram_dma.TransferCursor.{TransferCursor}
use Rattle.console.specs.declared.vram_dma.VramDma.{VramDma}
use Rattle.fall_stages.specs.declared.FallInput.{FallInput}
use Rattle.fall_stages.proofs.Steps.{fall_steps}
use Rattle.blackout.specs.Blackout.{drained_of, woken_of}
use Rattle.transfer.specs.Latch.{latches_dark, latched_of, unclaimed, lcd_disabled_of}
use Rattle.engine.specs.Calls.{fallen, fallen_state}

pub record Core : Type 0 where
  pub locked : Bool
  pub source : ℕ
  pub dest : ℕ
  pub left : ℕ
  pub free : Bool

-- the core of a cursor under a lock
abbrev pub under : Bool → TransferCursor → Core
under compat c = record { locked = compat; source = c.source; dest = c.dest; left = c.remaining; free = c.escape_byte }

abbrev pub core_of : Cgb → Core
core_of s = under s.dmg_compat s.vram_dma.cursor

abbrev pub quota : Cgb → ℕ
quota s = s.vram_dma.cursor.quota

dark : (b : Bool) (d : VramDma) → (cond b (latched_of (unclaimed d)) (unclaimed d)).cursor ≡ d.cursor
unfolding latched_of
dark true d = refl
dark false d = refl

pub lcd_cursor : (d : VramDma) → (lcd_disabled_of d).cursor ≡ d.cursor
unfolding lcd_disabled_of
lcd_cursor d = dark (latches_dark d) d

module _ (s : Cgb) where
  pub fall_core : (i : FallInput) → core_of (fallen_state (fallen s i) s) ≡ core_of s
  unfolding fallen_state
  fall_core i = ap (under s.dmg_compat) (fall_steps i s.double_speed s.vram_dma).keeps_cursor

  pub lcd_core : core_of (with_vram_dma (lcd_disabled_of s.vram_dma) (with_switch_relock_debit false s)) ≡ core_of s
  lcd_core = ap (under s.dmg_compat) (lcd_cursor s.vram_dma)

  pub lcd_quota : quota (with_vram_dma (lcd_disabled_of s.vram_dma) (with_switch_relock_debit false s)) ≡ quota s
  lcd_quota = ap (λ (c : TransferCursor). c.quota) (lcd_cursor s.vram_dma)

  pub blackout_core : (elapsed : ℕ) → core_of (drained_of elapsed s).state ≡ core_of s
  unfolding drained_of
  blackout_core elapsed = refl

  pub blackout_quota : (elapsed : ℕ) → quota (drained_of elapsed s).state ≡ quota s
  unfolding drained_of
  blackout_quota elapsed = refl

  pub wake_core : (boundary : Bool) → core_of (woken_of boundary s).state ≡ core_of s
  unfolding woken_of
  wake_core boundary = refl

  pub wake_quota : (boundary : Bool) → quota (woken_of boundary s).state ≡ quota s
  unfolding woken_of
  wake_quota boundary = refl
