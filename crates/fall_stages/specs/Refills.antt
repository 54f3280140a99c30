-- What a fall refills (document 01, section 2, and the General clause of demand 3, which leans on it).
use Rattle.std.specs.Prelude.{◌<◌, ◌≤◌, ◌≡◌, Bool, false, cond}
use Rattle.console.specs.declared.vram_dma.TransferMode.TheVariants as mode
use Rattle.console.specs.declared.vram_dma.VramDma.{VramDma}
use Rattle.fall_stages.specs.Fall.{fall_of}
use Rattle.fall_stages.specs.declared.FallInput.{FallInput}

pub record Refills (i : FallInput) (double : Bool) (d : VramDma) : Type 0 where
  -- an accepted fall leaves a quota of at most 2, at double speed of at most 1
  pub bounded : (fall_of i double d).refused ≡ false → (fall_of i double d).dma.cursor.quota ≤ cond double 1 2
  -- in mode General with bytes left it leaves 2 at single speed, 1 at double
  pub general :
      (fall_of i double d).refused ≡ false → d.cursor.mode ≡ mode.General → 0 < d.cursor.remaining →
      (fall_of i double d).dma.cursor.quota ≡ cond double 1 2
  -- with nothing left it leaves none
  pub spent : (fall_of i double d).refused ≡ false → d.cursor.remaining ≡ 0 → (fall_of i double d).dma.cursor.quota ≡ 0
