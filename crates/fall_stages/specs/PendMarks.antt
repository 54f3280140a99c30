-- What falls of a running CPU do to the pend and its marks (document 01, section 2, steps 3 to 6): outside mode 0 none is left, and
-- in mode 0 only the screen's own. A bound on the commits of many lines rests on these and on `Once`.
use Rattle.std.specs.Prelude.{◌≡◌, Bool, true, false, ◌&&◌, ◌||◌}
use Rattle.console.specs.declared.vram_dma.VramDma.{VramDma}
use Rattle.transfer.specs.Keeps.{KeepsMarks}
use Rattle.fall_stages.specs.Fall.{fall_of}
use Rattle.fall_stages.specs.Once.{Running, Between}
use Rattle.fall_stages.specs.declared.FallInput.{FallInput}

-- no pend stands that could commit outside mode 0
abbrev pub Calm : VramDma → Type 0
Calm d = (d.arb.pend && (d.arb.pend_from_arm || d.arb.pend_granted)) ≡ false

-- no pend, no grant, no arm strobe
pub record Clear (d : VramDma) : Type 0 where
  pub pend : d.arb.pend ≡ false
  pub granted : d.arb.pend_granted ≡ false
  pub strobe : d.arb.armed_this_fall ≡ false

-- no grant, no arm strobe, and a pend only of the screen's own
pub record Tidy (d : VramDma) : Type 0 where
  pub granted : d.arb.pend_granted ≡ false
  pub strobe : d.arb.armed_this_fall ≡ false
  pub pend : (d.arb.pend && d.arb.pend_from_arm) ≡ false

pub record PendMarks (i : FallInput) (double : Bool) (d : VramDma) : Type 0 where
  -- outside mode 0: accepted, without a commit, where no pend could commit there
  pub outside_accepted : Running false i → Calm d → (fall_of i double d).refused ≡ false
  pub outside_none : Running false i → Calm d → (fall_of i double d).claim.committed ≡ false
  -- and nothing pends after it
  pub outside_clears : Running false i → (fall_of i double d).refused ≡ false → Clear (fall_of i double d).dma
  -- in mode 0: without a strobe what pends after it is the screen's own; and so it stays, refused falls too
  pub inside_leaves :
      Running true i → d.arb.armed_this_fall ≡ false → (fall_of i double d).refused ≡ false → Tidy (fall_of i double d).dma
  pub inside_tidy : Running true i → Tidy d → Tidy (fall_of i double d).dma
  -- what keeps the marks comes between
  pub kept_clear : (e : VramDma) → KeepsMarks d e → Clear d → Clear e
  pub kept_tidy : (e : VramDma) → KeepsMarks d e → Tidy d → Tidy e
  pub between : (e : VramDma) → KeepsMarks d e → Between d e
