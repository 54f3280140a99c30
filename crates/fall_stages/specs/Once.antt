-- Running falls commit at most once in a mode-0 period (document 01, section 2: a commit takes the HBlank, and a new pend
-- needs taken clear), whatever other calls come between the falls that keep taken and set no pend.
use Rattle.std.specs.Prelude.{ℕ, ◌+◌, ◌≤◌, ◌≡◌, Bool, true, false, cond, List, [], ◌∷◌, eqb}
use Rattle.countdown.specs.declared.Countdown.{Countdown}
use Rattle.console.specs.Set.{with_block_setup_cells, with_dma_block, with_dma_oam}
use Rattle.console.specs.declared.vram_dma.OamContention.{OamContention}
use Rattle.console.specs.declared.vram_dma.VramDma.{VramDma}
use Rattle.transfer.specs.Latch.{lcd_disabled_of, retired_of}
use Rattle.transfer.specs.Pair.{next_byte_of, drain_of}
use Rattle.fall_stages.specs.Fall.{fall_of}
use Rattle.fall_stages.specs.declared.FallInput.{FallInput}

-- a fall of a running, unstopped CPU, in mode 0 or outside it
pub record Running (hblank : Bool) (i : FallInput) : Type 0 where
  pub place : eqb i.mode 0 ≡ hblank
  pub running : i.halted ≡ false
  pub going : i.stopped ≡ false

abbrev pub AllRun : List FallInput → Type 0
AllRun [] = Unit {0}
AllRun (i ∷ is) = Running true i × AllRun is

-- what comes between two falls: the engine in front of it and after it
pub record Between (d e : VramDma) : Type 0 where
  pub taken : d.block.taken ≡ true → e.block.taken ≡ true
  pub pend : d.arb.pend ≡ false → e.arb.pend ≡ false

-- the calls that move bytes or end an instruction are of that kind, and so is LCD off; of a bus call the set-up cell that it spends,
-- of an arbitration OAM DMA's part
pub record OtherCalls (d : VramDma) : Type 0 where
  pub pair : Between d (next_byte_of d).dma
  pub drain : Between d (drain_of d).dma
  pub lcd_off : Between d (lcd_disabled_of d)
  pub retired : Between d (retired_of d)
  pub cell : (cells : Countdown) → Between d (with_dma_block (with_block_setup_cells cells d.block) d)
  pub arbitration : (oam : OamContention) → Between d (with_dma_oam oam d)

-- a run of such falls from the engine d, each at its speed, with anything of that kind in front of and between them; n is the
-- commits in it
pub data Period : VramDma → ℕ → Type 0 where
  over : (d : VramDma) → Period d 0
  fall :
      (i : FallInput) (double : Bool) (d : VramDma) (n : ℕ) → Running true i → Period (fall_of i double d).dma n →
      Period d (cond (fall_of i double d).claim.committed 1 0 + n)
  other : (d e : VramDma) (n : ℕ) → Between d e → Period e n → Period d n

-- the period has had its commit, or gets none: the HBlank is taken and no pend stands
pub record Spent (d : VramDma) : Type 0 where
  pub taken : d.block.taken ≡ true
  pub pend : d.arb.pend ≡ false

-- a fall at a time: a commit spends the period, and a spent one stays spent and commits nothing
pub record Spends (i : FallInput) (double : Bool) (d : VramDma) : Type 0 where
  pub commit : (fall_of i double d).claim.committed ≡ true → Spent (fall_of i double d).dma
  pub none : Running true i → Spent d → (fall_of i double d).claim.committed ≡ false
  pub stays : Running true i → Spent d → Spent (fall_of i double d).dma
  pub between : (e : VramDma) → Between d e → Spent d → Spent e

-- from any engine, whatever pend stands
abbrev pub OnceAmong : Type 0
OnceAmong = (d : VramDma) (n : ℕ) → Period d n → n ≤ 1

-- the commits of a list of falls with no other call between, each on the engine that the one before it left
abbrev pub commits_in : List FallInput → Bool → VramDma → ℕ
commits_in [] double d = 0
commits_in (i ∷ is) double d =
    cond (fall_of i double d).claim.committed 1 0 + commits_in is double (fall_of i double d).dma

abbrev pub Once : Type 0
Once = (is : List FallInput) (double : Bool) (d : VramDma) → AllRun is → commits_in is double d ≤ 1
