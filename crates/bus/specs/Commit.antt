-- The bus call (document 01, section 3; vram_dma.rs, `vram_dma_commit_bytes`). What moves and what the engine is after it
-- look at no memory; bytes, VRAM and OAM have definitions of their own.
use Rattle.std.specs.Prelude.{ℕ, zero, suc, ◌≡◌, Bool, true, false, cond, ◌||◌, List, [], ◌∷◌, length, Some, None}
use Rattle.countdown.specs.Countdown.{active_of, ticked}
use Rattle.countdown.specs.declared.Countdown.{Countdown}
use Rattle.console.specs.Set.{with_block_setup_cells, with_dma_block}
use Rattle.console.specs.declared.vram_dma.VramDma.{VramDma}
use Rattle.transfer.specs.Pair.{NextAnswer, next_byte_of}
use Rattle.transfer.specs.declared.pair.BytePair.{BytePair}
use Rattle.transfer.specs.declared.pair.Cause.{Cause}
use Rattle.transfer.specs.declared.pair.Cause.TheVariants.{GoingOn}
use Rattle.bus.specs.Source.{hdma_byte}
use Rattle.bus.specs.Store.{vram_with}
use Rattle.bus.specs.Deposit.{phase_of, no_pair, deposited}
use Rattle.bus.specs.declared.commit.Banks.{Banks}
use Rattle.bus.specs.declared.commit.BusInput.{BusInput}
use Rattle.bus.specs.declared.commit.Run.{Run}

-- the engine after a call's pairs, the pairs in order with the cause of each (document 02, A3: "each pair with its own"), and
-- whether a set-up cell used up the call
pub record Taken : Type 0 where
  pub dma : VramDma
  pub pairs : List BytePair
  pub causes : List Cause
  pub setup : Bool

abbrev pub nothing : VramDma → Taken
nothing d = record { dma = d; pairs = []; causes = []; setup = false }

-- "a pair is moved, anything else ends the call"
abbrev pub after_answer : VramDma → NextAnswer → Taken → Taken
after_answer d (Some (p, k)) rest = record { dma = rest.dma; pairs = p ∷ rest.pairs; causes = k ∷ rest.causes; setup = false }
after_answer d None rest = nothing d

-- at most n pairs
unfoldable pub taken_of : ℕ → VramDma → Taken
taken_of zero d = nothing d
taken_of (suc n) d = after_answer d (next_byte_of d).answer (taken_of n (next_byte_of d).dma)

-- "pairs are taken until none comes": a pair takes one from quota, so that no more than quota can come
unfoldable pub pairs_of : VramDma → Taken
pairs_of d = taken_of d.cursor.quota d

-- held or suspended
abbrev pub holds_bus : BusInput → Bool
holds_bus i = i.hold || i.suspended

-- a set-up cell stands (the engine loads its working pointers in it)
abbrev pub setup_stands : VramDma → Bool
setup_stands d = active_of d.block.setup_cells

abbrev pub with_cells : Countdown → VramDma → VramDma
with_cells cells d = with_dma_block (with_block_setup_cells cells d.block) d

abbrev pub cell_taken : VramDma → Taken
cell_taken d = record { dma = with_cells (ticked d.block.setup_cells).next d; pairs = []; causes = []; setup = true }

-- "A bus call neither held nor suspended does nothing. A set-up cell uses up the call. Otherwise pairs are taken"
unfoldable pub bus_taken : BusInput → VramDma → Taken
bus_taken i d = cond (holds_bus i) (cond (setup_stands d) (cell_taken d) (pairs_of d)) (nothing d)

-- the bytes of the pairs
unfoldable pub bytes_of : Banks → List ℕ → List ℕ → List BytePair → List ℕ
bytes_of banks cartridge wram [] = []
bytes_of banks cartridge wram (p ∷ ps) = hdma_byte cartridge wram banks.svbk p.source ∷ bytes_of banks cartridge wram ps

-- VRAM after them; no source is read from VRAM, so that their order with the reads is of no matter
unfoldable pub vram_after : Banks → List ℕ → List ℕ → List BytePair → List ℕ → List ℕ
vram_after banks cartridge wram [] vram = vram
vram_after banks cartridge wram (p ∷ ps) vram =
    vram_after banks cartridge wram ps
    (vram_with vram banks.vram p.dest (hdma_byte cartridge wram banks.svbk p.source))

-- two places for what a call gives, the spare ones filled up
abbrev pub first_two : {A : Type 0} → A → List A → List A
first_two none [] = none ∷ none ∷ []
first_two none (a ∷ []) = a ∷ none ∷ []
first_two none (a ∷ b ∷ more) = a ∷ b ∷ []

-- what a call of these pairs gives; a spare cause is going on
unfoldable pub run_of : Banks → List ℕ → List ℕ → Taken → Run
run_of banks cartridge wram t =
    record {
      dma = t.dma;
      count = length t.pairs;
      pairs = first_two no_pair t.pairs;
      causes = first_two GoingOn t.causes;
      bytes = first_two 0 (bytes_of banks cartridge wram t.pairs);
      setup_cell = t.setup;
    }

-- "In a contended bus call the phase is (block edge − OAM start edge − 2) / 2 mod 4"
unfoldable pub oam_after : Banks → BusInput → List ℕ → List ℕ → VramDma → List BytePair → List ℕ → List ℕ
oam_after banks i cartridge wram d ps oam =
    deposited d.oam.contended (length ps) (first_two no_pair ps) (first_two 0 (bytes_of banks cartridge wram ps))
    (phase_of d.block.start_edge i.oam_start_edge) oam

-- the parts of it: the loop with the VRAM that it writes, a call at rest, a call for a set-up cell
pub record Ran : Type 0 where
  pub run : Run
  pub vram : List ℕ

unfoldable pub loop_of : Banks → List ℕ → List ℕ → VramDma → List ℕ → Ran
loop_of banks cartridge wram d vram =
    record { run = run_of banks cartridge wram (pairs_of d); vram = vram_after banks cartridge wram (pairs_of d).pairs vram }

abbrev pub idle_run : Bool → VramDma → Run
idle_run setup d =
    record {
      dma = d;
      count = 0;
      pairs = no_pair ∷ no_pair ∷ [];
      causes = GoingOn ∷ GoingOn ∷ [];
      bytes = 0 ∷ 0 ∷ [];
      setup_cell = setup;
    }

abbrev pub rest_run : VramDma → Run
rest_run d = idle_run false d

abbrev pub setup_run : Countdown → VramDma → Run
setup_run cells d = idle_run true (with_cells cells d)

-- the whole outcome of a bus call
pub record Committed (banks : Banks) (i : BusInput) (d : VramDma) (cartridge wram vram oam : List ℕ) (r : Run) (last_vram last_oam : List ℕ) : Type 0 where
  pub result : r ≡ run_of banks cartridge wram (bus_taken i d)
  pub stored : last_vram ≡ vram_after banks cartridge wram (bus_taken i d).pairs vram
  pub deposit : last_oam ≡ oam_after banks i cartridge wram d (bus_taken i d).pairs oam
