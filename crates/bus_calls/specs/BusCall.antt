-- The bus call as a call (document 01, section 3): 7, 2, then what moves. Answer, pairs and next state look at no more of the
-- slices than their lengths; the bytes, VRAM and OAM at exit have definitions of their own.
use Rattle.std.specs.Prelude.{ℕ, ◌≡◌, List, [], ◌∷◌, length, Option, Result, Err}
use Rattle.console.specs.Reached.{unreached}
use Rattle.console.specs.Refusals.{◌⇒◌, first_of, answered, kept}
use Rattle.console.specs.Set.{with_vram_dma}
use Rattle.console.specs.declared.Cgb.{Cgb}
use Rattle.console.specs.declared.refusal.Refusal.{Refusal}
use Rattle.console.specs.declared.refusal.Refusal.TheVariants.{State, Length}
use Rattle.memory.specs.Lengths.{wrong_lengths}
use Rattle.bus.specs.Commit.{Taken, bus_taken, bytes_of, vram_after, oam_after, first_two}
use Rattle.bus.specs.Deposit.{no_pair}
use Rattle.bus.specs.declared.commit.Banks.{Banks}
use Rattle.bus.specs.declared.commit.BusInput.{BusInput}
use Rattle.transfer.specs.declared.pair.BytePair.{BytePair}
use Rattle.transfer.specs.declared.pair.Cause.{Cause}
use Rattle.transfer.specs.declared.pair.Cause.TheVariants.{GoingOn}
use Rattle.answers.specs.Answers.{Said, saying, bit_of, cause_numbers, bus_outcome_says}
use Rattle.answers.specs.declared.Moved.{Moved}
use Rattle.answers.specs.declared.BusOutcome.{BusOutcome}

-- the four lengths of lent memory
pub record Lengths : Type 0 where
  pub cartridge : ℕ
  pub wram : ℕ
  pub vram : ℕ
  pub oam : ℕ

abbrev pub lengths_of : List ℕ → List ℕ → List ℕ → List ℕ → Lengths
lengths_of cartridge wram vram oam =
    record { cartridge = length cartridge; wram = length wram; vram = length vram; oam = length oam }

-- 2: "a slice of other length than cartridge 40,960, WRAM 32,768, VRAM 16,384, OAM 160"
unfoldable pub bus_refusal : Cgb → Lengths → Option Refusal
bus_refusal s n =
    first_of ((unreached s ⇒ State) ∷ (wrong_lengths n.cartridge n.wram n.vram n.oam ⇒ Length) ∷ [])

abbrev pub banks_of : Cgb → Banks
banks_of s = record { svbk = s.svbk; vram = s.vram.selected }

abbrev pub taken_in : Cgb → BusInput → Taken
taken_in s i = bus_taken i s.vram_dma

-- "The answer carries the pairs in order": all of them, none where it is declined
unfoldable pub bus_pairs : Cgb → BusInput → Lengths → List BytePair
bus_pairs s i n = kept (bus_refusal s n) [] (taken_in s i).pairs

-- "each pair with its own" (document 02, A3)
unfoldable pub bus_causes : Cgb → BusInput → Lengths → List Cause
bus_causes s i n = kept (bus_refusal s n) [] (taken_in s i).causes

-- how many, and whether a set-up cell used up the call
abbrev pub moved_by : Cgb → BusInput → Moved
moved_by s i = record { count = length (taken_in s i).pairs; setup_cell = (taken_in s i).setup }

unfoldable pub bus_answer : Cgb → BusInput → Lengths → Result Moved Refusal
bus_answer s i n = answered (bus_refusal s n) (moved_by s i)

unfoldable pub bus_state : Cgb → BusInput → Lengths → Cgb
bus_state s i n = kept (bus_refusal s n) s (with_vram_dma (taken_in s i).dma s)

unfoldable pub bus_said : Cgb → BusInput → Lengths → Said
bus_said s i n = saying (bus_refusal s n) (length (taken_in s i).pairs ∷ bit_of (taken_in s i).setup ∷ [])

-- the bytes of the pairs
unfoldable pub bus_bytes : Cgb → BusInput → Lengths → List ℕ → List ℕ → List ℕ
bus_bytes s i n cartridge wram = bytes_of (banks_of s) cartridge wram (bus_pairs s i n)

-- VRAM and OAM at exit: as before where it is declined
unfoldable pub bus_vram : Cgb → BusInput → Lengths → List ℕ → List ℕ → List ℕ → List ℕ
bus_vram s i n cartridge wram vram =
    kept (bus_refusal s n) vram (vram_after (banks_of s) cartridge wram (taken_in s i).pairs vram)

unfoldable pub bus_oam : Cgb → BusInput → Lengths → List ℕ → List ℕ → List ℕ → List ℕ
bus_oam s i n cartridge wram oam =
    kept (bus_refusal s n) oam (oam_after (banks_of s) i cartridge wram s.vram_dma (taken_in s i).pairs oam)

-- the result: pairs, causes and bytes in two places each, the spare ones 0 and going on
unfoldable pub bus_of : Cgb → BusInput → List ℕ → List ℕ → List ℕ → List ℕ → BusOutcome
bus_of s i cartridge wram vram oam =
    let n = lengths_of cartridge wram vram oam in
    record {
      answer = bus_answer s i n;
      pairs = first_two no_pair (bus_pairs s i n);
      causes = first_two GoingOn (bus_causes s i n);
      bytes = first_two 0 (bus_bytes s i n cartridge wram);
      state = bus_state s i n;
    }

abbrev pub refused_bus : Refusal → Cgb → BusOutcome
refused_bus r s =
    record { answer = Err r; pairs = no_pair ∷ no_pair ∷ []; causes = GoingOn ∷ GoingOn ∷ []; bytes = 0 ∷ 0 ∷ []; state = s }

-- the whole outcome of a bus call: result, what its answer says, VRAM and OAM at exit
pub record AnswersBus (s : Cgb) (i : BusInput) (cartridge wram vram oam : List ℕ) (r : BusOutcome) (last_vram last_oam : List ℕ) : Type 0 where
  pub result : r ≡ bus_of s i cartridge wram vram oam
  pub says : bus_outcome_says r ≡ bus_said s i (lengths_of cartridge wram vram oam)
  -- the causes by their numbers, 0 in a spare place
  pub says_causes : cause_numbers r.causes ≡ first_two 0 (cause_numbers (bus_causes s i (lengths_of cartridge wram vram oam)))
  pub stored : last_vram ≡ bus_vram s i (lengths_of cartridge wram vram oam) cartridge wram vram
  pub deposit : last_oam ≡ bus_oam s i (lengths_of cartridge wram vram oam) cartridge wram oam
