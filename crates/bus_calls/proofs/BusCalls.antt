-- The bus call, declined and accepted, from what its parts give. Assumes nothing.
use Prim.Native.Nat.{ℕ}
use mathlib.Core.Path.{◌≡◌, refl, ap, ◌∙◌}
use mathlib.Core.List.{List, [], ◌∷◌}
use lib.ListN.{length}
use Rattle.std.proofs.Common.{Option, Some, None, Ok, Err}
use Rattle.console.specs.Reached.{unreached}
use Rattle.console.specs.Refusals.{◌⇒◌, first_of, answered}
use Rattle.console.specs.Set.{with_vram_dma}
use Rattle.console.specs.declared.Cgb.{Cgb}
use Rattle.console.specs.declared.refusal.Refusal.{Refusal}
use Rattle.console.specs.declared.refusal.Refusal.TheVariants.{State, Length}
use Rattle.memory.specs.Lengths.{wrong_lengths}
use Rattle.bus.specs.Commit.{bytes_of, first_two, run_of, Committed}
use Rattle.bus.specs.declared.commit.BusInput.{BusInput}
use Rattle.bus.specs.declared.commit.Run.{Run}
use Rattle.bus_calls.specs.BusCall.{lengths_of, bus_refusal, banks_of, refused_bus, AnswersBus}
use Rattle.bus_calls.specs.BusCall.{bus_pairs, bus_causes, bus_answer, bus_state, bus_said, bus_bytes, bus_vram, bus_oam, bus_of}
use Rattle.answers.specs.Answers.{cause_numbers, bus_outcome_says}
use Rattle.answers.specs.declared.BusOutcome.{BusOutcome}
use Rattle.bus_calls.proofs.Says.{bus_told, causes_told}

refused : {A : Type 0} (k : Option Refusal) (value : A) (r : Refusal) → answered k value ≡ Err r → k ≡ Some r
refused None value r e = cc
refused (Some j) value r e = cc

accepted : {A : Type 0} (k : Option Refusal) (value given : A) → answered k value ≡ Ok given → k ≡ None
accepted None value given e = refl
accepted (Some j) value given e = cc

-- what the tests in front of the call's work answer tells its refusal
module _ (s : Cgb) (cartridge wram vram oam : List ℕ) where
  abbrev reasons : Option Refusal
  reasons =
      first_of ((unreached s ⇒ State) ∷ (wrong_lengths (length cartridge) (length wram) (length vram) (length oam) ⇒ Length) ∷ [])

  pub refused_by :
      {A : Type 0} (value : A) (r : Refusal) → answered reasons value ≡ Err r → bus_refusal s (lengths_of cartridge wram vram oam) ≡ Some r
  unfolding bus_refusal
  refused_by value r e = refused reasons value r e

  pub accepted_by :
      {A : Type 0} (value given : A) → answered reasons value ≡ Ok given → bus_refusal s (lengths_of cartridge wram vram oam) ≡ None
  unfolding bus_refusal
  accepted_by value given e = accepted reasons value given e

-- the call's result from its part's
abbrev moved_of : Cgb → Run → BusOutcome
moved_of s r =
    record {
      answer = Ok (record { count = r.count; setup_cell = r.setup_cell });
      pairs = r.pairs;
      causes = r.causes;
      bytes = r.bytes;
      state = with_vram_dma r.dma s;
    }

module _ (s : Cgb) (i : BusInput) (cartridge wram vram oam : List ℕ) where
  says :
      (r : BusOutcome) → r ≡ bus_of s i cartridge wram vram oam → bus_outcome_says r ≡ bus_said s i (lengths_of cartridge wram vram oam)
  says r is = ap bus_outcome_says is ∙ bus_told s i cartridge wram vram oam

  says_causes :
      (r : BusOutcome) → r ≡ bus_of s i cartridge wram vram oam →
      cause_numbers r.causes ≡ first_two 0 (cause_numbers (bus_causes s i (lengths_of cartridge wram vram oam)))
  says_causes r is = ap (λ (x : BusOutcome). cause_numbers x.causes) is ∙ causes_told s i cartridge wram vram oam

  pub bus_declined :
      (r : BusOutcome) (k : Refusal) → bus_refusal s (lengths_of cartridge wram vram oam) ≡ Some k → r ≡ refused_bus k s →
      AnswersBus s i cartridge wram vram oam r vram oam
  unfolding bus_of bus_pairs bus_causes bus_answer bus_state bus_bytes bus_vram bus_oam bytes_of
  bus_declined r k refused is =
      let result : r ≡ bus_of s i cartridge wram vram oam = is ∙ rw refused in
      record {
        result = result;
        says = says r result;
        says_causes = says_causes r result;
        stored = rw refused;
        deposit = rw refused;
      }

  pub bus_moved :
      (run : Run) (last_vram last_oam : List ℕ) → bus_refusal s (lengths_of cartridge wram vram oam) ≡ None →
      Committed (banks_of s) i s.vram_dma cartridge wram vram oam run last_vram last_oam →
      AnswersBus s i cartridge wram vram oam (moved_of s run) last_vram last_oam
  unfolding bus_of bus_pairs bus_causes bus_answer bus_state bus_bytes bus_vram bus_oam run_of
  bus_moved run last_vram last_oam zero c =
      let result : moved_of s run ≡ bus_of s i cartridge wram vram oam = ap (moved_of s) c.result ∙ rw zero in
      record {
        result = result;
        says = says _ result;
        says_causes = says_causes _ result;
        stored = c.stored ∙ rw zero;
        deposit = c.deposit ∙ rw zero;
      }
