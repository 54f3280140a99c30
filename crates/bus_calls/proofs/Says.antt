-- What the bus call says. Assumes nothing.
use Prim.Native.Nat.{ℕ}
use mathlib.Core.Path.{◌≡◌, refl}
use mathlib.Core.List.{List, [], ◌∷◌}
use Rattle.console.specs.declared.Cgb.{Cgb}
use Rattle.bus.specs.Commit.{first_two}
use Rattle.bus.specs.declared.commit.BusInput.{BusInput}
use Rattle.transfer.specs.declared.pair.Cause.{Cause}
use Rattle.transfer.specs.declared.pair.Cause.TheVariants.{GoingOn}
use Rattle.answers.specs.Answers.{moved_values, cause_numbers, bus_outcome_says}
use Rattle.answers.proofs.Numbers.{told}
use Rattle.bus_calls.specs.BusCall.{lengths_of, bus_refusal, moved_by, bus_causes, bus_answer, bus_said, bus_of}

-- two places by their numbers are two numbers
numbers_of_two : (ks : List Cause) → cause_numbers (first_two GoingOn ks) ≡ first_two 0 (cause_numbers ks)
numbers_of_two [] = refl
numbers_of_two (a ∷ []) = refl
numbers_of_two (a ∷ b ∷ more) = refl

module _ (s : Cgb) (i : BusInput) (cartridge wram vram oam : List ℕ) where
  pub bus_told : bus_outcome_says (bus_of s i cartridge wram vram oam) ≡ bus_said s i (lengths_of cartridge wram vram oam)
  unfolding bus_of bus_answer bus_said
  bus_told = told moved_values (bus_refusal s (lengths_of cartridge wram vram oam)) (moved_by s i)

  pub causes_told :
      cause_numbers (bus_of s i cartridge wram vram oam).causes ≡ first_two 0 (cause_numbers (bus_causes s i (lengths_of cartridge wram vram oam)))
  unfolding bus_of
  causes_told = numbers_of_two (bus_causes s i (lengths_of cartridge wram vram oam))
