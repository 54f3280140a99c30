-- What a call's outcome is, from what the part for it gave. Assumes nothing.
use Prim.Native.Nat.{ℕ}
use mathlib.Core.Path.{◌≡◌, refl, sym, subst}
use mathlib.Core.List.{List}
use Rattle.console.specs.declared.Cgb.{Cgb}
use Rattle.bus.specs.declared.arbitration.Arbitration.{Arbitration}
use Rattle.bus.specs.declared.commit.BusInput.{BusInput}
use Rattle.bus.specs.declared.hold.HoldInput.{HoldInput}
use Rattle.engine.specs.Calls.{inside_bus}
use Rattle.map_write.specs.declared.WriteInput.{WriteInput}
use Rattle.perform.proofs.Declined.{declined_call}
use Rattle.perform.specs.Perform.{read_performed, WritePerformed, BusPerformed, CyclePerformed, perform_of, wram_left, vram_left, oam_left, Performs}
use Rattle.plain.specs.Plain.{plain_performed}
use Rattle.call.specs.declared.Call.{Call}
use Rattle.call.specs.declared.Call.TheVariants.{Write, Read, Bus, BusInside, ObjectDmaCycle, Plain}
use Rattle.call.specs.declared.PlainCall.{PlainCall}
use Rattle.told.specs.declared.Performed.{Performed}

module _ (s : Cgb) (call : Call) (cartridge wram vram oam : List ℕ) (r : Performed) where
  -- what is said of a declined call follows from the four equations
  whole :
      (c : Call) (w v o : List ℕ) → r ≡ perform_of s c cartridge wram vram oam → w ≡ wram_left s c wram →
      v ≡ vram_left s c cartridge wram vram oam → o ≡ oam_left s c cartridge wram vram oam → Performs s c cartridge wram vram oam r w v o
  whole c w v o result work stored deposit =
      record {
        result = result;
        work = work;
        stored = stored;
        deposit = deposit;
        declined = rw (result, work, stored, deposit) (declined_call s wram vram oam c cartridge);
      }

  as_known :
      (c : Call) (w v o : List ℕ) → call ≡ c → Performs s c cartridge wram vram oam r w v o → Performs s call cartridge wram vram oam r w v o
  as_known c w v o is p = subst (λ (x : Call). Performs s x cartridge wram vram oam r w v o) (sym is) p

  pub performs_write :
      (a : ℕ) (w : WriteInput) (last : List ℕ) → call ≡ Write a w → WritePerformed s w a wram r last →
      Performs s call cartridge wram vram oam r last vram oam
  unfolding perform_of wram_left vram_left oam_left
  performs_write a w last is p = as_known (Write a w) last vram oam is (whole (Write a w) last vram oam p.result p.memory refl refl)

  pub performs_read : (a : ℕ) → call ≡ Read a → r ≡ read_performed s wram a → Performs s call cartridge wram vram oam r wram vram oam
  unfolding perform_of wram_left vram_left oam_left
  performs_read a is p = as_known (Read a) wram vram oam is (whole (Read a) wram vram oam p refl refl refl)

  pub performs_bus :
      (i : BusInput) (v o : List ℕ) → call ≡ Bus i → BusPerformed s i cartridge wram vram oam r v o →
      Performs s call cartridge wram vram oam r wram v o
  unfolding perform_of wram_left vram_left oam_left
  performs_bus i v o is p = as_known (Bus i) wram v o is (whole (Bus i) wram v o p.result refl p.stored p.deposit)

  pub performs_bus_inside :
      (i : HoldInput) (v o : List ℕ) → call ≡ BusInside i → BusPerformed s (inside_bus s i) cartridge wram vram oam r v o →
      Performs s call cartridge wram vram oam r wram v o
  unfolding perform_of wram_left vram_left oam_left
  performs_bus_inside i v o is p =
      as_known (BusInside i) wram v o is (whole (BusInside i) wram v o p.result refl p.stored p.deposit)

  pub performs_cycle :
      (a : Arbitration) (o : List ℕ) → call ≡ ObjectDmaCycle a → CyclePerformed s a cartridge wram vram oam r o →
      Performs s call cartridge wram vram oam r wram vram o
  unfolding perform_of wram_left vram_left oam_left
  performs_cycle a o is p =
      as_known (ObjectDmaCycle a) wram vram o is (whole (ObjectDmaCycle a) wram vram o p.result refl refl p.stored)

  pub performs_plain : (p : PlainCall) → call ≡ Plain p → r ≡ plain_performed s p → Performs s call cartridge wram vram oam r wram vram oam
  unfolding perform_of wram_left vram_left oam_left
  performs_plain p is e = as_known (Plain p) wram vram oam is (whole (Plain p) wram vram oam e refl refl refl)
