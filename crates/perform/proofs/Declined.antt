-- A declined call leaves all as given (told's `Declined`): a part for each call that is lent memory, then any call. Assumes nothing.
use Prim.Native.Nat.{ℕ}
use mathlib.Core.Path.{◌≡◌, refl}
use mathlib.Core.List.{List, []}
use lib.ListN.{length}
use Rattle.console.specs.declared.Cgb.{Cgb}
use Rattle.bus.specs.Commit.{bytes_of}
use Rattle.bus.specs.declared.arbitration.Arbitration.{Arbitration}
use Rattle.bus.specs.declared.commit.BusInput.{BusInput}
use Rattle.map_write.specs.declared.WriteInput.{WriteInput}
use Rattle.engine.specs.Calls.{read_refusal, write_refusal, read_said, write_of, write_wram, write_said, lengths_of, bus_refusal, bus_pairs}
use Rattle.engine.specs.Calls.{bus_causes, bus_state}
use Rattle.engine.specs.Calls.{bus_said, bus_bytes, bus_vram, bus_oam, bus_of, inside_bus, cycle_refusal, cycle_state, cycle_said}
use Rattle.engine.specs.Calls.{cycle_byte, cycle_oam, cycle_of}
use Rattle.call.specs.declared.Call.{Call}
use Rattle.call.specs.declared.Call.TheVariants.{Write, Read, Bus, BusInside, ObjectDmaCycle, Plain}
use Rattle.plain.proofs.Declined.{plain_declined}
use Rattle.told.specs.Declined.{Declined}
use Rattle.told.proofs.Declined as told
use Rattle.perform.specs.Perform.{read_performed, write_performed, bus_performed, cycle_performed, perform_of, wram_left, vram_left, oam_left}

module _ (s : Cgb) (wram vram oam : List ℕ) where
  read_declined : (a : ℕ) → ((read_performed s wram a).told.refusal ≡ 0 → ⊥) → Declined s wram vram oam (read_performed s wram a) wram vram oam
  unfolding read_performed read_said
  read_declined a = told.quiet s wram vram oam (read_refusal s (length wram) a) _ _ s refl (λ x e. refl)

  write_declined :
      (a : ℕ) (w : WriteInput) → ((write_performed s w a (length wram)).told.refusal ≡ 0 → ⊥) →
      Declined s wram vram oam (write_performed s w a (length wram)) (write_wram s w a wram) vram oam
  unfolding write_performed write_said write_of write_wram
  write_declined a w =
      told.law s wram vram oam (write_refusal s w.value (length wram) a) [] (write_performed s w a (length wram)) (write_wram s w a wram) vram oam refl
      (λ x e. record {
        number_alone = rw e;
        no_pair_lem = refl;
        no_cause = refl;
        no_byte = refl;
        same_state = rw e;
        same_wram = rw e;
        same_vram = refl;
        same_oam = refl;
      })

  bus_declined :
      (i : BusInput) (cartridge : List ℕ) →
      (let n = lengths_of cartridge wram vram oam in
      ((bus_performed s i cartridge wram vram oam).told.refusal ≡ 0 → ⊥) →
      Declined s wram vram oam (bus_performed s i cartridge wram vram oam) wram (bus_vram s i n cartridge wram vram) (bus_oam s i n cartridge wram oam))
  unfolding bus_performed bus_of bus_said bus_pairs bus_causes bus_bytes bus_state bus_vram bus_oam bytes_of
  bus_declined i cartridge =
      let n = lengths_of cartridge wram vram oam in
      told.law s wram vram oam (bus_refusal s n) _ (bus_performed s i cartridge wram vram oam) wram
      (bus_vram s i n cartridge wram vram) (bus_oam s i n cartridge wram oam) refl
      (λ x e. record {
        number_alone = rw e;
        no_pair_lem = rw e;
        no_cause = rw e;
        no_byte = rw e;
        same_state = rw e;
        same_wram = refl;
        same_vram = rw e;
        same_oam = rw e;
      })

  cycle_declined :
      (a : Arbitration) (cartridge : List ℕ) →
      (let n = lengths_of cartridge wram vram oam in
      ((cycle_performed s a cartridge wram vram oam).told.refusal ≡ 0 → ⊥) →
      Declined s wram vram oam (cycle_performed s a cartridge wram vram oam) wram vram (cycle_oam s a n cartridge wram vram oam))
  unfolding cycle_performed cycle_of cycle_said cycle_byte cycle_state cycle_oam
  cycle_declined a cartridge =
      let n = lengths_of cartridge wram vram oam in
      told.law s wram vram oam (cycle_refusal s n) _ (cycle_performed s a cartridge wram vram oam) wram
      vram (cycle_oam s a n cartridge wram vram oam) refl
      (λ x e. record {
        number_alone = rw e;
        no_pair_lem = refl;
        no_cause = refl;
        no_byte = rw e;
        same_state = rw e;
        same_wram = refl;
        same_vram = refl;
        same_oam = rw e;
      })

  -- any call
  pub declined_call :
      (call : Call) (cartridge : List ℕ) → ((perform_of s call cartridge wram vram oam).told.refusal ≡ 0 → ⊥) →
      Declined s wram vram oam (perform_of s call cartridge wram vram oam) (wram_left s call wram)
      (vram_left s call cartridge wram vram oam) (oam_left s call cartridge wram vram oam)
  unfolding perform_of wram_left vram_left oam_left
  declined_call (Write a w) cartridge = write_declined a w
  declined_call (Read a) cartridge = read_declined a
  declined_call (Bus i) cartridge = bus_declined i cartridge
  declined_call (BusInside i) cartridge = bus_declined (inside_bus s i) cartridge
  declined_call (ObjectDmaCycle a) cartridge = cycle_declined a cartridge
  declined_call (Plain p) cartridge = plain_declined s wram vram oam p
