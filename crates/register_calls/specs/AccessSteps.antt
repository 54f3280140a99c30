-- What is shown of reads and writes as calls (document 01, section 1): when they are declined and with which number, and that
-- an accepted one gives and leaves what the map does (`MapReads` and `MapWrites` tell it by address).
use Rattle.std.specs.Prelude.{ℕ, ◌≤◌, ◌<◌, ◌≡◌, true, false, List, ◌↔◌, Option, Some, None, Ok, Err, length}
use Rattle.console.specs.Reached.{unreached}
use Rattle.console.specs.Refusals.{Numbered}
use Rattle.console.specs.declared.Cgb.{Cgb}
use Rattle.console.specs.declared.refusal.Refusal.{Refusal}
use Rattle.console.specs.declared.refusal.Refusal.TheVariants.{State, Length, Address, Page}
use Rattle.registers.specs.MapSteps.{Mapped, MappedWrite}
use Rattle.map_read.specs.Read.{map_read_of}
use Rattle.map_write.specs.Write.{map_write_of, wram_after}
use Rattle.map_write.specs.declared.WriteInput.{WriteInput}
use Rattle.register_calls.specs.Access.{read_refusal, write_refusal, page_refusal, read_of, write_of, write_wram}

-- "Order: 7 first wherever a state is given; a read or write 2, 4": n bytes of work RAM are lent; `else` is what comes after 4
pub record AccessRefusals (Map : ℕ → Type 0) (refusal : Option Refusal) (s : Cgb) (n a : ℕ) (else : Option Refusal) : Type 0 where
  pub first_7 : unreached s ≡ true → Numbered refusal State 7
  pub then_2 : unreached s ≡ false → (n ≡ 32768 → ⊥) → Numbered refusal Length 2
  pub then_4 : unreached s ≡ false → n ≡ 32768 → (Map a → ⊥) → Numbered refusal Address 4
  pub otherwise : unreached s ≡ false → n ≡ 32768 → Map a → refusal ≡ else

-- "21, page above DFh, tested after 4" (document 02, A1): at FF46 alone, by the value v
pub record PageRefusals (refusal : Option Refusal) (v a : ℕ) : Type 0 where
  pub above : a ≡ 0xFF46 → 0xDF < v → Numbered refusal Page 21
  pub page : a ≡ 0xFF46 → v ≤ 0xDF → refusal ≡ None
  pub elsewhere : (a ≡ 0xFF46 → ⊥) → refusal ≡ None

pub record AccessSteps (s : Cgb) (w : WriteInput) (a : ℕ) (wram : List ℕ) : Type 0 where
  pub read_refusals : AccessRefusals Mapped (read_refusal s (length wram) a) s (length wram) a None
  pub write_refusals : AccessRefusals MappedWrite (write_refusal s w.value (length wram) a) s (length wram) a (page_refusal w.value a)
  pub page_refusals : PageRefusals (page_refusal w.value a) w.value a
  -- accepted: the map's byte; the map's state and work RAM
  pub read : read_refusal s (length wram) a ≡ None → (b : ℕ) → (read_of s wram a ≡ Ok b) ↔ (map_read_of s wram a ≡ Some b)
  pub write :
      write_refusal s w.value (length wram) a ≡ None →
      (write_of s w a (length wram) ≡ record { answer = Ok tt; state = (map_write_of s w a).state }) ×
      (write_wram s w a wram ≡ wram_after s wram w.value a)
  -- "Each gives its number, no pair, and state and slices as before"
  pub read_declined : (r : Refusal) → read_refusal s (length wram) a ≡ Some r → read_of s wram a ≡ Err r
  pub write_declined :
      (r : Refusal) → write_refusal s w.value (length wram) a ≡ Some r →
      (write_of s w a (length wram) ≡ record { answer = Err r; state = s }) × (write_wram s w a wram ≡ wram)
