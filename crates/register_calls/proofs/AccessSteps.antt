-- Reads and writes are declined by their refusals, and else do what the map does (specs, `AccessSteps`). Assumes nothing.
use Prim.Native.Nat.{ℕ}
use mathlib.Core.Path.{◌≡◌, refl}
use mathlib.Core.Bool.{Bool, true, false, cond, not}
use mathlib.Core.List.{List}
use mathlib.Core.Logic.{◌↔◌}
use lib.ListN.{length}
use borrow.Author.Tests.{eq-eqb, ne_eqb, le-ltb, lt-ltb}
use Rattle.std.proofs.Common.{Option, Some, None, Ok}
use Rattle.console.specs.Reached.{unreached}
use Rattle.console.specs.Refusals.{Reason, first_of}
use Rattle.console.proofs.Refusals.{numbered}
use Rattle.console.specs.declared.Cgb.{Cgb}
use Rattle.console.specs.declared.refusal.Refusal.{Refusal}
use Rattle.console.specs.declared.refusal.Refusal.TheVariants.{State, Length, Address}
use Rattle.memory.specs.Lengths.{wram_length, wrong_length}
use Rattle.transfer.proofs.Conditions.{when_false}
use Rattle.registers.specs.Map.{Place, place_of}
use Rattle.registers.specs.MapSteps.{Mapped, MappedWrite}
use Rattle.map_read.specs.Read.{map_read_of}
use Rattle.map_write.specs.declared.WriteInput.{WriteInput}
use Rattle.registers.proofs.MapSteps.{read_map, write_map}
use Rattle.register_calls.specs.Access.{access_refusal, page_refusal, read_refusal, read_of, write_of, write_wram}
use Rattle.register_calls.specs.AccessSteps.{AccessRefusals, PageRefusals, AccessSteps}

refusals :
    (map : Place → Bool) (Map : ℕ → Type 0) (more : List Reason) (s : Cgb) (n a : ℕ) → (map (place_of a) ≡ true) ↔ Map a →
    AccessRefusals Map (access_refusal map more s n a) s n a (first_of more)
unfolding access_refusal
refusals map Map more s n a mapped =
    record {
      first_7 = λ seven. numbered (rw seven);
      then_2 = λ reached other. numbered (rw (reached, ne_eqb n 32768 other));
      then_4 = λ reached whole off. numbered (rw (reached, eq-eqb n 32768 whole, (when_false (map (place_of a)) mapped).1 off));
      otherwise = λ reached whole here. rw (reached, eq-eqb n 32768 whole, mapped.1 here);
    }

pages : (v a : ℕ) → PageRefusals (page_refusal v a) v a
pages v a =
    record {
      above = λ at high. numbered (rw (eq-eqb a 0xFF46 at, lt-ltb 0xDF v high));
      page = λ at low. rw (eq-eqb a 0xFF46 at, le-ltb 0xDF v low);
      elsewhere = λ other. rw (ne_eqb a 0xFF46 other);
    }

-- no refusal means that the address is in the map
in_map :
    (seven two here : Bool) (rest : Option Refusal) →
    cond seven (Some State) (cond two (Some Length) (cond (not here) (Some Address) rest)) ≡ None → here ≡ true
in_map seven two true rest e = refl
in_map true two false rest e = cc
in_map false true false rest e = cc
in_map false false false rest e = cc

is_mapped : (map : Place → Bool) (more : List Reason) (s : Cgb) (n a : ℕ) → access_refusal map more s n a ≡ None → map (place_of a) ≡ true
unfolding access_refusal
is_mapped map more s n a e = in_map (unreached s) (wrong_length wram_length n) (map (place_of a)) (first_of more) e

module _ (s : Cgb) (w : WriteInput) (a : ℕ) (wram : List ℕ) where
  read : read_refusal s (length wram) a ≡ None → (b : ℕ) → (read_of s wram a ≡ Ok b) ↔ (map_read_of s wram a ≡ Some b)
  unfolding read_of map_read_of
  read free b = rw (free, is_mapped _ _ s (length wram) a free) (λ e. cc, λ e. cc)

  pub access_steps : AccessSteps s w a wram
  unfolding read_of write_of write_wram
  access_steps =
      record {
        read_refusals = refusals _ Mapped _ s (length wram) a (read_map a);
        write_refusals = refusals _ MappedWrite _ s (length wram) a (write_map a);
        page_refusals = pages w.value a;
        read = read;
        write = λ free. (rw free, rw free);
        read_declined = λ r e. rw e;
        write_declined = λ r e. (rw e, rw e);
      }
