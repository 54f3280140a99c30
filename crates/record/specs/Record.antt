-- A call's record: "Byte 0 is the kind", 1 to 7 as in the replay (document 01, section 6), then the rest. A kind that no row has is
-- no call, nor is an M-cycle call whose byte 4 is no answer of arbitration.
use Rattle.std.specs.Prelude.{ℕ, Option, Some, None, List, [], ◌∷◌}
use Rattle.arithmetic.specs.Number.{byte_at}
use Rattle.table.specs.Table.{Entry, ◌⟼◌, look}
use Rattle.bus.specs.declared.arbitration.Arbitration.TheVariants.{Clear, Contended, Stall}
use Rattle.call.specs.declared.Call.{Call}
use Rattle.call.specs.declared.Call.TheVariants as call
use Rattle.call.specs.declared.PlainCall.{PlainCall}
use Rattle.record.specs.Input.{address_of, write_input_of, bus_input_of, hold_input_of}
use Rattle.record.specs.Kind.{plain_of}

-- arbitration's answer by its number, 0 clear, 1 contended, 2 stall: no other is one
abbrev pub cycles : List (Entry (Option Call))
cycles =
    (0 ⟼ Some (call.ObjectDmaCycle Clear)) ∷
    (1 ⟼ Some (call.ObjectDmaCycle Contended)) ∷
    (2 ⟼ Some (call.ObjectDmaCycle Stall)) ∷ []

unfoldable pub cycle_in : ℕ → Option Call
cycle_in answer = look cycles None answer

-- the calls that are lent memory
abbrev pub lent_kinds : List ℕ → List (Entry (Option Call))
lent_kinds bytes =
    (1 ⟼ Some (call.Write (address_of bytes) (write_input_of bytes))) ∷
    (8 ⟼ Some (call.Read (address_of bytes))) ∷
    (9 ⟼ Some (call.Bus (bus_input_of bytes))) ∷
    (27 ⟼ cycle_in (byte_at bytes 4)) ∷
    (29 ⟼ Some (call.BusInside (hold_input_of bytes))) ∷ []

abbrev pub call_in : Option PlainCall → Option Call
call_in (Some p) = Some (call.Plain p)
call_in None = None

unfoldable pub call_of : List ℕ → Option Call
call_of bytes = look (lent_kinds bytes) (call_in (plain_of bytes)) (byte_at bytes 0)
