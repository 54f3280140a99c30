-- The kinds of the calls that are lent no memory: byte 0 of a record. Written by tools/calls from calls.txt.
use Rattle.std.specs.Prelude.{ℕ, Option, Some, None, List, [], ◌∷◌}
use Rattle.arithmetic.specs.Number.{byte_at}
use Rattle.table.specs.Table.{Entry, ◌⟼◌, look}
use Rattle.call.specs.declared.PlainCall.{PlainCall}
use Rattle.call.specs.declared.PlainCall.TheVariants as plain
use Rattle.call.specs.declared.query.Query.{Query}
use Rattle.call.specs.declared.query.Query.TheVariants as query
use Rattle.record.specs.Input.{fall_input_of, switch_input_of, elapsed_of, arbitration_input_of, address_of, boundary_of, hold_input_of}

abbrev pub query_kinds : List (Entry (Option Query))
query_kinds =
    (14 ⟼ Some query.Tally) ∷
    (15 ⟼ Some query.Status) ∷
    (16 ⟼ Some query.Claim) ∷
    (17 ⟼ Some query.ParkWaits) ∷
    (18 ⟼ Some query.RequestStanding) ∷
    (19 ⟼ Some query.HoldsCpu) ∷
    (20 ⟼ Some query.SeizesBus) ∷
    (21 ⟼ Some query.SwitchInProgress) ∷
    (22 ⟼ Some query.DividerActive) ∷
    (23 ⟼ Some query.DoubleSpeed) ∷
    (24 ⟼ Some query.CpuStepsPerDot) ∷
    (25 ⟼ Some query.WramBank) ∷
    (26 ⟼ Some query.SvbkRegister) ∷
    (30 ⟼ Some query.ObjectDma) ∷ []

unfoldable pub query_kind : ℕ → Option Query
query_kind kind = look query_kinds None kind

abbrev pub query_of : Option Query → Option PlainCall
query_of (Some q) = Some (plain.Query q)
query_of None = None

abbrev pub plain_kinds : List ℕ → List (Entry (Option PlainCall))
plain_kinds bytes =
    (2 ⟼ Some (plain.Fall (fall_input_of bytes))) ∷
    (3 ⟼ Some plain.NextPair) ∷
    (4 ⟼ Some (plain.Switch (switch_input_of bytes))) ∷
    (5 ⟼ Some plain.LcdOff) ∷
    (6 ⟼ Some plain.EscapeDrain) ∷
    (7 ⟼ Some (plain.Blackout (elapsed_of bytes))) ∷
    (10 ⟼ Some (plain.Arbitrate (arbitration_input_of bytes))) ∷
    (11 ⟼ Some (plain.Conflict (address_of bytes))) ∷
    (12 ⟼ Some (plain.Wake (boundary_of bytes))) ∷
    (13 ⟼ Some plain.InstructionRetired) ∷
    (28 ⟼ Some (plain.ArbitrateInside (hold_input_of bytes))) ∷ []

unfoldable pub plain_of : List ℕ → Option PlainCall
plain_of bytes = look (plain_kinds bytes) (query_of (query_kind (byte_at bytes 0))) (byte_at bytes 0)
