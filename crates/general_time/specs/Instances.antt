-- Document 01's K1 and K4, and document 02's own transfer, as instances: "A transfer to FFF0h was quoted at 16 M-cycles and ran 8".
use Rattle.std.specs.Prelude.{ℕ, ◌≡◌, true, false, List, [], ◌∷◌, ◌↔◌, T, ltb}
use Rattle.console.specs.declared.Cgb.{Cgb}
use Rattle.map_write.specs.declared.WriteInput.{WriteInput}
use Rattle.estimate.specs.Estimate.{estimated_bytes, estimated_cycles}
use Rattle.transfer.specs.declared.pair.BytePair.{BytePair}
use Rattle.ledger.specs.LedgerInput.{Configuration}
use Rattle.ledger.specs.Ledger.{Ledger}
use Rattle.ledger.specs.Calls.{Call, write}
use Rattle.ledger.specs.Demand3.{Event, History, then, RunsTo}
use Rattle.ledger.specs.OneRun.{configuration_of, calls_of}
use Rattle.general_time.specs.Rounds.{Starts, Rounds, InWords, in_order}
use Rattle.general_time.specs.GeneralTime.{left, SomeRounds}

-- power-on without compat
abbrev pub cgb_mode : Configuration
cgb_mode = record { compat = false }

-- a write, with the LCD on
abbrev pub stored_input : ℕ → WriteInput
stored_input value = record { value = value; lcd_on = true; oam_start_edge = 0 }

abbrev pub storing : (address value : ℕ) → T (ltb value 256) → Call
storing address value byte = write address (stored_input value) 32768 byte

-- from power-on, behind these calls (the newest first), FF55=v starts a General transfer at single speed that takes so many bus calls and
-- hands out so many pairs from these registers; there is such a run
pub record CaseTransfer (before : List Call) (v source dest count number : ℕ) : Type 0 where
  pub history : History
  pub fixed : configuration_of history ≡ cgb_mode
  pub calls : calls_of history ≡ before
  pub ledger : Ledger
  pub register : ledger.dest ≡ dest
  pub write : Event
  pub starts : Starts history ledger false v write
  -- that is the estimate, and the transfer takes exactly that
  pub estimated : (estimated_bytes v dest ≡ count) × (estimated_cycles v dest false ≡ number)
  pub exactly :
      (k : ℕ) (ps : List BytePair) (g : History) → Rounds InWords (then history write) k ps g → (u : Cgb) → RunsTo g u →
      ((left u ≡ 0) ↔ (k ≡ number)) × (left u ≡ 0 → ps ≡ in_order count source dest)
  pub run : SomeRounds InWords (then history write) number

pub record Instances : Type 0 where
  -- "K1 FF55=00, eight rounds of fall and held bus: 0000h→8000h to 000Fh→800Fh"
  pub k1 : CaseTransfer [] 0x00 0x0000 0x0000 16 8
  -- "K4 destination FFF0h, General 01: 16 pairs": 8 bus calls, and not the 16 of two blocks
  pub k4 : CaseTransfer (storing 0xFF54 0xF0 tt ∷ storing 0xFF53 0xFF tt ∷ []) 0x01 0x0000 0xFFF0 16 8
  -- a register that ran to an odd place: 3 bytes, 2 M-cycles
  pub odd : (estimated_bytes 0x00 0xFFFD ≡ 3) × (estimated_cycles 0x00 0xFFFD false ≡ 2) × (estimated_cycles 0x00 0xFFFD true ≡ 3)
  -- the last place has room for one byte, whatever the value, and the first for everything
  pub at_ffff : (estimated_bytes 0x7F 0xFFFF ≡ 1) × (estimated_cycles 0x7F 0xFFFF false ≡ 1) × (estimated_cycles 0x7F 0xFFFF true ≡ 1)
  pub at_0000 : (estimated_bytes 0x7F 0x0000 ≡ 2048) × (estimated_cycles 0x7F 0x0000 false ≡ 1024) × (estimated_cycles 0x7F 0x0000 true ≡ 2048)
