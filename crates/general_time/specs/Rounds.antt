-- The calls that document 02's A5 speaks of, in H: a write to FF55 that starts a General transfer, then rounds of an accepted fall
-- and, directly after it, an accepted bus call that holds the bus.
use Rattle.std.specs.Prelude.{ℕ, zero, suc, ◌+◌, ◌%◌, ◌≡◌, Bool, true, false, List, [], ◌∷◌, ◌++◌, T, ltb, Ok}
use Rattle.console.specs.declared.Cgb.{Cgb}
use Rattle.bus.specs.Commit.{holds_bus, setup_stands}
use Rattle.bus.specs.declared.commit.BusInput.{BusInput}
use Rattle.fall_stages.specs.declared.FallInput.{FallInput}
use Rattle.map_write.specs.declared.WriteInput.{WriteInput}
use Rattle.transfer.specs.declared.VramDmaStatus.TheVariants as dma
use Rattle.transfer.specs.declared.pair.BytePair.{BytePair}
use Rattle.engine.specs.Calls.{asked, engine_status, at_double_speed}
use Rattle.ledger.specs.LedgerInput.{Configuration, accepts}
use Rattle.ledger.specs.Ledger.{Ledger}
use Rattle.ledger.specs.Calls.{write, fall, BusCall}
use Rattle.ledger.specs.Demand3.{Event, History, then, RunsTo, running, ledger_of}

-- a status query would answer General
pub record InGeneral (s : Cgb) : Type 0 where
  pub left : ℕ
  pub status : asked s (engine_status s) ≡ Ok (dma.General left)

-- behind the history h, with the ledger l and at this speed, the accepted write w of v to FF55 starts a General transfer: the status
-- after it is General. "With no escape owed": the ledger's free is clear
pub record Starts (h : History) (l : Ledger) (double : Bool) (v : ℕ) (w : Event) : Type 0 where
  pub configuration : Configuration
  pub ledger : ledger_of h ≡ running configuration l
  pub unowed : l.free ≡ false
  pub before : Cgb
  pub runs : RunsTo h before
  pub speed : at_double_speed before ≡ double
  pub input : WriteInput
  pub wram : ℕ
  pub byte : T (ltb input.value 256)
  pub call : w.call ≡ write 0xFF55 input wram byte
  pub value : input.value ≡ v
  pub accepted : accepts w.reply ≡ true
  pub after : Cgb
  pub started : RunsTo (then h w) after
  pub general : InGeneral after

-- "accepted bus calls that hold the bus, each directly after an accepted fall", and "no other call between": behind the history h come k
-- rounds, each of accepted falls, one or more, and directly after the last of them an accepted bus call of either form that holds the
-- bus; falls may stand behind the last round too. (The paper's rounds have one fall each, which these are too.) With it the pairs that
-- they handed out, in order, and the history after them.
-- `AtBus j s`: what is asked of the state s at the bus call with j rounds in front of it
pub data Rounds (AtBus : ℕ → Cgb → Type 0) (h : History) : ℕ → List BytePair → History → Type 0 where
  none : Rounds AtBus h 0 [] h
  -- a fall that no bus call follows: a console has a fall for each dot, and several dots in an M-cycle
  fall_alone :
      {k : ℕ} {ps : List BytePair} {g : History} → Rounds AtBus h k ps g →
      (i : FallInput) (f : Event) → f.call ≡ fall i → accepts f.reply ≡ true →
      Rounds AtBus h k ps (then g f)
  round :
      {k : ℕ} {ps : List BytePair} {g : History} → Rounds AtBus h k ps g →
      (i : FallInput) (f : Event) → f.call ≡ fall i → accepts f.reply ≡ true →
      (s : Cgb) → RunsTo (then g f) s → AtBus k s →
      (j : BusInput) (b : Event) → BusCall s b.call j → accepts b.reply ≡ true → holds_bus j ≡ true →
      Rounds AtBus h (suc k) (ps ++ b.reply.pairs) (then (then g f) b)

-- "and status General without a set-up cell at each bus call"
pub record InWords (k : ℕ) (s : Cgb) : Type 0 where
  pub general : InGeneral s
  pub no_cell : setup_stands s.vram_dma ≡ false

-- what is enough: no set-up cell at the first
abbrev pub FirstClear : ℕ → Cgb → Type 0
FirstClear k s = k ≡ 0 → setup_stands s.vram_dma ≡ false

-- the pair with the number j, from 0, of a transfer from these registers: "(source, 8000h + destination mod 8192)", each register one up
-- from pair to pair; "Source wraps"
abbrev pub pair_at : ℕ → ℕ → ℕ → BytePair
pair_at j source dest = record { source = (source + j) % 65536; dest = 0x8000 + (dest + j) % 8192 }

-- the first n of them, in order
abbrev pub in_order : ℕ → ℕ → ℕ → List BytePair
in_order zero source dest = []
in_order (suc n) source dest = in_order n source dest ++ (pair_at n source dest ∷ [])
