-- Document 02, A5: a General transfer takes exactly the bus calls and the bytes of its estimate, at both speeds; of every run of the
-- public functions from power-on.
use Rattle.std.specs.Prelude.{ℕ, ◌+◌, ◌*◌, ◌≤◌, ◌<◌, min, ◌≡◌, Bool, true, cond, List, ◌↔◌, length, Ok}
use Rattle.console.specs.declared.Cgb.{Cgb}
use Rattle.estimate.specs.Estimate.{estimated_bytes, estimated_cycles}
use Rattle.fall_stages.specs.declared.FallInput.{FallInput}
use Rattle.transfer.specs.declared.pair.BytePair.{BytePair}
use Rattle.transfer.specs.declared.VramDmaStatus.TheVariants as dma
use Rattle.engine.specs.Calls.{asked, engine_status, at_double_speed}
use Rattle.ledger.specs.LedgerInput.{accepts}
use Rattle.ledger.specs.Ledger.{Ledger}
use Rattle.ledger.specs.Calls.{Outcome, fall}
use Rattle.ledger.specs.Code.{Returned}
use Rattle.ledger.specs.Demand3.{Event, History, then, RunsTo}
use Rattle.ledger.specs.OneRun.{calls_of}
use Rattle.general_time.specs.Rounds.{InGeneral, Starts, Rounds, InWords, FirstClear, in_order}

abbrev pub left : Cgb → ℕ
left s = s.vram_dma.cursor.remaining

-- the estimate for the value v, by the destination register in front of the write (the ledger's is the engine's: demand 3)
abbrev pub transfer_bytes : Ledger → ℕ → ℕ
transfer_bytes l v = estimated_bytes v l.dest

abbrev pub transfer_cycles : Ledger → Bool → ℕ → ℕ
transfer_cycles l double v = estimated_cycles v l.dest double

-- "that transfer takes exactly so many accepted bus calls": after k of them left is 0 exactly if k is the M-cycles; and the pairs are
-- then the bytes, in order
pub record Exactly (l : Ledger) (double : Bool) (v k : ℕ) (ps : List BytePair) (u : Cgb) : Type 0 where
  pub over : (left u ≡ 0) ↔ (k ≡ transfer_cycles l double v)
  pub pairs : left u ≡ 0 → ps ≡ in_order (transfer_bytes l v) l.source l.dest

-- with no more asked than no set-up cell at the first bus call, rounds may go on after the end: left is 0 from the M-cycles on
pub record Takes (l : Ledger) (double : Bool) (v k : ℕ) (ps : List BytePair) (u : Cgb) : Type 0 where
  pub over : (left u ≡ 0) ↔ (transfer_cycles l double v ≤ k)
  -- two pairs a round at single speed and one at double, until all bytes have come
  pub so_far : ps ≡ in_order (min (cond double 1 2 * k) (transfer_bytes l v)) l.source l.dest
  pub all : left u ≡ 0 → ps ≡ in_order (transfer_bytes l v) l.source l.dest
  -- "the speed kept" needs no assumption
  pub speed : at_double_speed u ≡ double
  -- until the end the status is General, and then Idle
  pub general : k < transfer_cycles l double v → InGeneral u
  pub idle : transfer_cycles l double v ≤ k → asked u (engine_status u) ≡ Ok dma.Idle

-- a history with k rounds behind h, each of one fall and one bus call, as the paper has them
pub record SomeRounds (AtBus : ℕ → Cgb → Type 0) (h : History) (k : ℕ) : Type 0 where
  pub pairs : List BytePair
  pub history : History
  pub rounds : Rounds AtBus h k pairs history
  pub one_fall_each : length (calls_of history) ≡ 2 * k + length (calls_of h)
  pub last : Cgb
  pub runs : RunsTo history last

-- a transfer by this value, to this destination register and at this speed, behind some list of calls from power-on; and rounds behind
-- it, as many as are wanted, in A5's words as many as it takes
pub record SomeTransfer (v destination : ℕ) (double : Bool) : Type 0 where
  pub history : History
  pub ledger : Ledger
  pub register : ledger.dest ≡ destination
  pub write : Event
  pub starts : Starts history ledger double v write
  pub rounds : (k : ℕ) → SomeRounds FirstClear (then history write) k
  pub in_words : (k : ℕ) → k ≤ transfer_cycles ledger double v → SomeRounds InWords (then history write) k

pub record GeneralTime : Type 0 where
  -- A5 in its own words
  pub exactly :
      (h : History) (l : Ledger) (double : Bool) (v : ℕ) (w : Event) → Starts h l double v w →
      (k : ℕ) (ps : List BytePair) (g : History) → Rounds InWords (then h w) k ps g → (u : Cgb) → RunsTo g u →
      Exactly l double v k ps u
  -- more than that, from less
  pub takes :
      (h : History) (l : Ledger) (double : Bool) (v : ℕ) (w : Event) → Starts h l double v w →
      (k : ℕ) (ps : List BytePair) (g : History) → Rounds FirstClear (then h w) k ps g → (u : Cgb) → RunsTo g u →
      Takes l double v k ps u
  -- what A5 asks at each bus call then holds by itself, as long as the transfer lasts
  pub words_follow :
      (h : History) (l : Ledger) (double : Bool) (v : ℕ) (w : Event) → Starts h l double v w →
      (k : ℕ) (ps : List BytePair) (g : History) → Rounds FirstClear (then h w) k ps g → k ≤ transfer_cycles l double v →
      Rounds InWords (then h w) k ps g
  -- and each fall in one of the four modes is accepted: no 14 comes
  pub falls_accepted :
      (h : History) (l : Ledger) (double : Bool) (v : ℕ) (w : Event) → Starts h l double v w →
      (k : ℕ) (ps : List BytePair) (g : History) → Rounds FirstClear (then h w) k ps g → (u : Cgb) → RunsTo g u →
      (i : FallInput) → i.mode ≤ 3 → (o : Outcome) → Returned u (fall i) o → accepts o.reply ≡ true
  -- there are such transfers: for every value without bit 7, every destination register and both speeds
  pub some : (v destination : ℕ) (double : Bool) → v < 128 → destination < 65536 → SomeTransfer v destination double
