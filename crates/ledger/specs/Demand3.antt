-- Demand 3, of every list of calls from power-on, refused ones included: what the public functions can have done, and the
-- ledger beside them.
use Rattle.std.specs.Prelude.{ℕ, ◌+◌, ◌≤◌, ◌<◌, ◌≡◌, Bool, true, false, cond, ◌&&◌, List, [], ◌∷◌, eqb, length, Ok}
use Rattle.console.specs.declared.Cgb.{Cgb}
use Rattle.bus.specs.Commit.{holds_bus, setup_stands}
use Rattle.bus.specs.declared.commit.BusInput.{BusInput}
use Rattle.transfer.specs.Pair.{left_after}
use Rattle.transfer.specs.declared.VramDmaStatus.TheVariants as dma
use Rattle.transfer.specs.declared.pair.BytePair.{BytePair}
use Rattle.engine.specs.Calls.{asked, engine_status, at_double_speed}
use Rattle.ledger.specs.LedgerInput.{Configuration, Reply, accepts, is_fall, is_drain}
use Rattle.ledger.specs.Ledger.{Ledger, empty, IsNext, after_pair, effect, after_call}
use Rattle.ledger.specs.Calls.{Call, Outcome, BusCall, ledger_input}
use Rattle.ledger.specs.Code.{Gives, power_on, Returned}

-- a call of H, with its answer
pub record Event : Type 0 where
  pub call : Call
  pub reply : Reply

-- H: power-on, then calls
pub data History : Type 0 where
  from_power_on : (k : Configuration) → History
  then : History → Event → History

-- the histories that the public functions can have, each call at the state that the last one left, with the state at the end
pub data RunsTo : History → Cgb → Type 0 where
  at_power_on : (k : Configuration) (s : Cgb) → Gives power_on tt (k.compat, tt) s → RunsTo (from_power_on k) s
  called :
      {h : History} {s : Cgb} (c : Call) (o : Outcome) → RunsTo h s → Returned s c o →
      RunsTo (then h (record { call = c; reply = o.reply })) o.state

-- the ledger of a history, with what power-on fixed
pub data Standing : Type 0 where
  running : (k : Configuration) (l : Ledger) → Standing

abbrev pub enters : Standing → Event → Standing
enters (running k l) e = running k (after_call k (ledger_input e.call) e.reply l)

unfoldable pub ledger_of : History → Standing
ledger_of (from_power_on k) = running k empty
ledger_of (then h e) = enters (ledger_of h) e

abbrev pub accepted_fall : Event → Bool
accepted_fall e = accepts e.reply && is_fall (ledger_input e.call)

-- the pairs since power-on or the last accepted fall, besides those of escape drains
unfoldable pub pairs_since_fall : History → ℕ
pairs_since_fall (from_power_on k) = 0
pairs_since_fall (then h e) =
    cond (accepted_fall e) 0 (pairs_since_fall h + cond (is_drain (ledger_input e.call)) 0 (length e.reply.pairs))

-- each of these pairs is the ledger's next, and comes while its left is not 0
pub data NextPairs : Ledger → List BytePair → Type 0 where
  no_more : {l : Ledger} → NextPairs l []
  one_more :
      {l : Ledger} {p : BytePair} {ps : List BytePair} → IsNext l p → 0 < l.left → NextPairs (after_pair l) ps →
      NextPairs l (p ∷ ps)

-- "lengths written + free pairs = pairs + overwritten + cut off + left"
unfoldable pub Balanced : Ledger → Type 0
Balanced l = l.lengths + l.free_pairs ≡ l.pairs + l.overwritten + l.cut_off + l.left

-- "two pairs at single speed, or one where the first brings left to 0, and one at double"
abbrev pub general_pairs : Cgb → ℕ
general_pairs s = cond (at_double_speed s) 1 (cond (eqb (left_after s.vram_dma.cursor) 0) 1 2)

pub record Demand3 : Type 0 where
  -- "each pair handed out is the ledger's next (01, section 5), none comes while the ledger's left is 0"
  pub next_of_ledger :
      (h : History) (e : Event) (s : Cgb) → RunsTo (then h e) s → (k : Configuration) (l : Ledger) → ledger_of h ≡ running k l →
      accepts e.reply ≡ true → NextPairs (effect k (ledger_input e.call) e.reply l) e.reply.pairs
  -- "Each gives its number, no pair" (Declined by state)
  pub refused_none :
      (h : History) (e : Event) (s : Cgb) → RunsTo (then h e) s → accepts e.reply ≡ false → e.reply.pairs ≡ []
  -- "and state and slices as before": the state after it is the one in front of it (of slices each call's contract speaks)
  pub refused_state :
      (h : History) (e : Event) (before after : Cgb) → RunsTo h before → RunsTo (then h e) after → accepts e.reply ≡ false →
      after ≡ before
  -- "the engine's left is the ledger's"
  pub same_left :
      (h : History) (s : Cgb) → RunsTo h s → (k : Configuration) (l : Ledger) → ledger_of h ≡ running k l →
      s.vram_dma.cursor.remaining ≡ l.left
  -- "lengths written + free pairs = pairs + overwritten + cut off + left"
  pub balance :
      (h : History) (s : Cgb) → RunsTo h s → (k : Configuration) (l : Ledger) → ledger_of h ≡ running k l → Balanced l
  -- "From power-on or an accepted fall to the next accepted fall, or the end, at most two pairs come besides those of escape
  -- drains"
  pub at_most_two : (h : History) (s : Cgb) → RunsTo h s → pairs_since_fall h ≤ 2
  -- "An accepted bus call that holds the bus directly after an accepted fall, in status General and taking no set-up cell, hands
  -- out two pairs at single speed, or one where the first brings left to 0, and one at double": a bus call of either form
  pub general :
      (h : History) (f : Event) (s : Cgb) → RunsTo (then h f) s → accepted_fall f ≡ true →
      (c : Call) (i : BusInput) → BusCall s c i → (o : Outcome) → Returned s c o → accepts o.reply ≡ true →
      holds_bus i ≡ true → (left : ℕ) → asked s (engine_status s) ≡ Ok (dma.General left) → setup_stands s.vram_dma ≡ false →
      length o.reply.pairs ≡ general_pairs s
  -- besides: the pointers and the owed escape are the ledger's too, the pointers are 16-bit registers, and no run meets refusal 7
  pub same_pointers :
      (h : History) (s : Cgb) → RunsTo h s → (k : Configuration) (l : Ledger) → ledger_of h ≡ running k l →
      (s.vram_dma.cursor.source ≡ l.source) × (s.vram_dma.cursor.dest ≡ l.dest) ×
      (s.vram_dma.cursor.escape_byte ≡ l.free)
  pub pointer_widths :
      (h : History) (s : Cgb) → RunsTo h s → (s.vram_dma.cursor.source < 65536) × (s.vram_dma.cursor.dest < 65536)
  pub never_7 : (h : History) (e : Event) (s : Cgb) → RunsTo (then h e) s → e.reply.number ≡ 7 → ⊥
