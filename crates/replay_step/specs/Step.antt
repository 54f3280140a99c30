-- What a record does (document 01, section 6): "from power-on without compat"; "Each line: record from 0, refusal or 0, pairs,
-- left, FF55 in two capitals". 6 is a "replay record of other kind or short". Document 02, A3: a pair's cause, "0, 1 or 2, zero
-- without a pair".
use Rattle.std.specs.Prelude.{ℕ, ◌≡◌, Bool, true, false, cond, not, ◌&&◌, List, [], Option, Some, None, get_or, eqb}
use Rattle.console.specs.declared.Cgb.{Cgb}
use Rattle.hdma.specs.Hdma5.{status_byte}
use Rattle.perform.specs.Record.{record_performed, record_wram}
use Rattle.told.specs.declared.Told.{Told}
use Rattle.call.specs.declared.Call.{Call}
use Rattle.call.specs.declared.Call.TheVariants as call
use Rattle.call.specs.declared.PlainCall.TheVariants as plain
use Rattle.replay_step.specs.declared.step.Stepped.{Stepped}
use Rattle.transfer.specs.declared.pair.BytePair.{BytePair}

-- left and FF55 are those after the record
abbrev pub line : ℕ → ℕ → ℕ → ℕ → ℕ → Cgb → Stepped
line refusal pairs source dest cause s =
    record {
      line =
          record {
            refusal = refusal;
            pairs = pairs;
            left = s.vram_dma.cursor.remaining;
            ff55 = status_byte s.vram_dma;
            source = source;
            dest = dest;
            cause = cause;
          };
      state = s;
    }

-- a call without a pair
unfoldable pub line_of : ℕ → Cgb → Stepped
line_of refusal s = line refusal 0 0 0 0 s

-- a call that may hand out a pair
unfoldable pub pair_line_of : ℕ → Option (BytePair × ℕ) → Cgb → Stepped
pair_line_of refusal (Some p) s = line refusal 1 p.0.source p.0.dest p.1 s
pair_line_of refusal None s = line_of refusal s

-- next pair and escape drain
unfoldable pub hands_pair : Option Call → Bool
hands_pair (Some (call.Plain plain.NextPair)) = true
hands_pair (Some (call.Plain plain.EscapeDrain)) = true
hands_pair _ = false

-- the pair that a call told: it is one that hands out a pair, and told 1, its source, its destination and its cause
unfoldable pub told_pair : Bool → Told → Option (BytePair × ℕ)
told_pair hands told =
    cond
    (hands && not (eqb (get_or told.values 0 0) 0))
    (Some (record { source = get_or told.values 1 0; dest = get_or told.values 2 0 }, get_or told.values 3 0))
    None

-- a record's call at a state, with no memory but work RAM
unfoldable pub step_of : Cgb → List ℕ → Option Call → Stepped
step_of s wram e =
    let p = record_performed s e [] wram [] [] in
    pair_line_of p.told.refusal (told_pair (hands_pair e) p.told) p.state

-- the whole outcome of a record
pub record Steps (s : Cgb) (wram : List ℕ) (e : Option Call) (r : Stepped) (last : List ℕ) : Type 0 where
  pub result : r ≡ step_of s wram e
  pub memory : last ≡ record_wram s e wram
