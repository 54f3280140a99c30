-- The exported entry: state bytes that no state has get 7, then a record of no call 6; else the call is performed.
use Rattle.std.specs.Prelude.{ℕ, ◌≡◌, not, List, Option, Some, None, eqb}
use Rattle.codec.specs.Codec.{encode_of, decode_of}
use Rattle.arithmetic.specs.Number.{byte_at}
use Rattle.console.specs.PowerOn.{power_on_of}
use Rattle.call.specs.declared.Call.{Call}
use Rattle.console.specs.declared.Cgb.{Cgb}
use Rattle.perform.specs.Perform.{perform_of, wram_left, vram_left, oam_left}
use Rattle.record.specs.Answer.{answer_bytes, refused_bytes}
use Rattle.c_api.specs.Declined.{DeclinedBytes}
use Rattle.record.specs.Record.{call_of}

unfoldable pub powered_on : ℕ → List ℕ
powered_on compat = encode_of (power_on_of (not (eqb compat 0)))

-- what is left in the caller's bytes
pub record Left : Type 0 where
  pub result : ℕ
  pub state : List ℕ
  pub answer : List ℕ
  pub wram : List ℕ
  pub vram : List ℕ
  pub oam : List ℕ

-- refused: the answer is the number and zeros, all else as given
abbrev pub refused_left : ℕ → List ℕ → List ℕ → List ℕ → List ℕ → Left
refused_left n state wram vram oam =
    record { result = n; state = state; answer = refused_bytes n; wram = wram; vram = vram; oam = oam }

-- a record's call at a state, or 6
unfoldable pub called_of : Cgb → Option Call → List ℕ → List ℕ → List ℕ → List ℕ → List ℕ → Left
called_of s (Some c) state cartridge wram vram oam =
    let p = perform_of s c cartridge wram vram oam in
    record {
      result = p.told.refusal;
      state = encode_of p.state;
      answer = answer_bytes p;
      wram = wram_left s c wram;
      vram = vram_left s c cartridge wram vram oam;
      oam = oam_left s c cartridge wram vram oam;
    }
called_of s None state cartridge wram vram oam = refused_left 6 state wram vram oam

-- at the state that the bytes say, if they say one; 7 first
unfoldable pub entered_at : Option Cgb → List ℕ → List ℕ → List ℕ → List ℕ → List ℕ → List ℕ → Left
entered_at (Some s) state call cartridge wram vram oam = called_of s (call_of call) state cartridge wram vram oam
entered_at None state call cartridge wram vram oam = refused_left 7 state wram vram oam

unfoldable pub entered_of : List ℕ → List ℕ → List ℕ → List ℕ → List ℕ → List ℕ → Left
entered_of state call cartridge wram vram oam = entered_at (decode_of state) state call cartridge wram vram oam

-- the whole outcome, whatever stood in the answer
pub record Entered (state call cartridge wram vram oam : List ℕ) (r : ℕ) (last_state last_answer last_wram last_vram last_oam : List ℕ) : Type 0 where
  pub all :
      record { result = r; state = last_state; answer = last_answer; wram = last_wram; vram = last_vram; oam = last_oam } ≡
      entered_of state call cartridge wram vram oam
  -- byte 0 of the answer is the result
  pub number : byte_at last_answer 0 ≡ r
  -- with a number, whichever: the state's bytes and the slices are those given
  pub declined : (r ≡ 0 → ⊥) → DeclinedBytes state wram vram oam r last_state last_answer last_wram last_vram last_oam
