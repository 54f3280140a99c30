-- What is shown of the codec, for every state and every run of bytes.
use Rattle.std.specs.Prelude.{ℕ, ◌≡◌, Some, List, length}
use Rattle.codec.specs.Codec.{encode_of, state_of, decode_of}
use Rattle.codec.specs.Fits.{Bytes, Fits}
use Rattle.console.specs.declared.Cgb.{Cgb}

pub record RoundTrip : Type 0 where
  -- a state is written as 248 bytes
  pub sized : (s : Cgb) → Fits s → length (encode_of s) ≡ 248
  -- which are accepted, and read as that state
  pub back : (s : Cgb) → Fits s → decode_of (encode_of s) ≡ Some s
  -- what is accepted is what the state that was read is written as: there is one form of each state
  pub canonical : (b : List ℕ) (s : Cgb) → decode_of b ≡ Some s → encode_of s ≡ b
  -- and that state is what the bytes read as
  pub read : (b : List ℕ) (s : Cgb) → decode_of b ≡ Some s → state_of b ≡ s
  -- any 248 bytes, accepted or not, read as a state within its widths
  pub fits : (b : List ℕ) → Bytes 248 b → Fits (state_of b)
