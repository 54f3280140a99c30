-- The round trip both ways (specs, `RoundTrip`). Assumes nothing.
use Rattle.std.proofs.Common.{◌≡◌, Bool, true, false, cond, Some, None, List, ℕ, refl}
use Rattle.codec.proofs.State.{length_is, state_back, state_within}
use Rattle.arithmetic.proofs.Same.{same_self, same_equal}
use Rattle.arithmetic.specs.Number.{same_bytes}
use Rattle.codec.specs.Codec.{encode_of, state_of, decode_of}
use Rattle.codec.specs.Fits.{Fits}
use Rattle.codec.specs.RoundTrip.{RoundTrip}
use Rattle.console.specs.declared.Cgb.{Cgb}

-- what a test lets through, and that it did
chosen : (b : Bool) (x s : Cgb) → cond b (Some x) None ≡ Some s → (b ≡ true) × (x ≡ s)
chosen true x s e = (refl, cc)
chosen false x s e = cc

module _ (b : List ℕ) (s : Cgb) (e : decode_of b ≡ Some s) where
  accepted : (same_bytes (encode_of (state_of b)) b ≡ true) × (state_of b ≡ s)
  unfolding decode_of
  accepted = chosen (same_bytes (encode_of (state_of b)) b) (state_of b) s e

  canonical : encode_of s ≡ b
  canonical = rw (← accepted.1) (same_equal (encode_of (state_of b)) b accepted.0)

back : (s : Cgb) → Fits s → decode_of (encode_of s) ≡ Some s
unfolding decode_of
back s h = rw (state_back s h, same_self (encode_of s))

pub round_trip : RoundTrip
round_trip =
    record {
      sized = λ s h. length_is s h.extra_oam.long;
      back = back;
      canonical = canonical;
      read = λ b s e. (accepted b s e).1;
      fits = state_within;
    }
