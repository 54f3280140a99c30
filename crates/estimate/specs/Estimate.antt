-- Document 01, section 6: "from the value v for FF55, a General transfer takes 8 M-cycles a block, (v mod 128) + 1 blocks". Then document
-- 02, A5: what one takes, from the value, the destination register and the speed.
use Rattle.std.specs.Prelude.{ℕ, ◌+◌, ◌-◌, ◌*◌, ◌/◌, ◌%◌, min, Bool, cond}
use Rattle.estimate.specs.declared.TransferTime.{TransferTime}

abbrev pub blocks_of : ℕ → ℕ
blocks_of v = v % 128 + 1

abbrev pub estimate_of : ℕ → ℕ
estimate_of v = 8 * blocks_of v

-- "the bytes of a General estimate are the smaller of 16 × blocks and 65,536 − destination register"
abbrev pub estimated_bytes : ℕ → ℕ → ℕ
estimated_bytes v destination = min (16 * blocks_of v) (65536 - destination)

-- "the M-cycles are half of that, rounded up, at single speed and all of it at double"
abbrev pub cycles_for : Bool → ℕ → ℕ
cycles_for double bytes = cond double bytes ((bytes + 1) / 2)

abbrev pub estimated_cycles : ℕ → ℕ → Bool → ℕ
estimated_cycles v destination double = cycles_for double (estimated_bytes v destination)

unfoldable pub transfer_time_of : ℕ → ℕ → Bool → TransferTime
transfer_time_of v destination double =
    record { bytes = estimated_bytes v destination; m_cycles = estimated_cycles v destination double }
