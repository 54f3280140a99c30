-- The byte that a contended bus call leaves in OAM (document 01, section 3).
use Rattle.std.specs.Prelude.{ℕ, ◌+◌, ◌-◌, ◌/◌, ◌%◌, ◌^◌, ◌<◌, ◌≡◌, Bool, cond, not, ◌&&◌, ◌||◌, List, ltb, eqb, get_or}
use Rattle.transfer.specs.declared.pair.BytePair.{BytePair}
use Rattle.bus.specs.Store.{oam_with}

-- "both subtractions wrap at 64 bits"
abbrev pub less64 : ℕ → ℕ → ℕ
less64 a b = (a + (2 ^ 64 - b)) % 2 ^ 64

-- "the phase is (block edge − OAM start edge − 2) / 2 mod 4"
abbrev pub phase_of : ℕ → ℕ → ℕ
phase_of block oam = less64 (less64 block oam) 2 / 2 % 4

-- "Phase 0 or 3 deposits the second byte if there is one, else the first; other phases the first": its index among n
abbrev pub coinciding_of : ℕ → ℕ → ℕ
coinciding_of n phase = cond ((eqb phase 0 || eqb phase 3) && ltb 1 n) 1 0

-- with the bound that the index keeps
pub record Coinciding (n phase r : ℕ) : Type 0 where
  pub is : r ≡ coinciding_of n phase
  pub bound : r < 2

-- no pair
abbrev pub no_pair : BytePair
no_pair = record { source = 0; dest = 0 }

-- "at FE00h + low byte of its source"; nothing without a pair
unfoldable pub deposited : Bool → ℕ → List BytePair → List ℕ → ℕ → List ℕ → List ℕ
deposited contended n pairs bytes phase oam =
    cond (not contended || eqb n 0) oam
    (oam_with oam (0xFE00 + (get_or pairs (coinciding_of n phase) no_pair).source % 256) (get_or bytes (coinciding_of n phase) 0))
