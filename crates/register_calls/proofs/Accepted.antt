-- What an accepted read gives and what a write leaves, accepted or declined, as laws: what callers cite in place of the
-- definitions. Assumes nothing.
use Prim.Native.Nat.{ℕ}
use mathlib.Core.Path.{◌≡◌, refl}
use mathlib.Core.Bool.{true, false}
use mathlib.Core.List.{List}
use lib.ListN.{length}
use Rattle.std.proofs.Common.{Some, None, Ok}
use Rattle.console.specs.Reached.{unreached}
use Rattle.console.specs.declared.Cgb.{Cgb}
use Rattle.console.specs.declared.refusal.Refusal.{Refusal}
use Rattle.memory.specs.Lengths.{wram_length}
use Rattle.registers.specs.Map.{place_of, readable, writable, locks_at}
use Rattle.map_read.specs.Read.{map_byte}
use Rattle.map_write.specs.Write.{state_at, stored_of, map_write_of}
use Rattle.map_write.specs.declared.WriteInput.{WriteInput}
use Rattle.register_calls.specs.Access.{page_above, write_refusal, read_of, write_of}
use Rattle.register_calls.proofs.Refusals.{at_rest, at_none_write}

-- declined, the state is that of before
pub write_declined : (s : Cgb) (w : WriteInput) (a n : ℕ) (r : Refusal) → write_refusal s w.value n a ≡ Some r → (write_of s w a n).state ≡ s
unfolding write_of
write_declined s w a n r refused = rw refused

module _ (s : Cgb) (reached : unreached s ≡ false) (a : ℕ) where
  pub read_accepted :
      readable (place_of a) ≡ true → (wram : List ℕ) → length wram ≡ wram_length → read_of s wram a ≡ Ok (map_byte s wram (place_of a))
  unfolding read_of
  read_accepted mapped wram whole = rw (whole, at_rest readable _ s wram_length a reached refl mapped)

  -- a mapped address, and no page above DFh at FF46
  module _ (w : WriteInput) (mapped : writable (place_of a) ≡ true) (page : page_above w.value a ≡ false) where
    accepted : write_refusal s w.value wram_length a ≡ None
    accepted = at_none_write s w.value wram_length a reached refl mapped page

    pub write_accepted : write_of s w a wram_length ≡ record { answer = Ok tt; state = (map_write_of s w a).state }
    unfolding write_of
    write_accepted = rw accepted

    -- in CGB mode nothing is locked
    pub write_unlocked : s.dmg_compat ≡ false → (write_of s w a wram_length).state ≡ state_at s w (place_of a)
    unfolding write_of map_write_of stored_of
    write_unlocked unlocked = rw (accepted, unlocked)

    -- in compatibility mode a locked register keeps the state
    pub write_locked : s.dmg_compat ≡ true → locks_at a ≡ true → (write_of s w a wram_length).state ≡ s
    unfolding write_of map_write_of
    write_locked compat lock = rw (accepted, compat, lock)
