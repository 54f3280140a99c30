-- The arbiter is read back from where its bytes stand, and any bytes read as one within its widths. Assumes nothing.
use Prim.Native.Nat.{ℕ, ◌<◌}
use mathlib.Core.Path.{◌≡◌, refl}
use mathlib.Core.List.{List}
use lib.Dec.{lit<}
use Rattle.arithmetic.specs.Number.{byte_at, bytes_at}
use Rattle.codec.proofs.Fields.{field}
use Rattle.codec.specs.Arb.{arb_bytes, arb_of}
use Rattle.codec.specs.Fits.{FitsArb}
use Rattle.console.specs.declared.vram_dma.HaltArbiter.{HaltArbiter}

pub arb_back : (b : List ℕ) (a : HaltArbiter) → bytes_at b 24 15 ≡ arb_bytes a → arb_of b ≡ a
unfolding arb_bytes arb_of
arb_back b a e =
    let at = field b 24 15 (arb_bytes a) e in
    λ i.
    record {
      pend = at.flag 0 a.pend (lit< tt) refl i;
      pend_from_arm = at.flag 1 a.pend_from_arm (lit< tt) refl i;
      armed_this_fall = at.flag 2 a.armed_this_fall (lit< tt) refl i;
      halted_falls = at.byte 3 a.halted_falls (lit< tt) refl i;
      prev_view_hblank = at.flag 4 a.prev_view_hblank (lit< tt) refl i;
      pend_age = at.byte 5 a.pend_age (lit< tt) refl i;
      pend_granted = at.flag 6 a.pend_granted (lit< tt) refl i;
      wake_tenure = record { 0 = at.byte 7 a.wake_tenure.0 (lit< tt) refl i };
      park_waits_for_fetch = at.flag 8 a.park_waits_for_fetch (lit< tt) refl i;
      idle_claim = at.flag 9 a.idle_claim (lit< tt) refl i;
      halt_wake_blind = record { 0 = at.byte 10 a.halt_wake_blind.0 (lit< tt) refl i };
      prev_cpu_halted = at.flag 11 a.prev_cpu_halted (lit< tt) refl i;
      grant_counted = at.flag 12 a.grant_counted (lit< tt) refl i;
      wake_pend_blind = record { 0 = at.byte 13 a.wake_pend_blind.0 (lit< tt) refl i };
      granted_ahead = at.byte 14 a.granted_ahead (lit< tt) refl i;
    }

pub arb_fits : (b : List ℕ) → ((j : ℕ) → byte_at b j < 256) → FitsArb (arb_of b)
unfolding arb_of
arb_fits b at =
    record {
      halted_falls = at 27;
      pend_age = at 29;
      wake_tenure = at 31;
      halt_wake_blind = at 34;
      wake_pend_blind = at 37;
      granted_ahead = at 38;
    }
