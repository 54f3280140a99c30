-- The halt arbiter: bytes 24 to 38.
use Rattle.std.specs.Prelude.{ℕ, List, [], ◌∷◌}
use mir.Val.{bool_byte}
use Rattle.arithmetic.specs.Number.{byte_at, flag_at}
use Rattle.console.specs.declared.vram_dma.HaltArbiter.{HaltArbiter}

unfoldable pub arb_bytes : HaltArbiter → List ℕ
arb_bytes a =
    bool_byte a.pend ∷
    bool_byte a.pend_from_arm ∷
    bool_byte a.armed_this_fall ∷
    a.halted_falls ∷
    bool_byte a.prev_view_hblank ∷
    a.pend_age ∷
    bool_byte a.pend_granted ∷
    a.wake_tenure.0 ∷
    bool_byte a.park_waits_for_fetch ∷
    bool_byte a.idle_claim ∷
    a.halt_wake_blind.0 ∷
    bool_byte a.prev_cpu_halted ∷
    bool_byte a.grant_counted ∷
    a.wake_pend_blind.0 ∷
    a.granted_ahead ∷ []

unfoldable pub arb_of : List ℕ → HaltArbiter
arb_of b =
    record {
      pend = flag_at b 24;
      pend_from_arm = flag_at b 25;
      armed_this_fall = flag_at b 26;
      halted_falls = byte_at b 27;
      prev_view_hblank = flag_at b 28;
      pend_age = byte_at b 29;
      pend_granted = flag_at b 30;
      wake_tenure = record { 0 = byte_at b 31 };
      park_waits_for_fetch = flag_at b 32;
      idle_claim = flag_at b 33;
      halt_wake_blind = record { 0 = byte_at b 34 };
      prev_cpu_halted = flag_at b 35;
      grant_counted = flag_at b 36;
      wake_pend_blind = record { 0 = byte_at b 37 };
      granted_ahead = byte_at b 38;
    }
