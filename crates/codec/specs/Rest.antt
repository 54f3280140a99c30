-- What is left of the console: bytes 41 to 90.
use Rattle.std.specs.Prelude.{ℕ, Option, Some, None, cond, List, [], ◌∷◌, ◌++◌, eqb}
use mir.Val.{bool_byte}
use Rattle.arithmetic.specs.Number.{digits, number_at, flag_at}
use Rattle.console.specs.declared.Cgb.{Cgb}
use Rattle.console.specs.declared.CgbConsoleState.{CgbConsoleState}

abbrev pub latency_tag : Option ℕ → ℕ
latency_tag None = 0
latency_tag (Some n) = 1

abbrev pub latency_value : Option ℕ → ℕ
latency_value None = 0
latency_value (Some n) = n

abbrev pub latency_of : ℕ → ℕ → Option ℕ
latency_of tag value = cond (eqb tag 0) None (Some value)

-- bytes 41 to 55
unfoldable pub register_bytes : Cgb → List ℕ
register_bytes s =
    s.svbk ∷
    bool_byte s.key1_armed ∷
    bool_byte s.double_speed ∷
    bool_byte s.dmg_compat ∷
    digits 4 s.speed_switch_blackout ++
    latency_tag s.speed_switch_wake_latency ∷
    latency_value s.speed_switch_wake_latency ∷
    bool_byte s.switch_relock_debit ∷
    s.ff72 ∷
    s.ff73 ∷
    s.ff74 ∷
    s.ff75 ∷ []

-- bytes 80 to 90, after the extra OAM
unfoldable pub bank_bytes : ℕ → CgbConsoleState → List ℕ
bank_bytes selected k =
    selected ∷
    digits 8 k.blackout_anchor ++
    bool_byte k.vram_dma_claim.committed ∷
    bool_byte k.vram_dma_claim.standing ∷ []

unfoldable pub console_of : List ℕ → CgbConsoleState
console_of b =
    record {
      blackout_anchor = number_at b 81 8;
      vram_dma_claim = record { committed = flag_at b 89; standing = flag_at b 90 };
    }
