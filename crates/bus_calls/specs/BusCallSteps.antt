-- What is shown of the order in which a bus call is declined (document 01: "7 first wherever a state is given", and 2).
use Rattle.std.specs.Prelude.{◌≡◌, true, false, None}
use Rattle.console.specs.Reached.{unreached}
use Rattle.console.specs.Refusals.{Numbered}
use Rattle.console.specs.declared.Cgb.{Cgb}
use Rattle.console.specs.declared.refusal.Refusal.TheVariants.{State, Length}
use Rattle.bus_calls.specs.BusCall.{Lengths, bus_refusal}

-- "cartridge 40,960, WRAM 32,768, VRAM 16,384, OAM 160"
pub record WholeSlices (n : Lengths) : Type 0 where
  pub cartridge : n.cartridge ≡ 40960
  pub wram : n.wram ≡ 32768
  pub vram : n.vram ≡ 16384
  pub oam : n.oam ≡ 160

pub record BusRefusals (s : Cgb) (n : Lengths) : Type 0 where
  pub first_7 : unreached s ≡ true → Numbered (bus_refusal s n) State 7
  pub then_2 : unreached s ≡ false → (WholeSlices n → ⊥) → Numbered (bus_refusal s n) Length 2
  pub accepted : unreached s ≡ false → WholeSlices n → bus_refusal s n ≡ None
