-- A bus call is declined in document 01's order (specs, `BusRefusals`). Assumes nothing.
use mathlib.Core.Path.{◌≡◌, refl}
use mathlib.Core.Bool.{Bool, true, false, not, ◌||◌, true≢false}
use lib.Dec.{eqb}
use borrow.Author.Tests.{eqb-true, eq-eqb}
use Rattle.console.proofs.Refusals.{numbered}
use Rattle.console.specs.declared.Cgb.{Cgb}
use Rattle.memory.specs.Lengths.{wrong_lengths}
use Rattle.bus_calls.specs.BusCall.{Lengths, bus_refusal}
use Rattle.bus_calls.specs.BusCallSteps.{WholeSlices, BusRefusals}

none_wrong : (a b c d : Bool) → (not a || not b || not c || not d) ≡ false → (a ≡ true) × (b ≡ true) × (c ≡ true) × (d ≡ true)
none_wrong true true true true e = (refl, refl, refl, refl)
none_wrong true true true false e = absurd (true≢false e)
none_wrong true true false d e = absurd (true≢false e)
none_wrong true false c d e = absurd (true≢false e)
none_wrong false b c d e = absurd (true≢false e)

module _ (s : Cgb) (n : Lengths) where
  abbrev wrong : Bool
  wrong = wrong_lengths n.cartridge n.wram n.vram n.oam

  right : WholeSlices n → wrong ≡ false
  unfolding wrong_lengths
  right k = rw (eq-eqb n.cartridge 40960 k.cartridge, eq-eqb n.wram 32768 k.wram, eq-eqb n.vram 16384 k.vram, eq-eqb n.oam 160 k.oam)

  whole : wrong ≡ false → WholeSlices n
  unfolding wrong_lengths
  whole e =
      let all = none_wrong (eqb n.cartridge 40960) (eqb n.wram 32768) (eqb n.vram 16384) (eqb n.oam 160) e in
      record {
        cartridge = eqb-true n.cartridge 40960 all.0;
        wram = eqb-true n.wram 32768 all.1;
        vram = eqb-true n.vram 16384 all.2;
        oam = eqb-true n.oam 160 all.3;
      }

  some_wrong : (WholeSlices n → ⊥) → wrong ≡ true
  some_wrong other = by wrong refl
    where
      by : (b : Bool) → wrong ≡ b → b ≡ true
      by true e = refl
      by false e = absurd (other (whole e))

  pub bus_refusals : BusRefusals s n
  unfolding bus_refusal
  bus_refusals =
      record {
        first_7 = λ seven. numbered (rw seven);
        then_2 = λ reached other. numbered (rw (reached, some_wrong other));
        accepted = λ reached k. rw (reached, right k);
      }
