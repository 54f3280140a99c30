-- A write keeps what refusal 7 tests: a state that passes is followed by one that passes. Assumes nothing.
use Prim.Native.Nat.{ℕ, ◌%◌, ◌≤◌}
use native.Mathlib.Omega.{arith}
use mathlib.Core.Path.{◌≡◌, ◌∙◌, refl, sym}
use mathlib.Core.Bool.{Bool, true, false, cond}
use Rattle.console.proofs.Reached as seven
use Rattle.console.specs.Reached.{Reached}
use Rattle.console.specs.Set.{with_vram_dma}
use Rattle.console.specs.declared.Cgb.{Cgb}
use Rattle.hdma.specs.Hdma5.{length_of, hdma5_written}
use Rattle.hdma.proofs.Written.{Kept, keeps}
use Rattle.registers.specs.Map.{Register, KEY0, KEY1, VBK, HDMA1, HDMA2, HDMA3, HDMA4, HDMA5, SVBK, FF72, FF73, FF74, FF75, Place, work_ram, banked_ram}
use Rattle.registers.specs.Map.{extra_oam, register, dma_start, unmapped, place_of, writable}
use Rattle.map_write.specs.Write.{register_written, state_at, stored_of, map_write_of, locked}
use Rattle.map_write.specs.declared.WriteInput.{WriteInput}

-- FF55: a length of 16 to 2,048, so left is not 0
length_written : (s : Cgb) (v : ℕ) (lcd : Bool) → Reached s → Reached (with_vram_dma (hdma5_written v lcd s.vram_dma) s)
length_written s v lcd r =
    let k : Kept (length_of v) s.vram_dma (hdma5_written v lcd s.vram_dma) = keeps v lcd s.vram_dma in
    seven.reached_with s (hdma5_written v lcd s.vram_dma) r
    (record {
      quota = rw k.quota r.engine.quota;
      block = k.block r.engine.block;
      left = rw k.left (omega arith);
      idle = λ none. absurd (omega (arith, sym k.left ∙ none));
    })

register_keeps : (s : Cgb) (w : WriteInput) (g : Register) → Reached s → Reached (register_written s w g)
register_keeps s w KEY0 r = r
register_keeps s w KEY1 r = r
register_keeps s w VBK r =
    seven.reached_with_bank s (w.value % 2) r (omega arith)
register_keeps s w HDMA1 r = r
register_keeps s w HDMA2 r = r
register_keeps s w HDMA3 r = r
register_keeps s w HDMA4 r = r
register_keeps s w HDMA5 r = length_written s w.value w.lcd_on r
register_keeps s w SVBK r =
    seven.reached_with_svbk s (w.value % 8) r (omega arith)
register_keeps s w FF72 r = r
register_keeps s w FF73 r = r
register_keeps s w FF74 r = r
register_keeps s w FF75 r = r

-- at FF46 the page must be one that 7 lets pass
place_keeps : (s : Cgb) (w : WriteInput) (p : Place) → (p ≡ dma_start → w.value ≤ 0xDF) → Reached s → Reached (state_at s w p)
place_keeps s w (work_ram i) h r = r
place_keeps s w (banked_ram i) h r = r
place_keeps s w (extra_oam i) h r = r
place_keeps s w (register g) h r = register_keeps s w g r
place_keeps s w dma_start h r = seven.reached_with_object s _ r (record { counted = omega arith; page = h refl })
place_keeps s w unmapped h r = r

either :
    (b : Bool) (s : Cgb) (w : WriteInput) (a : ℕ) → (place_of a ≡ dma_start → w.value ≤ 0xDF) → Reached s →
    Reached (cond b (record { mapped = writable (place_of a); state = s }) (stored_of s w a)).state
unfolding stored_of
either true s w a h r = r
either false s w a h r = place_keeps s w (place_of a) h r

pub write_keeps : (s : Cgb) (w : WriteInput) (a : ℕ) → (place_of a ≡ dma_start → w.value ≤ 0xDF) → Reached s → Reached (map_write_of s w a).state
unfolding map_write_of
write_keeps s w a h r = either (locked s a) s w a h r
