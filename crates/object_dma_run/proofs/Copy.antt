-- 160 clear M-cycle calls with nothing between copy the page (specs, `Copies`). Assumes nothing.
use Prim.Native.Nat.{ℕ, zero, suc, ◌+◌, ◌*◌, ◌<◌, ◌≤◌}
use native.Mathlib.Omega.{arith}
use mathlib.Core.Path.{◌≡◌, refl, sym, ap, subst, ◌∙◌}
use mathlib.Core.Bool.{Bool, true, false}
use mathlib.Core.List.{List}
use mathlib.Core.Logic.{◌⊎◌, inl, inr, ⊎_elim}
use lib.Dec.{ltb}
use lib.ListN.{length, set, get_or, length-set}
use lib.Seq.{get_or-set_same, get_or-set_other}
use borrow.Author.Tests.{lt-ltb, ltb-true, ltb-false}
use Rattle.console.specs.Reached.{unreached}
use Rattle.console.specs.Set.{with_object_dma}
use Rattle.console.specs.declared.Cgb.{Cgb}
use Rattle.console.specs.declared.object.ObjectDma.{ObjectDma}
use Rattle.console.proofs.Reached as seven
use Rattle.bus.specs.Source.{object_byte}
use Rattle.bus.specs.declared.arbitration.Arbitration.TheVariants.{Clear}
use Rattle.answers.specs.declared.Cycled.{Cycled}
use Rattle.answers.specs.declared.Outcome.{Outcome}
use Rattle.map_write.specs.Write.{MapWritten}
use Rattle.map_write.specs.declared.WriteInput.{WriteInput}
use Rattle.map_write.proofs.WriteSteps.{map_write_steps}
use Rattle.register_calls.proofs.AccessSteps.{access_steps}
use Rattle.registers.specs.Map.{place_of}
use Rattle.bus_calls.specs.BusCall.{banks_of}
use Rattle.bus_calls.specs.BusCallSteps.{WholeSlices}
use Rattle.engine.specs.Calls.{write_of, lengths_of, cycle_of}
use Rattle.object_dma_calls.proofs.CycleSteps.{cycle_laws}
use Rattle.object_dma_run.specs.Copy.{CopyState, clear_cycle, clear_cycles}
use Rattle.object_dma_run.specs.ObjectDmaRun.{Copies}

module _ (s : Cgb) (p e : ℕ) (cartridge wram vram oam : List ℕ) (reached : unreached s ≡ false) (low : p ≤ 0xDF)
    (slices : WholeSlices (lengths_of cartridge wram vram oam)) where
  abbrev byte : ℕ → ℕ
  byte k = object_byte (banks_of s) cartridge wram vram (p * 256 + k)

  -- object DMA with n counted
  abbrev counting : ℕ → ObjectDma
  counting n = record { running = ltb n 160; page = p; counted = n; start_edge = e }

  abbrev at : ℕ → Cgb
  at n = with_object_dma (counting n) s

  -- OAM then
  filled : ℕ → List ℕ
  filled zero = oam
  filled (suc n) = set (filled n) n (byte n)

  filled_length : (n : ℕ) → length (filled n) ≡ 160
  unfolding filled
  filled_length zero = slices.oam
  filled_length (suc n) = length-set (filled n) n (byte n) ∙ filled_length n

  filled_byte : (n k : ℕ) → n ≤ 160 → k < n → get_or (filled n) k 0 ≡ byte k
  unfolding filled
  filled_byte zero k h l = absurd (omega arith)
  filled_byte (suc n) k h l = ⊎_elim last (before (λ less. filled_byte n k (omega arith) less)) (last_or_before k n l)
    where
      last_or_before : (k n : ℕ) → k < suc n → (k ≡ n) ⊎ (k < n)
      last_or_before k n l = by (ltb k n) refl
        where
          by : (b : Bool) → ltb k n ≡ b → (k ≡ n) ⊎ (k < n)
          by true e = inr (ltb-true k n e)
          by false e = let over = ltb-false k n e in inl (omega arith)

      last : k ≡ n → get_or (set (filled n) n (byte n)) k 0 ≡ byte k
      last is = rw is (get_or-set_same (filled n) n (byte n) 0 (omega (arith, filled_length n)))

      before : (k < n → get_or (filled n) k 0 ≡ byte k) → k < n → get_or (set (filled n) n (byte n)) k 0 ≡ byte k
      before rest less = get_or-set_other (filled n) n k (byte n) 0 (λ is. absurd (omega (arith, is))) ∙ rest less

  passes : (n : ℕ) → n ≤ 160 → unreached (at n) ≡ false
  passes n h = seven.passes (at n) (seven.reached_with_object s (counting n) (seven.reached s reached) (record { counted = h; page = low }))

  -- one call more
  one : (n : ℕ) → n < 160 → clear_cycle cartridge wram vram (record { state = at n; oam = filled n }) ≡ record { state = at (suc n); oam = filled (suc n) }
  unfolding clear_cycle cycle_of filled
  one n h =
      let whole : WholeSlices (lengths_of cartridge wram vram (filled n)) =
      record { cartridge = slices.cartridge; wram = slices.wram; vram = slices.vram; oam = filled_length n } in
      let zero = (cycle_laws.refusals (at n) Clear cartridge wram vram (filled n)).accepted (passes n (omega arith)) whole in
      let moved = (cycle_laws.accepted (at n) cartridge wram vram (filled n) zero).clear (rw (lt-ltb n 160 h)) in
      λ i. record { state = (ap (λ (r : Cycled). r.state) moved.0 ∙ next) i; oam = moved.1 i }
    where
      next : with_object_dma (counting (n + 1)) s ≡ at (suc n)
      next = ap at (more n)
        where
          more : (n : ℕ) → n + 1 ≡ suc n
          more n = omega arith

  cycles : (n : ℕ) → n ≤ 160 → clear_cycles n cartridge wram vram (record { state = at 0; oam = oam }) ≡ record { state = at n; oam = filled n }
  unfolding clear_cycles filled
  cycles zero h = refl
  cycles (suc n) h = ap (clear_cycle cartridge wram vram) (cycles n (omega arith)) ∙ one n (omega arith)

  copied : Copies s p e cartridge wram vram oam (clear_cycles 160 cartridge wram vram (record { state = at 0; oam = oam }))
  copied =
      let all = cycles 160 (omega arith) in
      record {
        whole = ap (λ (r : CopyState). length r.oam) all ∙ filled_length 160;
        byte = λ k h. ap (λ (r : CopyState). get_or r.oam k 0) all ∙ filled_byte 160 k (omega arith) h;
        state = ap (λ (r : CopyState). r.state) all;
      }

-- the write leaves object DMA started, and nothing else
after_write :
    (s : Cgb) (w : WriteInput) (wram : List ℕ) → unreached s ≡ false → w.value ≤ 0xDF → length wram ≡ 32768 →
    (write_of s w 0xFF46 (length wram)).state ≡
    with_object_dma (record { running = true; page = w.value; counted = 0; start_edge = w.oam_start_edge }) s
unfolding place_of
after_write s w wram reached low whole =
    let steps = access_steps s w 0xFF46 wram in
    let free = steps.write_refusals.otherwise reached whole (inl refl) ∙ steps.page_refusals.page refl low in
    ap (λ (r : Outcome (Unit {0})). r.state) (steps.write free).0
    ∙ ap (λ (r : MapWritten). r.state) (map_write_steps.dma s w).starts

pub copies :
    (s : Cgb) (w : WriteInput) (cartridge wram vram oam : List ℕ) → unreached s ≡ false → w.value ≤ 0xDF →
    WholeSlices (lengths_of cartridge wram vram oam) →
    Copies s w.value w.oam_start_edge cartridge wram vram oam
    (clear_cycles 160 cartridge wram vram (record { state = (write_of s w 0xFF46 (length wram)).state; oam = oam }))
copies s w cartridge wram vram oam reached low slices =
    subst
    (λ (x : Cgb). Copies s w.value w.oam_start_edge cartridge wram vram oam (clear_cycles 160 cartridge wram vram (record { state = x; oam = oam })))
    (sym (after_write s w wram reached low slices.wram)) (copied s w.value w.oam_start_edge cartridge wram vram oam reached low slices)
