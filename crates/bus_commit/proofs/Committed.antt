-- The three kinds of bus call, each with all that it leaves: released, for a set-up cell, and with pairs. Assumes nothing.
use Prim.Native.Nat.{ℕ}
use mathlib.Core.Path.{◌≡◌, refl, sym, ap, ◌∙◌}
use mathlib.Core.Bool.{Bool, true, false, not, ◌||◌}
use mathlib.Core.List.{List, []}
use Rattle.countdown.specs.Countdown.{ticked}
use Rattle.countdown.specs.declared.Ticked.{Ticked}
use Rattle.console.specs.declared.vram_dma.VramDma.{VramDma}
use Rattle.transfer.specs.declared.pair.BytePair.{BytePair}
use Rattle.bus.specs.Deposit.{phase_of, deposited}
use Rattle.bus.specs.Commit.{Taken, nothing, pairs_of, holds_bus, bus_taken, bytes_of, vram_after, run_of, oam_after, Ran, loop_of}
use Rattle.bus.specs.Commit.{rest_run, setup_run, Committed}
use Rattle.bus.specs.declared.commit.Banks.{Banks}
use Rattle.bus.specs.declared.commit.BusInput.{BusInput}
use Rattle.bus.specs.declared.commit.Run.{Run}
use Rattle.bus.proofs.Taken.{released, cell, moving}

or-true : (b : Bool) → (b || true) ≡ true
or-true true = refl
or-true false = refl

module _ (banks : Banks) (i : BusInput) (d : VramDma) (cartridge wram vram oam : List ℕ) where
  -- without a pair nothing lands in OAM
  none_lands : oam_after banks i cartridge wram d [] oam ≡ oam
  unfolding oam_after deposited
  none_lands = rw (or-true (not d.oam.contended))

  -- a call without pairs
  without :
      (t : Taken) (r : Run) → bus_taken i d ≡ t → r ≡ run_of banks cartridge wram t → t.pairs ≡ [] →
      Committed banks i d cartridge wram vram oam r vram oam
  unfolding vram_after
  without t r is run none =
      let ps : (bus_taken i d).pairs ≡ [] = ap (λ (x : Taken). x.pairs) is ∙ none in
      record {
        result = run ∙ ap (run_of banks cartridge wram) (sym is);
        stored = ap (λ (x : List BytePair). vram_after banks cartridge wram x vram) (sym ps);
        deposit = sym none_lands ∙ ap (λ (x : List BytePair). oam_after banks i cartridge wram d x oam) (sym ps);
      }

  pub committed_released : (r : Run) → holds_bus i ≡ false → r ≡ rest_run d → Committed banks i d cartridge wram vram oam r vram oam
  unfolding run_of bytes_of
  committed_released r h e = without (nothing d) r (released i d h) e refl

  pub committed_cell :
      (r : Run) (tick : Ticked) → holds_bus i ≡ true → tick ≡ ticked d.block.setup_cells → tick.flag ≡ true →
      r ≡ setup_run tick.next d → Committed banks i d cartridge wram vram oam r vram oam
  unfolding run_of bytes_of
  committed_cell r tick h is s e =
      without _ r (cell i d h (rw is at s)) (e ∙ ap (λ (t : Ticked). setup_run t.next d) is) refl

  pub committed_pairs :
      (r : Run) (tick : Ticked) (phase : ℕ) (last_vram last_oam : List ℕ) → holds_bus i ≡ true →
      tick ≡ ticked d.block.setup_cells → tick.flag ≡ false →
      ◌≡◌ {A = Ran} (record { run = r; vram = last_vram }) (loop_of banks cartridge wram d vram) →
      phase ≡ phase_of d.block.start_edge i.oam_start_edge →
      last_oam ≡ deposited d.oam.contended r.count r.pairs r.bytes phase oam →
      Committed banks i d cartridge wram vram oam r last_vram last_oam
  unfolding loop_of oam_after run_of
  committed_pairs r tick phase last_vram last_oam h t s e ph o =
      let run : r ≡ run_of banks cartridge wram (pairs_of d) = ap (λ (x : Ran). x.run) e in
      let is : pairs_of d ≡ bus_taken i d = sym (moving i d h (rw t at s)) in
      record {
        result = run ∙ ap (run_of banks cartridge wram) is;
        stored = ap (λ (x : Ran). x.vram) e ∙ ap (λ (t : Taken). vram_after banks cartridge wram t.pairs vram) is;
        deposit = o
            ∙ ap (λ (x : ℕ). deposited d.oam.contended r.count r.pairs r.bytes x oam) ph
            ∙ ap (λ (x : Run). deposited d.oam.contended x.count x.pairs x.bytes (phase_of d.block.start_edge i.oam_start_edge) oam) run
            ∙ ap (λ (t : Taken). oam_after banks i cartridge wram d t.pairs oam) is;
      }
