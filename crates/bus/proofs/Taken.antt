-- What a bus call takes: nothing where it is released, a set-up cell, or pairs one after the other. Assumes nothing.
use Prim.Native.Nat.{ℕ, zero, suc}
use native.Mathlib.Omega.{arith}
use mathlib.Core.Path.{◌≡◌, refl, ap, ◌∙◌}
use mathlib.Core.Bool.{Bool, true, false, cond}
use mathlib.Core.List.{◌∷◌}
use Rattle.std.specs.Prelude.{Some, None}
use Rattle.countdown.specs.declared.Countdown.{Countdown}
use Rattle.console.specs.declared.vram_dma.VramDma.{VramDma}
use Rattle.transfer.specs.Pair.{NextAnswer, next_byte_of}
use Rattle.transfer.specs.declared.pair.BytePair.{BytePair}
use Rattle.transfer.specs.declared.pair.Cause.{Cause}
use Rattle.transfer.specs.declared.pair.NextByte.{NextByte}
use Rattle.transfer.proofs.PairSteps.{pair_steps, is_ready}
use Rattle.bus.specs.Commit.{Taken, nothing, after_answer, taken_of, pairs_of, holds_bus, setup_stands, with_cells, cell_taken, bus_taken}
use Rattle.bus.specs.declared.commit.BusInput.{BusInput}

module _ (i : BusInput) (d : VramDma) where
  pub released : holds_bus i ≡ false → bus_taken i d ≡ nothing d
  unfolding bus_taken
  released h = rw h

  pub cell : holds_bus i ≡ true → setup_stands d ≡ true → bus_taken i d ≡ cell_taken d
  unfolding bus_taken
  cell h s = rw (h, s)

  pub moving : holds_bus i ≡ true → setup_stands d ≡ false → bus_taken i d ≡ pairs_of d
  unfolding bus_taken
  moving h s = rw (h, s)

  -- what holds of each of the three holds of the call
  pub each_kind :
      (P : Taken → Type 0) → (holds_bus i ≡ false → P (nothing d)) → (holds_bus i ≡ true → setup_stands d ≡ true → P (cell_taken d)) →
      (holds_bus i ≡ true → setup_stands d ≡ false → P (pairs_of d)) → P (bus_taken i d)
  unfolding bus_taken
  each_kind P none one some = by (holds_bus i) refl (setup_stands d) refl
    where
      by : (h : Bool) → holds_bus i ≡ h → (c : Bool) → setup_stands d ≡ c → P (cond h (cond c (cell_taken d) (pairs_of d)) (nothing d))
      by true h true c = one h c
      by true h false c = some h c
      by false h c k = none h

-- where none comes, none is taken
taken_none : (n : ℕ) (d : VramDma) → (next_byte_of d).answer ≡ None → taken_of n d ≡ nothing d
unfolding taken_of
taken_none zero d h = refl
taken_none (suc n) d h = rw h

pub pairs_none : (d : VramDma) → (next_byte_of d).answer ≡ None → pairs_of d ≡ nothing d
unfolding pairs_of
pairs_none d h = taken_none d.cursor.quota d h

-- a pair takes one from quota
pub quota_falls : (d : VramDma) (p : BytePair) (k : Cause) → (next_byte_of d).answer ≡ Some (p, k) → d.cursor.quota ≡ suc (next_byte_of d).dma.cursor.quota
quota_falls d p k h = let fell = (pair_steps.moves d (is_ready d p k h)).quota in omega (arith, fell)

-- a pair comes first, then what the engine gives after it
pub pairs_one :
    (d : VramDma) (p : BytePair) (k : Cause) → (next_byte_of d).answer ≡ Some (p, k) →
    (let rest = pairs_of (next_byte_of d).dma in
    pairs_of d ≡ record { dma = rest.dma; pairs = p ∷ rest.pairs; causes = k ∷ rest.causes; setup = false })
unfolding pairs_of taken_of
pairs_one d p k h =
    ap (λ (n : ℕ). taken_of n d) (quota_falls d p k h) ∙
    ap (λ (a : NextAnswer). after_answer d a (taken_of (next_byte_of d).dma.cursor.quota (next_byte_of d).dma)) h

-- what holds of an engine where none comes, and holds of d if it holds of the engine after its first pair, holds of d
pub by_pairs :
    (P : VramDma → Taken → Type 0) → ((d : VramDma) → (next_byte_of d).answer ≡ None → P d (nothing d)) →
    ((d : VramDma) (p : BytePair) (k : Cause) (t : Taken) → (next_byte_of d).answer ≡ Some (p, k) → P (next_byte_of d).dma t →
    P d (record { dma = t.dma; pairs = p ∷ t.pairs; causes = k ∷ t.causes; setup = false })) →
    (d : VramDma) → P d (pairs_of d)
unfolding pairs_of taken_of
by_pairs P none one d = taken d.cursor.quota d refl
  where
    taken : (n : ℕ) (d : VramDma) → d.cursor.quota ≡ n → P d (taken_of n d)
    taken zero d q = none d (ap (λ (x : NextByte). x.answer) (pair_steps.no_quota d q))
    taken (suc n) d q = step (next_byte_of d).answer refl (λ k. taken n (next_byte_of d).dma k)
      where
        step :
            (a : NextAnswer) → (next_byte_of d).answer ≡ a →
            ((next_byte_of d).dma.cursor.quota ≡ n → P (next_byte_of d).dma (taken_of n (next_byte_of d).dma)) →
            P d (after_answer d a (taken_of n (next_byte_of d).dma))
        step (Some (p, k)) e rest = one d p k _ e (rest (let fell = quota_falls d p k e in omega arith))
        step None e rest = none d e

-- a property of engines that each pair keeps, and each set-up cell, is kept by the call
pub pairs_keep :
    (P : VramDma → Type 0) → ((d : VramDma) → P d → P (next_byte_of d).dma) → (d : VramDma) → P d → P (pairs_of d).dma
pairs_keep P pair d = by_pairs (λ d t. P d → P t.dma) (λ d e h. h) (λ d p k t e rest h. rest (pair d h)) d

pub bus_keeps :
    (P : VramDma → Type 0) → ((d : VramDma) → P d → P (next_byte_of d).dma) →
    ((d : VramDma) (cells : Countdown) → P d → P (with_cells cells d)) → (i : BusInput) (d : VramDma) → P d → P (bus_taken i d).dma
bus_keeps P pair cells i d k =
    each_kind i d (λ (t : Taken). P t.dma) (λ h. k) (λ h c. cells d _ k) (λ h c. pairs_keep P pair d k)

pub pairs_no_setup : (d : VramDma) → (pairs_of d).setup ≡ false
pairs_no_setup d = by_pairs (λ d t. t.setup ≡ false) (λ d e. refl) (λ d p k t e rest. refl) d
