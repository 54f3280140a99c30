-- The causes of a bus call's pairs (document 02, A3): each pair has one, and of two the first is going on. Assumes nothing.
use Prim.Native.Nat.{ℕ, ◌+◌, ◌%◌, ◌<◌}
use native.Mathlib.Omega.{arith}
use mathlib.Core.Path.{◌≡◌, refl, sym, ap, subst, ◌∙◌}
use mathlib.Core.Bool.{false}
use mathlib.Core.List.{List, [], ◌∷◌}
use lib.ListN.{length}
use Rattle.std.specs.Prelude.{Some}
use Rattle.console.specs.declared.vram_dma.VramDma.{VramDma}
use Rattle.transfer.specs.CauseSteps.{Caused}
use Rattle.transfer.specs.Pair.{next_byte_of}
use Rattle.transfer.specs.declared.pair.BytePair.{BytePair}
use Rattle.transfer.specs.declared.pair.Cause.{Cause}
use Rattle.transfer.specs.declared.pair.Cause.TheVariants.{GoingOn}
use Rattle.transfer.proofs.CauseSteps.{cause_steps}
use Rattle.transfer.proofs.PairSteps.{pair_steps, some_left, is_ready}
use Rattle.bus.specs.Commit.{Taken, nothing, cell_taken, pairs_of, bus_taken}
use Rattle.bus.specs.declared.commit.BusInput.{BusInput}
use Rattle.bus.proofs.Taken.{each_kind, by_pairs}

first_same : (j k : Cause) (js ks : List Cause) → j ∷ js ≡ k ∷ ks → j ≡ k
first_same j k js ks e = cc

rest_same : (j k : Cause) (js ks : List Cause) → j ∷ js ≡ k ∷ ks → js ≡ ks
rest_same j k js ks e = cc

some_not_none : (k : Cause) (ks : List Cause) → ◌≡◌ {A = List Cause} [] (k ∷ ks) → ⊥
some_not_none k ks e = let z : 0 ≡ length (k ∷ ks) = ap (λ (xs : List Cause). length xs) e in omega (arith, z)

-- of the pairs that the engine d hands out in a call that takes t
pub record CausesOf (d : VramDma) (t : Taken) : Type 0 where
  pub each : length t.causes ≡ length t.pairs
  pub none : t.causes ≡ [] → t.dma.cursor ≡ d.cursor
  pub some : (k : Cause) (more : List Cause) → t.causes ≡ k ∷ more → 0 < d.cursor.remaining
  pub one : (k : Cause) → t.causes ≡ k ∷ [] → Caused d.cursor.dest t.dma.cursor.remaining k
  pub two :
      (j k : Cause) → t.causes ≡ j ∷ k ∷ [] →
      (j ≡ GoingOn) × Caused ((d.cursor.dest + 1) % 65536) t.dma.cursor.remaining k

-- a call without pairs
without : (d : VramDma) (t : Taken) → t.causes ≡ [] → t.pairs ≡ [] → t.dma.cursor ≡ d.cursor → CausesOf d t
without d t none no_pairs same =
    record {
      each = rw (none, no_pairs);
      none = λ e. same;
      some = λ k more e. absurd (some_not_none k more (sym none ∙ e));
      one = λ k e. absurd (some_not_none k [] (sym none ∙ e));
      two = λ j k e. absurd (some_not_none j (k ∷ []) (sym none ∙ e));
    }

-- a pair, then those of the engine after it
module _ (d : VramDma) (p : BytePair) (k : Cause) (t : Taken) (came : (next_byte_of d).answer ≡ Some (p, k)) (rest : CausesOf (next_byte_of d).dma t) where
  first_of_more : (j : Cause) (more : List Cause) → t.causes ≡ j ∷ more → k ≡ GoingOn
  first_of_more j more e = (cause_steps.pair d p k came).going_on.1 (rest.some j more e)

  only : (j : Cause) → k ∷ t.causes ≡ j ∷ [] → Caused d.cursor.dest t.dma.cursor.remaining j
  only j e =
      let last : t.dma.cursor ≡ (next_byte_of d).dma.cursor = rest.none (rest_same k j _ _ e) in
      subst (λ (x : Cause). Caused d.cursor.dest t.dma.cursor.remaining x) (first_same k j _ _ e)
      (rw last (cause_steps.pair d p k came))

  both :
      (i j : Cause) → k ∷ t.causes ≡ i ∷ j ∷ [] →
      (i ≡ GoingOn) × Caused ((d.cursor.dest + 1) % 65536) t.dma.cursor.remaining j
  both i j e =
      let tail = rest_same k i _ _ e in (
        sym (first_same k i _ _ e) ∙ first_of_more j [] tail,
        subst (λ (x : ℕ). Caused x t.dma.cursor.remaining j) (pair_steps.moves d (is_ready d p k came)).dest (rest.one j tail),
      )

  more : CausesOf d (record { dma = t.dma; pairs = p ∷ t.pairs; causes = k ∷ t.causes; setup = false })
  more =
      record {
        each = let same = rest.each in omega (arith, same);
        none = λ e. absurd (some_not_none k _ (sym e));
        some = λ j others e. some_left d (is_ready d p k came);
        one = only;
        two = both;
      }

pairs_causes : (d : VramDma) → CausesOf d (pairs_of d)
pairs_causes d = by_pairs CausesOf (λ d e. without d (nothing d) refl refl refl) more d

-- a set-up cell leaves the cursor alone
pub bus_causes : (i : BusInput) (d : VramDma) → CausesOf d (bus_taken i d)
bus_causes i d =
    each_kind i d (CausesOf d) (λ h. without d (nothing d) refl refl refl) (λ h c. without d (cell_taken d) refl refl refl)
    (λ h c. pairs_causes d)
