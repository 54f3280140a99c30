-- A declined call leaves all as given (specs, `Declined`): one law on its refusal, whichever call it is. Assumes nothing.
use Prim.Native.Nat.{ℕ}
use mathlib.Core.Path.{◌≡◌, refl, ap}
use mathlib.Core.List.{List}
use Rattle.std.proofs.Common.{Option, Some, None}
use Rattle.console.specs.Refusals.{answered, kept}
use Rattle.console.specs.declared.Cgb.{Cgb}
use Rattle.console.specs.declared.refusal.Refusal.{Refusal}
use Rattle.answers.specs.Answers.{Said, saying, says}
use Rattle.answers.proofs.Numbers.{told}
use Rattle.told.specs.Declined.{Declined}
use Rattle.told.specs.Told.{told_of, telling}
use Rattle.told.specs.declared.Performed.{Performed}

module _ (s : Cgb) (wram vram oam : List ℕ) where
  -- the law: where what is told is told by the refusal k, declined is what k decides
  pub law :
      (k : Option Refusal) (values : List ℕ) (r : Performed) (w v o : List ℕ) → r.told ≡ told_of (saying k values) →
      ((x : Refusal) → k ≡ Some x → Declined s wram vram oam r w v o) → (r.told.refusal ≡ 0 → ⊥) → Declined s wram vram oam r w v o
  law None values r w v o is leaves not_zero = absurd (not_zero (ap (λ t. t.refusal) is))
  law (Some x) values r w v o is leaves not_zero = leaves x refl

  -- of a call that is lent nothing to write
  pub quiet :
      (k : Option Refusal) (values : List ℕ) (said : Said) (t : Cgb) → said ≡ saying k values → ((x : Refusal) → k ≡ Some x → t ≡ s) →
      (said.number ≡ 0 → ⊥) → Declined s wram vram oam (telling said t) wram vram oam
  quiet k values said t is stays =
      law k values (telling said t) wram vram oam (ap told_of is)
      (λ x e. record {
        number_alone = rw (is, e);
        no_pair_lem = refl;
        no_cause = refl;
        no_byte = refl;
        same_state = stays x e;
        same_wram = refl;
        same_vram = refl;
        same_oam = refl;
      })

  -- of one that hands back a state, or of one that asks
  module _ {A : Type 0} (values : A → List ℕ) (k : Option Refusal) (value : A) where
    pub changing :
        (t : Cgb) → ((says values (answered k value)).number ≡ 0 → ⊥) →
        Declined s wram vram oam (telling (says values (answered k value)) (kept k s t)) wram vram oam
    changing t = quiet k (values value) _ (kept k s t) (told values k value) (λ x e. rw e)

    pub asking :
        ((says values (answered k value)).number ≡ 0 → ⊥) →
        Declined s wram vram oam (telling (says values (answered k value)) s) wram vram oam
    asking = quiet k (values value) _ s (told values k value) (λ x e. refl)
