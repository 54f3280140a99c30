-- Two tests are the same where each follows from the other. Assumes nothing.
use Rattle.std.proofs.Common.{◌≡◌, ℕ, ◌<◌, ◌≤◌, Bool, true, false, eqb, ltb, sym, refl, ◌∙◌, ltb-false, ltb-true, le-ltb, lt-ltb, eq-eqb, ne_eqb, eqb-true}
use borrow.Author.Tests.{eqb-false}

module _ (a b c d : ℕ) where
  by_ltb : (t : Bool) → ltb c d ≡ t → (c < d → a < b) → (d ≤ c → b ≤ a) → ltb a b ≡ ltb c d
  by_ltb true e f g = lt-ltb a b (f (ltb-true c d e)) ∙ sym e
  by_ltb false e f g = le-ltb a b (g (ltb-false c d e)) ∙ sym e

  pub ltb_same : (c < d → a < b) → (d ≤ c → b ≤ a) → ltb a b ≡ ltb c d
  ltb_same f g = by_ltb (ltb c d) refl f g

  by_eqb : (t : Bool) → eqb c d ≡ t → (c ≡ d → a ≡ b) → (a ≡ b → c ≡ d) → eqb a b ≡ eqb c d
  by_eqb true e f g = eq-eqb a b (f (eqb-true c d e)) ∙ sym e
  by_eqb false e f g = ne_eqb a b (λ h. eqb-false c d e (g h)) ∙ sym e

  pub eqb_same : (c ≡ d → a ≡ b) → (a ≡ b → c ≡ d) → eqb a b ≡ eqb c d
  eqb_same f g = by_eqb (eqb c d) refl f g
