-- Small steps of arithmetic that several crates share (document 01, "Saturating steps and `overflowing_add` are small helpers").
use Rattle.std.specs.Prelude.{◌≡◌, ℕ, ◌+◌, ◌-◌, ◌%◌, ◌^◌, ◌<◌, ◌≤◌, Bool, cond, ◌==◌, nat_lt}

-- one more, stopping at 255
abbrev pub saturating_inc : ℕ → ℕ
saturating_inc n = cond (nat_lt n 255) (n + 1) 255

-- a sum within 16 bits, and whether it left them: the Rust's `overflowing_add`
pub record Carried : Type 0 where
  pub sum : ℕ
  pub carry : Bool

abbrev pub carried_of : ℕ → ℕ → Carried
carried_of a b = record { sum = (a + b) % 2 ^ 16; carry = nat_lt 0xFFFF (a + b) }

-- What is shown of a sum of two numbers of 16 bits.
pub record Carries : Type 0 where
  -- it has 16 bits itself, and with the carry, which stands for 10000h, nothing is lost
  pub fits : (a b : ℕ) → (carried_of a b).sum < 0x10000
  pub whole : (a b : ℕ) → a < 0x10000 → b < 0x10000 → (carried_of a b).sum + cond (carried_of a b).carry 0x10000 0 ≡ a + b
  -- 1 more carries exactly where the number was FFFFh, and makes it 0
  pub leaves : (a : ℕ) → a < 0x10000 → (carried_of a 1).carry ≡ (a == 0xFFFF)
  pub zero : (carried_of 0xFFFF 1).sum ≡ 0

-- What is shown of the saturating steps, of any number.
pub record Saturates : Type 0 where
  -- up by 1, stopping at 255
  pub up : (n : ℕ) → n < 255 → saturating_inc n ≡ n + 1
  pub top : (n : ℕ) → 255 ≤ n → saturating_inc n ≡ 255
  -- down by k, stopping at 0
  pub down : (n k : ℕ) → k ≤ n → (n - k) + k ≡ n
  pub bottom : (n k : ℕ) → n ≤ k → n - k ≡ 0
