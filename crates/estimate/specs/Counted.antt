-- The bytes of an estimate, with their bound: 128 blocks are 2,048 bytes.
use Rattle.std.specs.Prelude.{ℕ, ◌≤◌, ◌≡◌}
use Rattle.estimate.specs.Estimate.{estimated_bytes}

pub record Counted (v destination r : ℕ) : Type 0 where
  pub is : r ≡ estimated_bytes v destination
  pub most : r ≤ 2048
