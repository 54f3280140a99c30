-- The records of a file, as chunks of 16 bytes. Assumes nothing.
use Rattle.std.proofs.Common.{◌≡◌, ℕ, zero, suc, ◌+◌, ◌*◌, ◌<◌, List, length, get_or, take, drop, refl, ap, ◌∙◌, arith, drop-drop}
use Rattle.std.specs.Simd.{first_chunks}
use Rattle.board_log.specs.Records.{nth_record}

pub chunk : (n k : ℕ) (file d : List ℕ) → k < n → get_or (first_chunks 16 n file) k d ≡ nth_record file k
chunk zero k file d h = absurd (omega arith)
chunk (suc n) zero file d h = refl
chunk (suc n) (suc k) file d h =
    let far : 16 + k * 16 ≡ suc k * 16 = omega arith in
    chunk n k (drop 16 file) d (omega arith)
    ∙ ap (λ (l : List ℕ). take 16 l) (drop-drop (k * 16) 16 file ∙ ap (λ (m : ℕ). drop m file) far)

pub chunks : (n : ℕ) (file : List ℕ) → length (first_chunks 16 n file) ≡ n
chunks zero file = refl
chunks (suc n) file = ap suc (chunks n (drop 16 file))
