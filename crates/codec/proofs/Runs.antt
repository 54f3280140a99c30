-- Runs of bytes: what is copied into one, and what stands in it. Assumes nothing.
use Rattle.std.proofs.Common.{◌≡◌, ℕ, zero, suc, ◌+◌, ◌<◌, ◌≤◌, List, length, get_or, refl, sym, ap, ◌∙◌}
use Rattle.std.proofs.lemmas.List.Edits.{sets, sets-eq}
use Rattle.std.proofs.lemmas.Slice.{put_mid-paste}
use Rattle.std.proofs.Math.Seq.{take-length}
use borrow.Rule.Slice.PartMut.{put_mid}
use native.Mathlib.Nat.{add-zero, add-suc, suc-add, le_of_suc-le-suc, not-suc-le-zero}
use Rattle.arithmetic.specs.Number.{bytes_at}

-- a part copied into a run of bytes is stored there byte by byte
pub placed :
    (out part new : List ℕ) (at k : ℕ) → new ≡ part → k ≡ length part → at + length part ≤ length out →
    put_mid at k out new ≡ sets out at part
placed out part new at k e n h = put_mid-paste at k out new part (length part) e (sym n) refl ∙ rw take-length (sym (sets-eq part out at h))

-- the bytes from an offset on, and how many they are
pub part_byte : (b : List ℕ) (at n i : ℕ) → i < n → get_or (bytes_at b at n) i 0 ≡ get_or b (at + i) 0
part_byte b at (suc n) zero h = rw (add-zero at)
part_byte b at (suc n) (suc i) h = part_byte b (suc at) n i (le_of_suc-le-suc h) ∙ rw (suc-add at i, add-suc at i)
part_byte b at zero i h = absurd (not-suc-le-zero h)

pub part_length : (b : List ℕ) (at n : ℕ) → length (bytes_at b at n) ≡ n
part_length b at zero = refl
part_length b at (suc n) = ap suc (part_length b (suc at) n)
