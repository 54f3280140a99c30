-- Pan Docs' bits beside the port's arithmetic, on plain numbers. Assumes nothing.
use Prim.Native.Nat.{ℕ, ◌+◌, ◌-◌, ◌*◌, ◌/◌, ◌%◌, ◌<◌, ◌≤◌, min}
use native.Mathlib.Omega.{arith}
use mathlib.Core.Path.{◌≡◌, refl}
use mathlib.Core.Bool.{Bool, true, false}
use lib.Dec.{eqb, leb}
use borrow.Author.Tests.{eqb-true, eqb-false, le-leb, lt-leb}
use Rattle.hdma.specs.Pointers.{with_high, with_low}
use Rattle.map_read.specs.Read.{key1_byte}
use Rattle.pan_docs.specs.PanDocs as pan

pub key1 : (double armed : Bool) → key1_byte double armed ≡ pan.key1 double armed
key1 false false = refl
key1 false true = refl
key1 true false = refl
key1 true true = refl

-- bit 0, tested and put into a flag
by_bit : (n : ℕ) (t : Bool) → n < 2 → eqb n 1 ≡ t → pan.flag_bit t ≡ n
by_bit n true h e = let k : n ≡ 1 = eqb-true n 1 e in omega arith
by_bit n false h e = let k : n ≡ 1 → ⊥ = eqb-false n 1 e in omega arith

pub flag : (v : ℕ) → pan.flag_bit (eqb (v % 2) 1) ≡ pan.bit_at 0 v
flag v = rw (by_bit (v % 2) (eqb (v % 2) 1) (omega arith) refl) (omega arith)

pub vbk : (bank : ℕ) → bank ≤ 1 → 0xFE + bank % 2 ≡ pan.vbk bank
vbk bank h = omega arith

pub source : (high low pointer : ℕ) → low < 256 → with_low low (with_high high pointer) ≡ pan.source high low
source high low pointer h = omega arith

pub destination :
    (high low pointer : ℕ) → low < 256 → 0x8000 + with_low low (with_high high pointer) % 8192 ≡ pan.destination high low
destination high low pointer h = omega arith

pub length : (v : ℕ) → (v % 128 + 1) * 16 ≡ pan.transfer_length v
length v = omega arith

pub bit7_set : (v : ℕ) → v < 256 → pan.bit_at 7 v ≡ 1 → leb 128 v ≡ true
bit7_set v h e = le-leb 128 v (omega arith)

pub bit7_clear : (v : ℕ) → v < 256 → pan.bit_at 7 v ≡ 0 → leb 128 v ≡ false
bit7_clear v h e = lt-leb 128 v (omega arith)

-- three bits, the highest first
three : (x : ℕ) → x % 8 ≡ 4 * (x / 4 % 2) + 2 * (x / 2 % 2) + x % 2
three x =
    let quotient : x / 4 ≡ x / 2 / 2 = omega arith in
    let low : x ≡ 2 * (x / 2) + x % 2 = omega arith in
    let next : x / 2 ≡ 2 * (x / 2 / 2) + x / 2 % 2 = omega arith in
    let last : x / 2 / 2 ≡ 2 * (x / 2 / 2 / 2) + x / 2 / 2 % 2 = omega arith in
    let eighth : x / 8 ≡ x / 2 / 2 / 2 = omega arith in
    rw quotient (omega arith)

halves : (v : ℕ) → v / 32 ≡ v / 16 / 2
halves v = omega arith

quarters : (v : ℕ) → v / 64 ≡ v / 16 / 4
quarters v = omega arith

again : (x : ℕ) → x % 8 * 16 / 16 % 8 ≡ x % 8
again x = omega arith

pub ff75 : (v : ℕ) → 0x8F + v / 16 % 8 * 16 / 16 % 8 * 16 ≡ pan.ff75 v
ff75 v = rw (again (v / 16), three (v / 16), quarters v, halves v) (omega arith)

pub time : (v : ℕ) → 8 * (v % 128 + 1) ≡ pan.mcycles v
time v = refl

-- the M-cycles of a General transfer whose length has room
pub time_with_room : (v d : ℕ) → pan.transfer_length v + d ≤ 65536 → (min (16 * (v % 128 + 1)) (65536 - d) + 1) / 2 ≡ pan.mcycles v
time_with_room v d room = omega (arith, room)

pub time_double_with_room : (v d : ℕ) → pan.transfer_length v + d ≤ 65536 → min (16 * (v % 128 + 1)) (65536 - d) ≡ pan.mcycles_double v
time_double_with_room v d room = omega (arith, room)

-- and of one whose length has not
pub time_short :
    (v d : ℕ) → 65536 < pan.transfer_length v + d →
    (min (16 * (v % 128 + 1)) (65536 - d) < pan.mcycles_double v) ×
    (65537 < pan.transfer_length v + d → (min (16 * (v % 128 + 1)) (65536 - d) + 1) / 2 < pan.mcycles v)
time_short v d short = (omega (arith, short), λ more. omega (arith, more))

-- FF55's low bits, where n blocks are visible
pub running : (n : ℕ) → 0 < n → n ≤ 128 → (n % 128 + 127) % 128 ≡ pan.hdma5_running n
running n p q = omega arith
