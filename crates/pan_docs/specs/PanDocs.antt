-- Of what Pan Docs (CGB Registers; of FF46 OAM DMA Transfer) says of the registers in scope, the values that `Agreement` compares, in its
-- own terms: bits, banks, addresses, lengths, times. Nothing of the port is imported here.
use Rattle.std.specs.Prelude.{ℕ, ◌+◌, ◌-◌, ◌*◌, ◌/◌, ◌%◌, ◌^◌, Bool, cond, List, [], ◌∷◌, eqb}

-- bit k of a value
abbrev pub bit_at : ℕ → ℕ → ℕ
bit_at k v = v / 2 ^ k % 2

abbrev pub flag_bit : Bool → ℕ
flag_bit b = cond b 1 0

-- the value whose bits are listed, the highest first, after a value that stands above them
abbrev pub bits_after : ℕ → List ℕ → ℕ
bits_after above [] = above
bits_after above (b ∷ bs) = bits_after (2 * above + b) bs

-- a byte from its bits, bit 7 first
abbrev pub byte : List ℕ → ℕ
byte bs = bits_after 0 bs

-- FF4D KEY1: bit 7 the current speed, bit 0 switch armed, the other bits read 1; bit 7 is read-only
abbrev pub key1 : Bool → Bool → ℕ
key1 double armed = byte (flag_bit double ∷ 1 ∷ 1 ∷ 1 ∷ 1 ∷ 1 ∷ 1 ∷ flag_bit armed ∷ [])

-- a speed switch: the CPU stands still for so many M-cycles
abbrev pub switch_mcycles : ℕ
switch_mcycles = 2050

-- FF4F VBK: bit 0 selects the VRAM bank, the other bits read 1
abbrev pub vbk : ℕ → ℕ
vbk bank = byte (1 ∷ 1 ∷ 1 ∷ 1 ∷ 1 ∷ 1 ∷ 1 ∷ bank ∷ [])

-- FF51 to FF54 are write-only: no bit of them is read back, so every bit reads 1 as unused bits do
abbrev pub write_only : ℕ
write_only = byte (1 ∷ 1 ∷ 1 ∷ 1 ∷ 1 ∷ 1 ∷ 1 ∷ 1 ∷ [])

-- FF51, FF52: the source's high and low byte; the low four bits of the address count as 0
abbrev pub source : ℕ → ℕ → ℕ
source high low = (high * 256 + low) / 16 * 16

-- FF53, FF54: of the destination only bits 12 to 4 count, and it lies in VRAM
abbrev pub destination : ℕ → ℕ → ℕ
destination high low = 0x8000 + (high * 256 + low) % 2 ^ 13 / 2 ^ 4 * 2 ^ 4

-- FF55, written: bits 0 to 6 are length / 16 − 1
abbrev pub blocks : ℕ → ℕ
blocks v = v % 2 ^ 7 + 1

abbrev pub transfer_length : ℕ → ℕ
transfer_length v = 16 * blocks v

-- FF55, read while an HBlank transfer runs: bit 7 clear, below it the blocks that remain − 1
abbrev pub hdma5_running : ℕ → ℕ
hdma5_running remaining = remaining - 1

-- FF55, read once the transfer is complete
abbrev pub hdma5_complete : ℕ
hdma5_complete = 0xFF

-- FF55, read once an HBlank transfer was cancelled: bit 7 set, below it the blocks that remained − 1
abbrev pub hdma5_cancelled : ℕ → ℕ
hdma5_cancelled remained = 2 ^ 7 + (remained - 1)

-- FF70 SVBK: bits 0 to 2 select the WRAM bank at D000 to DFFF; 0 selects bank 1
abbrev pub work_ram_bank : ℕ → ℕ
work_ram_bank v = cond (eqb (v % 2 ^ 3) 0) 1 (v % 2 ^ 3)

-- FF75: bits 4 to 6 hold what was written, the other bits read 1
abbrev pub ff75 : ℕ → ℕ
ff75 v = byte (1 ∷ bit_at 6 v ∷ bit_at 5 v ∷ bit_at 4 v ∷ 1 ∷ 1 ∷ 1 ∷ 1 ∷ [])

-- FF46 DMA: page p, 00 to DF, moves 160 bytes from p × 256 to FE00–FE9F, one byte an M-cycle
abbrev pub last_page : ℕ
last_page = 0xDF

abbrev pub page_bytes : ℕ
page_bytes = 160

abbrev pub object_source : ℕ → ℕ → ℕ
object_source p k = p * 2 ^ 8 + k

abbrev pub object_target : ℕ → ℕ
object_target k = 0xFE00 + k

-- a block takes 8 M-cycles at single speed
abbrev pub mcycles : ℕ → ℕ
mcycles v = 8 * blocks v

-- and 16 of the shorter ones at double speed
abbrev pub mcycles_double : ℕ → ℕ
mcycles_double v = 16 * blocks v
