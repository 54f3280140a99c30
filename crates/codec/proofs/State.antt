-- A state from its parts: `encode` lays them one after another, what a state's bytes read as is that state, and any 248 bytes
-- read as a state within its widths. A new part is a line in each. Assumes nothing.
use Prim.Native.Nat.{ℕ, zero, suc, ◌<◌}
use mathlib.Core.Bool.{Bool, true, false, cond}
use mathlib.Core.List.{List, [], ◌∷◌}
use mathlib.Core.Path.{◌≡◌, refl, ◌∙◌}
use lib.Dec.{lit<, lit≤, eqb}
use lib.ListN.{length, replicate}
use Rattle.std.proofs.Common.{Option, Some, None}
use Rattle.arithmetic.proofs.Digits.{number_fits}
use Rattle.arithmetic.specs.Number.{bytes_at, byte_at}
use Rattle.codec.proofs.Parts as parts
use Rattle.codec.proofs.Parts.{Part, part_at, offset, stores}
use Rattle.codec.proofs.Fields.{field}
use Rattle.codec.proofs.CursorBack.{cursor_back, cursor_fits}
use Rattle.codec.proofs.BlockBack.{block_back, block_fits}
use Rattle.codec.proofs.ArbBack.{arb_back, arb_fits}
use Rattle.codec.proofs.OamBack.{oam_back}
use Rattle.codec.proofs.ObjectBack.{object_back, object_fits}
use Rattle.codec.proofs.Runs.{part_length}
use Rattle.codec.specs.Cursor.{cursor_bytes}
use Rattle.codec.specs.Block.{block_bytes}
use Rattle.codec.specs.Arb.{arb_bytes}
use Rattle.codec.specs.Oam.{oam_bytes}
use Rattle.codec.specs.Object.{object_bytes}
use Rattle.codec.specs.Rest.{register_bytes, bank_bytes, latency_tag, latency_value, latency_of, console_of}
use Rattle.codec.specs.Codec.{encode_of, dma_of, state_of}
use Rattle.codec.specs.Fits.{Fits, Bytes}
use Rattle.console.specs.declared.Cgb.{Cgb}

-- ---- laid

module _ (s : Cgb) (e : length s.extra_oam ≡ 24) where
  unfoldable pub sized : List Part
  unfolding cursor_bytes block_bytes arb_bytes oam_bytes register_bytes bank_bytes object_bytes
  sized =
      record { size = 9; bytes = cursor_bytes s.vram_dma.cursor; is = refl } ∷
      record { size = 15; bytes = block_bytes s.vram_dma.block; is = refl } ∷
      record { size = 15; bytes = arb_bytes s.vram_dma.arb; is = refl } ∷
      record { size = 2; bytes = oam_bytes s.vram_dma.oam; is = refl } ∷
      record { size = 15; bytes = register_bytes s; is = refl } ∷
      record { size = 24; bytes = s.extra_oam; is = e } ∷
      record { size = 11; bytes = bank_bytes s.vram.selected s.console_state; is = refl } ∷
      record { size = 11; bytes = object_bytes s.object_dma; is = refl } ∷ []

  -- what `encode` stores is what it should write
  pub laid : stores 0 sized (replicate 248 0) ≡ encode_of s
  unfolding encode_of sized
  laid = parts.laid [] sized 0 146 refl

  pub length_is : length (encode_of s) ≡ 248
  unfolding encode_of sized
  length_is = parts.padded_length sized 146

  -- the part with this number stands at its offset
  pub stands : (k : ℕ) → bytes_at (encode_of s) (offset sized k) (part_at sized k).size ≡ (part_at sized k).bytes
  unfolding encode_of sized
  stands k = parts.stands sized (replicate 146 0) k

-- the parts in front of the extra OAM stand whatever its length
module _ (s : Cgb) where
  pub cursor_stands : bytes_at (encode_of s) 0 9 ≡ cursor_bytes s.vram_dma.cursor
  unfolding encode_of cursor_bytes
  cursor_stands = refl

  pub registers_stand : bytes_at (encode_of s) 41 15 ≡ register_bytes s
  unfolding encode_of cursor_bytes block_bytes arb_bytes oam_bytes register_bytes
  registers_stand = refl

-- ---- read back

latency_back : (l : Option ℕ) → latency_of (latency_tag l) (latency_value l) ≡ l
latency_back None = refl
latency_back (Some n) = refl

module _ (s : Cgb) (h : Fits s) where
  console_back : console_of (encode_of s) ≡ s.console_state
  unfolding console_of bank_bytes sized
  console_back =
      let k = s.console_state in
      let at = field (encode_of s) 80 11 (bank_bytes s.vram.selected k) (stands s h.extra_oam.long 6) in
      λ i.
      record {
        blackout_anchor = at.many 1 8 k.blackout_anchor (lit≤ tt) refl h.blackout_anchor i;
        vram_dma_claim =
            record {
              committed = at.flag 9 k.vram_dma_claim.committed (lit< tt) refl i;
              standing = at.flag 10 k.vram_dma_claim.standing (lit< tt) refl i;
            };
      }

  pub state_back : state_of (encode_of s) ≡ s
  unfolding state_of dma_of register_bytes bank_bytes sized
  state_back =
      let b = encode_of s in
      let part = stands s h.extra_oam.long in
      let d = s.vram_dma in
      let latency = s.speed_switch_wake_latency in
      let at = field b 41 15 (register_bytes s) (part 4) in
      let bank = field b 80 11 (bank_bytes s.vram.selected s.console_state) (part 6) in
      λ i.
      record {
        svbk = at.byte 0 s.svbk (lit< tt) refl i;
        key1_armed = at.flag 1 s.key1_armed (lit< tt) refl i;
        double_speed = at.flag 2 s.double_speed (lit< tt) refl i;
        dmg_compat = at.flag 3 s.dmg_compat (lit< tt) refl i;
        vram_dma =
            record {
              cursor = cursor_back b d.cursor (part 0) h.cursor.source h.cursor.dest h.cursor.remaining i;
              block = block_back b d.block (part 1) h.block.start_edge i;
              arb = arb_back b d.arb (part 2) i;
              oam = oam_back b d.oam (part 3) i;
            };
        speed_switch_blackout = at.many 4 4 s.speed_switch_blackout (lit≤ tt) refl h.speed_switch_blackout i;
        speed_switch_wake_latency =
            ((λ j. latency_of (at.byte 8 (latency_tag latency) (lit< tt) refl j) (at.byte 9 (latency_value latency) (lit< tt) refl j))
            ∙ latency_back latency) i;
        switch_relock_debit = at.flag 10 s.switch_relock_debit (lit< tt) refl i;
        ff72 = at.byte 11 s.ff72 (lit< tt) refl i;
        ff73 = at.byte 12 s.ff73 (lit< tt) refl i;
        ff74 = at.byte 13 s.ff74 (lit< tt) refl i;
        ff75 = at.byte 14 s.ff75 (lit< tt) refl i;
        extra_oam = part 5 i;
        vram = record { selected = bank.byte 0 s.vram.selected (lit< tt) refl i };
        console_state = console_back i;
        object_dma = object_back b s.object_dma (part 7) h.object.start_edge i;
      }

-- ---- within its widths

latency : (none : Bool) (v : ℕ) → v < 256 → latency_value (cond none None (Some v)) < 256
latency true v h = lit< tt
latency false v h = h

part_small : (b : List ℕ) → ((j : ℕ) → byte_at b j < 256) → (k n j : ℕ) → byte_at (bytes_at b k n) j < 256
part_small b h k zero j = lit< tt
part_small b h k (suc n) zero = h k
part_small b h k (suc n) (suc j) = part_small b h (suc k) n j

module _ (b : List ℕ) (h : Bytes 248 b) where
  pub state_within : Fits (state_of b)
  unfolding state_of dma_of console_of
  state_within =
      let at = h.small in
      record {
        cursor = cursor_fits b at;
        block = block_fits b at;
        arb = arb_fits b at;
        svbk = at 41;
        speed_switch_blackout = number_fits 4 b 45 at;
        speed_switch_wake_latency = latency (eqb (byte_at b 49) 0) (byte_at b 50) (at 50);
        ff72 = at 52;
        ff73 = at 53;
        ff74 = at 54;
        ff75 = at 55;
        extra_oam = record { long = part_length b 56 24; small = part_small b at 56 24 };
        selected = at 80;
        blackout_anchor = number_fits 8 b 81 at;
        object = object_fits b at;
      }
