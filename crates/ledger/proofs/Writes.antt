-- Writes, in the engine and in the ledger: FF51 to FF55 act alike on both, nothing else on either. Assumes nothing.
use Prim.Native.Nat.{ℕ, ◌+◌, ◌*◌, ◌%◌, ◌<◌}
use native.Mathlib.Omega.{arith}
use mathlib.Core.Path.{◌≡◌, refl, sym, ap, subst, ◌∙◌}
use mathlib.Core.Bool.{Bool, true, false, cond, ◌&&◌, false≢true}
use lib.Dec.{eqb}
use borrow.Author.Tests.{eqb-true}
use Rattle.console.specs.declared.Cgb.{Cgb}
use Rattle.hdma.specs.Hdma5.{length_of}
use Rattle.hdma.specs.Pointers.{with_high, with_low}
use Rattle.hdma.proofs.Written as hdma
use Rattle.registers.specs.Map.{KEY0, KEY1, VBK, HDMA1, HDMA2, HDMA3, HDMA4, HDMA5, SVBK, FF72, FF73, FF74, FF75}
use Rattle.registers.specs.Map.{Place, work_ram, banked_ram, extra_oam, register, dma_start, unmapped, place_of, within, writable, locks, locks_at}
use Rattle.map_write.specs.Write.{MapWritten, with_source, with_dest, state_at, stored_of, map_write_of}
use Rattle.map_write.specs.declared.WriteInput.{WriteInput}
use Rattle.ledger.specs.LedgerInput.{Configuration}
use Rattle.ledger.specs.Ledger.{Ledger, high_byte, low_byte, with_pointers, after_write}
use Rattle.ledger.specs.Ledger.{Followed, source_high, source_low, dest_high, dest_low, transfer_length, elsewhere, followed}
use Rattle.ledger.specs.Demand3.{Balanced}
use Rattle.ledger.proofs.Core.{Core, core_of, quota}
use Rattle.ledger.proofs.PairsMatch.{Match}

-- which of the ledger's registers a place of the engine's map is
abbrev follows : Place → Followed
follows (work_ram i) = elsewhere
follows (banked_ram i) = elsewhere
follows (extra_oam i) = elsewhere
follows dma_start = elsewhere
follows unmapped = elsewhere
follows (register KEY0) = elsewhere
follows (register KEY1) = elsewhere
follows (register VBK) = elsewhere
follows (register HDMA1) = source_high
follows (register HDMA2) = source_low
follows (register HDMA3) = dest_high
follows (register HDMA4) = dest_low
follows (register HDMA5) = transfer_length
follows (register SVBK) = elsewhere
follows (register FF72) = elsewhere
follows (register FF73) = elsewhere
follows (register FF74) = elsewhere
follows (register FF75) = elsewhere

both_ways : (b : Bool) (x y : Place) → follows x ≡ elsewhere → follows y ≡ elsewhere → follows (cond b x y) ≡ elsewhere
both_ways true x y p q = p
both_ways false x y p q = q

passes_by : (b : Bool) (x y : Place) → b ≡ false → follows y ≡ elsewhere → follows (cond b x y) ≡ elsewhere
passes_by true x y e q = absurd (false≢true (sym e))
passes_by false x y e q = q

-- the two maps name the same registers
pub same_map : (a : ℕ) → follows (place_of a) ≡ followed a
unfolding place_of followed
same_map a = by (eqb a 0xFF51) (eqb a 0xFF52) (eqb a 0xFF53) (eqb a 0xFF54) (eqb a 0xFF55) refl refl refl refl refl
  where
    at : (n : ℕ) → a ≡ n → follows (place_of n) ≡ followed n → follows (place_of a) ≡ followed a
    at n e h = subst (λ (x : ℕ). follows (place_of x) ≡ followed x) (sym e) h

    by :
        (b1 b2 b3 b4 b5 : Bool) → eqb a 0xFF51 ≡ b1 → eqb a 0xFF52 ≡ b2 → eqb a 0xFF53 ≡ b3 → eqb a 0xFF54 ≡ b4 → eqb a 0xFF55 ≡ b5 →
        follows (place_of a) ≡ followed a
    by true b2 b3 b4 b5 e1 e2 e3 e4 e5 = at 0xFF51 (eqb-true a 0xFF51 e1) refl
    by false true b3 b4 b5 e1 e2 e3 e4 e5 = at 0xFF52 (eqb-true a 0xFF52 e2) refl
    by false false true b4 b5 e1 e2 e3 e4 e5 = at 0xFF53 (eqb-true a 0xFF53 e3) refl
    by false false false true b5 e1 e2 e3 e4 e5 = at 0xFF54 (eqb-true a 0xFF54 e4) refl
    by false false false false true e1 e2 e3 e4 e5 = at 0xFF55 (eqb-true a 0xFF55 e5) refl
    by false false false false false e1 e2 e3 e4 e5 =
        both_ways (within 0xC000 0xCFFF a) _ _ refl
        (both_ways (within 0xD000 0xDFFF a) _ _ refl
        (both_ways (within 0xE000 0xEFFF a) _ _ refl
        (both_ways (within 0xF000 0xFDFF a) _ _ refl
        (both_ways (within 0xFEA0 0xFEFF a) _ _ refl
        (both_ways (eqb a 0xFF46) _ _ refl
        (both_ways (eqb a 0xFF4C) _ _ refl
        (both_ways (eqb a 0xFF4D) _ _ refl
        (both_ways (eqb a 0xFF4F) _ _ refl
        (passes_by (eqb a 0xFF51) _ _ e1
        (passes_by (eqb a 0xFF52) _ _ e2
        (passes_by (eqb a 0xFF53) _ _ e3
        (passes_by (eqb a 0xFF54) _ _ e4
        (passes_by (eqb a 0xFF55) _ _ e5
        (both_ways (eqb a 0xFF70) _ _ refl
        (both_ways (eqb a 0xFF72) _ _ refl
        (both_ways (eqb a 0xFF73) _ _ refl
        (both_ways (eqb a 0xFF74) _ _ refl (both_ways (eqb a 0xFF75) _ _ refl refl))))))))))))))))))
        ∙ rw (e1, e2, e3, e4, e5)

-- the two ways of writing a byte of a pointer, and of a length
same_high : (v p : ℕ) → with_high v p ≡ high_byte v p
same_high v p = omega arith

same_low : (v p : ℕ) → with_low v p ≡ low_byte v p
same_low v p = omega arith

same_length : (v : ℕ) → length_of v ≡ 16 * (v % 128 + 1)
same_length v = omega arith

high_bound : (v p : ℕ) → v < 256 → high_byte v p < 65536
high_bound v p h = omega arith

low_bound : (v p : ℕ) → v < 256 → p < 65536 → low_byte v p < 65536
low_bound v p h k = omega arith

-- a write leaves t, which the ledger l speaks of, and the quota as it was
pub record WriteMatch (k : Configuration) (s t : Cgb) (l : Ledger) : Type 0 where
  pub agree : Match k (core_of t) l
  pub quota : quota t ≡ quota s

-- what compat leaves unlocked the ledger does not follow
unlocked_elsewhere : (p : Place) → locks p ≡ false → follows p ≡ elsewhere
unlocked_elsewhere (work_ram i) h = refl
unlocked_elsewhere (banked_ram i) h = refl
unlocked_elsewhere (extra_oam i) h = refl
unlocked_elsewhere dma_start h = refl
unlocked_elsewhere unmapped h = refl
unlocked_elsewhere (register KEY0) h = refl
unlocked_elsewhere (register KEY1) h = refl
unlocked_elsewhere (register VBK) h = refl
unlocked_elsewhere (register HDMA1) h = absurd (false≢true (sym h))
unlocked_elsewhere (register HDMA2) h = absurd (false≢true (sym h))
unlocked_elsewhere (register HDMA3) h = absurd (false≢true (sym h))
unlocked_elsewhere (register HDMA4) h = absurd (false≢true (sym h))
unlocked_elsewhere (register HDMA5) h = absurd (false≢true (sym h))
unlocked_elsewhere (register SVBK) h = refl
unlocked_elsewhere (register FF72) h = refl
unlocked_elsewhere (register FF73) h = refl
unlocked_elsewhere (register FF74) h = refl
unlocked_elsewhere (register FF75) h = refl

module _ (k : Configuration) (s : Cgb) (w : WriteInput) (byte : w.value < 256) (l : Ledger) (m : Match k (core_of s) l) where
  kept : (t : Cgb) → core_of t ≡ core_of s → quota t ≡ quota s → WriteMatch k s t l
  kept t e q = record { agree = subst (λ (c : Core). Match k c l) (sym e) m; quota = q }

  -- a pointer written on both sides
  with_source_lem : (x y : ℕ) → x ≡ y → y < 65536 → WriteMatch k s (with_source x s) (with_pointers y l.dest l)
  unfolding Balanced
  with_source_lem x y same bound =
      record {
        agree = record {
          locked = m.locked;
          source = same;
          dest = m.dest;
          left = m.left;
          free = m.free;
          source_bound = bound;
          dest_bound = m.dest_bound;
          balance = m.balance;
        };
        quota = refl;
      }

  with_dest_lem : (x y : ℕ) → x ≡ y → y < 65536 → WriteMatch k s (with_dest x s) (with_pointers l.source y l)
  unfolding Balanced
  with_dest_lem x y same bound =
      record {
        agree = record {
          locked = m.locked;
          source = m.source;
          dest = same;
          left = m.left;
          free = m.free;
          source_bound = m.source_bound;
          dest_bound = bound;
          balance = m.balance;
        };
        quota = refl;
      }

  length_written :
      WriteMatch k s (state_at s w (register HDMA5)) (after_write transfer_length w.value l)
  unfolding Balanced
  length_written =
      let h = hdma.keeps w.value w.lcd_on s.vram_dma in
      record {
        agree = record {
          locked = m.locked;
          source = h.source ∙ m.source;
          dest = h.dest ∙ m.dest;
          left = h.left ∙ same_length w.value;
          free = h.escape ∙ m.free;
          source_bound = m.source_bound;
          dest_bound = m.dest_bound;
          balance = omega (arith, m.balance);
        };
        quota = h.quota;
      }

  written_match : (p : Place) → WriteMatch k s (state_at s w p) (after_write (follows p) w.value l)
  written_match (work_ram i) = kept s refl refl
  written_match (banked_ram i) = kept s refl refl
  written_match (extra_oam i) = kept (state_at s w (extra_oam i)) refl refl
  written_match dma_start = kept (state_at s w dma_start) refl refl
  written_match unmapped = kept s refl refl
  written_match (register KEY0) = kept s refl refl
  written_match (register KEY1) = kept (state_at s w (register KEY1)) refl refl
  written_match (register VBK) = kept (state_at s w (register VBK)) refl refl
  written_match (register HDMA1) =
      with_source_lem _ _ (ap (with_high w.value) m.source ∙ same_high w.value l.source) (high_bound w.value l.source byte)
  written_match (register HDMA2) =
      with_source_lem _ _ (ap (with_low w.value) m.source ∙ same_low w.value l.source)
      (low_bound w.value l.source byte m.source_bound)
  written_match (register HDMA3) =
      with_dest_lem _ _ (ap (with_high w.value) m.dest ∙ same_high w.value l.dest) (high_bound w.value l.dest byte)
  written_match (register HDMA4) =
      with_dest_lem _ _ (ap (with_low w.value) m.dest ∙ same_low w.value l.dest)
      (low_bound w.value l.dest byte m.dest_bound)
  written_match (register HDMA5) = length_written
  written_match (register SVBK) = kept (state_at s w (register SVBK)) refl refl
  written_match (register FF72) = kept (state_at s w (register FF72)) refl refl
  written_match (register FF73) = kept (state_at s w (register FF73)) refl refl
  written_match (register FF74) = kept (state_at s w (register FF74)) refl refl
  written_match (register FF75) = kept (state_at s w (register FF75)) refl refl

  -- "Accepted, unlocked FF51–FF55 writes act as in section 1"; locked ones, and all others, on neither
  pub write_match : (a : ℕ) → WriteMatch k s (map_write_of s w a).state (cond k.compat l (after_write (followed a) w.value l))
  unfolding map_write_of stored_of locks_at
  write_match a = by s.dmg_compat k.compat (locks (place_of a)) refl m.locked refl
    where
      by :
          (d c lock : Bool) → s.dmg_compat ≡ d → d ≡ c → locks (place_of a) ≡ lock →
          (let t : MapWritten = cond {A = MapWritten} (d && lock) (record { mapped = writable (place_of a); state = s }) (stored_of s w a) in
          WriteMatch k s t.state (cond c l (after_write (followed a) w.value l)))
      by true true true e f g = kept s refl refl
      by true true false e f g =
          subst (λ (x : Followed). WriteMatch k s (state_at s w (place_of a)) (after_write x w.value l)) (unlocked_elsewhere (place_of a) g)
          (written_match (place_of a))
      by true false lock e f g = absurd (false≢true (sym f))
      by false true lock e f g = absurd (false≢true f)
      by false false lock e f g = rw (← same_map a) (written_match (place_of a))
