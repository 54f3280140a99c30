-- The ledger (document 01, section 5), in its own words: nothing here is taken from the engine.
use Rattle.std.specs.Prelude.{ℕ, ◌+◌, ◌-◌, ◌*◌, ◌%◌, ◌≡◌, Bool, false, cond, ◌||◌, List, [], ◌∷◌, eqb}
use Rattle.transfer.specs.declared.pair.BytePair.{BytePair}
use Rattle.ledger.specs.LedgerInput.{Configuration, LedgerInput, a_write, a_fall, a_switch, a_drain, another, Reply, accepts}

-- "State: source, destination, left, free, the count of pairs and the totals below; all zero."
pub record Ledger : Type 0 where
  pub source : ℕ
  pub dest : ℕ
  pub left : ℕ
  -- a cut's byte is still to come, outside the length
  pub free : Bool
  pub pairs : ℕ
  -- "lengths written"
  pub lengths : ℕ
  -- "free pair"
  pub free_pairs : ℕ
  pub overwritten : ℕ
  -- "cut off"
  pub cut_off : ℕ

unfoldable pub empty : Ledger
empty =
    record {
      source = 0;
      dest = 0;
      left = 0;
      free = false;
      pairs = 0;
      lengths = 0;
      free_pairs = 0;
      overwritten = 0;
      cut_off = 0;
    }

-- the registers that it follows
pub data Followed : Type 0 where
  source_high source_low dest_high dest_low transfer_length elsewhere : Followed

unfoldable pub followed : ℕ → Followed
followed a =
    cond (eqb a 0xFF51) source_high
    (cond (eqb a 0xFF52) source_low
    (cond (eqb a 0xFF53) dest_high (cond (eqb a 0xFF54) dest_low (cond (eqb a 0xFF55) transfer_length elsewhere))))

abbrev pub with_pointers : ℕ → ℕ → Ledger → Ledger
with_pointers source dest l = record l { source = source; dest = dest }

-- "the high byte", "the low byte, with its low four bits zero"
abbrev pub high_byte : ℕ → ℕ → ℕ
high_byte v pointer = 256 * v + pointer % 256

abbrev pub low_byte : ℕ → ℕ → ℕ
low_byte v pointer = (pointer - pointer % 256) + (v - v % 16)

-- "lengths written gains the new left and overwritten the left in front of that FF55 write"
abbrev pub after_length : ℕ → Ledger → Ledger
after_length new l = record l { left = new; lengths = l.lengths + new; overwritten = l.overwritten + l.left }

-- "Accepted, unlocked FF51–FF55 writes act as in section 1"
abbrev pub after_write : Followed → ℕ → Ledger → Ledger
after_write source_high v l = with_pointers (high_byte v l.source) l.dest l
after_write source_low v l = with_pointers (low_byte v l.source) l.dest l
after_write dest_high v l = with_pointers l.source (high_byte v l.dest) l
after_write dest_low v l = with_pointers l.source (low_byte v l.dest) l
after_write transfer_length v l = after_length (16 * (v % 128 + 1)) l
after_write elsewhere v l = l

-- "A cut sets free."
abbrev pub after_cut : Bool → Ledger → Ledger
after_cut cut l = record l { free = cut || l.free }

-- what an accepted call does besides its pairs; "unlocked means power-on without compat"
abbrev pub effect : Configuration → LedgerInput → Reply → Ledger → Ledger
effect k (a_write address value) r l = cond k.compat l (after_write (followed address) value l)
effect k a_fall r l = l
effect k a_switch r l = after_cut r.cut l
effect k a_drain r l = l
effect k another r l = l

-- "it must equal (source, 8000h + destination mod 8192)"
pub record IsNext (l : Ledger) (p : BytePair) : Type 0 where
  pub source : p.source ≡ l.source
  pub dest : p.dest ≡ 0x8000 + l.dest % 8192

-- "At a pair: .. source grows by 1 mod 65536; if free, that pair is a free pair and free is cleared, else left falls by 1; if
-- destination was FFFFh, cut off gains what is left, left becomes 0 and destination 0, else destination grows by 1."
unfoldable pub after_pair : Ledger → Ledger
after_pair l =
    let left = cond l.free l.left (l.left - 1) in
    let carries = eqb l.dest 0xFFFF in
    record l {
      source = (l.source + 1) % 65536;
      dest = cond carries 0 (l.dest + 1);
      left = cond carries 0 left;
      free = false;
      pairs = l.pairs + 1;
      free_pairs = l.free_pairs + cond l.free 1 0;
      cut_off = l.cut_off + cond carries left 0;
    }

unfoldable pub after_pairs : List BytePair → Ledger → Ledger
after_pairs [] l = l
after_pairs (p ∷ ps) l = after_pairs ps (after_pair l)

-- "Nothing else, and no refused call, changes it."
unfoldable pub after_call : Configuration → LedgerInput → Reply → Ledger → Ledger
after_call k c r l = cond (accepts r) (after_pairs r.pairs (effect k c r l)) l
