-- The map is at each address what document 01 says of it (specs, `MapSteps`, `RamSteps`). Assumes nothing.
use Prim.Native.Nat.{ℕ, zero, suc, ◌+◌, ◌-◌, ◌<◌, ◌≤◌}
use native.Mathlib.Omega.{arith}
use mathlib.Core.Path.{◌≡◌, refl, sym, ap, subst, ◌∙◌}
use mathlib.Core.Bool.{Bool, true, false, false≢true}
use mathlib.Core.Logic.{◌↔◌, inl, inr, ⊎_elim}
use lib.Dec.{eqb}
use borrow.Author.Tests.{eq-eqb, ne_eqb, eqb-true}
use Rattle.table.specs.Table.{◌▸◌}
use Rattle.table.proofs.Table.{each}
use Rattle.registers.specs.Map.{Place, work_ram, banked_ram, extra_oam, register, dma_start, unmapped, registers, register_of, place_of, readable, writable}
use Rattle.registers.specs.Map.{locks, locks_at}
use Rattle.registers.specs.Ram.{wram_index_of}
use Rattle.registers.specs.MapSteps.{Mapped, MappedWrite, LocksWrite, MapSteps, RamSteps}
use Rattle.registers.proofs.Places.{at_place, at_c, at_d, at_e, at_f, at_oam}
use Rattle.registers.proofs.Ram as ram
use Rattle.registers.proofs.Ranges.{side, range}

module _ (a : ℕ) where
  -- what an address in the map gives
  abbrev Told : Place → Type 0
  Told q = readable q ≡ true → Mapped a

  pointer : 0xFF51 ≤ a → a ≤ 0xFF55 → Mapped a
  pointer p q = inr (inr (inr (inr (inr (inl (p, q))))))

  scratch : 0xFF72 ≤ a → a ≤ 0xFF75 → Mapped a
  scratch p q = inr (inr (inr (inr (inr (inr (inr (p, q)))))))

  named : Told (register_of a)
  named =
      each Told a registers unmapped
      ((λ e h. absurd (false≢true h)) ▸
      (λ e h. inr (inr (inl e))) ▸
      (λ e h. inr (inr (inr (inl e)))) ▸
      (λ e h. inr (inr (inr (inr (inl e))))) ▸
      (λ e h. pointer (omega arith) (omega arith)) ▸
      (λ e h. pointer (omega arith) (omega arith)) ▸
      (λ e h. pointer (omega arith) (omega arith)) ▸
      (λ e h. pointer (omega arith) (omega arith)) ▸
      (λ e h. pointer (omega arith) (omega arith)) ▸
      (λ e h. inr (inr (inr (inr (inr (inr (inl e))))))) ▸
      (λ e h. scratch (omega arith) (omega arith)) ▸
      (λ e h. scratch (omega arith) (omega arith)) ▸
      (λ e h. scratch (omega arith) (omega arith)) ▸
      (λ e h. scratch (omega arith) (omega arith)) ▸
      tt)
      (λ h. absurd (false≢true h))

  -- an address in the map is in one of the paper's ranges
  there : Told (place_of a)
  there =
      at_place Told a
      (λ p q h. inl (p, omega arith))
      (λ p q h. inl (omega arith, omega arith))
      (λ p q h. inl (omega arith, omega arith))
      (λ p q h. inl (omega arith, q))
      (λ p q h. inr (inl (p, q)))
      named

  -- work RAM is in the map
  in_ram_lem : 0xC000 ≤ a → a ≤ 0xFDFF → readable (place_of a) ≡ true
  in_ram_lem p q = ⊎_elim (λ h. rw (at_c a p (omega arith))) from_d (side a 0xD000)
    where
      from_e : 0xE000 ≤ a → readable (place_of a) ≡ true
      from_e l = ⊎_elim (λ h. rw (at_e a l (omega arith))) (λ h. rw (at_f a h q)) (side a 0xF000)

      from_d : 0xD000 ≤ a → readable (place_of a) ≡ true
      from_d l = ⊎_elim (λ h. rw (at_d a l (omega arith))) from_e (side a 0xE000)

abbrev InMap : ℕ → Type 0
InMap a = readable (place_of a) ≡ true

abbrev Locked : ℕ → Type 0
Locked a = locks_at a ≡ true

-- FF51 to FF55, and FF72 to FF75
pointers : (i : ℕ) → i ≤ 4 → InMap (0xFF51 + i) × Locked (0xFF51 + i)
unfolding place_of locks_at
pointers zero h = (refl, refl)
pointers (suc zero) h = (refl, refl)
pointers (suc (suc zero)) h = (refl, refl)
pointers (suc (suc (suc zero))) h = (refl, refl)
pointers (suc (suc (suc (suc zero)))) h = (refl, refl)
pointers (suc (suc (suc (suc (suc i))))) h = absurd (omega arith)

scratches : (i : ℕ) → i ≤ 3 → InMap (0xFF72 + i)
unfolding place_of
scratches zero h = refl
scratches (suc zero) h = refl
scratches (suc (suc zero)) h = refl
scratches (suc (suc (suc zero))) h = refl
scratches (suc (suc (suc (suc i)))) h = absurd (omega arith)

back : (a : ℕ) → Mapped a → InMap a
unfolding place_of
back a (inl h) = in_ram_lem a h.0 h.1
back a (inr (inl h)) = rw (at_oam a h.0 h.1)
back a (inr (inr (inl e))) = subst InMap (sym e) refl
back a (inr (inr (inr (inl e)))) = subst InMap (sym e) refl
back a (inr (inr (inr (inr (inl e))))) = subst InMap (sym e) refl
back a (inr (inr (inr (inr (inr (inl h)))))) = range InMap 0xFF51 4 a (λ i k. (pointers i k).0) h.0 h.1
back a (inr (inr (inr (inr (inr (inr (inl e))))))) = subst InMap (sym e) refl
back a (inr (inr (inr (inr (inr (inr (inr h))))))) = range InMap 0xFF72 3 a scratches h.0 h.1

pub read_map : (a : ℕ) → (readable (place_of a) ≡ true) ↔ Mapped a
read_map a = (there a, back a)

-- what can be read can be written, and so can FF46
kept : (p : Place) → readable p ≡ true → writable p ≡ true
kept (work_ram i) h = refl
kept (banked_ram i) h = refl
kept (extra_oam i) h = refl
kept (register r) h = refl
kept dma_start h = refl
kept unmapped h = absurd (false≢true h)

module _ (a : ℕ) where
  abbrev Writes : Place → Type 0
  Writes q = writable q ≡ true → MappedWrite a

  named_write : Writes (register_of a)
  named_write =
      each (λ q. Told a q → Writes q) a registers unmapped
      ((λ e told h. inl e) ▸
      (λ e told h. inr (told refl)) ▸
      (λ e told h. inr (told refl)) ▸
      (λ e told h. inr (told refl)) ▸
      (λ e told h. inr (told refl)) ▸
      (λ e told h. inr (told refl)) ▸
      (λ e told h. inr (told refl)) ▸
      (λ e told h. inr (told refl)) ▸
      (λ e told h. inr (told refl)) ▸
      (λ e told h. inr (told refl)) ▸
      (λ e told h. inr (told refl)) ▸
      (λ e told h. inr (told refl)) ▸
      (λ e told h. inr (told refl)) ▸
      (λ e told h. inr (told refl)) ▸
      tt)
      (λ told h. absurd (false≢true h))
      (named a)

  there_write : Writes (place_of a)
  there_write =
      at_place Writes a
      (λ p q h. inr (inl (p, omega arith)))
      (λ p q h. inr (inl (omega arith, omega arith)))
      (λ p q h. inr (inl (omega arith, omega arith)))
      (λ p q h. inr (inl (omega arith, q)))
      (λ p q h. inr (inr (inl (p, q))))
      named_write

back_write : (a : ℕ) → MappedWrite a → writable (place_of a) ≡ true
unfolding place_of
back_write a (inl e) = subst (λ x. writable (place_of x) ≡ true) (sym e) refl
back_write a (inr m) = kept (place_of a) (back a m)

pub write_map : (a : ℕ) → (writable (place_of a) ≡ true) ↔ MappedWrite a
write_map a = (there_write a, back_write a)

-- whether a place is object DMA's start
abbrev pub starts_dma : Place → Bool
starts_dma (work_ram i) = false
starts_dma (banked_ram i) = false
starts_dma (extra_oam i) = false
starts_dma (register r) = false
starts_dma dma_start = true
starts_dma unmapped = false

not_start : (q : Place) → q ≡ dma_start → starts_dma q ≡ false → ⊥
not_start q h e = false≢true (sym e ∙ ap starts_dma h)

-- FF46 alone names object DMA's start
pub dma_start_at : (a : ℕ) → place_of a ≡ dma_start → a ≡ 0xFF46
dma_start_at a =
    at_place (λ q. q ≡ dma_start → a ≡ 0xFF46) a
    (λ p q h. absurd (not_start _ h refl)) (λ p q h. absurd (not_start _ h refl)) (λ p q h. absurd (not_start _ h refl))
    (λ p q h. absurd (not_start _ h refl)) (λ p q h. absurd (not_start _ h refl))
    (each (λ q. q ≡ dma_start → a ≡ 0xFF46) a registers unmapped
    ((λ e h. e) ▸
    (λ e h. absurd (not_start _ h refl)) ▸
    (λ e h. absurd (not_start _ h refl)) ▸
    (λ e h. absurd (not_start _ h refl)) ▸
    (λ e h. absurd (not_start _ h refl)) ▸
    (λ e h. absurd (not_start _ h refl)) ▸
    (λ e h. absurd (not_start _ h refl)) ▸
    (λ e h. absurd (not_start _ h refl)) ▸
    (λ e h. absurd (not_start _ h refl)) ▸
    (λ e h. absurd (not_start _ h refl)) ▸
    (λ e h. absurd (not_start _ h refl)) ▸
    (λ e h. absurd (not_start _ h refl)) ▸
    (λ e h. absurd (not_start _ h refl)) ▸
    (λ e h. absurd (not_start _ h refl)) ▸
    tt)
    (λ h. absurd (not_start _ h refl)))

is_start : (p : Place) → starts_dma p ≡ true → p ≡ dma_start
is_start (work_ram i) h = absurd (false≢true h)
is_start (banked_ram i) h = absurd (false≢true h)
is_start (extra_oam i) h = absurd (false≢true h)
is_start (register r) h = absurd (false≢true h)
is_start dma_start h = refl
is_start unmapped h = absurd (false≢true h)

pub starts_at : (a : ℕ) → starts_dma (place_of a) ≡ eqb a 0xFF46
unfolding place_of
starts_at a = by (starts_dma (place_of a)) (eqb a 0xFF46) refl refl
  where
    by : (b c : Bool) → starts_dma (place_of a) ≡ b → eqb a 0xFF46 ≡ c → b ≡ c
    by true c p q = sym (eq-eqb a 0xFF46 (dma_start_at a (is_start (place_of a) p))) ∙ q
    by false true p q = sym p ∙ ap (λ (x : ℕ). starts_dma (place_of x)) (eqb-true a 0xFF46 q)
    by false false p q = refl

off : {M : Type 0} (b : Bool) → (b ≡ true → M) → (M → ⊥) → b ≡ false
off true told out = absurd (out (told refl))
off false told out = refl

pub not_read : (a : ℕ) → (Mapped a → ⊥) → readable (place_of a) ≡ false
not_read a out = off (readable (place_of a)) (there a) out

pub not_written : (a : ℕ) → (MappedWrite a → ⊥) → writable (place_of a) ≡ false
not_written a out = off (writable (place_of a)) (write_map a).0 out

module _ (a : ℕ) where
  abbrev Names : Place → Type 0
  Names q = locks q ≡ true → LocksWrite a

  by_lock : Names (register_of a)
  by_lock =
      each Names a registers unmapped
      ((λ e h. absurd (false≢true h)) ▸
      (λ e h. absurd (false≢true h)) ▸
      (λ e h. inl e) ▸
      (λ e h. absurd (false≢true h)) ▸
      (λ e h. inr (inl (omega arith, omega arith))) ▸
      (λ e h. inr (inl (omega arith, omega arith))) ▸
      (λ e h. inr (inl (omega arith, omega arith))) ▸
      (λ e h. inr (inl (omega arith, omega arith))) ▸
      (λ e h. inr (inl (omega arith, omega arith))) ▸
      (λ e h. inr (inr (inl e))) ▸
      (λ e h. absurd (false≢true h)) ▸
      (λ e h. absurd (false≢true h)) ▸
      (λ e h. inr (inr (inr e))) ▸
      (λ e h. absurd (false≢true h)) ▸
      tt)
      (λ h. absurd (false≢true h))

  locks_there : locks_at a ≡ true → LocksWrite a
  unfolding locks_at
  locks_there =
      at_place Names a
      (λ p q h. absurd (false≢true h))
      (λ p q h. absurd (false≢true h))
      (λ p q h. absurd (false≢true h))
      (λ p q h. absurd (false≢true h))
      (λ p q h. absurd (false≢true h))
      by_lock

locks_back : (a : ℕ) → LocksWrite a → locks_at a ≡ true
unfolding locks_at place_of
locks_back a (inl e) = subst Locked (sym e) refl
locks_back a (inr (inl h)) = range Locked 0xFF51 4 a (λ i k. (pointers i k).1) h.0 h.1
locks_back a (inr (inr (inl e))) = subst Locked (sym e) refl
locks_back a (inr (inr (inr e))) = subst Locked (sym e) refl

-- compat locks the addresses that document 01 names and no other
pub lock_map : (a : ℕ) → (locks_at a ≡ true) ↔ LocksWrite a
lock_map a = (locks_there a, locks_back a)

pub not_lock : (a : ℕ) → (LocksWrite a → ⊥) → locks_at a ≡ false
not_lock a out = off (locks_at a) (locks_there a) out

lower : (a k : ℕ) → a - (k + 0x2000) ≡ a - 0x2000 - k
lower a k = omega arith

echoed : (a : ℕ) → 0xE000 ≤ a → a ≤ 0xFDFF → place_of a ≡ place_of (a - 0x2000)
echoed a p q = ⊎_elim fixed banked (side a 0xF000)
  where
    fixed : a < 0xF000 → place_of a ≡ place_of (a - 0x2000)
    fixed h = at_e a p (omega arith) ∙ ap work_ram (lower a 0xC000) ∙ sym (at_c (a - 0x2000) (omega arith) (omega arith))

    banked : 0xF000 ≤ a → place_of a ≡ place_of (a - 0x2000)
    banked h = at_f a h q ∙ ap banked_ram (lower a 0xD000) ∙ sym (at_d (a - 0x2000) (omega arith) (omega arith))

pub map_steps : (a : ℕ) → MapSteps a
map_steps a =
    record {
      read_map = read_map a;
      write_map = write_map a;
      locks = lock_map a;
      echo = echoed a;
      extra_inside = λ p q. omega arith;
    }

pub ram_steps : (svbk a : ℕ) → RamSteps svbk a
unfolding wram_index_of
ram_steps svbk a =
    record {
      fixed = λ p q. rw (at_c a p q);
      banked = λ p q some. rw (at_d a p q, ne_eqb svbk 0 some);
      bank_one = λ p q none. rw (at_d a p q, eq-eqb svbk 0 none);
      bank_inside = λ p q h. omega arith;
      echo = λ p q. rw (echoed a p q);
      elsewhere = ⊎_elim (ram.below svbk a) (ram.above svbk a);
    }
