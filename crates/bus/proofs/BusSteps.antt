-- The bus call does what document 01 says of it (specs, `BusSteps`). Assumes nothing.
use Prim.Native.Nat.{ℕ, suc, ◌+◌, ◌<◌, min}
use native.Mathlib.Omega.{arith}
use mathlib.Core.Path.{◌≡◌, refl, sym, ap, subst, ◌∙◌}
use mathlib.Core.Bool.{Bool, true, false, ◌||◌, false≢true}
use mathlib.Core.List.{◌∷◌}
use mathlib.Core.Logic.{◌↔◌, ⊎_elim}
use native.Mathlib.Nat.{eq-zero-or-pos}
use lib.ListN.{length}
use borrow.Author.Tests.{lt-ltb}
use Rattle.std.specs.Prelude.{Some, None}
use Rattle.countdown.specs.Countdown.{active_of}
use Rattle.countdown.specs.declared.Countdown.{Countdown}
use Rattle.console.specs.Modes.{is_general}
use Rattle.console.specs.declared.vram_dma.TransferMode.TheVariants.{General}
use Rattle.console.specs.declared.vram_dma.VramDma.{VramDma}
use Rattle.transfer.specs.Keeps.{KeepsMarks, SixteenBits}
use Rattle.transfer.specs.Pair.{cursor_after, block_after, advanced_of, next_byte_of}
use Rattle.transfer.specs.PairsLeft.{pairs_left, movable}
use Rattle.transfer.specs.PairSteps.{Ready}
use Rattle.transfer.specs.declared.pair.BytePair.{BytePair}
use Rattle.transfer.specs.declared.pair.Cause.{Cause}
use Rattle.transfer.proofs.Keeps.{keeps_refl, next_keeps, keeps}
use Rattle.transfer.proofs.PairsLeft.{pairs_left_lem}
use Rattle.transfer.proofs.PairSteps.{pair_steps, no_pair_lem, is_ready}
use Rattle.bus.specs.BusSteps.{HandsOut, BusSteps}
use Rattle.bus.specs.Commit.{Taken, nothing, pairs_of, holds_bus, setup_stands, with_cells, bus_taken}
use Rattle.bus.specs.declared.commit.BusInput.{BusInput}
use Rattle.bus.proofs.Causes.{bus_causes}
use Rattle.bus.proofs.Taken.{released, cell, moving, each_kind, quota_falls}
use Rattle.bus.proofs.Taken.{pairs_none, pairs_one, by_pairs, pairs_keep, bus_keeps, pairs_no_setup}

neither : (a b : Bool) → a ≡ false → b ≡ false → (a || b) ≡ false
neither true b p q = p
neither false b p q = q

-- pairs are taken until none comes
pairs_end : (d : VramDma) → (next_byte_of (pairs_of d).dma).answer ≡ None
pairs_end d = by_pairs (λ d t. (next_byte_of t.dma).answer ≡ None) (λ d e. e) (λ d p k t e rest. rest) d

pairs_quota : (d : VramDma) → length (pairs_of d).pairs + (pairs_of d).dma.cursor.quota ≡ d.cursor.quota
pairs_quota d =
    by_pairs (λ d t. length t.pairs + t.dma.cursor.quota ≡ d.cursor.quota) (λ d e. omega arith)
    (λ d p k t e rest. let fell = quota_falls d p k e in omega (arith, fell, rest)) d

-- how many they are
least_more : (l q m k : ℕ) → l ≡ min q m → m + 1 ≡ k → suc l ≡ min (suc q) k
least_more l q m k count one = omega arith

rest_more : (l a b c : ℕ) → l + a ≡ b → b + 1 ≡ c → suc l + a ≡ c
rest_more l a b c rest one = omega arith

-- none comes because quota is spent or nothing may move
none_movable : (d : VramDma) → d.cursor.dest < 65536 → (next_byte_of d).answer ≡ None → 0 ≡ min d.cursor.quota (movable d)
none_movable d low e = ⊎_elim (λ none. omega (arith, none)) (λ some. stuck some (movable d) refl) (eq-zero-or-pos d.cursor.quota)
  where
    stuck : 0 < d.cursor.quota → (m : ℕ) → movable d ≡ m → 0 ≡ min d.cursor.quota m
    stuck some m is =
        ⊎_elim (λ z. omega (arith, z))
        (λ more.
        absurd
        (no_pair_lem _ _
        (sym e ∙ pair_steps.gives d (record { quota = some; moving = (pairs_left_lem d low).moving.1 (omega (arith, more, is)) }))))
        (eq-zero-or-pos m)

record Counted (d : VramDma) (t : Taken) : Type 0 where
  pub count : length t.pairs ≡ min d.cursor.quota (movable d)
  pub rest : length t.pairs + pairs_left t.dma.cursor ≡ pairs_left d.cursor

counted : (d : VramDma) → d.cursor.dest < 65536 → Counted d (pairs_of d)
counted d = by_pairs (λ d t. d.cursor.dest < 65536 → Counted d t) over on d
  where
    over : (d : VramDma) → (next_byte_of d).answer ≡ None → d.cursor.dest < 65536 → Counted d (nothing d)
    over d e low = record { count = none_movable d low e; rest = omega arith }

    on :
        (d : VramDma) (p : BytePair) (k : Cause) (t : Taken) → (next_byte_of d).answer ≡ Some (p, k) →
        ((next_byte_of d).dma.cursor.dest < 65536 → Counted (next_byte_of d).dma t) → d.cursor.dest < 65536 →
        Counted d (record { dma = t.dma; pairs = p ∷ t.pairs; causes = k ∷ t.causes; setup = false })
    on d p k t e rest low =
        let r : Ready d = is_ready d p k e in
        let dest = (pair_steps.moves d r).dest in
        let c : Counted (next_byte_of d).dma t = rest (omega (arith, dest)) in
        record {
          count = rw (quota_falls d p k e) (least_more _ _ _ _ c.count ((pairs_left_lem d low).one_movable r));
          rest = rest_more _ _ _ _ c.rest ((pairs_left_lem d low).one_left r);
        }

hands : (d : VramDma) → d.cursor.dest < 65536 → HandsOut d (pairs_of d)
hands d low =
    record {
      count = c.count;
      general = general;
      unowed = λ m e. general m ∙ ap (min d.cursor.quota) ((pairs_left_lem d low).unowed e);
      rest = c.rest;
    }
  where
    c : Counted d (pairs_of d)
    c = counted d low

    general : d.cursor.mode ≡ General → length (pairs_of d).pairs ≡ min d.cursor.quota (pairs_left d.cursor)
    general m = c.count ∙ ap (min d.cursor.quota) (rw (ap is_general m))

-- a pair leaves the set-up cells alone, and pays an escape that is owed
cells_kept : (d : VramDma) → (next_byte_of d).dma.block.setup_cells ≡ d.block.setup_cells
unfolding advanced_of block_after
cells_kept d = next_keeps (λ x. x.block.setup_cells ≡ d.block.setup_cells) d refl refl

escape_paid : (d : VramDma) → d.cursor.escape_byte ≡ false → (next_byte_of d).dma.cursor.escape_byte ≡ false
unfolding advanced_of cursor_after
escape_paid d none = next_keeps (λ x. x.cursor.escape_byte ≡ false) d none refl

marks_kept : (d e : VramDma) → KeepsMarks d e → KeepsMarks d (next_byte_of e).dma
marks_kept d e k =
    let then = (keeps e).pair in
    record {
      pend = then.pend ∙ k.pend;
      from_arm = then.from_arm ∙ k.from_arm;
      granted = then.granted ∙ k.granted;
      strobe = then.strobe ∙ k.strobe;
      taken = then.taken ∙ k.taken;
    }

module _ (i : BusInput) (d : VramDma) where
  one :
      (p : BytePair) (k : Cause) → holds_bus i ≡ true → setup_stands d ≡ false → (next_byte_of d).answer ≡ Some (p, k) →
      ((bus_taken i d).pairs ≡ p ∷ (bus_taken i (next_byte_of d).dma).pairs) ×
      ((bus_taken i d).causes ≡ k ∷ (bus_taken i (next_byte_of d).dma).causes) ×
      ((bus_taken i d).dma ≡ (bus_taken i (next_byte_of d).dma).dma) ×
      ((bus_taken i d).setup ≡ false)
  one p k h c e =
      let still : setup_stands (next_byte_of d).dma ≡ false = ap active_of (cells_kept d) ∙ c in
      let there : bus_taken i (next_byte_of d).dma ≡ pairs_of (next_byte_of d).dma = moving i (next_byte_of d).dma h still in
      let split = moving i d h c ∙ pairs_one d p k e in (
        ap (λ (t : Taken). t.pairs) split ∙ ap (λ (t : Taken). p ∷ t.pairs) (sym there),
        ap (λ (t : Taken). t.causes) split ∙ ap (λ (t : Taken). k ∷ t.causes) (sym there),
        ap (λ (t : Taken). t.dma) split ∙ ap (λ (t : Taken). t.dma) (sym there),
        ap (λ (t : Taken). t.setup) split,
      )

  takes_cell : ((bus_taken i d).setup ≡ true) ↔ ((holds_bus i ≡ true) × (setup_stands d ≡ true))
  takes_cell =
      each_kind i d (λ (t : Taken). (t.setup ≡ true) ↔ ((holds_bus i ≡ true) × (setup_stands d ≡ true)))
      (λ h. (λ e. absurd (false≢true e), λ k. absurd (false≢true (sym h ∙ k.0))))
      (λ h c. (λ e. (h, c), λ k. refl))
      (λ h c. (λ e. absurd (false≢true (sym (pairs_no_setup d) ∙ e)), λ k. absurd (false≢true (sym c ∙ k.1))))

  pairs_cells : (pairs_of d).dma.block.setup_cells ≡ d.block.setup_cells
  pairs_cells = pairs_keep (λ x. x.block.setup_cells ≡ d.block.setup_cells) (λ x k. cells_kept x ∙ k) d refl

  keeps_cells : (bus_taken i d).setup ≡ false → (bus_taken i d).dma.block.setup_cells ≡ d.block.setup_cells
  keeps_cells =
      each_kind i d (λ (t : Taken). t.setup ≡ false → t.dma.block.setup_cells ≡ d.block.setup_cells) (λ h e. refl)
      (λ h c e. absurd (false≢true (sym e))) (λ h c e. pairs_cells)

  no_cell : setup_stands d ≡ false → setup_stands (bus_taken i d).dma ≡ false
  no_cell none =
      each_kind i d (λ (t : Taken). setup_stands t.dma ≡ false) (λ h. none) (λ h c. absurd (false≢true (sym none ∙ c)))
      (λ h c. ap active_of pairs_cells ∙ none)

  pub bus_steps : BusSteps i d
  bus_steps =
      record {
        released = λ h s. released i d (neither i.hold i.suspended h s);
        cell = λ h c. cell i d h (lt-ltb 0 d.block.setup_cells.0 c);
        none = λ h c e. moving i d h c ∙ pairs_none d e;
        one = one;
        ends = λ h c. ap (λ (t : Taken). (next_byte_of t.dma).answer) (moving i d h c) ∙ pairs_end d;
        quota =
            each_kind i d (λ (t : Taken). length t.pairs + t.dma.cursor.quota ≡ d.cursor.quota) (λ h. omega arith)
            (λ h c. omega arith) (λ h c. pairs_quota d);
        cause_each = (bus_causes i d).each;
        cause_of_one = (bus_causes i d).one;
        causes_of_two = (bus_causes i d).two;
        hands_out = λ h c low. subst (HandsOut d) (sym (moving i d h c)) (hands d low);
        takes_cell = takes_cell;
        keeps_cells = keeps_cells;
        no_cell = no_cell;
        marks = bus_keeps (KeepsMarks d) (marks_kept d) (λ e cells k. cells_marks e cells k) i d (keeps_refl d);
        sixteen_bits = bus_keeps (λ x. SixteenBits x.cursor) (λ x. (keeps x).pair_bits) (λ x cells k. k) i d;
        paid = bus_keeps (λ x. x.cursor.escape_byte ≡ false) escape_paid (λ x cells k. k) i d;
      }
    where
      cells_marks : (e : VramDma) (cells : Countdown) → KeepsMarks d e → KeepsMarks d (with_cells cells e)
      cells_marks e cells k = record { pend = k.pend; from_arm = k.from_arm; granted = k.granted; strobe = k.strobe; taken = k.taken }
