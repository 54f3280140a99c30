-- How long the fall's windows last, and what becomes of an entry in one (specs, `Windows`). Assumes nothing.
use Prim.Native.Nat.{ℕ, ◌-◌, ◌<◌, ◌≤◌}
use native.Mathlib.Omega.{arith}
use mathlib.Core.Path.{◌≡◌, refl, sym, ap, ◌∙◌}
use mathlib.Core.Bool.{Bool, true, false, cond, not, ◌&&◌, ◌||◌, and-false, or-true, false≢true, true≢false}
use lib.Dec.{ltb, eqb, lit<}
use borrow.Author.Tests.{lt-ltb, le-ltb, eq-eqb, ne_eqb}
use Rattle.std.proofs.lemmas.Bool.{and_left}
use Rattle.countdown.specs.Countdown.{armed, cleared, active_of}
use Rattle.countdown.specs.declared.Countdown.{Countdown}
use Rattle.console.specs.Modes.{is_general, is_hblank}
use Rattle.console.specs.declared.vram_dma.VramDma.{VramDma}
use Rattle.transfer.specs.Latch.{latched_block, latched_of, latches_dark, lcd_disabled_of, retired_of}
use Rattle.transfer.specs.Pair.{moving_of, block_after, arb_after, advanced_of, next_byte_of, with_quota, drain_of}
use Rattle.transfer.proofs.Keeps.{next_keeps, drain_keeps}
use Rattle.fall_stages.specs.Fall.{gates, fall_of}
use Rattle.fall_stages.specs.Steps.{settles, reaches6}
use Rattle.fall_stages.specs.Windows.{at_step, blind_of_3, blind_of_6, tenure_of_36, readiness, Since, by_call, then_other, Nth, Enters}
use Rattle.fall_stages.specs.Windows.{passes, PassedOver, KeepsWindows, Windows}
use Rattle.fall_stages.specs.declared.FallInput.{FallInput}
use Rattle.fall_stages.proofs.Once.{spent_none}
use Rattle.fall_stages.proofs.Steps.{s, t, resting, fall_steps}
use Rattle.fall_stages.proofs.OneLemma.{lasts, one_lemma}
use Rattle.fall_stages.proofs.SteppedOnce.{blind3_steps, blind6_steps, committed, ready_steps, tenure_steps}
use Rattle.fall_stages.proofs.Entries.{entries}

-- ---- an entry in a window is passed over
-- at rest no window stands
idle : (a : Bool) (n : ℕ) (c : Countdown) → a ≡ false → cleared ≡ c → active_of (cond a (armed n) c) ≡ false
idle true n c e r = absurd (true≢false e)
idle false n c e r = ap active_of (sym r)

outside : (e a b c f : Bool) → a ≡ false → b ≡ false → f ≡ false → (e && (a || (b && c) || f)) ≡ false
outside e a b c f p q r = rw (p, q, r, and-false)

module _ (i : FallInput) (double : Bool) (d : VramDma) where
  rest_passes : settles i d ≡ true → passes i double d ≡ false
  rest_passes p =
      let r = resting i double d p in
      let c : (fall_of i double d).claim.committed ≡ false = committed ((fall_steps i double d).inert p) in
      outside (eqb i.mode 0 && not d.arb.prev_view_hblank) (active_of (at_step blind_of_3 i double d))
      (active_of (at_step blind_of_6 i double d)) (not (eqb (at_step blind_of_6 i double d).0 6)) (active_of (at_step tenure_of_36 i double d))
      (idle (d.arb.prev_cpu_halted && not i.halted) 3 d.arb.halt_wake_blind
      (and_left d.arb.prev_cpu_halted (not i.halted) r.awake) (sym r.blind3))
      (idle false 6 d.arb.wake_pend_blind refl (sym r.blind6))
      (idle (tenure_of_36.arms i double d) 36 d.arb.wake_tenure (rw c) (sym r.tenure))

  reaches : (b : Bool) → settles i d ≡ b → gates i ≡ false → passes i double d ≡ true → reaches6 i d ≡ true
  reaches true p g q = absurd (false≢true (sym (rest_passes p) ∙ q))
  reaches false p g q = rw (p, g)

  none_pends : (a b c t l k : Bool) → (a && b && c && not (t || true) && l && k) ≡ false
  none_pends a b c t l k = rw (or-true, and-false)

  passed : Enters i double d → passes i double d ≡ true → PassedOver (fall_of i double d).dma
  passed h q =
      let r = reaches (settles i d) refl h.ungated q in
      let c = (fall_of i double d).claim.committed in
      let k = (s i double d).block.taken in
      let taken : (fall_of i double d).dma.block.taken ≡ true =
      (entries i double d).taken h.accepted r ∙ (ap (λ x. c || k || x) q ∙ or-true (c || k)) in
      let pend : (fall_of i double d).dma.arb.pend ≡ false =
      (entries i double d).pend h.accepted r
      ∙ (ap
      (λ x.
      not c
      && is_hblank d.cursor.mode
      && eqb i.mode 0
      && not (k || x)
      && ltb 0 d.cursor.remaining
      && eqb (s i double d).block.remaining 0)
      q
      ∙ none_pends (not c) (is_hblank d.cursor.mode) (eqb i.mode 0) k (ltb 0 d.cursor.remaining)
      (eqb (s i double d).block.remaining 0)) in
      record { taken = taken; pend = pend; unserved = λ n p. spent_none p (record { taken = taken; pend = pend }) }

  entered : Enters i double d → (eqb i.mode 0 && not d.arb.prev_view_hblank) ≡ true
  entered h = rw (eq-eqb i.mode 0 h.mode0, h.fresh)

-- one active window is enough
by_first : (e a b c f : Bool) → e ≡ true → a ≡ true → (e && (a || (b && c) || f)) ≡ true
by_first e a b c f p q = rw (p, q)

by_second : (e a b c f : Bool) → e ≡ true → b ≡ true → c ≡ true → (e && (a || (b && c) || f)) ≡ true
by_second e a b c f p q r = rw (p, q, r, or-true)

by_third : (e a b c f : Bool) → e ≡ true → f ≡ true → (e && (a || (b && c) || f)) ≡ true
by_third e a b c f p q = rw (p, q, or-true)

-- the tests of `passes`
module _ (i : FallInput) (double : Bool) (d : VramDma) where
  abbrev e : Bool
  e = eqb i.mode 0 && not d.arb.prev_view_hblank

  abbrev a3 : Bool
  a3 = active_of (at_step blind_of_3 i double d)

  abbrev a6 : Bool
  a6 = active_of (at_step blind_of_6 i double d)

  abbrev later6 : Bool
  later6 = not (eqb (at_step blind_of_6 i double d).0 6)

  abbrev a36 : Bool
  a36 = active_of (at_step tenure_of_36 i double d)

  holds3 : Enters i double d → a3 ≡ true → passes i double d ≡ true
  holds3 h p = by_first e a3 a6 later6 a36 (entered i double d h) p

  holds6 : Enters i double d → a6 ≡ true → later6 ≡ true → passes i double d ≡ true
  holds6 h p q = by_second e a3 a6 later6 a36 (entered i double d h) p q

  holds36 : Enters i double d → a36 ≡ true → passes i double d ≡ true
  holds36 h p = by_third e a3 a6 later6 a36 (entered i double d h) p

module _ (k : ℕ) (i : FallInput) (double : Bool) (d : VramDma) where
  blind3_passes : Nth blind_of_3 k i double d → k < 3 → Enters i double d → PassedOver (fall_of i double d).dma
  blind3_passes n b h =
      passed i double d h (holds3 i double d h ((lasts blind_of_3 blind3_steps).active k i double d n ∙ lt-ltb k 3 b))

  blind6_passes : Nth blind_of_6 k i double d → 1 ≤ k → k < 6 → Enters i double d → PassedOver (fall_of i double d).dma
  blind6_passes n b l h =
      passed i double d h
      (holds6 i double d h ((lasts blind_of_6 blind6_steps).active k i double d n ∙ lt-ltb k 6 l)
      (ap not
      (ne_eqb d.arb.wake_pend_blind.0 6 (λ q. omega (arith, (lasts blind_of_6 blind6_steps).finds k i double d n, q, b)))))

  tenure_passes : Nth tenure_of_36 k i double d → k < 36 → Enters i double d → PassedOver (fall_of i double d).dma
  tenure_passes n b h =
      passed i double d h (holds36 i double d h ((lasts tenure_of_36 tenure_steps).active k i double d n ∙ lt-ltb k 36 b))

-- a countdown that runs still runs where it is armed anew
stays : (a : Bool) (n : ℕ) (c : Countdown) → 0 < n → 0 < c.0 → active_of (cond a (armed n) c) ≡ true
stays true n c p q = lt-ltb 0 n p
stays false n c p q = lt-ltb 0 c.0 q

blind6_first :
    (i : FallInput) (double : Bool) (d : VramDma) → Nth blind_of_6 0 i double d → active_of (at_step blind_of_3 i double d) ≡ false →
    active_of (at_step tenure_of_36 i double d) ≡ false → passes i double d ≡ false
blind6_first i double d n p q =
    rw (p, q, eq-eqb d.arb.wake_pend_blind.0 6 ((lasts blind_of_6 blind6_steps).finds 0 i double d n), and-false, and-false)

-- ---- an entry in the tenure claims
all_three : (x a b c : Bool) → a ≡ true → b ≡ true → c ≡ true → (x || (a && b && c)) ≡ true
all_three x a b c p q r = rw (p, q, r, or-true)

claims :
    (i : FallInput) (double : Bool) (d : VramDma) → Enters i double d → 0 < d.cursor.remaining → a36 i double d ≡ true →
    (fall_of i double d).dma.arb.idle_claim ≡ true
claims i double d h some q =
    (entries i double d).claim h.accepted (reaches i double d (settles i d) refl h.ungated (holds36 i double d h q))
    ∙ all_three (not (fall_of i double d).claim.committed && d.arb.idle_claim) (a36 i double d) (e i double d)
    (ltb 0 d.cursor.remaining) q (entered i double d h) (lt-ltb 0 d.cursor.remaining some)

-- ---- readiness
module _ (k : ℕ) (e : VramDma) (r : Since readiness k e) where
  waits_for : e.block.ready_in.0 ≡ 2 - k
  waits_for = (lasts readiness ready_steps).holds k e r

  ready_waits : k < 2 → is_general e.cursor.mode ≡ false → moving_of e ≡ false
  unfolding moving_of
  ready_waits b g = rw (lt-ltb 0 e.block.ready_in.0 (omega (arith, waits_for, b)), g, and-false)

  ready_moves : 2 ≤ k → 0 < e.block.remaining → 0 < e.cursor.remaining → moving_of e ≡ true
  unfolding moving_of
  ready_moves b block left =
      rw (
        lt-ltb 0 e.block.remaining block,
        lt-ltb 0 e.cursor.remaining left,
        le-ltb 0 e.block.ready_in.0 (omega (arith, waits_for, b)),
      )

-- ---- the calls between falls
same : (d : VramDma) → KeepsWindows d d
same d = record { blind3 = refl; blind6 = refl; tenure = refl; ready = refl }

moved : (d e : VramDma) → KeepsWindows d e → KeepsWindows d (advanced_of e)
unfolding advanced_of block_after arb_after
moved d e k = record { blind3 = k.blind3; blind6 = k.blind6; tenure = k.tenure; ready = k.ready }

pair : (d : VramDma) → KeepsWindows d (next_byte_of d).dma
pair d = next_keeps (KeepsWindows d) d (same d) (moved d d (same d))

drain : (d : VramDma) → KeepsWindows d (drain_of d).dma
drain d = drain_keeps (KeepsWindows d) d (same d) one (moved d (with_quota 1 d) one)
  where
    one : KeepsWindows d (with_quota 1 d)
    one = record { blind3 = refl; blind6 = refl; tenure = refl; ready = refl }

retired : (d : VramDma) → KeepsWindows d (retired_of d)
retired d = record { blind3 = refl; blind6 = refl; tenure = refl; ready = refl }

lcd_off : (d : VramDma) → latches_dark d ≡ false → KeepsWindows d (lcd_disabled_of d)
unfolding lcd_disabled_of
lcd_off d l = rw l (record { blind3 = refl; blind6 = refl; tenure = refl; ready = refl })

lcd_off_latches : (d : VramDma) → latches_dark d ≡ true → Since readiness 0 (lcd_disabled_of d)
unfolding lcd_disabled_of latched_of latched_block
lcd_off_latches d l = by_call (lcd_disabled_of d) (rw l)

-- ---- all of it
pub windows : Windows
windows =
    record {
      one_lemma = one_lemma;
      goes_on =
          λ d e w k.
          (λ r. then_other k d e r w.blind3, λ r. then_other k d e r w.blind6, λ r. then_other k d e r w.tenure, λ r. then_other k d e r w.ready);
      blind3_steps = blind3_steps;
      blind3_lasts = λ k e r. (lasts blind_of_3 blind3_steps).holds k e r;
      blind3_passes = blind3_passes;
      blind6_steps = blind6_steps;
      blind6_lasts = λ k e r. (lasts blind_of_6 blind6_steps).holds k e r;
      blind6_first = blind6_first;
      blind6_passes = blind6_passes;
      tenure_steps = tenure_steps;
      tenure_lasts = λ k e r. (lasts tenure_of_36 tenure_steps).holds k e r;
      tenure_passes = tenure_passes;
      tenure_claims =
          λ k i double d n b h some.
          claims i double d h some ((lasts tenure_of_36 tenure_steps).active k i double d n ∙ lt-ltb k 36 b);
      ready_steps = ready_steps;
      ready_lasts = waits_for;
      ready_waits = ready_waits;
      ready_moves = ready_moves;
      passed = passed;
      in_tenure =
          λ i double d h b.
          passed i double d h (holds36 i double d h (stays (tenure_of_36.arms i double d) 36 d.arb.wake_tenure (lit< tt) b));
      entries = entries;
      pair = pair;
      drain = drain;
      retired = retired;
      cell = λ cells d. record { blind3 = refl; blind6 = refl; tenure = refl; ready = refl };
      arbitration = λ oam d. record { blind3 = refl; blind6 = refl; tenure = refl; ready = refl };
      lcd_off = lcd_off;
      lcd_off_latches = lcd_off_latches;
    }
