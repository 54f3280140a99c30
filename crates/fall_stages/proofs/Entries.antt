-- What decides on taken and on the pend, over the whole fall (specs/Windows.antt, `Entries`). Assumes nothing.
use mathlib.Core.Path.{◌≡◌, refl, sym, ap, ◌∙◌}
use mathlib.Core.Bool.{Bool, true, false, cond, not, ◌&&◌, ◌||◌, and-false, false≢true, true≢false}
use lib.Dec.{ltb, eqb}
use Rattle.countdown.specs.Countdown.{armed, active_of}
use Rattle.console.specs.Modes.{is_hblank}
use Rattle.console.specs.declared.vram_dma.HaltArbiter.{HaltArbiter}
use Rattle.console.specs.declared.vram_dma.VramDma.{VramDma}
use Rattle.fall_stages.specs.Fall.{view_of, gates, observed_arb, observed_of, ungranted_arb, probation_of, halt_latch_arb, halt_latch_of}
use Rattle.fall_stages.specs.Fall.{refilled_of, blinds_arb, blinds_of, commits, commit_block, commit_arb, commit_of, tenure_arb, tenure_of}
use Rattle.fall_stages.specs.Fall.{pends, pend_arb, pend_of, readied_block, readiness_of, seized_block, seizure_of, started_of, served_of}
use Rattle.fall_stages.specs.Fall.{fall_of}
use Rattle.fall_stages.specs.Steps.{settles, reaches6}
use Rattle.fall_stages.specs.Windows.{at_step, tenure_of_36, passes, Entries}
use Rattle.fall_stages.specs.declared.FallInput.{FallInput}
use Rattle.fall_stages.specs.declared.Fallen.{Fallen}
use Rattle.fall_stages.specs.declared.View.{View}
use Rattle.fall_stages.proofs.Steps.{Course, settled, gated, overflowed, served, course, v, s, t, started_cursor}
use Rattle.fall_stages.proofs.StageSteps.{stage_steps}
use Rattle.fall_stages.proofs.SteppedOnce.{commit_tenure, committed, started_blind3, started_blind6, started_tenure}

-- an entry in a window, of the engine after step 4; c: this fall commits
abbrev in_window : Bool → View → VramDma → Bool
in_window c v d =
    v.entry_edge
    && (active_of d.arb.halt_wake_blind
    || (active_of d.arb.wake_pend_blind && not (eqb d.arb.wake_pend_blind.0 6))
    || active_of (cond (c && d.arb.pend_granted && not v.in_hblank) (armed 36) d.arb.wake_tenure))

-- each window is asked with the entry, or the entry with all three
gathered : (x e a b c f : Bool) → ((x || ((a && e) || (b && e && not c))) || (f && e)) ≡ (x || (e && (a || (b && not c) || f)))
gathered true e a b c f = refl
gathered false true true b c f = refl
gathered false true false true true true = refl
gathered false true false true true false = refl
gathered false true false true false f = refl
gathered false true false false c true = refl
gathered false true false false c false = refl
gathered false false true true c true = refl
gathered false false true true c false = refl
gathered false false true false c true = refl
gathered false false true false c false = refl
gathered false false false true c true = refl
gathered false false false true c false = refl
gathered false false false false c true = refl
gathered false false false false c false = refl

-- the stages after the new pend leave it
served_pend : (c : Bool) (v : View) (d : VramDma) → (served_of c v d).arb.pend ≡ pends c v (tenure_of v (commit_of c v d))
unfolding served_of seizure_of refilled_of readiness_of
served_pend c v d = (stage_steps v (tenure_of v (commit_of c v d))).new_pend c

-- the stages after the tenure leave taken
served_taken : (c : Bool) (v : View) (d : VramDma) → (served_of c v d).block.taken ≡ (tenure_of v (commit_of c v d)).block.taken
unfolding served_of seizure_of seized_block refilled_of readiness_of readied_block pend_of
served_taken c v d = refl

-- a commit takes the HBlank
commit_taken : (v : View) (d : VramDma) → (tenure_of v (commit_of true v d)).block.taken ≡ true
unfolding tenure_of commit_of commit_block
commit_taken v d = refl

module _ (v : View) (d : VramDma) where
  -- without a commit
  taken_after : (tenure_of v (commit_of false v (blinds_of v d))).block.taken ≡ (d.block.taken || in_window false v d)
  unfolding tenure_of commit_of commit_block commit_arb blinds_of blinds_arb
  taken_after =
      gathered d.block.taken v.entry_edge (active_of d.arb.halt_wake_blind) (active_of d.arb.wake_pend_blind)
      (eqb d.arb.wake_pend_blind.0 6) (active_of d.arb.wake_tenure)

  taken_by : (c : Bool) → (served_of c v (blinds_of v d)).block.taken ≡ (c || d.block.taken || in_window c v d)
  taken_by true = served_taken true v (blinds_of v d) ∙ commit_taken v (blinds_of v d)
  taken_by false = served_taken false v (blinds_of v d) ∙ taken_after

  -- no commit, no block: what the new pend looks at beside taken
  pends_after :
      pends false v (tenure_of v (commit_of false v (blinds_of v d))) ≡
      (v.armed
      && v.in_hblank
      && not (tenure_of v (commit_of false v (blinds_of v d))).block.taken
      && ltb 0 d.cursor.remaining
      && eqb d.block.remaining 0)
  unfolding tenure_of commit_of commit_block blinds_of
  pends_after = refl

  pend_by :
      (c : Bool) →
      (served_of c v (blinds_of v d)).arb.pend ≡
      (not c
      && v.armed
      && v.in_hblank
      && not (d.block.taken || in_window c v d)
      && ltb 0 d.cursor.remaining
      && eqb d.block.remaining 0)
  pend_by true = served_pend true v (blinds_of v d)
  pend_by false =
      served_pend false v (blinds_of v d)
      ∙ (pends_after
      ∙ ap (λ x. v.armed && v.in_hblank && not x && ltb 0 d.cursor.remaining && eqb d.block.remaining 0) taken_after)

-- ---- the idle claim
latch_claim : (h j : Bool) (a : HaltArbiter) → (halt_latch_arb h j a).idle_claim ≡ a.idle_claim
unfolding halt_latch_arb
latch_claim h true a = refl
latch_claim h false a = refl

pend_claim : (p : Bool) (a : HaltArbiter) → (pend_arb p a).idle_claim ≡ a.idle_claim
unfolding pend_arb
pend_claim true a = refl
pend_claim false a = refl

commit_claim : (c : Bool) (v : View) (a : HaltArbiter) → (commit_arb c v a).idle_claim ≡ (not c && a.idle_claim)
unfolding commit_arb
commit_claim true v a = refl
commit_claim false v a = refl

started_claim : (v : View) (d : VramDma) → (started_of v d).arb.idle_claim ≡ d.arb.idle_claim
unfolding started_of halt_latch_of probation_of ungranted_arb observed_of observed_arb
started_claim v d = latch_claim _ _ _

served_claim :
    (c : Bool) (v : View) (d : VramDma) →
    (served_of c v d).arb.idle_claim ≡
    ((not c && d.arb.idle_claim)
    || (active_of (cond (c && d.arb.pend_granted && not v.in_hblank) (armed 36) d.arb.wake_tenure)
    && v.entry_edge
    && ltb 0 d.cursor.remaining))
unfolding served_of seizure_of refilled_of readiness_of pend_of tenure_of tenure_arb commit_of
served_claim c v d = rw (pend_claim, commit_claim, commit_tenure)

-- ---- the same of the whole fall
module _ (i : FallInput) (double : Bool) (d : VramDma) where
  reached : settles i d ≡ true → reaches6 i d ≡ true → ⊥
  reached p r = false≢true (sym (rw p) ∙ r)

  ungated_6 : gates i ≡ true → reaches6 i d ≡ true → ⊥
  ungated_6 g r = false≢true (sym (rw (g, and-false)) ∙ r)

  same_windows : (c : Bool) → (fall_of i double d).claim.committed ≡ c → in_window c (v i double d) (s i double d) ≡ passes i double d
  unfolding view_of
  same_windows c e =
      rw (e, started_blind3 (v i double d) d, started_blind6 (v i double d) d, started_tenure (v i double d) d)

  entry_taken :
      Course i double d → (fall_of i double d).refused ≡ false → reaches6 i d ≡ true →
      (fall_of i double d).dma.block.taken ≡
      ((fall_of i double d).claim.committed || (s i double d).block.taken || passes i double d)
  entry_taken (settled p e) n r = absurd (reached p r)
  entry_taken (gated p g e) n r = absurd (ungated_6 g r)
  entry_taken (overflowed p g o e) n r = absurd (true≢false (sym (ap (λ (f : Fallen). f.refused) e) ∙ n))
  entry_taken (served p g o e) n r =
      let c = commits (v i double d) (t i double d) in
      let q = committed e in
      ap (λ (f : Fallen). f.dma.block.taken) e
      ∙ (taken_by (v i double d) (s i double d) c
      ∙ (ap (λ x. c || (s i double d).block.taken || x) (same_windows c q)
      ∙ ap (λ x. x || (s i double d).block.taken || passes i double d) (sym q)))

  entry_pend :
      Course i double d → (fall_of i double d).refused ≡ false → reaches6 i d ≡ true →
      (fall_of i double d).dma.arb.pend ≡
      (not (fall_of i double d).claim.committed
      && is_hblank d.cursor.mode
      && eqb i.mode 0
      && not ((s i double d).block.taken || passes i double d)
      && ltb 0 d.cursor.remaining
      && eqb (s i double d).block.remaining 0)
  unfolding view_of
  entry_pend (settled p e) n r = absurd (reached p r)
  entry_pend (gated p g e) n r = absurd (ungated_6 g r)
  entry_pend (overflowed p g o e) n r = absurd (true≢false (sym (ap (λ (f : Fallen). f.refused) e) ∙ n))
  entry_pend (served p g o e) n r =
      let c = commits (v i double d) (t i double d) in
      let q = committed e in
      ap (λ (f : Fallen). f.dma.arb.pend) e
      ∙ (pend_by (v i double d) (s i double d) c ∙ by c q)
    where
      by :
          (c : Bool) → (fall_of i double d).claim.committed ≡ c →
          (not c
          && (v i double d).armed
          && (v i double d).in_hblank
          && not ((s i double d).block.taken || in_window c (v i double d) (s i double d))
          && ltb 0 (s i double d).cursor.remaining
          && eqb (s i double d).block.remaining 0)
          ≡ (not (fall_of i double d).claim.committed
          && is_hblank d.cursor.mode
          && eqb i.mode 0
          && not ((s i double d).block.taken || passes i double d)
          && ltb 0 d.cursor.remaining
          && eqb (s i double d).block.remaining 0)
      by c q =
          ap
          (λ x.
          not c
          && is_hblank d.cursor.mode
          && eqb i.mode 0
          && not ((s i double d).block.taken || x)
          && ltb 0 (s i double d).cursor.remaining
          && eqb (s i double d).block.remaining 0)
          (same_windows c q)
          ∙ rw (started_cursor (v i double d) d)
          (ap
          (λ x.
          not x
          && is_hblank d.cursor.mode
          && eqb i.mode 0
          && not ((s i double d).block.taken || passes i double d)
          && ltb 0 d.cursor.remaining
          && eqb (s i double d).block.remaining 0)
          (sym q))

  entry_claim :
      Course i double d → (fall_of i double d).refused ≡ false → reaches6 i d ≡ true →
      (fall_of i double d).dma.arb.idle_claim ≡
      ((not (fall_of i double d).claim.committed && d.arb.idle_claim)
      || (active_of (at_step tenure_of_36 i double d)
      && (eqb i.mode 0 && not d.arb.prev_view_hblank)
      && ltb 0 d.cursor.remaining))
  unfolding view_of blinds_of blinds_arb
  entry_claim (settled p e) n r = absurd (reached p r)
  entry_claim (gated p g e) n r = absurd (ungated_6 g r)
  entry_claim (overflowed p g o e) n r = absurd (true≢false (sym (ap (λ (f : Fallen). f.refused) e) ∙ n))
  entry_claim (served p g o e) n r =
      rw (committed e)
      (ap (λ (f : Fallen). f.dma.arb.idle_claim) e
      ∙ (served_claim (commits (v i double d) (t i double d)) (v i double d) (t i double d)
      ∙ rw (started_claim (v i double d) d, started_tenure (v i double d) d, started_cursor (v i double d) d)))

pub entries : (i : FallInput) (double : Bool) (d : VramDma) → Entries i double d
entries i double d =
    let c = course i double d in
    record { taken = entry_taken i double d c; pend = entry_pend i double d c; claim = entry_claim i double d c }
