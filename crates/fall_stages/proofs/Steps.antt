-- The fall does what document 01 says of it (specs, `FallSteps`). Assumes nothing.
use Prim.Native.Nat.{ℕ, ◌+◌, ◌<◌, ◌≤◌}
use native.Mathlib.Omega.{arith}
use mathlib.Core.Path.{◌≡◌, refl, sym, ap, ◌∙◌}
use mathlib.Core.Bool.{Bool, true, false, cond, not, ◌&&◌, ◌||◌, and-false, false≢true, true≢false}
use lib.Dec.{leb, eqb}
use borrow.Author.Tests.{lt-ltb, le-ltb, eqb-false}
use Rattle.countdown.specs.Countdown.{armed, active_of}
use Rattle.arithmetic.specs.SmallSteps.{saturating_inc}
use Rattle.console.specs.Set.{with_cursor_quota}
use Rattle.console.specs.declared.vram_dma.HaltArbiter.{HaltArbiter}
use Rattle.console.specs.declared.vram_dma.HblankBlock.{HblankBlock}
use Rattle.console.specs.declared.vram_dma.VramDma.{VramDma}
use Rattle.transfer.specs.Pair.{moving_of, quota_of}
use Rattle.transfer.specs.Questions.{seizes_bus}
use Rattle.transfer.proofs.PairSteps.{pair_steps}
use Rattle.fall_stages.specs.Fall.{view_of, gates, settled_of, observed_arb, observed_of, judged_block, ungranted_arb}
use Rattle.fall_stages.specs.Fall.{probation_of, dropped_block, halt_latch_arb, halt_latch_of, refilled_of, aged_arb, pended_arb, granted_arb}
use Rattle.fall_stages.specs.Fall.{gated_of, blinds_arb, blinds_of, commits, overflows, commit_block, commit_arb, commit_of, tenure_arb}
use Rattle.fall_stages.specs.Fall.{tenure_of, pend_arb, pend_of, readied_block, readiness_of, seized_block, seizure_of, claim_of, started_of}
use Rattle.fall_stages.specs.Fall.{served_of, decided_of, ran_of, fall_of, no_claim, fell, refused_of}
use Rattle.fall_stages.specs.Steps.{settles, AtRest, before6, commit_test, FallSteps}
use Rattle.fall_stages.specs.declared.FallInput.{FallInput}
use Rattle.fall_stages.specs.declared.Fallen.{Fallen}
use Rattle.fall_stages.specs.declared.View.{View}
use Rattle.fall_stages.proofs.QuietFall.{settles_means}
use Rattle.fall_stages.proofs.StageSteps.{none_of}

-- ---- what single parts keep, whichever way their choice goes
commit_falls : (c : Bool) (v : View) (a : HaltArbiter) → (commit_arb c v a).halted_falls ≡ a.halted_falls
unfolding commit_arb
commit_falls true v a = refl
commit_falls false v a = refl

pend_falls : (p : Bool) (a : HaltArbiter) → (pend_arb p a).halted_falls ≡ a.halted_falls
unfolding pend_arb
pend_falls true a = refl
pend_falls false a = refl

pended_falls : (p : Bool) (a : HaltArbiter) → (pended_arb p a).halted_falls ≡ a.halted_falls
unfolding pended_arb
pended_falls true a = refl
pended_falls false a = refl

latch_falls : (h j : Bool) (a : HaltArbiter) → (halt_latch_arb h j a).halted_falls ≡ a.halted_falls
unfolding halt_latch_arb
latch_falls h true a = refl
latch_falls h false a = refl

commit_seize : (c : Bool) (v : View) (a : HaltArbiter) (b : HblankBlock) → (commit_block c v a b).seize_falls ≡ b.seize_falls
unfolding commit_block
commit_seize true v a b = refl
commit_seize false v a b = refl

drop_seize : (j : Bool) (b : HblankBlock) → (dropped_block j b).seize_falls ≡ b.seize_falls
unfolding dropped_block
drop_seize true b = refl
drop_seize false b = refl

-- ---- steps 3 and 4
pub started_cursor : (v : View) (d : VramDma) → (started_of v d).cursor ≡ d.cursor
unfolding started_of halt_latch_of probation_of observed_of
started_cursor v d = refl

started_falls :
    (v : View) (d : VramDma) →
    (started_of v d).arb.halted_falls ≡ cond v.cpu_halted (saturating_inc d.arb.halted_falls) 0
unfolding started_of halt_latch_of probation_of ungranted_arb observed_of observed_arb
started_falls v d = latch_falls _ _ _

started_seize : (v : View) (d : VramDma) → (started_of v d).block.seize_falls ≡ d.block.seize_falls
unfolding started_of halt_latch_of probation_of judged_block observed_of
started_seize v d = drop_seize _ _

drop_cell : (j : Bool) (b : HblankBlock) → active_of b.setup_cells ≡ false → active_of (dropped_block j b).setup_cells ≡ false
unfolding dropped_block
drop_cell true b h = refl
drop_cell false b h = h

started_cell :
    (v : View) (d : VramDma) → active_of d.block.setup_cells ≡ false → active_of (started_of v d).block.setup_cells ≡ false
unfolding started_of halt_latch_of probation_of judged_block observed_of
started_cell v d h = drop_cell _ _ h

-- ---- step 5
gated_cursor : (v : View) (d : VramDma) → (gated_of v d).cursor ≡ with_cursor_quota (gated_of v d).cursor.quota d.cursor
unfolding gated_of refilled_of
gated_cursor v d = refl

gated_quota : (v : View) (d : VramDma) → (gated_of v d).cursor.quota ≡ quota_of (moving_of (gated_of v d)) v.double_speed
unfolding gated_of refilled_of moving_of
gated_quota v d = refl

gated_falls : (v : View) (d : VramDma) → (gated_of v d).arb.halted_falls ≡ d.arb.halted_falls
unfolding gated_of refilled_of granted_arb aged_arb
gated_falls v d = pended_falls _ _

gated_seize : (v : View) (d : VramDma) → (gated_of v d).block.seize_falls ≡ d.block.seize_falls
unfolding gated_of refilled_of
gated_seize v d = refl

-- ---- step 6
module _ (c : Bool) (v : View) (d : VramDma) where
  served_cursor : (served_of c v d).cursor ≡ with_cursor_quota (served_of c v d).cursor.quota d.cursor
  unfolding served_of seizure_of refilled_of readiness_of pend_of tenure_of commit_of
  served_cursor = refl

  served_quota : (served_of c v d).cursor.quota ≡ quota_of (moving_of (served_of c v d)) v.double_speed
  unfolding served_of seizure_of seized_block refilled_of moving_of
  served_quota = refl

  served_falls : (served_of c v d).arb.halted_falls ≡ d.arb.halted_falls
  unfolding served_of seizure_of refilled_of readiness_of pend_of tenure_of tenure_arb commit_of
  served_falls = pend_falls _ _ ∙ commit_falls c v d.arb

  served_seize :
      (served_of c v d).block.seize_falls ≡ cond (seizes_bus (served_of c v d)) (saturating_inc d.block.seize_falls) 0
  unfolding served_of seizure_of seized_block refilled_of readiness_of readied_block pend_of tenure_of commit_of seizes_bus
  served_seize = ap (λ n. cond (seizes_bus (served_of c v d)) (saturating_inc n) 0) (commit_seize c v _ _)

-- without a commit
served_cell : (v : View) (d : VramDma) → (served_of false v d).block.setup_cells ≡ d.block.setup_cells
unfolding served_of seizure_of seized_block refilled_of readiness_of readied_block pend_of tenure_of commit_of commit_block
served_cell v d = refl

-- ---- the blinds change nothing that the commit looks at
blinds_commit : (v : View) (d : VramDma) → commits v (blinds_of v d) ≡ commits v d
unfolding blinds_of blinds_arb
blinds_commit v d = refl

blinds_counted : (v : View) (d : VramDma) → (blinds_of v d).arb.grant_counted ≡ d.arb.grant_counted
unfolding blinds_of blinds_arb
blinds_counted v d = refl

blinds_granted : (v : View) (d : VramDma) → (blinds_of v d).arb.granted_ahead ≡ d.arb.granted_ahead
unfolding blinds_of blinds_arb
blinds_granted v d = refl

blinds_cursor : (v : View) (d : VramDma) → (blinds_of v d).cursor ≡ d.cursor
unfolding blinds_of
blinds_cursor v d = refl

blinds_falls : (v : View) (d : VramDma) → (blinds_of v d).arb.halted_falls ≡ d.arb.halted_falls
unfolding blinds_of blinds_arb
blinds_falls v d = refl

blinds_seize : (v : View) (d : VramDma) → (blinds_of v d).block.seize_falls ≡ d.block.seize_falls
unfolding blinds_of
blinds_seize v d = refl

blinds_age : (v : View) (d : VramDma) → (blinds_of v d).arb.pend_age ≡ d.arb.pend_age
unfolding blinds_of blinds_arb
blinds_age v d = refl

-- ---- a commit, of the engine d in front of it
module _ (v : View) (d : VramDma) where
  commit_block_lem :
      ((served_of true v d).block.remaining ≡ 16) ×
      ((served_of true v d).block.taken ≡ true) ×
      ((served_of true v d).block.start_edge ≡ v.master_edge)
  unfolding served_of seizure_of seized_block refilled_of readiness_of readied_block pend_of tenure_of commit_of commit_block
  commit_block_lem = (refl, refl, refl)

  commit_pend : (served_of true v d).arb.pend ≡ false
  unfolding served_of seizure_of refilled_of readiness_of pend_of pend_arb tenure_of tenure_arb
  commit_pend = refl

  commit_marks :
      ((served_of true v d).block.setup_cells ≡
      armed (cond (d.arb.pend_from_arm || (d.arb.pend_granted && not v.in_hblank && not v.cpu_halted)) 0 1)) ×
      ((served_of true v d).block.from_arm ≡ d.arb.pend_from_arm) ×
      ((served_of true v d).arb.park_waits_for_fetch ≡
      (not d.arb.pend_from_arm && not v.cpu_halted && not v.was_halted)) ×
      ((served_of true v d).arb.pend_granted ≡ false) ×
      ((served_of true v d).arb.grant_counted ≡ false)
  unfolding served_of seizure_of seized_block refilled_of readiness_of readied_block pend_of pend_arb tenure_of tenure_arb commit_of commit_block commit_arb
  commit_marks = (refl, refl, none_of d.arb.pend_from_arm v.cpu_halted v.was_halted, refl, refl)

  commit_granted :
      (served_of true v d).arb.granted_ahead ≡
      cond (not d.arb.grant_counted) (saturating_inc d.arb.granted_ahead) d.arb.granted_ahead
  unfolding served_of seizure_of refilled_of readiness_of pend_of pend_arb tenure_of tenure_arb commit_of commit_arb
  commit_granted = refl

  commit_age : (served_of true v d).arb.pend_age ≡ d.arb.pend_age
  unfolding served_of seizure_of refilled_of readiness_of pend_of pend_arb tenure_of tenure_arb commit_of commit_arb
  commit_age = refl

-- ---- the course of a fall
module _ (i : FallInput) (double : Bool) (d : VramDma) where
  abbrev pub v : View
  v = view_of i double d

  abbrev pub s : VramDma
  s = started_of v d

  abbrev pub t : VramDma
  t = blinds_of v s

  pub data Course : Type 0 where
    settled : settles i d ≡ true → fall_of i double d ≡ fell no_claim (settled_of (eqb i.mode 0) d) → Course
    gated : settles i d ≡ false → gates i ≡ true → fall_of i double d ≡ fell no_claim (gated_of v s) → Course
    overflowed : settles i d ≡ false → gates i ≡ false → overflows v t ≡ true → fall_of i double d ≡ refused_of d → Course
    served :
        settles i d ≡ false → gates i ≡ false → overflows v t ≡ false →
        fall_of i double d ≡ fell (claim_of (commits v t) v (served_of (commits v t) v t)) (served_of (commits v t) v t) → Course

  decide : (o : Bool) → overflows v t ≡ o → settles i d ≡ false → gates i ≡ false → Course
  unfolding fall_of ran_of decided_of
  decide true o p g = overflowed p g o (rw (p, g, o))
  decide false o p g = served p g o (rw (p, g, o))

  run : (b : Bool) → gates i ≡ b → settles i d ≡ false → Course
  unfolding fall_of ran_of
  run true g p = gated p g (rw (p, g))
  run false g p = decide (overflows v t) refl p g

  begin : (b : Bool) → settles i d ≡ b → Course
  unfolding fall_of
  begin true p = settled p (rw p)
  begin false p = run (gates i) refl p

  pub course : Course
  course = begin (settles i d) refl

  -- ---- each sentence, along the course
  inert : settles i d ≡ true → fall_of i double d ≡ fell no_claim (settled_of (eqb i.mode 0) d)
  unfolding fall_of
  inert p = rw p

  not_refused : (fall_of i double d).refused ≡ false → fall_of i double d ≡ refused_of d → ⊥
  not_refused n e = true≢false (sym (ap (λ (f : Fallen). f.refused) e) ∙ n)

  commits_exactly : Course → (fall_of i double d).refused ≡ false → (fall_of i double d).claim.committed ≡ commit_test i double d
  commits_exactly (settled p e) n = rw (e, p)
  commits_exactly (gated p g e) n = rw (e, p, g)
  commits_exactly (overflowed p g o e) n = absurd (not_refused n e)
  commits_exactly (served p g o e) n = rw (e, p, g) (blinds_commit v s)

  refused_exactly :
      Course →
      (fall_of i double d).refused ≡
      (commit_test i double d
      && not (before6 i double d).arb.grant_counted
      && eqb (before6 i double d).arb.granted_ahead 255)
  unfolding blinds_of blinds_arb
  refused_exactly (settled p e) = rw (e, p)
  refused_exactly (gated p g e) = rw (e, p, g)
  refused_exactly (overflowed p g o e) = rw (e, p, g) (sym o)
  refused_exactly (served p g o e) = rw (e, p, g) (sym o)

  refused_keeps : Course → (fall_of i double d).refused ≡ true → ((fall_of i double d).dma ≡ d) × ((fall_of i double d).claim ≡ no_claim)
  refused_keeps (settled p e) r = absurd (true≢false (sym r ∙ ap (λ (f : Fallen). f.refused) e))
  refused_keeps (gated p g e) r = absurd (true≢false (sym r ∙ ap (λ (f : Fallen). f.refused) e))
  refused_keeps (overflowed p g o e) r = rw e (refl, refl)
  refused_keeps (served p g o e) r = absurd (true≢false (sym r ∙ ap (λ (f : Fallen). f.refused) e))

  keeps_cursor : Course → (fall_of i double d).dma.cursor ≡ with_cursor_quota (fall_of i double d).dma.cursor.quota d.cursor
  unfolding settled_of
  keeps_cursor (settled p e) = rw e
  keeps_cursor (gated p g e) = rw e (gated_cursor v s ∙ ap (with_cursor_quota (gated_of v s).cursor.quota) (started_cursor v d))
  keeps_cursor (overflowed p g o e) = rw e
  keeps_cursor (served p g o e) =
      rw e
      (served_cursor (commits v t) v t ∙
      ap (with_cursor_quota (served_of (commits v t) v t).cursor.quota) (blinds_cursor v s ∙ started_cursor v d))

  quota_step :
      Course → (fall_of i double d).refused ≡ false →
      (fall_of i double d).dma.cursor.quota ≡ quota_of (moving_of (fall_of i double d).dma) double
  unfolding view_of settled_of
  quota_step (settled p e) n = rw (e, pair_steps.never (settled_of (eqb i.mode 0) d) (settles_means i d p).left)
  quota_step (gated p g e) n = rw e (gated_quota v s)
  quota_step (overflowed p g o e) n = absurd (not_refused n e)
  quota_step (served p g o e) n = rw e (served_quota (commits v t) v t)

  -- an inert engine is at rest: it seizes no bus, and is not gated
  pub resting : settles i d ≡ true → AtRest d
  resting p = (settles_means i d p).rest

  seizes_not : settles i d ≡ true → seizes_bus (settled_of (eqb i.mode 0) d) ≡ false
  unfolding settled_of seizes_bus
  seizes_not p =
      let none : active_of d.block.setup_cells ≡ false = ap active_of (resting p).setup in
      rw (none, le-ltb 0 d.cursor.remaining (omega (arith, (settles_means i d p).left)), and-false, and-false)

  pub ungates : settles i d ≡ true → gates i ≡ false
  ungates p = let k = settles_means i d p in rw (k.running, k.going)

  seize_count :
      Course → (fall_of i double d).refused ≡ false → gates i ≡ false →
      (fall_of i double d).dma.block.seize_falls ≡
      cond (seizes_bus (fall_of i double d).dma) (saturating_inc d.block.seize_falls) 0
  unfolding settled_of
  seize_count (settled p e) n g = rw (e, seizes_not p)
  seize_count (gated p h e) n g = absurd (true≢false (sym h ∙ g))
  seize_count (overflowed p h o e) n g = absurd (not_refused n e)
  seize_count (served p h o e) n g =
      rw e
      (served_seize (commits v t) v t
      ∙ ap (λ n. cond (seizes_bus (served_of (commits v t) v t)) (saturating_inc n) 0) (blinds_seize v s ∙ started_seize v d))

  seize_rests : Course → gates i ≡ true → (fall_of i double d).dma.block.seize_falls ≡ d.block.seize_falls
  seize_rests (settled p e) g = absurd (true≢false (sym g ∙ ungates p))
  seize_rests (gated p h e) g = rw e (gated_seize v s ∙ started_seize v d)
  seize_rests (overflowed p h o e) g = absurd (true≢false (sym g ∙ h))
  seize_rests (served p h o e) g = absurd (true≢false (sym g ∙ h))

  falls_step :
      Course → (fall_of i double d).refused ≡ false →
      (fall_of i double d).dma.arb.halted_falls ≡ cond i.halted (saturating_inc d.arb.halted_falls) 0
  unfolding settled_of view_of
  falls_step (settled p e) n = rw (e, (settles_means i d p).running)
  falls_step (gated p g e) n = rw e (gated_falls v s ∙ started_falls v d)
  falls_step (overflowed p g o e) n = absurd (not_refused n e)
  falls_step (served p g o e) n = rw e (served_falls (commits v t) v t ∙ blinds_falls v s ∙ started_falls v d)

  no_cell :
      Course → (fall_of i double d).claim.committed ≡ false → active_of d.block.setup_cells ≡ false →
      active_of (fall_of i double d).dma.block.setup_cells ≡ false
  unfolding settled_of gated_of refilled_of blinds_of
  no_cell (settled p e) c h = rw e h
  no_cell (gated p g e) c h = rw e (started_cell v d h)
  no_cell (overflowed p g o e) c h = rw e h
  no_cell (served p g o e) c h =
      let k : commits v t ≡ false = sym (ap (λ (f : Fallen). f.claim.committed) e) ∙ c in
      rw (e, k, served_cell v t) (started_cell v d h)

  -- a fall that committed was served, with a commit
  Commit : Type 0
  Commit =
      (overflows v t ≡ false) × (commits v t ≡ true) ×
      (fall_of i double d ≡ fell (claim_of true v (served_of true v t)) (served_of true v t))

  commit : Course → (fall_of i double d).claim.committed ≡ true → Commit
  unfolding Commit
  commit (settled p e) c = absurd (false≢true (sym (ap (λ (f : Fallen). f.claim.committed) e) ∙ c))
  commit (gated p g e) c = absurd (false≢true (sym (ap (λ (f : Fallen). f.claim.committed) e) ∙ c))
  commit (overflowed p g o e) c = absurd (false≢true (sym (ap (λ (f : Fallen). f.claim.committed) e) ∙ c))
  commit (served p g o e) c =
      let k : commits v t ≡ true = sym (ap (λ (f : Fallen). f.claim.committed) e) ∙ c in (o, k, rw k at e)

  pub committed_step :
      (fall_of i double d).claim.committed ≡ true →
      ((fall_of i double d).dma.block.remaining ≡ 16) ×
      ((fall_of i double d).dma.block.taken ≡ true) ×
      ((fall_of i double d).dma.block.start_edge ≡ i.master_edge) ×
      ((fall_of i double d).dma.arb.pend ≡ false)
  unfolding Commit view_of
  committed_step c =
      let k : Commit = commit course c in
      rw k.2 ((commit_block_lem v t).0, (commit_block_lem v t).1, (commit_block_lem v t).2, commit_pend v t)

  committed_marks :
      (fall_of i double d).claim.committed ≡ true →
      ((fall_of i double d).dma.block.setup_cells ≡
      armed
      (cond (s.arb.pend_from_arm || (s.arb.pend_granted && not (eqb i.mode 0) && not i.halted)) 0 1)) ×
      ((fall_of i double d).dma.block.from_arm ≡ s.arb.pend_from_arm) ×
      ((fall_of i double d).dma.arb.park_waits_for_fetch ≡
      (not s.arb.pend_from_arm && not i.halted && not d.arb.prev_cpu_halted)) ×
      ((fall_of i double d).dma.arb.pend_granted ≡ false) ×
      ((fall_of i double d).dma.arb.grant_counted ≡ false)
  unfolding Commit view_of blinds_of blinds_arb
  committed_marks c = let k : Commit = commit course c in rw k.2 (commit_marks v t)

  counted_already :
      (fall_of i double d).claim.committed ≡ true → s.arb.grant_counted ≡ true →
      (fall_of i double d).dma.arb.granted_ahead ≡ s.arb.granted_ahead
  unfolding Commit
  counted_already c counted =
      let k : Commit = commit course c in
      let counts : t.arb.grant_counted ≡ true = blinds_counted v s ∙ counted in
      rw k.2 (commit_granted v t ∙ rw counts (blinds_granted v s))

  raises :
      (fall_of i double d).claim.committed ≡ true → s.arb.grant_counted ≡ false → s.arb.granted_ahead ≤ 255 →
      (fall_of i double d).dma.arb.granted_ahead ≡ s.arb.granted_ahead + 1
  unfolding Commit
  raises c counted byte =
      let k : Commit = commit course c in
      let counts : t.arb.grant_counted ≡ false = blinds_counted v s ∙ counted in
      let below : t.arb.granted_ahead < 255 =
      under (commits v t) t.arb.grant_counted t.arb.granted_ahead k.0 k.1 counts (rw (blinds_granted v s) byte) in
      rw k.2 (commit_granted v t ∙ rw (counts, lt-ltb _ 255 below) (ap (λ (n : ℕ). n + 1) (blinds_granted v s)))
    where
      under : (a b : Bool) (n : ℕ) → (a && not b && eqb n 255) ≡ false → a ≡ true → b ≡ false → n ≤ 255 → n < 255
      under true true n o p q h = absurd (true≢false q)
      under true false n o p q h = let other : n ≡ 255 → ⊥ = eqb-false n 255 o in omega arith
      under false b n o p q h = absurd (false≢true p)

  standing_step :
      Course → (fall_of i double d).refused ≡ false →
      (fall_of i double d).claim.standing ≡
      ((fall_of i double d).claim.committed && leb 4 s.arb.pend_age && not i.oam_owns_bus)
  unfolding view_of
  standing_step (settled p e) n = rw e
  standing_step (gated p g e) n = rw e
  standing_step (overflowed p g o e) n = absurd (not_refused n e)
  standing_step (served p g o e) n = rw e (by (commits v t))
    where
      by : (c : Bool) →
          (c && leb 4 (served_of c v t).arb.pend_age && not v.oam_owns_bus) ≡ (c && leb 4 s.arb.pend_age && not i.oam_owns_bus)
      by true = rw (commit_age v t, blinds_age v s)
      by false = refl

pub fall_steps : (i : FallInput) (double : Bool) (d : VramDma) → FallSteps i double d
fall_steps i double d =
    record {
      inert = inert i double d;
      commits_exactly = commits_exactly i double d (course i double d);
      refused_exactly = refused_exactly i double d (course i double d);
      refused_keeps = refused_keeps i double d (course i double d);
      keeps_cursor = keeps_cursor i double d (course i double d);
      quota = quota_step i double d (course i double d);
      seize_count = seize_count i double d (course i double d);
      seize_rests = seize_rests i double d (course i double d);
      halted_falls = falls_step i double d (course i double d);
      committed = λ n c. committed_step i double d c;
      committed_marks = λ n c. committed_marks i double d c;
      no_cell = no_cell i double d (course i double d);
      counted_already = λ n c. counted_already i double d c;
      raises = λ n c. raises i double d c;
      standing = standing_step i double d (course i double d);
    }
