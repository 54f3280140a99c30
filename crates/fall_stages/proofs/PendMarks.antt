-- What falls of a running CPU do to the pend and its marks (specs, `PendMarks`). Assumes nothing.
use mathlib.Core.Path.{◌≡◌, refl, sym, ◌∙◌}
use mathlib.Core.Bool.{Bool, true, false, not, ◌&&◌, ◌||◌, and-false, false≢true}
use lib.Dec.{leb}
use Rattle.console.specs.declared.vram_dma.HaltArbiter.{HaltArbiter}
use Rattle.console.specs.declared.vram_dma.VramDma.{VramDma}
use Rattle.fall_stages.specs.Fall.{view_of, settled_of, observed_arb, observed_of, ungranted_arb, probation_of, halt_latch_arb, halt_latch_of, started_of}
use Rattle.fall_stages.specs.Fall.{refilled_of, blinds_arb, blinds_of, commits, commit_arb, commit_of, tenure_arb, tenure_of, pends, pend_arb, pend_of}
use Rattle.fall_stages.specs.Fall.{readiness_of, seizure_of, served_of, fall_of}
use Rattle.fall_stages.specs.Steps.{settles, before6}
use Rattle.fall_stages.specs.Once.{Running, Between}
use Rattle.transfer.specs.Keeps.{KeepsMarks}
use Rattle.fall_stages.specs.PendMarks.{Calm, Clear, Tidy, PendMarks}
use Rattle.fall_stages.specs.declared.FallInput.{FallInput}
use Rattle.fall_stages.specs.declared.View.{View}
use Rattle.fall_stages.proofs.QuietFall.{settles_means}
use Rattle.fall_stages.proofs.Steps.{Course, settled, gated, overflowed, served, course, fall_steps, s, t}

-- the commit's test where it is calm and outside mode 0
quiet :
    (p a h f g r p0 f0 g0 : Bool) → p ≡ p0 → f ≡ f0 → g ≡ g0 → h ≡ false → (p0 && (f0 || g0)) ≡ false →
    (p && a && (h || f || g) && r) ≡ false
quiet false a h f g r p0 f0 g0 ep ef eg eh calm = refl
quiet true true true f g r p0 f0 g0 ep ef eg eh calm = absurd (false≢true (sym eh))
quiet true false h f g r p0 f0 g0 ep ef eg eh calm = refl
quiet true true false f g r p0 f0 g0 ep ef eg eh calm =
    let none : (f || g) ≡ false = rw (ef, eg) (rw (← ep) at calm) in rw none

-- ---- the stages, of a running CPU
module _ (w : View) (runs : w.cpu_halted ≡ false) (d : VramDma) where
  started_pend : (started_of w d).arb.pend ≡ d.arb.pend
  unfolding started_of halt_latch_of halt_latch_arb probation_of ungranted_arb observed_of observed_arb
  started_pend = rw runs

  started_arm : (started_of w d).arb.pend_from_arm ≡ d.arb.pend_from_arm
  unfolding started_of halt_latch_of halt_latch_arb probation_of ungranted_arb observed_of observed_arb
  started_arm = rw runs

  started_granted : (started_of w d).arb.pend_granted ≡ d.arb.pend_granted
  unfolding started_of halt_latch_of halt_latch_arb probation_of ungranted_arb observed_of observed_arb
  started_granted = rw runs

  started_strobe : (started_of w d).arb.armed_this_fall ≡ d.arb.armed_this_fall
  unfolding started_of halt_latch_of halt_latch_arb probation_of ungranted_arb observed_of observed_arb
  started_strobe = rw runs

commit_granted : (c : Bool) (w : View) (a : HaltArbiter) → w.cpu_halted ≡ false → (commit_arb c w a).pend_granted ≡ false
unfolding commit_arb
commit_granted true w a runs = refl
commit_granted false w a runs = rw (runs, and-false)

commit_strobe : (c : Bool) (w : View) (a : HaltArbiter) → (commit_arb c w a).armed_this_fall ≡ a.armed_this_fall
unfolding commit_arb
commit_strobe true w a = refl
commit_strobe false w a = refl

pend_granted : (p : Bool) (a : HaltArbiter) → (pend_arb p a).pend_granted ≡ a.pend_granted
unfolding pend_arb
pend_granted true a = refl
pend_granted false a = refl

pend_strobe : (p : Bool) (a : HaltArbiter) → (pend_arb p a).armed_this_fall ≡ false
unfolding pend_arb
pend_strobe true a = refl
pend_strobe false a = refl

pend_own : (p : Bool) (a : HaltArbiter) → a.armed_this_fall ≡ false → ((pend_arb p a).pend && (pend_arb p a).pend_from_arm) ≡ false
unfolding pend_arb
pend_own true a e = e
pend_own false a e = refl

module _ (c : Bool) (w : View) (runs : w.cpu_halted ≡ false) (d : VramDma) where
  served_granted : (served_of c w d).arb.pend_granted ≡ false
  unfolding served_of seizure_of refilled_of readiness_of pend_of tenure_of tenure_arb commit_of
  served_granted = pend_granted _ _ ∙ commit_granted c w d.arb runs

  served_strobe : (served_of c w d).arb.armed_this_fall ≡ false
  unfolding served_of seizure_of refilled_of readiness_of pend_of
  served_strobe = pend_strobe _ _

  -- a new pend takes the strobe's mark
  served_own : d.arb.armed_this_fall ≡ false → ((served_of c w d).arb.pend && (served_of c w d).arb.pend_from_arm) ≡ false
  unfolding served_of seizure_of refilled_of readiness_of pend_of tenure_of tenure_arb commit_of
  served_own e = pend_own _ _ (commit_strobe c w d.arb ∙ e)

  -- outside mode 0 there is no new pend
  served_pend : w.in_hblank ≡ false → (served_of c w d).arb.pend ≡ false
  unfolding served_of seizure_of refilled_of readiness_of pend_of pend_arb
  served_pend out = let q : pends c w (tenure_of w (commit_of c w d)) ≡ false = rw (out, and-false) in rw q

-- ---- the fall
module _ (i : FallInput) (d : VramDma) where
  settled_clear : settles i d ≡ true → Clear d
  settled_clear p = let r = (settles_means i d p).rest in record { pend = r.pend; granted = r.granted; strobe = r.strobe }

module _ (i : FallInput) (double : Bool) (d : VramDma) (r : Running false i) where
  abbrev w : View
  w = view_of i double d

  out : w.in_hblank ≡ false
  unfolding view_of
  out = r.place

  runs : w.cpu_halted ≡ false
  unfolding view_of
  runs = r.running

  no_commit : Calm d → commits w (before6 i double d) ≡ false
  no_commit calm =
      let x : VramDma = started_of w d in
      quiet x.arb.pend w.armed w.in_hblank x.arb.pend_from_arm x.arb.pend_granted
      (not w.cpu_halted || leb x.arb.pend_age 2 || x.arb.pend_granted)
      d.arb.pend d.arb.pend_from_arm d.arb.pend_granted
      (started_pend w runs d) (started_arm w runs d) (started_granted w runs d) out calm

  outside_accepted : Calm d → (fall_of i double d).refused ≡ false
  outside_accepted calm = (fall_steps i double d).refused_exactly ∙ rw (no_commit calm, and-false)

  outside_none : Calm d → (fall_of i double d).claim.committed ≡ false
  outside_none calm = (fall_steps i double d).commits_exactly (outside_accepted calm) ∙ rw (no_commit calm, and-false)

  clears : Course i double d → (fall_of i double d).refused ≡ false → Clear (fall_of i double d).dma
  unfolding settled_of
  clears (settled p e) n = let k = settled_clear i d p in rw e (record { pend = k.pend; granted = k.granted; strobe = k.strobe })
  clears (gated p g e) n = absurd (false≢true (sym (rw (r.running, r.going)) ∙ g))
  clears (overflowed p g o e) n = absurd (false≢true (sym n ∙ rw e))
  clears (served p g o e) n =
      rw e
      (record {
        pend = served_pend (commits w (t i double d)) w runs (t i double d) out;
        granted = served_granted (commits w (t i double d)) w runs (t i double d);
        strobe = served_strobe (commits w (t i double d)) w runs (t i double d);
      })

  outside_clears : (fall_of i double d).refused ≡ false → Clear (fall_of i double d).dma
  outside_clears = clears (course i double d)

module _ (i : FallInput) (double : Bool) (d : VramDma) (r : Running true i) where
  runs_in : (view_of i double d).cpu_halted ≡ false
  unfolding view_of
  runs_in = r.running

  blinds_strobe : (t i double d).arb.armed_this_fall ≡ (s i double d).arb.armed_this_fall
  unfolding blinds_of blinds_arb
  blinds_strobe = refl

  leaves : Course i double d → d.arb.armed_this_fall ≡ false → (fall_of i double d).refused ≡ false → Tidy (fall_of i double d).dma
  unfolding settled_of
  leaves (settled p e) k n =
      let c = settled_clear i d p in rw e (record { granted = c.granted; strobe = c.strobe; pend = rw c.pend })
  leaves (gated p g e) k n = absurd (false≢true (sym (rw (r.running, r.going)) ∙ g))
  leaves (overflowed p g o e) k n = absurd (false≢true (sym n ∙ rw e))
  leaves (served p g o e) k n =
      let w : View = view_of i double d in
      let x : VramDma = t i double d in
      rw e
      (record {
        granted = served_granted (commits w x) w runs_in x;
        strobe = served_strobe (commits w x) w runs_in x;
        pend = served_own (commits w x) w runs_in x (blinds_strobe ∙ started_strobe w runs_in d ∙ k);
      })

  inside_leaves : d.arb.armed_this_fall ≡ false → (fall_of i double d).refused ≡ false → Tidy (fall_of i double d).dma
  inside_leaves = leaves (course i double d)

  inside_tidy : Tidy d → Tidy (fall_of i double d).dma
  inside_tidy k = by (fall_of i double d).refused refl
    where
      by : (b : Bool) → (fall_of i double d).refused ≡ b → Tidy (fall_of i double d).dma
      by true n = rw ((fall_steps i double d).refused_keeps n).0 k
      by false n = inside_leaves k.strobe n

-- what keeps the marks may come between two falls
pub keeps_between : {d e : VramDma} → KeepsMarks d e → Between d e
keeps_between k = record { taken = λ h. k.taken ∙ h; pend = λ h. k.pend ∙ h }

pub pend_marks : (i : FallInput) (double : Bool) (d : VramDma) → PendMarks i double d
pend_marks i double d =
    record {
      outside_accepted = outside_accepted i double d;
      outside_none = outside_none i double d;
      outside_clears = outside_clears i double d;
      inside_leaves = inside_leaves i double d;
      inside_tidy = inside_tidy i double d;
      kept_clear = λ e k c. record { pend = k.pend ∙ c.pend; granted = k.granted ∙ c.granted; strobe = k.strobe ∙ c.strobe };
      kept_tidy =
          λ e k c.
          record { granted = k.granted ∙ c.granted; strobe = k.strobe ∙ c.strobe; pend = rw (k.pend, k.from_arm) c.pend };
      between = λ e k. keeps_between k;
    }
