-- Running falls commit at most once in a mode-0 period (specs, `OnceAmong` and `Once`). Assumes nothing.
use Prim.Native.Nat.{ℕ, ◌+◌, ◌≤◌}
use native.Mathlib.Omega.{arith}
use mathlib.Core.Path.{◌≡◌, refl, sym, ◌∙◌}
use mathlib.Core.Bool.{Bool, true, false, cond, and-false, false≢true}
use mathlib.Core.List.{List, [], ◌∷◌}
use lib.Dec.{lit≤}
use Rattle.console.specs.declared.vram_dma.VramDma.{VramDma}
use Rattle.transfer.specs.Latch.{latched_block, latched_of, unclaimed, latches_dark, lcd_disabled_of}
use Rattle.transfer.specs.Pair.{block_after, arb_after, advanced_of, next_byte_of, drain_of}
use Rattle.transfer.proofs.Keeps.{next_keeps, drain_keeps}
use Rattle.fall_stages.specs.Fall.{view_of, settled_of, observed_arb, observed_of, judged_block, ungranted_arb, probation_of, dropped_block}
use Rattle.fall_stages.specs.Fall.{halt_latch_arb, halt_latch_of, blinds_arb, blinds_of, commits, commit_block, commit_of, tenure_of, pends}
use Rattle.fall_stages.specs.Fall.{pend_arb, pend_of, readied_block, readiness_of, refilled_of, seized_block, seizure_of, started_of}
use Rattle.fall_stages.specs.Fall.{served_of, fall_of}
use Rattle.fall_stages.specs.Once.{Running, AllRun, Between, OtherCalls, Period, over, fall, other, Spent, Spends, OnceAmong, commits_in, Once}
use Rattle.fall_stages.specs.declared.FallInput.{FallInput}
use Rattle.fall_stages.specs.declared.View.{View}
use Rattle.fall_stages.proofs.Steps.{Course, settled, gated, overflowed, served, course, committed_step}

-- what a running fall in mode 0 sees
record Inside (v : View) : Type 0 where
  pub hblank : v.in_hblank ≡ true
  pub running : v.cpu_halted ≡ false

-- a new pend needs taken clear
no_pend : (c : Bool) (v : View) (x : VramDma) → x.block.taken ≡ true → (pend_of c v x).arb.pend ≡ false
unfolding pend_of pend_arb
no_pend c v x e = let q : pends c v x ≡ false = rw (e, and-false) in rw q

pend_taken : (c : Bool) (v : View) (x : VramDma) → (pend_of c v x).block.taken ≡ x.block.taken
unfolding pend_of
pend_taken c v x = refl

module _ (v : View) (h : Inside v) (d : VramDma) (k : Spent d) where
  started : Spent (started_of v d)
  unfolding started_of halt_latch_of halt_latch_arb dropped_block probation_of judged_block ungranted_arb observed_of observed_arb
  started = record { taken = rw (h.hblank, h.running, k.taken); pend = rw (h.running, k.pend) }

  blinded : Spent (blinds_of v d)
  unfolding blinds_of blinds_arb
  blinded = record { taken = rw k.taken; pend = k.pend }

  no_commit : commits v d ≡ false
  no_commit = rw k.pend

  kept : (tenure_of v (commit_of false v d)).block.taken ≡ true
  unfolding tenure_of commit_of commit_block
  kept = rw k.taken

  -- no commit, and none of the stages after it clears taken or pends
  served_spent : Spent (served_of false v d)
  unfolding served_of seizure_of seized_block refilled_of readiness_of readied_block
  served_spent =
      record { taken = pend_taken false v (tenure_of v (commit_of false v d)) ∙ kept; pend = no_pend false v (tenure_of v (commit_of false v d)) kept }

module _ (i : FallInput) (double : Bool) (d : VramDma) (r : Running true i) where
  sees : Inside (view_of i double d)
  unfolding view_of
  sees = record { hblank = r.place; running = r.running }

  -- a spent period stays spent, and commits nothing
  pub spent_step : Course i double d → Spent d → ((fall_of i double d).claim.committed ≡ false) × Spent (fall_of i double d).dma
  unfolding settled_of
  spent_step (settled p e) k = rw e (refl, record { taken = rw k.taken r.place; pend = k.pend })
  spent_step (gated p g e) k = absurd (false≢true (sym (rw (r.running, r.going)) ∙ g))
  spent_step (overflowed p g o e) k = rw e (refl, k)
  spent_step (served p g o e) k =
      let w : View = view_of i double d in
      let x : VramDma = blinds_of w (started_of w d) in
      let b : Spent x = blinded w sees (started_of w d) (started w sees d k) in
      let n : commits w x ≡ false = no_commit w sees x b in
      rw (e, n) (refl, served_spent w sees x b)

-- a commit spends the period
pub commit_spends : (i : FallInput) (double : Bool) (d : VramDma) → (fall_of i double d).claim.committed ≡ true → Spent (fall_of i double d).dma
commit_spends i double d c = record { taken = (committed_step i double d c).1; pend = (committed_step i double d c).3 }

-- what comes between keeps a spent period spent
pub kept_spent : {d e : VramDma} → Between d e → Spent d → Spent e
kept_spent b k = record { taken = b.taken k.taken; pend = b.pend k.pend }

pub spends : (i : FallInput) (double : Bool) (d : VramDma) → Spends i double d
spends i double d =
    record {
      commit = commit_spends i double d;
      none = λ r k. (spent_step i double d r (course i double d) k).0;
      stays = λ r k. (spent_step i double d r (course i double d) k).1;
      between = λ e b k. kept_spent b k;
    }

pub spent_none : {d : VramDma} {n : ℕ} → Period d n → Spent d → n ≡ 0
spent_none (over d) k = refl
spent_none (fall i double d n r rest) k =
    let s = spends i double d in
    let z : n ≡ 0 = spent_none rest (s.stays r k) in
    rw (s.none r k) (omega arith)
spent_none (other d e n b rest) k = spent_none rest (kept_spent b k)

one_fall :
    (c : Bool) (i : FallInput) (double : Bool) (d : VramDma) (n : ℕ) → (fall_of i double d).claim.committed ≡ c →
    Period (fall_of i double d).dma n → n ≤ 1 → cond (fall_of i double d).claim.committed 1 0 + n ≤ 1
one_fall true i double d n c rest h = let z : n ≡ 0 = spent_none rest (commit_spends i double d c) in rw c (omega arith)
one_fall false i double d n c rest h = rw c (omega arith)

at_most : {d : VramDma} {n : ℕ} → Period d n → n ≤ 1
at_most (over d) = lit≤ tt
at_most (fall i double d n r rest) = one_fall (fall_of i double d).claim.committed i double d n refl rest (at_most rest)
at_most (other d e n b rest) = at_most rest

pub once_among : OnceAmong
once_among d n period = at_most period

-- what keeps taken and the pend comes between
same : {d e : VramDma} → e.block.taken ≡ d.block.taken → e.arb.pend ≡ d.arb.pend → Between d e
same t p = record { taken = λ h. t ∙ h; pend = λ h. p ∙ h }

pair : (d : VramDma) → Between d (next_byte_of d).dma
unfolding advanced_of block_after arb_after
pair d = next_keeps (Between d) d (same refl refl) (same refl refl)

-- a drain's pair starts from the quota 1, which is no part of it
drain : (d : VramDma) → Between d (drain_of d).dma
unfolding advanced_of block_after arb_after
drain d = drain_keeps (Between d) d (same refl refl) (same refl refl) (same refl refl)

lcd_off : (b : Bool) (d : VramDma) → Between d (cond b (latched_of (unclaimed d)) (unclaimed d))
unfolding latched_of latched_block
lcd_off true d = same refl refl
lcd_off false d = same refl refl

pub other_calls : (d : VramDma) → OtherCalls d
unfolding lcd_disabled_of
other_calls d =
    record {
      pair = pair d;
      drain = drain d;
      lcd_off = lcd_off (latches_dark d) d;
      retired = same refl refl;
      cell = λ cells. same refl refl;
      arbitration = λ oam. same refl refl;
    }

-- a list of falls is such a run, with nothing between
listed : (is : List FallInput) (double : Bool) (d : VramDma) → AllRun is → Period d (commits_in is double d)
listed [] double d a = over d
listed (i ∷ is) double d a =
    let e : VramDma = (fall_of i double d).dma in fall i double d (commits_in is double e) a.0 (listed is double e a.1)

pub once : Once
once is double d a = at_most (listed is double d a)
