-- The engine's counters within their widths: what each step that changes one leaves. Assumes nothing.
use Prim.Native.Nat.{ℕ, zero, suc, ◌<◌, ◌^◌}
use mathlib.Core.Bool.{Bool, true, false, cond, not, ◌&&◌, ◌||◌}
use lib.Dec.{ltb, leb, eqb, lit<}
use Rattle.std.specs.Prelude.{Some, None}
use Rattle.console.specs.Modes.{is_hblank}
use Rattle.console.specs.declared.vram_dma.HaltArbiter.{HaltArbiter}
use Rattle.console.specs.declared.vram_dma.HblankBlock.{HblankBlock}
use Rattle.console.specs.declared.vram_dma.VramDma.{VramDma}
use Rattle.countdown.specs.Countdown.{armed}
use Rattle.bus.specs.Commit.{Taken, after_answer, taken_of, pairs_of, bus_taken}
use Rattle.bus.specs.declared.commit.BusInput.{BusInput}
use Rattle.fall_stages.specs.Fall.{gates, view_of}
use Rattle.fall_stages.specs.Fall.{inert_of, settled_of, observed_arb, observed_of, reverts, judged_block, ungranted_arb}
use Rattle.fall_stages.specs.Fall.{probation_of, joins_halt, dropped_block, halt_latch_arb, halt_latch_of, refilled_of, aged_arb, pended_arb}
use Rattle.fall_stages.specs.Fall.{granted_arb, gated_of, blinds_arb, blinds_of, commits, overflows, drives, precharged, commit_block}
use Rattle.fall_stages.specs.Fall.{commit_arb, commit_of, tenure_arb, tenure_of, pends, pend_arb, pend_of, readied_block, readiness_of}
use Rattle.fall_stages.specs.Fall.{seized_block, seizure_of}
use Rattle.fall_stages.specs.Fall.{started_of, served_of, decided_of, ran_of, fall_of}
use Rattle.fall_stages.specs.declared.FallInput.{FallInput}
use Rattle.fall_stages.specs.declared.Fallen.{Fallen}
use Rattle.fall_stages.specs.declared.View.{View}
use Rattle.hdma.specs.Hdma5 as hdma
use Rattle.hdma.specs.Hdma5.{hdma5_written, armed_of, cancelled_of}
use Rattle.cut.specs.Cut as switch
use Rattle.cut.specs.Cut.{ungranted, cut_of, discarded_of, graded_of, upward_of, engine_after}
use Rattle.transfer.specs.Latch.{latches_dark, latched_block, latched_of, unclaimed, lcd_disabled_of}
use Rattle.transfer.specs.Pair.{NextAnswer, moving_of, block_after, arb_after, advanced_of, with_quota, next_byte_of, drain_of}
use Rattle.transfer.specs.Questions.{seizes_bus}
use Rattle.transfer.specs.declared.pair.NextByte.{NextByte}
use Rattle.ledger.proofs.BusKinds.{of_each}
use Rattle.widths.proofs.Numbers.{pick, saturated, less}

-- the numbers of a block and of the arbiter: a change of another field changes neither type
pub record BlockNumbers (r e c d z : ℕ) : Type 0 where
  pub remaining : r < 256
  pub edge : e < 2 ^ 64
  pub cells : c < 256
  pub ready : d < 256
  pub seized : z < 256

pub record ArbNumbers (f a t b p g : ℕ) : Type 0 where
  pub falls : f < 256
  pub age : a < 256
  pub tenure : t < 256
  pub blind : b < 256
  pub pend_blind : p < 256
  pub granted : g < 256

abbrev pub BlockFits : HblankBlock → Type 0
BlockFits b = BlockNumbers b.remaining b.start_edge b.setup_cells.0 b.ready_in.0 b.seize_falls

abbrev pub ArbFits : HaltArbiter → Type 0
ArbFits a =
    ArbNumbers a.halted_falls a.pend_age a.wake_tenure.0 a.halt_wake_blind.0 a.wake_pend_blind.0
    a.granted_ahead

pub record EngineFits (d : VramDma) : Type 0 where
  pub block : BlockFits d.block
  pub arb : ArbFits d.arb

-- either engine
choose : (b : Bool) (x y : VramDma) → EngineFits x → EngineFits y → EngineFits (cond b x y)
choose true x y p q = p
choose false x y p q = q

-- ---- one number of the block or of the arbiter, the others as they were
module _ (b : HblankBlock) (w : BlockFits b) where
  block_left_lem : (n : ℕ) → n < 256 → BlockNumbers n b.start_edge b.setup_cells.0 b.ready_in.0 b.seize_falls
  block_left_lem n h = record { remaining = h; edge = w.edge; cells = w.cells; ready = w.ready; seized = w.seized }

  block_seized : (n : ℕ) → n < 256 → BlockNumbers b.remaining b.start_edge b.setup_cells.0 b.ready_in.0 n
  block_seized n h = record { remaining = w.remaining; edge = w.edge; cells = w.cells; ready = w.ready; seized = h }

  -- a block of so many bytes, with these cells and readiness
  block_set :
      (n c r : ℕ) → n < 256 → c < 256 → r < 256 → BlockNumbers n b.start_edge c r b.seize_falls
  block_set n c r p q s = record { remaining = p; edge = w.edge; cells = q; ready = s; seized = w.seized }

module _ (a : HaltArbiter) (w : ArbFits a) where
  granted_set :
      (n : ℕ) → n < 256 →
      ArbNumbers a.halted_falls a.pend_age a.wake_tenure.0 a.halt_wake_blind.0 a.wake_pend_blind.0 n
  granted_set n h =
      record { falls = w.falls; age = w.age; tenure = w.tenure; blind = w.blind; pend_blind = w.pend_blind; granted = h }

  age_set :
      (n : ℕ) → n < 256 →
      ArbNumbers a.halted_falls n a.wake_tenure.0 a.halt_wake_blind.0 a.wake_pend_blind.0 a.granted_ahead
  age_set n h =
      record { falls = w.falls; age = h; tenure = w.tenure; blind = w.blind; pend_blind = w.pend_blind; granted = w.granted }

-- ---- the fall's stages
settled : (hblank : Bool) (d : VramDma) → EngineFits d → EngineFits (settled_of hblank d)
unfolding settled_of
settled hblank d f =
    let w = f.arb in
    record {
      block = block_seized d.block f.block 0 (lit< tt);
      arb = record { falls = lit< tt; age = w.age; tenure = w.tenure; blind = w.blind; pend_blind = w.pend_blind; granted = w.granted };
    }

observed : (v : View) (d : VramDma) → EngineFits d → EngineFits (observed_of v d)
unfolding observed_of observed_arb
observed v d f =
    let w = f.arb in
    record {
      block = f.block;
      arb = record {
        falls = pick v.cpu_halted (saturated d.arb.halted_falls) (lit< tt);
        age = w.age;
        tenure = w.tenure;
        blind = woken (v.was_halted && not v.cpu_halted);
        pend_blind = w.pend_blind;
        granted = w.granted;
      };
    }
  where
    woken : (woke : Bool) → (cond woke (armed 3) d.arb.halt_wake_blind).0 < 256
    woken true = lit< tt
    woken false = f.arb.blind

judged : (v : View) (d : VramDma) → EngineFits d → EngineFits (probation_of v d)
unfolding probation_of judged_block ungranted_arb
judged v d f =
    let back = reverts v d.block in
    record {
      block = block_left_lem d.block f.block _ (pick back (lit< tt) f.block.remaining);
      arb = granted_set d.arb f.arb _ (pick back (less _ 256 1 f.arb.granted) f.arb.granted);
    }

halt_latched : (v : View) (d : VramDma) → EngineFits d → EngineFits (halt_latch_of v d)
unfolding halt_latch_of dropped_block halt_latch_arb
halt_latched v d f = record { block = dropped (joins_halt v d.block); arb = joined (joins_halt v d.block) }
  where
    dropped : (joins : Bool) → BlockFits (dropped_block joins d.block)
    dropped true = block_set d.block f.block 0 0 0 (lit< tt) (lit< tt) (lit< tt)
    dropped false = f.block

    joined : (joins : Bool) → ArbFits (halt_latch_arb v.cpu_halted joins d.arb)
    joined true = age_set d.arb f.arb 0 (lit< tt)
    joined false = f.arb

started : (v : View) (d : VramDma) → EngineFits d → EngineFits (started_of v d)
unfolding started_of
started v d f = halt_latched v _ (judged v _ (observed v d f))

refilled : (double : Bool) (d : VramDma) → EngineFits d → EngineFits (refilled_of double d)
unfolding refilled_of
refilled double d f = record { block = f.block; arb = f.arb }

aged : (a : HaltArbiter) → ArbFits a → ArbFits (aged_arb a)
unfolding aged_arb
aged a w = age_set a w _ (pick a.pend (saturated a.pend_age) w.age)

pended : (b : Bool) (a : HaltArbiter) → ArbFits a → ArbFits (pended_arb b a)
unfolding pended_arb
pended true a w = age_set a w 0 (lit< tt)
pended false a w = w

granted : (b : Bool) (a : HaltArbiter) → ArbFits a → ArbFits (granted_arb b a)
unfolding granted_arb
granted b a w = granted_set a w _ (pick b (saturated a.granted_ahead) w.granted)

gated : (v : View) (d : VramDma) → EngineFits d → EngineFits (gated_of v d)
unfolding gated_of
gated v d f = refilled v.double_speed _ (record { block = f.block; arb = granted _ _ (pended _ _ (aged d.arb f.arb)) })

blinds : (v : View) (d : VramDma) → EngineFits d → EngineFits (blinds_of v d)
unfolding blinds_of blinds_arb
blinds v d f =
    let w = f.arb in
    record {
      block = f.block;
      arb = record {
        falls = w.falls;
        age = w.age;
        tenure = w.tenure;
        blind = less _ 256 1 w.blind;
        pend_blind = less _ 256 1 w.pend_blind;
        granted = w.granted;
      };
    }

committed : (b : Bool) (v : View) (d : VramDma) → v.master_edge < 2 ^ 64 → EngineFits d → EngineFits (commit_of b v d)
unfolding commit_of commit_block commit_arb
committed true v d edge f =
    let w = f.arb in
    let charged = precharged v d.arb in
    record {
      block = record {
        remaining = lit< tt;
        edge = edge;
        cells = pick (d.arb.pend_from_arm || charged) (lit< tt) (lit< tt);
        ready = pick charged (lit< tt) (lit< tt);
        seized = f.block.seized;
      };
      arb = record {
        falls = w.falls;
        age = w.age;
        tenure = driven (drives v d.arb);
        blind = w.blind;
        pend_blind = w.pend_blind;
        granted = pick (not d.arb.grant_counted) (saturated d.arb.granted_ahead) w.granted;
      };
    }
  where
    driven : (b : Bool) → (cond b (armed 36) d.arb.wake_tenure).0 < 256
    driven true = lit< tt
    driven false = f.arb.tenure
committed false v d edge f = record { block = f.block; arb = f.arb }

tenured : (v : View) (d : VramDma) → EngineFits d → EngineFits (tenure_of v d)
unfolding tenure_of tenure_arb
tenured v d f =
    let w = f.arb in
    record {
      block = f.block;
      arb = record {
        falls = w.falls;
        age = w.age;
        tenure = less _ 256 1 w.tenure;
        blind = w.blind;
        pend_blind = w.pend_blind;
        granted = w.granted;
      };
    }

newly_pended : (b : Bool) (v : View) (d : VramDma) → EngineFits d → EngineFits (pend_of b v d)
unfolding pend_of pend_arb
newly_pended b v d f = record { block = f.block; arb = by (pends b v d) }
  where
    by : (p : Bool) → ArbFits (pend_arb p d.arb)
    by true = age_set d.arb f.arb 0 (lit< tt)
    by false = f.arb

readied : (double : Bool) (d : VramDma) → EngineFits d → EngineFits (readiness_of double d)
unfolding readiness_of readied_block
readied double d f =
    let w = f.block in
    record {
      block = record { remaining = w.remaining; edge = w.edge; cells = w.cells; ready = less _ 256 1 w.ready; seized = w.seized };
      arb = f.arb;
    }

seized : (d : VramDma) → EngineFits d → EngineFits (seizure_of d)
unfolding seizure_of seized_block
seized d f =
    record {
      block = block_seized d.block f.block _ (pick (seizes_bus d) (saturated d.block.seize_falls) (lit< tt));
      arb = f.arb;
    }

served : (b : Bool) (v : View) (d : VramDma) → v.master_edge < 2 ^ 64 → EngineFits d → EngineFits (served_of b v d)
unfolding served_of
served b v d edge f =
    seized _ (refilled v.double_speed _ (readied v.double_speed _ (newly_pended b v _ (tenured v _ (committed b v d edge f)))))

either_fallen : (b : Bool) (x y : Fallen) → EngineFits x.dma → EngineFits y.dma → EngineFits (cond b x y).dma
either_fallen true x y p q = p
either_fallen false x y p q = q

decided : (v : View) (given d : VramDma) → v.master_edge < 2 ^ 64 → EngineFits given → EngineFits d → EngineFits (decided_of v given d).dma
unfolding decided_of
decided v given d edge g f = either_fallen (overflows v d) _ _ g (served (commits v d) v d edge f)

ran : (gate : Bool) (v : View) (d : VramDma) → v.master_edge < 2 ^ 64 → EngineFits d → EngineFits (ran_of gate v d).dma
unfolding ran_of
ran gate v d edge f =
    let g = started v d f in either_fallen gate _ _ (gated v (started_of v d) g) (decided v d _ edge f (blinds v (started_of v d) g))

-- a fall, refused or not
pub fall_fits :
    (i : FallInput) (double : Bool) (d : VramDma) → i.master_edge < 2 ^ 64 → EngineFits d → EngineFits (fall_of i double d).dma
unfolding fall_of view_of
fall_fits i double d edge f =
    either_fallen (inert_of d && not i.halted && not i.stopped) _ _ (settled (eqb i.mode 0) d f)
    (ran (gates i) (view_of i double d) d edge f)

-- ---- pairs
advanced : (d : VramDma) → EngineFits d → EngineFits (advanced_of d)
unfolding advanced_of block_after arb_after
advanced d f =
    record {
      block = block_left_lem d.block f.block _ (less _ 256 1 f.block.remaining);
      arb = granted_set d.arb f.arb _ (pick (eqb d.block.remaining 1) (less _ 256 1 f.arb.granted) f.arb.granted);
    }

either_next : (b : Bool) (x y : NextByte) → EngineFits x.dma → EngineFits y.dma → EngineFits (cond b x y).dma
either_next true x y p q = p
either_next false x y p q = q

pub next_fits : (d : VramDma) → EngineFits d → EngineFits (next_byte_of d).dma
unfolding next_byte_of
next_fits d f = either_next (ltb 0 d.cursor.quota && moving_of d) _ _ (advanced d f) f

pub drain_fits : (d : VramDma) → EngineFits d → EngineFits (drain_of d).dma
unfolding drain_of
drain_fits d f =
    either_next (d.cursor.escape_byte && moving_of d) _ _ (next_fits (with_quota 1 d) (record { block = f.block; arb = f.arb })) f

taken : (n : ℕ) (d : VramDma) → EngineFits d → EngineFits (taken_of n d).dma
unfolding taken_of
taken zero d f = f
taken (suc n) d f = by (next_byte_of d).answer (taken n (next_byte_of d).dma (next_fits d f))
  where
    by :
        (a : NextAnswer) → EngineFits (taken_of n (next_byte_of d).dma).dma →
        EngineFits (after_answer d a (taken_of n (next_byte_of d).dma)).dma
    by (Some (p, k)) more = more
    by None more = f

pub bus_fits : (i : BusInput) (d : VramDma) → EngineFits d → EngineFits (bus_taken i d).dma
unfolding pairs_of
bus_fits i d f =
    let w = f.block in
    of_each (λ (t : Taken). EngineFits t.dma) i d f
    (record {
      block = record { remaining = w.remaining; edge = w.edge; cells = less _ 256 1 w.cells; ready = w.ready; seized = w.seized };
      arb = f.arb;
    })
    (taken d.cursor.quota d f)

-- ---- the latch, LCD off, FF55
latched : (d : VramDma) → EngineFits d → EngineFits (latched_of d)
unfolding latched_of latched_block
latched d f = record { block = block_set d.block f.block 16 0 2 (lit< tt) (lit< tt) (lit< tt); arb = f.arb }

pub lcd_fits : (d : VramDma) → EngineFits d → EngineFits (lcd_disabled_of d)
unfolding lcd_disabled_of
lcd_fits d f =
    let g : EngineFits (unclaimed d) = record { block = f.block; arb = f.arb } in
    choose (latches_dark d) _ _ (latched (unclaimed d) g) g

pub hdma5_fits : (v : ℕ) (lcd : Bool) (d : VramDma) → EngineFits d → EngineFits (hdma5_written v lcd d)
unfolding hdma5_written armed_of cancelled_of hdma.general_started
hdma5_fits v lcd d f =
    let ungranted = granted_set d.arb f.arb 0 (lit< tt) in
    choose (leb 128 v) _ _
    (choose lcd _ _ (record { block = f.block; arb = ungranted }) (latched _ (record { block = f.block; arb = ungranted })))
    (choose (is_hblank d.cursor.mode) _ _ (record { block = f.block; arb = ungranted }) (record { block = f.block; arb = ungranted }))

-- ---- the switch
graded : (d : VramDma) → EngineFits d → EngineFits (graded_of d)
unfolding graded_of cut_of discarded_of ungranted
graded d f =
    let less-granted = granted_set d.arb f.arb _ (less _ 256 1 f.arb.granted) in
    choose (ltb 0 d.block.remaining) _ _
    (choose (switch.ready_block d) _ _
    (record { block = block_left_lem d.block f.block 1 (lit< tt); arb = less-granted })
    (record { block = block_set d.block f.block 0 0 0 (lit< tt) (lit< tt) (lit< tt); arb = less-granted }))
    f

pub switch_fits : (up : Bool) (d : VramDma) → EngineFits d → EngineFits (engine_after up d)
unfolding engine_after upward_of
switch_fits true d f =
    let g = graded d f in
    let w = g.arb in
    record {
      block = g.block;
      arb = record { falls = w.falls; age = w.age; tenure = w.tenure; blind = w.blind; pend_blind = lit< tt; granted = w.granted };
    }
switch_fits false d f = f
