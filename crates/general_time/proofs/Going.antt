-- A General transfer on its way: falls and bus calls keep the mode while something is left, and set no set-up cell. Assumes nothing.
use Prim.Native.Nat.{◌<◌, ◌≤◌}
use native.Mathlib.Omega.{arith}
use mathlib.Core.Path.{◌≡◌, refl, sym, ap, subst, ◌∙◌}
use mathlib.Core.Bool.{Bool, true, false, and-false, false≢true}
use mathlib.Core.Logic.{⊎_elim}
use native.Mathlib.Nat.{eq-zero-or-pos}
use borrow.Author.Tests.{le-ltb}
use Rattle.std.specs.Prelude.{None, Ok}
use Rattle.console.specs.Modes.{is_idle, is_hblank}
use Rattle.console.specs.Reached.{unreached, state_refusal}
use Rattle.console.specs.declared.Cgb.{Cgb}
use Rattle.console.specs.declared.vram_dma.TransferCursor.{TransferCursor}
use Rattle.console.specs.declared.vram_dma.TransferMode.{TransferMode}
use Rattle.console.specs.declared.vram_dma.TransferMode.TheVariants as mode
use Rattle.console.specs.declared.vram_dma.VramDma.{VramDma}
use Rattle.console.proofs.Reached as seven
use Rattle.bus.specs.Commit.{setup_stands, bus_taken}
use Rattle.bus.specs.declared.commit.BusInput.{BusInput}
use Rattle.bus.proofs.BusSteps.{bus_steps}
use Rattle.bus.proofs.Taken.{bus_keeps}
use Rattle.transfer.specs.Pair.{moving_of, next_byte_of}
use Rattle.transfer.specs.Questions as transfer
use Rattle.transfer.specs.declared.VramDmaStatus.TheVariants as dma
use Rattle.transfer.specs.declared.pair.NextByte.{NextByte}
use Rattle.transfer.proofs.PairSteps.{pair_steps}
use Rattle.fall_stages.specs.Fall.{view_of, fall_of}
use Rattle.fall_stages.specs.Steps.{commit_test}
use Rattle.fall_stages.specs.declared.FallInput.{FallInput}
use Rattle.fall_stages.proofs.Steps.{fall_steps}
use Rattle.engine.specs.Calls.{asked, engine_status, fallen_state, inside_bus}
use Rattle.ledger.specs.Calls.{Call, Outcome, fall, bus_call, bus_call_inside, BusCall, from_outside, from_inside, step}
use Rattle.ledger.specs.LedgerInput.{accepts}
use Rattle.ledger.proofs.AcceptedOrDeclined.{either_way, accepted_where}
use Rattle.ledger.proofs.General.{mode_of}
use Rattle.general_time.specs.Rounds.{InGeneral}
use Rattle.general_time.specs.GeneralTime.{left}

-- while something is left the mode is General
abbrev pub Going : VramDma → Type 0
Going d = 0 < d.cursor.remaining → d.cursor.mode ≡ mode.General

-- ---- the status
pub in_general : (s : Cgb) → unreached s ≡ false → Going s.vram_dma → 0 < left s → InGeneral s
unfolding asked transfer.status_of state_refusal
in_general s passes going some = record { left = left s; status = rw (passes, going some) }

is_idle_lem : (m : TransferMode) → is_idle m ≡ true → m ≡ mode.Idle
is_idle_lem mode.Idle h = refl
is_idle_lem mode.General h = absurd (false≢true h)
is_idle_lem mode.HBlank h = absurd (false≢true h)

pub in_idle : (s : Cgb) → unreached s ≡ false → left s ≡ 0 → asked s (engine_status s) ≡ Ok dma.Idle
unfolding asked transfer.status_of state_refusal
in_idle s passes none = rw (passes, is_idle_lem s.vram_dma.cursor.mode ((seven.reached s passes).engine.idle none))

pub going_in : (s : Cgb) → InGeneral s → Going s.vram_dma
going_in s g some = mode_of s g.left g.status

-- in status General something is left
pub some_left : (s : Cgb) → unreached s ≡ false → InGeneral s → 0 < left s
some_left s passes g =
    ⊎_elim
    (λ none. absurd (false≢true (sym (ap is_idle (mode_of s g.left g.status)) ∙ (seven.reached s passes).engine.idle none)))
    (λ some. some) (eq-zero-or-pos (left s))

idle_unarmed : (m : TransferMode) → is_idle m ≡ true → is_hblank m ≡ false
idle_unarmed mode.Idle h = refl
idle_unarmed mode.General h = refl
idle_unarmed mode.HBlank h = absurd (false≢true h)

-- over or on its way, it is no HBlank transfer
pub unarmed : (s : Cgb) → unreached s ≡ false → Going s.vram_dma → is_hblank s.vram_dma.cursor.mode ≡ false
unarmed s passes going =
    ⊎_elim (λ none. idle_unarmed s.vram_dma.cursor.mode ((seven.reached s passes).engine.idle none)) (λ some. ap is_hblank (going some))
    (eq-zero-or-pos (left s))

-- ---- a fall
module _ (i : FallInput) (double : Bool) (d : VramDma) where
  fall_going : Going d → Going (fall_of i double d).dma
  fall_going going some =
      let k = (fall_steps i double d).keeps_cursor in
      ap (λ (c : TransferCursor). c.mode) k ∙ going (let e = ap (λ (c : TransferCursor). c.remaining) k in omega (arith, e, some))

  module _ (free : is_hblank d.cursor.mode ≡ false) where
    no_commit : commit_test i double d ≡ false
    unfolding view_of
    no_commit = rw (free, and-false, and-false)

    not_refused : (fall_of i double d).refused ≡ false
    not_refused = (fall_steps i double d).refused_exactly ∙ rw no_commit

    fall_cell : setup_stands d ≡ false → setup_stands (fall_of i double d).dma ≡ false
    fall_cell = (fall_steps i double d).no_cell ((fall_steps i double d).commits_exactly not_refused ∙ no_commit)

module _ (s : Cgb) (i : FallInput) where
  pub fell_going : Going s.vram_dma → Going (step s (fall i)).state.vram_dma
  unfolding fallen_state
  fell_going going =
      either_way s (λ (o : Outcome). Going o.state.vram_dma) (fall i)
      (λ none. fall_going i s.double_speed s.vram_dma going) (λ refused. going)

  pub fell_cell :
      is_hblank s.vram_dma.cursor.mode ≡ false → setup_stands s.vram_dma ≡ false →
      setup_stands (step s (fall i)).state.vram_dma ≡ false
  unfolding fallen_state
  fell_cell free clear =
      either_way s (λ (o : Outcome). setup_stands o.state.vram_dma ≡ false) (fall i)
      (λ none. fall_cell i s.double_speed s.vram_dma free clear) (λ refused. clear)

  -- outside an HBlank transfer no 14 comes
  pub fall_accepted :
      unreached s ≡ false → is_hblank s.vram_dma.cursor.mode ≡ false → i.mode ≤ 3 → accepts (step s (fall i)).reply ≡ true
  fall_accepted passes free mode =
      accepted_where s (fall i) (passes, (le-ltb _ _ mode, (not_refused i s.double_speed s.vram_dma free, tt)))

-- ---- a bus call
pub pair_going : (d : VramDma) → Going d → Going (next_byte_of d).dma
pair_going d going =
    ⊎_elim (λ none. same (pair_steps.no_quota d none)) (λ some. by some (moving_of d) refl) (eq-zero-or-pos d.cursor.quota)
  where
    same : next_byte_of d ≡ record { answer = None; dma = d } → Going (next_byte_of d).dma
    same e = subst (λ (x : NextByte). Going x.dma) (sym e) going

    by : 0 < d.cursor.quota → (m : Bool) → moving_of d ≡ m → Going (next_byte_of d).dma
    by some false m = same (pair_steps.not_moving d m)
    by some true m =
        λ rest.
        let moved = pair_steps.moves d (record { quota = some; moving = m }) in
        (moved.going (λ z. omega (arith, z, rest))).0
        ∙ going (⊎_elim (λ z. absurd (false≢true (sym (pair_steps.never d z) ∙ m))) (λ more. more) (eq-zero-or-pos d.cursor.remaining))

pub bus_going : (i : BusInput) (d : VramDma) → Going d → Going (bus_taken i d).dma
bus_going i d = bus_keeps Going pair_going (λ x cells k. k) i d

module _ (s : Cgb) where
  pub moved_going : {c : Call} {j : BusInput} → BusCall s c j → Going s.vram_dma → Going (step s c).state.vram_dma
  moved_going (from_outside j n) going =
      either_way s (λ (o : Outcome). Going o.state.vram_dma) (bus_call j n) (λ none. bus_going j s.vram_dma going) (λ refused. going)
  moved_going (from_inside j n) going =
      either_way s (λ (o : Outcome). Going o.state.vram_dma) (bus_call_inside j n)
      (λ none. bus_going (inside_bus s j) s.vram_dma going) (λ refused. going)

  pub moved_cell :
      {c : Call} {j : BusInput} → BusCall s c j → setup_stands s.vram_dma ≡ false → setup_stands (step s c).state.vram_dma ≡ false
  moved_cell (from_outside j n) clear =
      either_way s (λ (o : Outcome). setup_stands o.state.vram_dma ≡ false) (bus_call j n)
      (λ none. (bus_steps j s.vram_dma).no_cell clear) (λ refused. clear)
  moved_cell (from_inside j n) clear =
      either_way s (λ (o : Outcome). setup_stands o.state.vram_dma ≡ false) (bus_call_inside j n)
      (λ none. (bus_steps (inside_bus s j) s.vram_dma).no_cell clear) (λ refused. clear)
