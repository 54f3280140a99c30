-- A General transfer, one pair at a time: a fall in mode 3, then a next pair. Assumes nothing.
use Prim.Native.Nat.{ℕ, zero, suc, ◌+◌, ◌-◌, ◌<◌}
use native.Mathlib.Omega.{arith}
use mathlib.Core.Path.{◌≡◌, refl, sym, ap, subst, ◌∙◌}
use mathlib.Core.Bool.{Bool, true, false}
use mathlib.Core.List.{[], ◌∷◌}
use lib.Dec.{lit<, lit≤}
use Rattle.console.specs.Modes.{is_hblank}
use Rattle.console.specs.Set.{with_vram_dma}
use Rattle.console.specs.declared.Cgb.{Cgb}
use Rattle.console.specs.declared.vram_dma.TransferMode.TheVariants as mode
use Rattle.bus.specs.Commit.{setup_stands}
use Rattle.fall_stages.specs.declared.FallInput.{FallInput}
use Rattle.fall_stages.proofs.Refills.{general_moves}
use Rattle.transfer.specs.Pair.{moving_of, quota_of, pair_of, next_byte_of}
use Rattle.transfer.specs.PairSteps as pair
use Rattle.transfer.proofs.PairSteps.{pair_steps}
use Rattle.ledger.specs.LedgerInput.{accepts}
use Rattle.ledger.specs.Ledger.{Ledger, after_pair, after_pairs, after_call}
use Rattle.ledger.specs.Calls.{Outcome, fall, next_pair, step, ledger_input}
use Rattle.ledger.specs.Demand3.{History, then, RunsTo, Standing, running, enters, ledger_of, accepted_fall}
use Rattle.ledger.proofs.AcceptedOrDeclined as answer
use Rattle.ledger.proofs.AcceptedOrDeclined.{accepted, accepted_where}
use Rattle.ledger.proofs.Theorem.{invariant, fresh, demand3}
use Rattle.general_time.specs.Instances.{cgb_mode}
use Rattle.general_time.specs.GeneralTime.{left}
use Rattle.general_time.proofs.Behind.{Goes, goes}
use Rattle.general_time.proofs.Going.{Going, fell_going, fell_cell, fall_accepted, pair_going}
use Rattle.general_time.proofs.Rounds.{fall_ledger, fall_speed}
use Rattle.general_time.proofs.Ready.{event, on, Ready}

-- ---- a pair at a time: a fall in mode 3 and a next pair
abbrev pub in_mode_3 : FallInput
in_mode_3 = record { mode = 3; halted = false; irq_latched = false; stopped = false; master_edge = 0; oam_owns_bus = false }

-- a General transfer under way, with this destination register and this much left
pub record UnderWay (double : Bool) (dest left : ℕ) : Type 0 where
  pub history : History
  pub state : Cgb
  pub ledger : Ledger
  pub ready : Ready history state ledger double
  pub general : state.vram_dma.cursor.mode ≡ mode.General
  pub dest_is : ledger.dest ≡ dest
  pub left_is : ledger.left ≡ left

module _
    {h : History} {s : Cgb} {l : Ledger} {double : Bool} (r : Ready h s l double) (general : s.vram_dma.cursor.mode ≡ mode.General)
    (some : 1 < l.left) (room : l.dest + 1 < 65536) where
  abbrev s1 : Cgb
  s1 = (step s (fall in_mode_3)).state

  abbrev h1 : History
  h1 = then h (event s (fall in_mode_3))

  r1 : RunsTo h1 s1
  r1 = on r.runs (fall in_mode_3)

  stands1 : ledger_of h1 ≡ running cgb_mode l
  stands1 = fall_ledger h (event s (fall in_mode_3)) in_mode_3 s1 refl r1 cgb_mode l r.stands

  left1 : left s1 ≡ l.left
  left1 = demand3.same_left h1 s1 r1 cgb_mode l stands1

  going1 : Going s1.vram_dma
  going1 = fell_going s in_mode_3 (λ more. general)

  general1 : s1.vram_dma.cursor.mode ≡ mode.General
  general1 = going1 (omega (arith, left1, some))

  fell1 : accepted_fall (event s (fall in_mode_3)) ≡ true
  unfolding ledger_input
  fell1 = rw (fall_accepted s in_mode_3 (invariant r.runs).reached r.unarmed (lit≤ tt))

  moves1 : moving_of s1.vram_dma ≡ true
  moves1 = general_moves s1.vram_dma general1 (omega (arith, left1, some))

  some_quota : (double : Bool) → 0 < quota_of true double
  some_quota true = lit< tt
  some_quota false = lit< tt

  quota1 : 0 < s1.vram_dma.cursor.quota
  quota1 =
      let full = fresh h (event s (fall in_mode_3)) s1 r1 fell1 ∙ ap (λ (m : Bool). quota_of m s1.double_speed) moves1 in
      let more = some_quota s1.double_speed in
      omega (arith, full, more)

  ready1 : pair.Ready s1.vram_dma
  ready1 = record { quota = quota1; moving = moves1 }

  abbrev s2 : Cgb
  s2 = (step s1 next_pair).state

  abbrev h2 : History
  h2 = then h1 (event s1 next_pair)

  r2 : RunsTo h2 s2
  r2 = on r1 next_pair

  ok2 : accepts (step s1 next_pair).reply ≡ true
  ok2 = accepted_where s1 next_pair ((invariant r1).reached, tt)

  pairs2 : (step s1 next_pair).reply.pairs ≡ pair_of s1.vram_dma.cursor ∷ []
  pairs2 =
      ap (λ (o : Outcome). o.reply.pairs) (accepted s1 next_pair ok2).1
      ∙ ap answer.pair_of (pair_steps.gives s1.vram_dma ready1)

  state2 : s2 ≡ with_vram_dma (next_byte_of s1.vram_dma).dma s1
  state2 = ap (λ (o : Outcome). o.state) (accepted s1 next_pair ok2).1

  stands2 : ledger_of h2 ≡ running cgb_mode (after_pair l)
  unfolding ledger_of after_call after_pairs ledger_input
  stands2 = ap (λ (x : Standing). enters x (event s1 next_pair)) stands1 ∙ ap (running cgb_mode) (rw (ok2, pairs2))

  after : Goes l (after_pair l)
  after = goes l r.unowed

  on2 : ((after_pair l).dest ≡ l.dest + 1) × ((after_pair l).left ≡ l.left - 1)
  on2 = after.on (λ at. omega (arith, at, room))

  general2 : s2.vram_dma.cursor.mode ≡ mode.General
  general2 =
      let same = demand3.same_left h2 s2 r2 cgb_mode (after_pair l) stands2 in
      let fell = on2.1 in
      subst (λ (x : Cgb). Going x.vram_dma) (sym state2) (pair_going s1.vram_dma going1) (omega (arith, same, fell, some))

  one_pair : UnderWay double (l.dest + 1) (l.left - 1)
  one_pair =
      let moved = pair_steps.moves s1.vram_dma ready1 in
      record {
        history = h2;
        state = s2;
        ledger = after_pair l;
        ready = record {
          runs = r2;
          stands = stands2;
          unowed = after.unowed;
          speed = ap (λ (x : Cgb). x.double_speed) state2 ∙ fall_speed s in_mode_3 ∙ r.speed;
          unarmed = ap is_hblank general2;
          clear =
              ap (λ (x : Cgb). setup_stands x.vram_dma) state2
              ∙ ap setup_stands moved.rest
              ∙ fell_cell s in_mode_3 r.unarmed r.clear;
        };
        general = general2;
        dest_is = on2.0;
        left_is = on2.1;
      }

-- n of them
pub pairs_taken :
    (double : Bool) (dest left : ℕ) → UnderWay double dest left → (n : ℕ) → n < left → dest + n < 65536 → UnderWay double (dest + n) (left - n)
pairs_taken double dest left u zero some room =
    subst (λ (x : ℕ). UnderWay double x (left - 0)) (omega arith) (subst (λ (x : ℕ). UnderWay double dest x) (omega arith) u)
pairs_taken double dest left u (suc n) some room =
    let before : UnderWay double (dest + n) (left - n) = pairs_taken double dest left u n (omega (arith, some)) (omega (arith, room)) in
    let d = before.dest_is in
    let l = before.left_is in
    let x = one_pair before.ready before.general (omega (arith, l, some)) (omega (arith, d, room)) in
    let dest' : before.ledger.dest + 1 ≡ dest + suc n = omega (arith, d) in
    let left' : before.ledger.left - 1 ≡ left - suc n = omega (arith, l) in
    subst (λ (y : ℕ). UnderWay double y (left - suc n)) dest' (subst (λ (y : ℕ). UnderWay double (before.ledger.dest + 1) y) left' x)
