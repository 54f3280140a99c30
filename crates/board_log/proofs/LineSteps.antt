-- The numbers of a replay's line (specs, `LineSteps`). Assumes nothing.
use Prim.Native.Nat.{ℕ, suc}
use mathlib.Core.Path.{◌≡◌, refl, sym, ap, ◌∙◌}
use mathlib.Core.Bool.{Bool, true, false, not, ◌&&◌, false≢true}
use mathlib.Core.List.{List, []}
use mathlib.Core.Logic.{inl, inr}
use native.Mathlib.Omega.{arith}
use lib.Dec.{eqb}
use lib.ListN.{get_or}
use borrow.Author.Tests.{eq-eqb}
use Rattle.console.specs.declared.Cgb.{Cgb}
use Rattle.perform.specs.Record.{record_performed}
use Rattle.perform.proofs.Declined.{declined_call}
use Rattle.std.proofs.Common.{Option, Some, None}
use Rattle.call.specs.declared.Call.{Call}
use Rattle.told.specs.declared.Told.{Told}
use Rattle.replay_step.specs.Record.{record_at_start}
use Rattle.replay_step.specs.Step.{hands_pair, line_of, pair_line_of, told_pair, step_of}
use Rattle.board_log.specs.OwnLog.{ReplayPoint, record_step, LineSteps}

-- a declined call told no pair
none_told :
    (s : Cgb) (wram : List ℕ) (k : Option Call) → let told = (record_performed s k [] wram [] []).told in (told.refusal ≡ 0 → ⊥) → get_or told.values 0 0 ≡ 0
unfolding record_performed
none_told s wram (Some c) refused = ap (λ (t : Told). get_or t.values 0 0) (declined_call s wram [] [] c [] refused).number_alone
none_told s wram None refused = refl

by_told :
    (refusal : ℕ) (hands : Bool) (told : Told) (s : Cgb) (came : Bool) → (hands && not (eqb (get_or told.values 0 0) 0)) ≡ came →
    ((refusal ≡ 0 → ⊥) → get_or told.values 0 0 ≡ 0) → LineSteps (pair_line_of refusal (told_pair hands told) s).line
unfolding told_pair pair_line_of line_of
by_told refusal hands told s true e none =
    rw (e)
    (record {
      one = inr refl;
      none = λ h. absurd (one_not_zero 0 h);
      refused = λ h. absurd (false≢true (sym (pair_not hands (none h)) ∙ e));
    })
  where
    one_not_zero : (n : ℕ) → suc n ≡ 0 → ⊥
    one_not_zero n h = omega (arith, h)

    pair_not : (b : Bool) → get_or told.values 0 0 ≡ 0 → (b && not (eqb (get_or told.values 0 0) 0)) ≡ false
    pair_not true z = ap not (eq-eqb (get_or told.values 0 0) 0 z)
    pair_not false z = refl
by_told refusal hands told s false e none = rw (e) (record { one = inl refl; none = λ _. (refl, refl); refused = λ _. refl })

pub line_steps : (s : ReplayPoint) (bytes : List ℕ) → LineSteps (record_step s bytes).line
unfolding record_step step_of
line_steps s bytes =
    let e = record_at_start bytes in
    let told = (record_performed s.state e [] s.wram [] []).told in
    by_told told.refusal (hands_pair e) told _ (hands_pair e && not (eqb (get_or told.values 0 0) 0)) refl (none_told s.state s.wram e)
