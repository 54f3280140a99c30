-- Each call is accepted, with what it then gives, or declined, with the number of the first reason that holds and the state as
-- before; "accepted" taken apart once for all calls. Assumes nothing.
use Prim.Native.Nat.{ℕ}
use native.Mathlib.Omega.{arith}
use mathlib.Core.Path.{◌≡◌, refl, sym, ap, subst, ◌∙◌}
use mathlib.Core.Bool.{Bool, true, false, not, false≢true}
use mathlib.Core.List.{List, [], ◌∷◌}
use lib.Dec.{eqb, ltb}
use Rattle.std.proofs.Common.{Option, Some, None}
use Rattle.console.specs.Reached.{unreached, state_refusal}
use Rattle.console.specs.Refusals.{Reason, ◌⇒◌, first_of, number_of, answered, kept}
use Rattle.console.specs.Set.{with_vram_dma, with_dma_oam, with_switch_relock_debit, with_object_dma}
use Rattle.console.specs.declared.Cgb.{Cgb}
use Rattle.console.specs.declared.VramDmaClaim.{VramDmaClaim}
use Rattle.console.specs.declared.refusal.Refusal.{Refusal}
use Rattle.console.specs.declared.refusal.Refusal.TheVariants.{Mode, Length, Phase, Address, Held, State, Blackout, Unarmed, Deferred, Granted, Page}
use Rattle.console.proofs.Refusals as refusals
use Rattle.console.proofs.Refusals.{NoneHolds, without, some_number, none_holds, never_first}
use Rattle.memory.specs.Lengths.{wram_length, wrong_length}
use Rattle.bus.specs.declared.arbitration.ArbitrationInput.{ArbitrationInput}
use Rattle.bus.specs.declared.commit.BusInput.{BusInput}
use Rattle.fall_stages.specs.declared.FallInput.{FallInput}
use Rattle.registers.specs.Map.{Place, place_of, readable, writable}
use Rattle.map_write.specs.Write.{map_write_of}
use Rattle.blackout.specs.Blackout.{drained_of, woken_of, blackout_active}
use Rattle.speed_switch.specs.Switch.{switched_of}
use Rattle.speed_switch.specs.declared.switch.SwitchInput.{SwitchInput}
use Rattle.cut.specs.declared.SwitchOutcome.{SwitchOutcome}
use Rattle.cut.specs.declared.SwitchOutcome.TheVariants as switch
use Rattle.transfer.specs.Latch.{lcd_disabled_of, retired_of}
use Rattle.transfer.specs.Pair.{NextAnswer, next_byte_of, drain_of}
use Rattle.transfer.specs.declared.pair.BytePair.{BytePair}
use Rattle.transfer.specs.declared.pair.Cause.{Cause}
use Rattle.transfer.specs.declared.pair.NextByte.{NextByte}
use Rattle.engine.specs.Calls.{page_above, read_refusal, write_refusal, access_refusal, write_of, fallen, fall_refusal, fallen_state, fall_call_of}
use Rattle.engine.specs.Calls.{Lengths, next_pair_of, taken_in, wrong_lengths, bus_refusal, bus_pairs, bus_causes, bus_state}
use Rattle.engine.specs.Calls.{arbitrated, arbitration_call_of, asked, conflict_found}
use Rattle.engine.specs.Calls.{defers, switch_refusal, switch_call_of, blackout_call_of, wake_call_of, escape_drain_of, lcd_call_of, retired_call_of}
use Rattle.engine.specs.Calls.{inside_arbitration, inside_bus, cycle_refusal, after_cycle, cycle_state}
use Rattle.answers.specs.Answers.{Said, says, outcome, done_values, flag_values, arbitration_values, conflict_values}
use Rattle.ask.proofs.Asked.{asked_said}
use Rattle.ledger.specs.LedgerInput.{accepts}
use Rattle.ledger.specs.Calls
use Rattle.ledger.specs.Calls.{Call, Query, Outcome, handing, plain, of_outcome, of_fell, of_handed, of_switched, step}

-- what an accepted call gives
pub record Given : Type 0 where
  pub pairs : List BytePair
  pub cut : Bool
  pub committed : Bool
  pub causes : List Cause
  pub state : Cgb

abbrev pub quiet : Cgb → Given
quiet s = record { pairs = []; cut = false; committed = false; causes = []; state = s }

abbrev pub giving : List BytePair → List Cause → Cgb → Given
giving pairs causes s = record { pairs = pairs; cut = false; committed = false; causes = causes; state = s }

abbrev pub accepting : Given → Outcome
accepting g =
    record {
      reply = record { number = 0; pairs = g.pairs; cut = g.cut; committed = g.committed; causes = g.causes };
      state = g.state;
    }

-- declined, with this refusal's number
abbrev pub declined : Option Refusal → Cgb → Outcome
declined k s = record { reply = handing (number_of k) [] []; state = s }

-- accepted where there is no refusal
unfoldable pub decided : Option Refusal → Cgb → Given → Outcome
decided None s g = accepting g
decided (Some r) s g = declined (Some r) s

-- a refused call is not accepted
refuses : (x : Outcome) (r : Refusal) (s : Cgb) → x ≡ declined (Some r) s → accepts x.reply ≡ false
refuses x r s is = ap (λ (o : Outcome). accepts o.reply) is ∙ some_number r

-- accepted, taken apart: it has no refusal, and gives what an accepted call gives
pub accepted_is :
    (x : Outcome) (k : Option Refusal) (s : Cgb) (g : Given) → x ≡ decided k s g → accepts x.reply ≡ true → (k ≡ None) × (x ≡ accepting g)
unfolding decided
accepted_is x None s g is accepted = (refl, is)
accepted_is x (Some r) s g is accepted = absurd (false≢true (sym (refuses x r s is) ∙ accepted))

-- declined, taken apart: the number, no pair, and the state as before
pub declined_is : (x : Outcome) (k : Option Refusal) (s : Cgb) (g : Given) → x ≡ decided k s g → accepts x.reply ≡ false → x ≡ declined k s
unfolding decided
declined_is x None s g is refused = absurd (false≢true (sym refused ∙ ap (λ (o : Outcome). accepts o.reply) is))
declined_is x (Some r) s g is refused = is

-- either way its number is k's
pub number_is : (x : Outcome) (k : Option Refusal) (s : Cgb) (g : Given) → x ≡ decided k s g → x.reply.number ≡ number_of k
unfolding decided
number_is x None s g is = ap (λ (o : Outcome). o.reply.number) is
number_is x (Some r) s g is = ap (λ (o : Outcome). o.reply.number) is

-- the pair of an answer with its cause, and whether an outcome is a cut
abbrev pub pair_of : NextAnswer → List BytePair
pair_of (Some (p, k)) = p ∷ []
pair_of None = []

abbrev pub cause_of : NextAnswer → List Cause
cause_of (Some (p, k)) = k ∷ []
cause_of None = []

abbrev pub cuts : SwitchOutcome → Bool
cuts switch.None = false
cuts switch.Discarded = false
cuts switch.Cut = true

abbrev pub committing : Bool → Cgb → Given
committing committed s = record { pairs = []; cut = false; committed = committed; causes = []; state = s }

abbrev pub cutting : Bool → Cgb → Given
cutting cut s = record { pairs = []; cut = cut; committed = false; causes = []; state = s }

-- ---- each kind of call, by its refusal: s in front of it, t after it where it is accepted
by_value :
    {A : Type 0} (values : A → List ℕ) (k : Option Refusal) (s : Cgb) (value : A) (t : Cgb) →
    of_outcome values (outcome k s value t) ≡ decided k s (quiet t)
unfolding decided
by_value values None s value t = refl
by_value values (Some r) s value t = refl

by_claim : (k : Option Refusal) (s : Cgb) (c : VramDmaClaim) (t : Cgb) → of_fell (outcome k s c t) ≡ decided k s (committing c.committed t)
unfolding decided
by_claim None s c t = refl
by_claim (Some r) s c t = refl

by_pair : (k : Option Refusal) (s : Cgb) (a : NextAnswer) (t : Cgb) → of_handed (outcome k s a t) ≡ decided k s (giving (pair_of a) (cause_of a) t)
unfolding decided
by_pair None s (Some (p, j)) t = refl
by_pair None s None t = refl
by_pair (Some r) s a t = refl

by_switch : (k : Option Refusal) (s : Cgb) (o : SwitchOutcome) (t : Cgb) → of_switched (outcome k s o t) ≡ decided k s (cutting (cuts o) t)
unfolding decided
by_switch None s switch.None t = refl
by_switch None s switch.Discarded t = refl
by_switch None s switch.Cut t = refl
by_switch (Some r) s o t = refl

by_pairs :
    (k : Option Refusal) (ps : List BytePair) (ks : List Cause) (s t : Cgb) →
    ◌≡◌ {A = Outcome} (record { reply = handing (number_of k) (kept k [] ps) (kept k [] ks); state = kept k s t }) (decided k s (giving ps ks t))
unfolding decided
by_pairs None ps ks s t = refl
by_pairs (Some r) ps ks s t = refl

-- a number, and another state where there is none
by_state : (k : Option Refusal) (s t : Cgb) → ◌≡◌ {A = Outcome} (record { reply = handing (number_of k) [] []; state = kept k s t }) (decided k s (quiet t))
unfolding decided
by_state None s t = refl
by_state (Some r) s t = refl

-- a number alone
by_number : (k : Option Refusal) (s : Cgb) → declined k s ≡ decided k s (quiet s)
unfolding decided
by_number None s = refl
by_number (Some r) s = refl

by_query : {A : Type 0} (values : A → List ℕ) (k : Option Refusal) (value : A) (s : Cgb) → plain (says values (answered k value)) s ≡ decided k s (quiet s)
unfolding decided
by_query values None value s = refl
by_query values (Some r) value s = refl

-- the reasons to decline a call besides 7, which comes first
abbrev pub access_reasons : (Place → Bool) → List Reason → ℕ → ℕ → List Reason
access_reasons map more n a = (wrong_length wram_length n ⇒ Length) ∷ (not (map (place_of a)) ⇒ Address) ∷ more

abbrev pub length_reasons : Lengths → List Reason
length_reasons n = (wrong_lengths n.cartridge n.wram n.vram n.oam ⇒ Length) ∷ []

abbrev pub fall_reasons : Cgb → FallInput → List Reason
fall_reasons s i = (ltb 3 i.mode ⇒ Mode) ∷ ((fallen s i).refused ⇒ Granted) ∷ []

abbrev pub switch_reasons : Cgb → SwitchInput → List Reason
switch_reasons s i =
    (ltb 4 i.dot_phase ⇒ Phase) ∷
    (i.hold ⇒ Held) ∷
    (blackout_active s.speed_switch_blackout ⇒ Blackout) ∷
    (not s.key1_armed ⇒ Unarmed) ∷
    (defers s ⇒ Deferred) ∷ []

abbrev pub reasons_of : Cgb → Call → List Reason
reasons_of s (Calls.write a w n byte) = access_reasons writable ((page_above w.value a ⇒ Page) ∷ []) n a
reasons_of s (Calls.read a n) = access_reasons readable [] n a
reasons_of s (Calls.fall i) = fall_reasons s i
reasons_of s Calls.next_pair = []
reasons_of s Calls.escape_drain = []
reasons_of s (Calls.bus_call i n) = length_reasons n
reasons_of s (Calls.switch_speed i) = switch_reasons s i
reasons_of s Calls.lcd_off = []
reasons_of s Calls.retired = []
reasons_of s (Calls.blackout elapsed) = []
reasons_of s (Calls.wake boundary) = []
reasons_of s (Calls.arbitrate i) = []
reasons_of s (Calls.conflict a) = []
reasons_of s (Calls.query q) = []
reasons_of s (Calls.arbitrate_inside i) = []
reasons_of s (Calls.bus_call_inside i n) = length_reasons n
reasons_of s (Calls.object_dma_cycle a n) = length_reasons n

abbrev pub refusal_of : Cgb → Call → Option Refusal
refusal_of s c = first_of ((unreached s ⇒ State) ∷ reasons_of s c)

-- what a bus call gives, of either form, and what arbitration does
abbrev pub bussed : Cgb → BusInput → Given
bussed s i = giving (taken_in s i).pairs (taken_in s i).causes (with_vram_dma (taken_in s i).dma s)

abbrev pub contending : Cgb → ArbitrationInput → Given
contending s i = quiet (with_vram_dma (with_dma_oam (arbitrated s i).oam s.vram_dma) s)

-- what a call gives that hands on what the engine answers
abbrev pub handing_on : Cgb → NextByte → Given
handing_on s n = giving (pair_of n.answer) (cause_of n.answer) (with_vram_dma n.dma s)

-- what it gives where it is accepted
abbrev pub given_by : Cgb → Call → Given
given_by s (Calls.write a w n byte) = quiet (map_write_of s w a).state
given_by s (Calls.read a n) = quiet s
given_by s (Calls.fall i) = committing (fallen s i).claim.committed (fallen_state (fallen s i) s)
given_by s Calls.next_pair = handing_on s (next_byte_of s.vram_dma)
given_by s Calls.escape_drain = handing_on s (drain_of s.vram_dma)
given_by s (Calls.bus_call i n) = bussed s i
given_by s (Calls.switch_speed i) = cutting (cuts (switched_of i s).outcome) (switched_of i s).state
given_by s Calls.lcd_off = quiet (with_vram_dma (lcd_disabled_of s.vram_dma) (with_switch_relock_debit false s))
given_by s Calls.retired = quiet (with_vram_dma (retired_of s.vram_dma) s)
given_by s (Calls.blackout elapsed) = quiet (drained_of elapsed s).state
given_by s (Calls.wake boundary) = quiet (woken_of boundary s).state
given_by s (Calls.arbitrate i) = contending s i
given_by s (Calls.conflict a) = quiet s
given_by s (Calls.query q) = quiet s
given_by s (Calls.arbitrate_inside i) = contending s (inside_arbitration s i)
given_by s (Calls.bus_call_inside i n) = bussed s (inside_bus s i)
given_by s (Calls.object_dma_cycle a n) = quiet (with_object_dma (after_cycle a s.object_dma) s)

-- what the calls compute with: to open one of these is to open all that it names
opens_calls : Unit {0}
unfolding write_of fall_call_of next_pair_of escape_drain_of switch_call_of lcd_call_of retired_call_of blackout_call_of wake_call_of
opens_calls = tt

opens_bus : Unit {0}
unfolding bus_pairs bus_causes bus_state arbitration_call_of asked cycle_state
opens_bus = tt

opens_refusals : Unit {0}
unfolding access_refusal fall_refusal bus_refusal switch_refusal state_refusal
opens_refusals = tt

module _ (s : Cgb) where
  -- every call of H
  pub step_is : (c : Call) → step s c ≡ decided (refusal_of s c) s (given_by s c)
  unfolding step opens_calls opens_bus opens_refusals
  step_is (Calls.write a w n byte) = by_value done_values (write_refusal s w.value n a) s tt _
  step_is (Calls.read a n) = by_number (read_refusal s n a) s
  step_is (Calls.fall i) = by_claim (fall_refusal s i) s (fallen s i).claim _
  step_is Calls.next_pair = by_pair (state_refusal s) s (next_byte_of s.vram_dma).answer _
  step_is Calls.escape_drain = by_pair (state_refusal s) s (drain_of s.vram_dma).answer _
  step_is (Calls.bus_call i n) = by_pairs (bus_refusal s n) (taken_in s i).pairs (taken_in s i).causes s _
  step_is (Calls.switch_speed i) = by_switch (switch_refusal s i) s (switched_of i s).outcome _
  step_is Calls.lcd_off = by_value done_values (state_refusal s) s tt _
  step_is Calls.retired = by_value done_values (state_refusal s) s tt _
  step_is (Calls.blackout elapsed) = by_value flag_values (state_refusal s) s (drained_of elapsed s).flag _
  step_is (Calls.wake boundary) = by_value flag_values (state_refusal s) s (woken_of boundary s).flag _
  step_is (Calls.arbitrate i) = by_value arbitration_values (state_refusal s) s (arbitrated s i).answer _
  step_is (Calls.conflict a) = by_query conflict_values (state_refusal s) (conflict_found s a) s
  step_is (Calls.query q) = ap (λ (said : Said). plain said s) (asked_said s q) ∙ by_number (state_refusal s) s
  step_is (Calls.arbitrate_inside i) = by_value arbitration_values (state_refusal s) s (arbitrated s (inside_arbitration s i)).answer _
  step_is (Calls.bus_call_inside i n) =
      let t = taken_in s (inside_bus s i) in by_pairs (bus_refusal s n) t.pairs t.causes s _
  step_is (Calls.object_dma_cycle a n) = by_state (cycle_refusal s n) s _

  -- no reason but the first has the number 7
  numbered : (c : Call) → without 7 (reasons_of s c) ≡ true
  numbered (Calls.write a w n byte) = refl
  numbered (Calls.read a n) = refl
  numbered (Calls.fall i) = refl
  numbered Calls.next_pair = refl
  numbered Calls.escape_drain = refl
  numbered (Calls.bus_call i n) = refl
  numbered (Calls.switch_speed i) = refl
  numbered Calls.lcd_off = refl
  numbered Calls.retired = refl
  numbered (Calls.blackout elapsed) = refl
  numbered (Calls.wake boundary) = refl
  numbered (Calls.arbitrate i) = refl
  numbered (Calls.conflict a) = refl
  numbered (Calls.query q) = refl
  numbered (Calls.arbitrate_inside i) = refl
  numbered (Calls.bus_call_inside i n) = refl
  numbered (Calls.object_dma_cycle a n) = refl

  -- no refusal: the state passes 7, and none of the call's own reasons holds
  free : (c : Call) → refusal_of s c ≡ None → (unreached s ≡ false) × NoneHolds (reasons_of s c)
  free c none = none_holds ((unreached s ⇒ State) ∷ reasons_of s c) (ap number_of none)

  -- what holds of both ends holds of the call
  pub either_way :
      (P : Outcome → Type 0) (c : Call) → ((unreached s ≡ false) × NoneHolds (reasons_of s c) → P (accepting (given_by s c))) →
      ((r : Refusal) → P (declined (Some r) s)) → P (step s c)
  unfolding decided
  either_way P c a d = subst P (sym (step_is c)) (by (refusal_of s c) refl)
    where
      by : (k : Option Refusal) → refusal_of s c ≡ k → P (decided k s (given_by s c))
      by None e = a (free c e)
      by (Some r) e = d r

  -- an accepted call: the state passes 7, none of its own reasons holds, and it gives what an accepted call gives
  pub accepted : (c : Call) → accepts (step s c).reply ≡ true → ((unreached s ≡ false) × NoneHolds (reasons_of s c)) × (step s c ≡ accepting (given_by s c))
  accepted c a =
      let is = accepted_is (step s c) (refusal_of s c) s (given_by s c) (step_is c) a in
      (free c is.0, is.1)

  -- and where the state passes 7 and none of its own reasons holds, it is accepted
  pub accepted_where : (c : Call) → (unreached s ≡ false) × NoneHolds (reasons_of s c) → accepts (step s c).reply ≡ true
  accepted_where c none =
      let first : refusal_of s c ≡ None = refusals.accepted_where ((unreached s ⇒ State) ∷ reasons_of s c) none in
      ap (λ (n : ℕ). eqb n 0) (number_is (step s c) (refusal_of s c) s (given_by s c) (step_is c) ∙ ap number_of first)

  -- a declined one: the number, no pair, the state as before
  pub refused : (c : Call) → accepts (step s c).reply ≡ false → step s c ≡ declined (refusal_of s c) s
  refused c = declined_is (step s c) (refusal_of s c) s (given_by s c) (step_is c)

  -- at a state that passes 7 no call gets 7
  pub never_7 : unreached s ≡ false → (c : Call) → (step s c).reply.number ≡ 7 → ⊥
  never_7 passes c is =
      let first : number_of (refusal_of s c) ≡ 7 = sym (number_is (step s c) (refusal_of s c) s (given_by s c) (step_is c)) ∙ is in
      never_first 7 (reasons_of s c) (λ z. absurd (omega (arith, z))) (numbered c) (rw passes at first)
