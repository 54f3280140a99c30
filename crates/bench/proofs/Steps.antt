-- The measured loop's steps, from the contracts of the calls in it. Assumes nothing.
use Prim.Native.Nat.{ℕ, suc, ◌+◌}
use native.Mathlib.Omega.{arith}
use mathlib.Core.Path.{◌≡◌, refl, sym, ap, ◌∙◌}
use mathlib.Core.Bool.{Bool, true, false, cond}
use mathlib.Core.List.{List}
use lib.ListN.{length, get_or}
use Rattle.codec.specs.Codec.{encode_of, state_of}
use Rattle.console.specs.declared.Cgb.{Cgb}
use Rattle.bus.specs.declared.commit.BusInput.{BusInput}
use Rattle.fall_stages.specs.declared.FallInput.{FallInput}
use Rattle.answers.specs.Answers.{Answers, outcome_says, claim_values}
use Rattle.answers.specs.declared.BusOutcome.{BusOutcome}
use Rattle.answers.specs.declared.Outcome.{Outcome}
use Rattle.console.specs.declared.VramDmaClaim.{VramDmaClaim}
use Rattle.engine.specs.Calls.{fall_call_of, fall_said, lengths_of, AnswersBus, bus_state, bus_vram, bus_oam, bus_of}
use Rattle.bench.specs.Falls.{Measured, step_bit, step_fall, step_bus, after_fall, after_bus, Held, stepped_of, after_steps, measured_of, Benched}

-- a bus call with the held input, as the loop's definition has it
pub held_bus :
    (s : Cgb) (i : BusInput) (cartridge wram vram oam : List ℕ) (r : BusOutcome) (last_vram last_oam : List ℕ) →
    i ≡ step_bus → AnswersBus s i cartridge wram vram oam r last_vram last_oam → Held s cartridge wram vram oam r.state last_vram last_oam
unfolding after_bus bus_of
held_bus s i cartridge wram vram oam r last_vram last_oam input b =
    let n = lengths_of cartridge wram vram oam in
    let state = ap (λ (x : BusOutcome). x.state) b.result ∙ ap (λ (j : BusInput). bus_state s j n) input in
    let stored = b.stored ∙ ap (λ (j : BusInput). bus_vram s j n cartridge wram vram) input in
    let deposit = b.deposit ∙ ap (λ (j : BusInput). bus_oam s j n cartridge wram oam) input in
    record { all = λ k. record { state = state k; vram = stored k; oam = deposit k } }

module _ (cartridge wram steps : List ℕ) (start : Measured) where
  pub at_first : start ≡ after_steps cartridge wram steps start 0
  unfolding after_steps
  at_first = refl

  next : (i : ℕ) → after_steps cartridge wram steps start (suc i) ≡ after_steps cartridge wram steps start (i + 1)
  next i = ap (after_steps cartridge wram steps start) (omega arith)

  module _ (i : ℕ) (s : Cgb) (vram oam : List ℕ) (step : ℕ) (input : FallInput) (fell : Outcome VramDmaClaim) where
    -- the fall of the byte at place i, from what the bytes before it left
    fallen :
        record { state = s; vram = vram; oam = oam } ≡ after_steps cartridge wram steps start i → step ≡ get_or steps i 0 →
        input ≡ step_fall step i → Answers (outcome_says claim_values) (fall_call_of s input) (fall_said s input) fell →
        record { state = fell.state; vram = vram; oam = oam } ≡ after_fall i (get_or steps i 0) (after_steps cartridge wram steps start i)
    unfolding after_fall
    fallen before at asked answers =
        let given = asked ∙ ap (λ (x : ℕ). step_fall x i) at in
        let state = ap (λ (x : Outcome VramDmaClaim). x.state) answers.is ∙ ap (λ (x : FallInput). (fall_call_of s x).state) given in
        ap (λ (x : Cgb). record { state = x; vram = vram; oam = oam }) state
        ∙ ap (λ (m : Measured). after_fall i (get_or steps i 0) m) before

    -- with a bus call behind it or without
    abbrev chosen : Bool → Measured
    chosen b =
        cond b (after_bus cartridge wram (after_fall i (get_or steps i 0) (after_steps cartridge wram steps start i)))
        (after_fall i (get_or steps i 0) (after_steps cartridge wram steps start i))

    pub without_bus :
        record { state = s; vram = vram; oam = oam } ≡ after_steps cartridge wram steps start i → step ≡ get_or steps i 0 →
        input ≡ step_fall step i → Answers (outcome_says claim_values) (fall_call_of s input) (fall_said s input) fell → step_bit 64 step ≡ false →
        record { state = fell.state; vram = vram; oam = oam } ≡ after_steps cartridge wram steps start (i + 1)
    unfolding after_steps stepped_of
    without_bus before at asked answers none =
        fallen before at asked answers
        ∙ sym (ap chosen (sym (ap (step_bit 64) at) ∙ none))
        ∙ next i

    pub with_bus :
        (r : Cgb) (last_vram last_oam : List ℕ) →
        record { state = s; vram = vram; oam = oam } ≡ after_steps cartridge wram steps start i → step ≡ get_or steps i 0 →
        input ≡ step_fall step i → Answers (outcome_says claim_values) (fall_call_of s input) (fall_said s input) fell → step_bit 64 step ≡ true →
        Held fell.state cartridge wram vram oam r last_vram last_oam →
        record { state = r; vram = last_vram; oam = last_oam } ≡ after_steps cartridge wram steps start (i + 1)
    unfolding after_steps stepped_of
    with_bus r last_vram last_oam before at asked answers some h =
        h.all
        ∙ ap (after_bus cartridge wram) (fallen before at asked answers)
        ∙ sym (ap chosen (sym (ap (step_bit 64) at) ∙ some))
        ∙ next i

-- at the end of the steps the loop has left the whole outcome
pub benched :
    (bytes steps cartridge wram vram oam last_bytes last_vram last_oam : List ℕ) (start s : Cgb) (i : ℕ) →
    start ≡ state_of bytes →
    record { state = s; vram = last_vram; oam = last_oam } ≡ after_steps cartridge wram steps (record { state = start; vram = vram; oam = oam }) i →
    i ≡ length steps → last_bytes ≡ encode_of s → Benched bytes steps cartridge wram vram oam last_bytes last_vram last_oam
unfolding measured_of
benched bytes steps cartridge wram vram oam last_bytes last_vram last_oam start s i decoded left end encoded =
    let whole =
    left
    ∙ ap (λ (d : Cgb). after_steps cartridge wram steps (record { state = d; vram = vram; oam = oam }) i) decoded
    ∙ ap (after_steps cartridge wram steps (record { state = state_of bytes; vram = vram; oam = oam })) end
    in
    record {
      state = encoded ∙ ap (λ (m : Measured). encode_of m.state) whole;
      stored = ap (λ (m : Measured). m.vram) whole;
      deposit = ap (λ (m : Measured). m.oam) whole;
    }
