-- Arbitration answers exactly when the Rust's conditions hold (specs, `ArbitrationSteps`). Assumes nothing.
use mathlib.Core.Path.{◌≡◌, refl, sym, ◌∙◌}
use mathlib.Core.Bool.{Bool, true, false, not, ◌&&◌, ◌||◌, false≢true}
use mathlib.Core.Logic.Iff
use mathlib.Core.Logic.{◌↔◌}
use Rattle.console.specs.declared.vram_dma.VramDma.{VramDma}
use Rattle.transfer.specs.Conflict.{will_move}
use Rattle.transfer.proofs.Conditions.{when_not, when_both, when_either, when_false}
use Rattle.transfer.proofs.QuestionSteps.{question_steps}
use Rattle.bus.specs.Arbitration.{hdma_active, contends, stalls, arbitration_of, arbitrated_of}
use Rattle.bus.specs.ArbitrationSteps.{HdmaActive, Contends, Stalls, ArbitrationSteps}
use Rattle.bus.specs.declared.arbitration.Arbitration.TheVariants.{Clear, Contended, Stall}
use Rattle.bus.specs.declared.arbitration.ArbitrationInput.{ArbitrationInput}

-- the answer tells the two tests, which exclude each other
said_contended : (c s : Bool) → (arbitration_of c s ≡ Contended) ↔ (c ≡ true)
unfolding arbitration_of
said_contended true s = (λ e. refl, λ e. refl)
said_contended false true = (λ e. cc, λ e. absurd (false≢true e))
said_contended false false = (λ e. cc, λ e. absurd (false≢true e))

said_stall : (c s : Bool) → (s ≡ true → c ≡ false) → (arbitration_of c s ≡ Stall) ↔ (s ≡ true)
unfolding arbitration_of
said_stall true s apart = (λ e. cc, λ e. absurd (false≢true (sym (apart e))))
said_stall false true apart = (λ e. refl, λ e. refl)
said_stall false false apart = (λ e. cc, λ e. absurd (false≢true e))

said_clear : (c s : Bool) → (arbitration_of c s ≡ Clear) ↔ ((c ≡ false) × (s ≡ false))
unfolding arbitration_of
said_clear true s = (λ e. cc, λ h. absurd (false≢true (sym h.0)))
said_clear false true = (λ e. cc, λ h. absurd (false≢true (sym h.1)))
said_clear false false = (λ e. (refl, refl), λ h. refl)

module _ (i : ArbitrationInput) (d : VramDma) where
  when_active : (hdma_active i ≡ true) ↔ HdmaActive i
  when_active = when_either i.hold i.suspended Iff.rfl Iff.rfl

  when_contends : (double : Bool) → (contends double i d ≡ true) ↔ Contends double i d
  unfolding contends
  when_contends double =
      let oam : Bool = i.oam_transferring || d.oam.was_transferring in
      Iff.trans
      (when_both (not double && oam && hdma_active i) (will_move d)
      (when_both (not double && oam) (hdma_active i)
      (when_both (not double) oam (when_not double) (when_either i.oam_transferring d.oam.was_transferring Iff.rfl Iff.rfl))
      when_active)
      (question_steps d).will_move_lem) (
        λ h. record { speed = h.0.0.0; oam = h.0.0.1; active = h.0.1; moves = h.1 },
        λ k. (((k.speed, k.oam), k.active), k.moves),
      )

  when_stalls : (double : Bool) → (stalls double i d ≡ true) ↔ Stalls double i d
  unfolding stalls
  when_stalls double =
      let escape : Bool = d.cursor.escape_byte in
      Iff.trans
      (when_both (double && i.oam_transferring && hdma_active i && escape) (will_move d)
      (when_both (double && i.oam_transferring && hdma_active i) escape
      (when_both (double && i.oam_transferring) (hdma_active i) (when_both double i.oam_transferring Iff.rfl Iff.rfl) when_active)
      Iff.rfl)
      (question_steps d).will_move_lem) (
        λ h. record { speed = h.0.0.0.0; oam = h.0.0.0.1; active = h.0.0.1; escape = h.0.1; moves = h.1 },
        λ k. ((((k.speed, k.oam), k.active), k.escape), k.moves),
      )

  -- one is of single speed, the other of double
  apart : (double : Bool) → stalls double i d ≡ true → contends double i d ≡ false
  apart double s =
      (when_false (contends double i d) (when_contends double)).1
      (λ c. false≢true (sym c.speed ∙ ((when_stalls double).0 s).speed))

pub arbitration_steps : (double : Bool) (i : ArbitrationInput) (d : VramDma) → ArbitrationSteps double i d
unfolding arbitrated_of
arbitration_steps double i d =
    let c : Bool = contends double i d in
    let s : Bool = stalls double i d in
    record {
      contended = Iff.trans (said_contended c s) (when_contends i d double);
      stall = Iff.trans (said_stall c s (apart i d double)) (when_stalls i d double);
      clear =
          Iff.trans (said_clear c s) (
            λ h. ((when_false c (when_contends i d double)).0 h.0, (when_false s (when_stalls i d double)).0 h.1),
            λ no. ((when_false c (when_contends i d double)).1 no.0, (when_false s (when_stalls i d double)).1 no.1),
          );
      keeps_contended = when_contends i d double;
      keeps_oam = refl;
      marks = record { pend = refl; from_arm = refl; granted = refl; strobe = refl; taken = refl };
    }
