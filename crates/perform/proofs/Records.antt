-- What a record's outcome is, from what its call gave. Assumes nothing.
use Prim.Native.Nat.{ℕ}
use mathlib.Core.Path.{◌≡◌, refl, sym, ap, subst, ◌∙◌}
use mathlib.Core.List.{List}
use Rattle.console.specs.declared.Cgb.{Cgb}
use Rattle.std.proofs.Common.{Option, Some, None}
use Rattle.call.specs.declared.Call.{Call}
use Rattle.told.specs.Told.{told_refused, quietly}
use Rattle.told.specs.declared.Performed.{Performed}
use Rattle.told.specs.declared.Told.{Told}
use Rattle.perform.specs.Perform.{Performs}
use Rattle.perform.specs.Record.{record_performed, record_wram, record_vram, record_oam, PerformsRecord}

module _ (s : Cgb) (coded : Option Call) (cartridge wram vram oam : List ℕ) where
  as_known :
      (k : Option Call) (r : Performed) (w v o : List ℕ) → coded ≡ k → PerformsRecord s k cartridge wram vram oam r w v o →
      PerformsRecord s coded cartridge wram vram oam r w v o
  as_known k r w v o is p = subst (λ (x : Option Call). PerformsRecord s x cartridge wram vram oam r w v o) (sym is) p

  pub performs_none :
      (r : Performed) (told : Told) → coded ≡ None → r ≡ quietly told s → told ≡ told_refused 6 →
      PerformsRecord s coded cartridge wram vram oam r wram vram oam
  unfolding record_performed record_wram record_vram record_oam
  performs_none r told none is six =
      let whole : r ≡ quietly (told_refused 6) s = is ∙ ap (λ (t : Told). quietly t s) six in
      as_known None r wram vram oam none
      (record {
        result = whole;
        work = refl;
        stored = refl;
        deposit = refl;
        declined =
            λ _. record {
              number_alone = rw whole;
              no_pair_lem = ap (λ (p : Performed). p.pairs) whole;
              no_cause = ap (λ (p : Performed). p.causes) whole;
              no_byte = ap (λ (p : Performed). p.bytes) whole;
              same_state = ap (λ (p : Performed). p.state) whole;
              same_wram = refl;
              same_vram = refl;
              same_oam = refl;
            };
      })

  pub performs_call :
      (c : Call) (r : Performed) (w v o : List ℕ) → coded ≡ Some c → Performs s c cartridge wram vram oam r w v o →
      PerformsRecord s coded cartridge wram vram oam r w v o
  unfolding record_performed record_wram record_vram record_oam
  performs_call c r w v o is p =
      as_known (Some c) r w v o is
      (record { result = p.result; work = p.work; stored = p.stored; deposit = p.deposit; declined = p.declined })
