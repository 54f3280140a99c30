-- The refusal of a read and of a write where 7, 2 and 4 leave it. Assumes nothing.
use Prim.Native.Nat.{ℕ}
use mathlib.Core.Path.{◌≡◌, refl, ◌∙◌}
use mathlib.Core.Logic.{inl}
use mathlib.Core.Bool.{Bool, true, false, ◌&&◌, false≢true}
use mathlib.Core.List.{List, [], ◌∷◌}
use lib.Dec.{eqb, ltb}
use lib.ListN.{length}
use borrow.Author.Tests.{eq-eqb, eqb-true}
use Rattle.std.proofs.Common.{Some, None, Result, Ok}
use Rattle.console.specs.Reached.{unreached}
use Rattle.console.specs.Refusals.{Reason, ◌⇒◌, first_of, answered}
use Rattle.console.specs.declared.Cgb.{Cgb}
use Rattle.console.specs.declared.refusal.Refusal.{Refusal}
use Rattle.console.specs.declared.refusal.Refusal.TheVariants.{State, Length, Page}
use Rattle.memory.specs.Lengths.{wram_length, wrong_length}
use Rattle.registers.specs.Map.{Place, place_of, writable}
use Rattle.registers.proofs.MapSteps.{write_map}
use Rattle.map_write.specs.Write.{wram_after}
use Rattle.map_write.specs.declared.WriteInput.{WriteInput}
use Rattle.map_write.proofs.Mapped.{off_map_keeps_wram}
use Rattle.register_calls.specs.Access.{access_refusal, lent_refusal, page_above, write_refusal, write_wram}

module _ (map : Place → Bool) (more : List Reason) (s : Cgb) (n a : ℕ) where
  -- neither 7, 2 nor 4: what comes after them
  pub at_rest : unreached s ≡ false → n ≡ wram_length → map (place_of a) ≡ true → access_refusal map more s n a ≡ first_of more
  unfolding access_refusal
  at_rest reached whole here = rw (reached, eq-eqb n wram_length whole, here)

-- a page above DFh is one written to FF46, which is in the map
pub page_mapped : (v a : ℕ) → page_above v a ≡ true → writable (place_of a) ≡ true
page_mapped v a above = (write_map a).1 (inl (eqb-true a 0xFF46 (left (eqb a 0xFF46) (ltb 0xDF v) above)))
  where
    left : (b c : Bool) → (b && c) ≡ true → b ≡ true
    left true c e = refl
    left false c e = absurd (false≢true e)

pub at_21 : (s : Cgb) (v n a : ℕ) → unreached s ≡ false → n ≡ wram_length → page_above v a ≡ true → write_refusal s v n a ≡ Some Page
at_21 s v n a reached whole above = at_rest writable _ s n a reached whole (page_mapped v a above) ∙ rw above

-- a mapped address and no page above DFh
pub at_none_write :
    (s : Cgb) (v n a : ℕ) → unreached s ≡ false → n ≡ wram_length → writable (place_of a) ≡ true → page_above v a ≡ false →
    write_refusal s v n a ≡ None
at_none_write s v n a reached whole here page = at_rest writable _ s n a reached whole here ∙ rw page

-- neither 7, 2 nor 21: work RAM is what the map leaves, off the map too
pub wram_left :
    (s : Cgb) (w : WriteInput) (a : ℕ) (wram : List ℕ) →
    ◌≡◌ {A = Result (Unit {0}) Refusal} (answered (lent_refusal s (length wram)) tt) (Ok tt) → page_above w.value a ≡ false →
    wram_after s wram w.value a ≡ write_wram s w a wram
unfolding write_wram access_refusal
wram_left s w a wram lent page = by (unreached s) (wrong_length wram_length (length wram)) (writable (place_of a)) refl refl refl lent
  where
    by :
        (seven two here : Bool) → unreached s ≡ seven → wrong_length wram_length (length wram) ≡ two → writable (place_of a) ≡ here →
        ◌≡◌ {A = Result (Unit {0}) Refusal} (answered (first_of ((seven ⇒ State) ∷ (two ⇒ Length) ∷ [])) tt) (Ok tt) →
        wram_after s wram w.value a ≡ write_wram s w a wram
    by true two here a_7 a_2 on l = cc
    by false true here a_7 a_2 on l = cc
    by false false true a_7 a_2 on l = rw (a_7, a_2, on, page)
    by false false false a_7 a_2 on l = rw (a_7, a_2, on) (off_map_keeps_wram s wram w.value a on)
