-- Register and WRAM reads and writes (document 01, section 1). "Order: 7 first wherever a state is given; a read or
-- write 2, 4", for every address; a write then 21 (document 02, A1). The refusal and the next state look at no more of the slice than its length; the byte
-- read and the slice at exit have definitions of their own.
use Rattle.std.specs.Prelude.{ℕ, ◌≡◌, Bool, not, ◌&&◌, List, [], ◌∷◌, Option, Result, ltb, eqb, length}
use Rattle.console.specs.Reached.{unreached}
use Rattle.console.specs.Refusals.{Reason, ◌⇒◌, first_of, answered, kept}
use Rattle.console.specs.declared.Cgb.{Cgb}
use Rattle.console.specs.declared.refusal.Refusal.{Refusal}
use Rattle.console.specs.declared.refusal.Refusal.TheVariants.{State, Length, Address, Page}
use Rattle.memory.specs.Lengths.{wram_length, wrong_length}
use Rattle.registers.specs.Map.{Place, place_of, readable, writable}
use Rattle.map_read.specs.Read.{map_byte}
use Rattle.map_write.specs.Write.{map_write_of, wram_after}
use Rattle.map_write.specs.declared.WriteInput.{WriteInput}
use Rattle.answers.specs.Answers.{Said, saying, outcome, outcome_says, done_values}
use Rattle.answers.specs.declared.Outcome.{Outcome}

-- why a call is declined in front of its address, with n bytes of work RAM
abbrev pub lent_refusal : Cgb → ℕ → Option Refusal
lent_refusal s n = first_of ((unreached s ⇒ State) ∷ (wrong_length wram_length n ⇒ Length) ∷ [])

-- why a call is declined with n bytes of work RAM, on an address of which the call's map says whether it has it; `more` are the
-- call's reasons after 4
unfoldable pub access_refusal : (Place → Bool) → List Reason → Cgb → ℕ → ℕ → Option Refusal
access_refusal map more s n a =
    first_of ((unreached s ⇒ State) ∷ (wrong_length wram_length n ⇒ Length) ∷ (not (map (place_of a)) ⇒ Address) ∷ more)

-- "21, page above DFh, tested after 4": a value v for FF46 (document 02, A1)
abbrev pub page_above : ℕ → ℕ → Bool
page_above v a = eqb a 0xFF46 && ltb 0xDF v

-- the refusal that it gives
abbrev pub page_refusal : ℕ → ℕ → Option Refusal
page_refusal v a = first_of ((page_above v a ⇒ Page) ∷ [])

-- "4 address not in the call's map": of a read, and of a write of v
abbrev pub read_refusal : Cgb → ℕ → ℕ → Option Refusal
read_refusal s n a = access_refusal readable [] s n a

abbrev pub write_refusal : Cgb → ℕ → ℕ → ℕ → Option Refusal
write_refusal s v n a = access_refusal writable ((page_above v a ⇒ Page) ∷ []) s n a

unfoldable pub read_of : Cgb → List ℕ → ℕ → Result ℕ Refusal
read_of s wram a = answered (read_refusal s (length wram) a) (map_byte s wram (place_of a))

unfoldable pub read_said : Cgb → List ℕ → ℕ → Said
read_said s wram a = saying (read_refusal s (length wram) a) (map_byte s wram (place_of a) ∷ [])

-- answer and next state
unfoldable pub write_of : Cgb → WriteInput → ℕ → ℕ → Outcome (Unit {0})
write_of s w a n = outcome (write_refusal s w.value n a) s tt (map_write_of s w a).state

-- work RAM at exit
unfoldable pub write_wram : Cgb → WriteInput → ℕ → List ℕ → List ℕ
write_wram s w a wram = kept (write_refusal s w.value (length wram) a) wram (wram_after s wram w.value a)

unfoldable pub write_said : Cgb → ℕ → ℕ → ℕ → Said
write_said s v a n = saying (write_refusal s v n a) []

-- a write's result, what it says, and the slice at exit, whole
pub record AnswersWrite (s : Cgb) (w : WriteInput) (a : ℕ) (wram : List ℕ) (r : Outcome (Unit {0})) (last : List ℕ) : Type 0 where
  pub result : r ≡ write_of s w a (length wram)
  pub says : outcome_says done_values r ≡ write_said s w.value a (length wram)
  pub memory : last ≡ write_wram s w a wram
