-- The papers' number and values for each case of each answer ("If an answer is an enum, the promises use a definition
-- that states this paper's number and values for each of its cases").
use Rattle.std.specs.Prelude.{ℕ, ◌≡◌, Bool, false, cond, List, [], ◌∷◌, get_or, Option, Some, None, Result, Ok, Err}
use Rattle.console.specs.Refusals.{refusal_number, number_of, answered, kept}
use Rattle.console.specs.declared.Cgb.{Cgb}
use Rattle.console.specs.declared.VramDmaClaim.{VramDmaClaim}
use Rattle.console.specs.declared.refusal.Refusal.{Refusal}
use Rattle.cut.specs.declared.SwitchOutcome.{SwitchOutcome}
use Rattle.cut.specs.declared.SwitchOutcome.TheVariants as switch
use Rattle.transfer.specs.declared.VramDmaStatus.{VramDmaStatus}
use Rattle.transfer.specs.declared.VramDmaStatus.TheVariants as dma
use Rattle.transfer.specs.declared.pair.BytePair.{BytePair}
use Rattle.transfer.specs.declared.pair.Cause.{Cause}
use Rattle.transfer.specs.declared.pair.Cause.TheVariants.{GoingOn, CountedOut, Carried}
use Rattle.bus.specs.declared.arbitration.Arbitration.{Arbitration}
use Rattle.bus.specs.declared.arbitration.Arbitration.TheVariants as arbitration
use Rattle.answers.specs.declared.Tally.{Tally}
use Rattle.answers.specs.declared.Moved.{Moved}
use Rattle.answers.specs.declared.Cycle.{Cycle}
use Rattle.answers.specs.declared.Cycle.TheVariants as cycle
use Rattle.answers.specs.declared.ObjectDmaTally.{ObjectDmaTally}
use Rattle.answers.specs.declared.Outcome.{Outcome}
use Rattle.answers.specs.declared.BusOutcome.{BusOutcome}
use Rattle.answers.specs.declared.Cycled.{Cycled}

-- the number of a declined call, 0 where it is accepted, and the values that an accepted call gives
pub record Said : Type 0 where
  pub number : ℕ
  pub values : List ℕ

abbrev pub declined : ℕ → Said
declined n = record { number = n; values = [] }

abbrev pub accepted : List ℕ → Said
accepted values = record { number = 0; values = values }

-- a call that is declined, or which gives these values
abbrev pub saying : Option Refusal → List ℕ → Said
saying k values = record { number = number_of k; values = kept k [] values }

-- an answer: its number, or the values of what it gives
abbrev pub says : {A : Type 0} → (A → List ℕ) → Result A Refusal → Said
says values (Ok x) = accepted (values x)
says values (Err r) = declined (refusal_number r)

-- an answer's values in four places, the spare ones 0
abbrev pub four_of : List ℕ → List ℕ
four_of values = get_or values 0 0 ∷ get_or values 1 0 ∷ get_or values 2 0 ∷ get_or values 3 0 ∷ []

-- a flag as a value
abbrev pub bit_of : Bool → ℕ
bit_of b = cond b 1 0

-- ---- the values of each answer, in their order

abbrev pub done_values : Unit {0} → List ℕ
done_values u = []

abbrev pub byte_values : ℕ → List ℕ
byte_values value = value ∷ []

abbrev pub flag_values : Bool → List ℕ
flag_values value = bit_of value ∷ []

-- whether it committed, and whether the claim stands
abbrev pub claim_values : VramDmaClaim → List ℕ
claim_values c = bit_of c.committed ∷ bit_of c.standing ∷ []

-- source, destination, left and escape flag
abbrev pub tally_values : Tally → List ℕ
tally_values t = t.source ∷ t.dest ∷ t.remaining ∷ bit_of t.escape_byte ∷ []

-- 0 Idle; 1 General, with what is left; 2 HBlank, with what is left, the source and where the next byte lands
abbrev pub status_values : VramDmaStatus → List ℕ
status_values dma.Idle = 0 ∷ []
status_values (dma.General left) = 1 ∷ left ∷ []
status_values (dma.HBlank left source dest) = 2 ∷ left ∷ source ∷ dest ∷ []

-- document 02, A3: how the run goes on after a pair, "0, 1 or 2"
abbrev pub cause_number : Cause → ℕ
cause_number GoingOn = 0
cause_number CountedOut = 1
cause_number Carried = 2

abbrev pub cause_numbers : List Cause → List ℕ
cause_numbers [] = []
cause_numbers (k ∷ ks) = cause_number k ∷ cause_numbers ks

-- 0 for none; else 1, the source, the destination and the cause
abbrev pub pair_values : Option (BytePair × Cause) → List ℕ
pair_values (Some (p, k)) = 1 ∷ p.source ∷ p.dest ∷ cause_number k ∷ []
pair_values None = 0 ∷ []

-- 0 none, 1 discarded, 2 cut
abbrev pub switch_values : SwitchOutcome → List ℕ
switch_values switch.None = 0 ∷ []
switch_values switch.Discarded = 1 ∷ []
switch_values switch.Cut = 2 ∷ []

-- 0 clear, 1 contended, 2 stall
abbrev pub arbitration_values : Arbitration → List ℕ
arbitration_values arbitration.Clear = 0 ∷ []
arbitration_values arbitration.Contended = 1 ∷ []
arbitration_values arbitration.Stall = 2 ∷ []

-- how many pairs moved, and whether a set-up cell was used; the pairs, their causes and bytes stand beside it
abbrev pub moved_values : Moved → List ℕ
moved_values m = m.count ∷ bit_of m.setup_cell ∷ []

-- 0 for none; else 1 and the source
abbrev pub conflict_values : Option ℕ → List ℕ
conflict_values (Some source) = 1 ∷ source ∷ []
conflict_values None = 0 ∷ []

-- 0 nothing; 1 moved or 2 passed over, and the source; the byte stands beside it (document 02, A1)
abbrev pub cycle_values : Cycle → List ℕ
cycle_values cycle.Nothing = 0 ∷ []
cycle_values (cycle.Moved source) = 1 ∷ source ∷ []
cycle_values (cycle.PassedOver source) = 2 ∷ source ∷ []

-- whether object DMA runs, the bytes counted, the page
abbrev pub object_dma_values : ObjectDmaTally → List ℕ
object_dma_values o = bit_of o.runs ∷ o.counted ∷ o.page ∷ []

-- whether an answer tells of a commit
abbrev pub tells_commit : Result VramDmaClaim Refusal → Bool
tells_commit (Ok c) = c.committed
tells_commit (Err r) = false

-- where the state stands beside the answer
abbrev pub outcome_says : {A : Type 0} → (A → List ℕ) → Outcome A → Said
outcome_says values r = says values r.answer

abbrev pub bus_outcome_says : BusOutcome → Said
bus_outcome_says r = says moved_values r.answer

abbrev pub cycled_says : Cycled → Said
cycled_says r = says cycle_values r.answer

-- what a call promises of its answer r: it is this one, and says this number and these values
pub record Answers {A : Type 0} (told : A → Said) (answer : A) (said : Said) (r : A) : Type 0 where
  pub is : r ≡ answer
  pub says : told r ≡ said

-- the outcome of a call that is declined, or gives this value and leaves this state
abbrev pub outcome : {A : Type 0} → Option Refusal → Cgb → A → Cgb → Outcome A
outcome k before value after = record { answer = answered k value; state = kept k before after }

-- the promises of such a call, of one that is lent nothing
abbrev pub AnswersOutcome : {A : Type 0} → (A → List ℕ) → Option Refusal → Cgb → A → Cgb → Outcome A → Type 0
AnswersOutcome values k before value after r =
    Answers (outcome_says values) (outcome k before value after) (saying k (values value)) r
