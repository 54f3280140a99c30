-- Declined calls (document 01, "Declined by input", "Declined by state"): each gives the number of the first reason
-- that holds, in the paper's order. An accepted call has no number: 0 here.
use Rattle.std.specs.Prelude.{ℕ, ◌≡◌, Bool, cond, List, [], ◌∷◌, Option, Some, None, Result, Ok, Err}
use Rattle.console.specs.declared.refusal.Refusal.{Refusal}
use Rattle.console.specs.declared.refusal.Refusal.TheVariants.{Mode, Length, Phase, Address, Held, Record, State, Blackout, Unarmed, Deferred, Granted, Page}

-- the paper's number of each reason
abbrev pub refusal_number : Refusal → ℕ
refusal_number Mode = 1
refusal_number Length = 2
refusal_number Phase = 3
refusal_number Address = 4
refusal_number Held = 5
refusal_number Record = 6
refusal_number State = 7
refusal_number Blackout = 11
refusal_number Unarmed = 12
refusal_number Deferred = 13
refusal_number Granted = 14
refusal_number Page = 21

-- a test, with the refusal of a call where it holds
pub record Reason : Type 0 where
  pub holds : Bool
  pub refusal : Refusal

infixr 60 ◌⇒◌
abbrev pub ◌⇒◌ : Bool → Refusal → Reason
b ⇒ r = record { holds = b; refusal = r }

-- the first reason that holds, if one does
abbrev pub first_of : List Reason → Option Refusal
first_of [] = None
first_of (r ∷ rs) = cond r.holds (Some r.refusal) (first_of rs)

-- its number, 0 where none holds
abbrev pub number_of : Option Refusal → ℕ
number_of None = 0
number_of (Some r) = refusal_number r

-- a call is declined for this reason, and with this number: the laws on the order of refusals say both, so that the papers' numbers
-- stand once more beside `refusal_number`
pub record Numbered (k : Option Refusal) (r : Refusal) (n : ℕ) : Type 0 where
  pub reason : k ≡ Some r
  pub number : number_of k ≡ n

-- what a call answers: its value where it is not declined
abbrev pub answered : {A : Type 0} → Option Refusal → A → Result A Refusal
answered None value = Ok value
answered (Some r) value = Err r

-- what it leaves: where it is declined, what was there before
abbrev pub kept : {A : Type 0} → Option Refusal → A → A → A
kept None before after = after
kept (Some r) before after = before
