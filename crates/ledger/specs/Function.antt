-- A function of the code as its contract, and what it may return by it.
use Rattle.std.specs.Prelude.{ℕ, List}
use contract.Lifetimes.{Lfts}
use denote.Triple.Clauses.{AtExit}
use borrow.Fn.Kinds.{ParamKind, ResultKind, Out, Dens, res_t, ended_of}

-- a function: its parameters, its result, and what its contract tells a caller
pub record Function : Type 3 where
  pub lifetimes : ℕ
  pub parameters : List (ParamKind lifetimes)
  pub result : ResultKind lifetimes
  pub tells : Out lifetimes parameters result

-- called with a, f may return z
pub record Gives (f : Function) (κs : Lfts f.lifetimes) (a : Dens κs f.parameters) (z : (res_t f.result κs).Denot) : Type 0 where
  pub exit : AtExit (ended_of f.lifetimes f.parameters f.result) κs
  pub told : f.tells κs a z exit
