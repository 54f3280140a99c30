-- A byte, a flag and a bus call have these values (specs, `ValuesTold`). Assumes nothing.
use mathlib.Core.Path.{refl}
use Rattle.answers.specs.ValuesTold.{ValuesTold}

pub values_told : ValuesTold
values_told = record { byte = λ n. refl; yes = refl; no = refl; setup = refl; moved = λ n. refl }
