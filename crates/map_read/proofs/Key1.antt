-- KEY1's byte, for each speed and arming. Assumes nothing.
use mathlib.Core.Path.{◌≡◌, refl}
use mathlib.Core.Bool.{Bool, true, false, cond}
use Rattle.map_read.specs.Read.{key1_byte}

pub key1 : (double armed : Bool) → cond armed (cond double 255 127) (cond double 254 126) ≡ key1_byte double armed
key1 false false = refl
key1 false true = refl
key1 true false = refl
key1 true true = refl
