-- Each reason has its number (specs, `RefusalNumbers`). Assumes nothing.
use mathlib.Core.Path.{refl}
use Rattle.console.specs.RefusalNumbers.{RefusalNumbers}

pub refusal_numbers : RefusalNumbers
refusal_numbers =
    record {
      mode = refl;
      length = refl;
      phase = refl;
      address = refl;
      held = refl;
      undecoded = refl;
      state = refl;
      blackout = refl;
      unarmed = refl;
      deferred = refl;
      granted = refl;
      page = refl;
    }
