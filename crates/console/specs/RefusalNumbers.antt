-- The papers' numbers of the reasons, once more: beside `refusal_number`, which code and contracts cite, so that a definition with
-- another number has no proof of this.
use Rattle.std.specs.Prelude.{◌≡◌}
use Rattle.console.specs.Refusals.{refusal_number}
use Rattle.console.specs.declared.refusal.Refusal.TheVariants.{Mode, Length, Phase, Address, Held, Record, State, Blackout, Unarmed, Deferred, Granted, Page}

pub record RefusalNumbers : Type 0 where
  pub mode : refusal_number Mode ≡ 1
  pub length : refusal_number Length ≡ 2
  pub phase : refusal_number Phase ≡ 3
  pub address : refusal_number Address ≡ 4
  pub held : refusal_number Held ≡ 5
  pub undecoded : refusal_number Record ≡ 6
  pub state : refusal_number State ≡ 7
  pub blackout : refusal_number Blackout ≡ 11
  pub unarmed : refusal_number Unarmed ≡ 12
  pub deferred : refusal_number Deferred ≡ 13
  pub granted : refusal_number Granted ≡ 14
  pub page : refusal_number Page ≡ 21
