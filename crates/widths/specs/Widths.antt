-- Of every list of calls whose inputs have their types' widths: the state that it leaves has them too, so that it comes back from
-- its bytes.
use Rattle.std.specs.Prelude.{◌≡◌, Some}
use Rattle.codec.specs.Codec.{encode_of, decode_of}
use Rattle.codec.specs.Fits.{Fits}
use Rattle.console.specs.declared.Cgb.{Cgb}
use Rattle.ledger.specs.Demand3.{History, RunsTo}
use Rattle.widths.specs.Inputs.{FitsHistory}

pub record Widths : Type 0 where
  pub fits : (h : History) (s : Cgb) → RunsTo h s → FitsHistory h → Fits s
  pub comes_back : (h : History) (s : Cgb) → RunsTo h s → FitsHistory h → decode_of (encode_of s) ≡ Some s
