-- What waited comes first: of what waits after a read, the rest is what came. Assumes nothing.
use Rattle.std.proofs.Common.{◌≡◌, ℕ, List, ◌++◌, length, take, drop, sym, ap, ◌∙◌}
use lib.ListN.{take-append-drop}

pub waited_first : (waited waits : List ℕ) → take (length waited) waits ≡ waited → waited ++ drop (length waited) waits ≡ waits
waited_first waited waits kept =
    ap (λ (l : List ℕ). l ++ drop (length waited) waits) (sym kept) ∙ take-append-drop (length waited) waits
