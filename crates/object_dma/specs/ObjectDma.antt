-- Object DMA (document 02, A1), which document 01 calls OAM DMA.
use Rattle.std.specs.Prelude.{ℕ, ◌+◌, ◌*◌, Bool, true, ◌&&◌, ltb}
use Rattle.console.specs.declared.object.ObjectDma.{ObjectDma}

-- "a write of page p to FF46 moves 160 bytes": so many are counted, those passed over among them
abbrev pub run_length : ℕ
run_length = 160

-- "Object DMA runs, to arbitration too, from the write until 160 are counted"
abbrev pub runs : ObjectDma → Bool
runs o = o.running && ltb o.counted run_length

-- the write: "The write carries the start edge ..., and a new write starts over"
abbrev pub started : ℕ → ℕ → ObjectDma
started page edge = record { running = true; page = page; counted = 0; start_edge = edge }

-- "from p × 256 up": the address of the next byte
abbrev pub source_of : ObjectDma → ℕ
source_of o = o.page * 256 + o.counted

-- "up to FE00h–FE9Fh": where it goes
abbrev pub target_of : ObjectDma → ℕ
target_of o = 0xFE00 + o.counted

-- after a byte that is counted, moved or passed over: page and start edge stay
abbrev pub after_byte : ObjectDma → ObjectDma
after_byte o =
    record { running = ltb (o.counted + 1) run_length; page = o.page; counted = o.counted + 1; start_edge = o.start_edge }
