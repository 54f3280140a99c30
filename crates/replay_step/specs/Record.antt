-- A replay record (document 01, section 6): "records of 16 bytes, no header, little-endian. Byte 0 is the kind: 1 write .., 2 fall ..,
-- 3 next pair, 4 switch .., 5 LCD off, 6 escape drain, 7 blackout ..". The layout is record's.
use Rattle.std.specs.Prelude.{ℕ, None, Option, cond, List, ltb, length}
use Rattle.arithmetic.specs.Number.{byte_at}
use Rattle.call.specs.declared.Call.{Call}
use Rattle.record.specs.Record.{call_of}

-- the replay has the kinds 1 to 7
unfoldable pub record_of : List ℕ → Option Call
record_of bytes = cond (ltb 7 (byte_at bytes 0)) None (call_of bytes)

-- the record at the start of some bytes; a short one is of no kind ("6 replay record of other kind or short")
unfoldable pub record_at_start : List ℕ → Option Call
record_at_start bytes = cond (ltb (length bytes) 16) None (record_of bytes)
