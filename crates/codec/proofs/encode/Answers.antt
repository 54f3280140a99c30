-- The parts, stored one after another into zeros, stand one after another. With `laid` by `using` the search does not put the eight
-- clauses together, nor with the eight stores written out in a lemma.
use Rattle.codec.proofs.State.{sized, laid}
use Rattle.codec.proofs.encode.Goals as goal

pub returns : goal.returns
unfolding sized
returns c =
    rw (
      c.put_object.ensures,
      c.put_bank.ensures,
      c.put_extra.ensures.0,
      c.put_registers.ensures,
      c.put_oam.ensures,
      c.put_arb.ensures,
      c.put_block.ensures,
      c.put_cursor.ensures,
    ) (laid c.args.state c.put_extra.ensures.1)
