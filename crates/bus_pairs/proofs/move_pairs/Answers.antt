-- A pair that comes takes one from quota; none that comes ends the call.
use Rattle.std.proofs.Common.{sym, ◌∙◌, arith, rules}
use Rattle.bus_pairs.proofs.Loop.{quota_falls_at, stops_at, goes_on_at, whole}
use Rattle.bus_pairs.proofs.move_pairs.Goals as goal

pub loop-pair-smaller : goal.loop-pair-smaller
loop-pair-smaller c =
    let falls = quota_falls_at _ c.next_byte-next.result _ _ c.next_byte-next.ensures c.in-Some.is in
    omega (arith, falls)

pub loop-pair-preserved : goal.loop-pair-preserved
loop-pair-preserved c =
    let l = c.loop-pair in
    let n = c.next_byte-next in
    let falls = quota_falls_at _ n.result _ _ n.ensures c.in-Some.is in
    let room = l.invariant.1 in (
      search rules,
      omega (arith, falls, room),
      goes_on_at _ _ _ l.dma n.result _ _ _ _ _ _ _ _ _ _ _ _ _ n.ensures c.in-Some.is (omega (arith, falls, room))
          c.read_hdma_source-byte.ensures c.commit_vram.ensures c.put_at.ensures c.put_at-in-loop-pair.ensures
          c.put_at-in-loop-pair-2.ensures
          ∙ l.invariant.2,
    )

pub returns : goal.returns
returns c =
    let l = c.loop-pair in
    let n = c.next_byte-next in
    sym (stops_at _ _ _ l.dma n.result _ l.pairs l.causes l.bytes l.vram n.ensures c.in_default.is)
    ∙ l.invariant.2 ∙ whole _ _ _ _ _
