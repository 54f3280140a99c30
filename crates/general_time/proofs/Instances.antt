-- K1, K4 and the numbers of document 02 (specs, `Instances`). Assumes nothing.
use mathlib.Core.Path.{refl}
use lib.Dec.{lit<, lit≤}
use Rattle.ledger.specs.Ledger.{empty}
use Rattle.general_time.specs.Instances.{Instances}
use Rattle.general_time.proofs.Ready.{at_single, high, low}
use Rattle.general_time.proofs.SomeTransfer.{start, starts, rounds_in_words}
use Rattle.general_time.proofs.Theorem.{exactly}

pub instances : Instances
unfolding empty
instances =
    record {
      k1 =
          (let r = at_single in
          let b = starts r 0x00 (lit< tt) in
          record {
            history = _;
            fixed = refl;
            calls = refl;
            ledger = _;
            register = refl;
            write = start r 0x00 (lit< tt);
            starts = b;
            estimated = (refl, refl);
            exactly = λ k ps g rounds u run. let x = exactly b rounds u run in (x.over, x.pairs);
            run = rounds_in_words r 0x00 (lit< tt) 8 (lit≤ tt);
          });
      k4 =
          (let r = low (high at_single 0xFF tt) 0xF0 tt in
          let b = starts r 0x01 (lit< tt) in
          record {
            history = _;
            fixed = refl;
            calls = refl;
            ledger = _;
            register = refl;
            write = start r 0x01 (lit< tt);
            starts = b;
            estimated = (refl, refl);
            exactly = λ k ps g rounds u run. let x = exactly b rounds u run in (x.over, x.pairs);
            run = rounds_in_words r 0x01 (lit< tt) 8 (lit≤ tt);
          });
      odd = (refl, refl, refl);
      at_ffff = (refl, refl, refl);
      at_0000 = (refl, refl, refl);
    }
