-- Each bound is what the field's type says. Of a struct, `.1 .1` is the list of its fields; of a number, `.1` is its bound. The latency's is
-- that of the byte it is written as. The search by itself gives up at these bounds.
use borrow.Author.Rules.{elem_Fits}
use Rattle.std.proofs.Common.{◌≡◌, ℕ, ◌<◌, Option, Some, None, unwrap_or, w8, arith}
use Rattle.codec.specs.Rest.{latency_value}
use Rattle.codec.proofs.widths.every_state_fits.Goals as goal

latency_small : (l : Option ℕ) (x : ℕ) → x ≡ unwrap_or l 0 → x < 256 → latency_value l < 256
latency_small None x e h = omega arith
latency_small (Some n) x e h = omega arith

pub returns : goal.returns
returns c =
    let r = c.well_formed.0.1.1 in
    let r4 = r.1.1.1.1 in
    let d = r4.0.1.1 in
    let u = d.0.1.1 in
    let k = d.1.0.1.1 in
    let a = d.1.1.0.1.1 in
    let r8 = r4.1.1.1.1 in
    let e = r8.1.1.1.1 in
    let o = e.1.1.1.0.1.1 in
    let x = c.args.state.extra_oam in
    record {
      cursor = record { source = u.0.1; dest = u.1.0.1; remaining = u.1.1.1.0.1; quota = u.1.1.1.1.0.1 };
      block =
          record {
            remaining = k.0.1;
            start_edge = k.1.0.1;
            setup_cells = k.1.1.1.0.1.1.0.1;
            ready_in = k.1.1.1.1.0.1.1.0.1;
            seize_falls = k.1.1.1.1.1.0.1;
          };
      arb =
          record {
            halted_falls = a.1.1.1.0.1;
            pend_age = a.1.1.1.1.1.0.1;
            wake_tenure = a.1.1.1.1.1.1.1.0.1.1.0.1;
            halt_wake_blind = a.1.1.1.1.1.1.1.1.1.1.0.1.1.0.1;
            wake_pend_blind = a.1.1.1.1.1.1.1.1.1.1.1.1.1.0.1.1.0.1;
            granted_ahead = a.1.1.1.1.1.1.1.1.1.1.1.1.1.1.0.1;
          };
      svbk = r.0.1;
      speed_switch_blackout = r4.1.0.1;
      speed_switch_wake_latency = latency_small c.args.state.speed_switch_wake_latency _ c.unwrap_or-latency.ensures c.unwrap_or-latency.type_inv;
      ff72 = r8.0.1;
      ff73 = r8.1.0.1;
      ff74 = r8.1.1.0.1;
      ff75 = r8.1.1.1.0.1;
      extra_oam = record { long = e.0.1.0.1; small = λ j. (elem_Fits w8 w8 x e.0.0 j e.0.1.1 tt).fits };
      selected = e.1.0.1.1.0.1;
      blackout_anchor = e.1.1.0.1.1.0.1;
      object = record { page = o.1.0.1; counted = o.1.1.0.1; start_edge = o.1.1.1.0.1 };
    }
