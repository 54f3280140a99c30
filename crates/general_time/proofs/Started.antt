-- The write that starts a General transfer: it is not locked, and what the ledger then owes is the estimate's bytes. Assumes nothing.
use Prim.Native.Nat.{ℕ, ◌+◌, ◌*◌, ◌%◌}
use native.Mathlib.Omega.{arith}
use mathlib.Core.Path.{◌≡◌, refl, sym, ap, ◌∙◌}
use mathlib.Core.Bool.{Bool, true, false, cond}
use mathlib.Core.List.{List, []}
use Rattle.console.specs.declared.Cgb.{Cgb}
use Rattle.map_write.specs.declared.WriteInput.{WriteInput}
use Rattle.map_write.proofs.WriteSteps.{map_write_steps}
use Rattle.transfer.specs.declared.pair.BytePair.{BytePair}
use Rattle.ledger.specs.LedgerInput.{Configuration, LedgerInput, a_write, a_fall, a_switch, a_drain, another, Reply, accepts}
use Rattle.ledger.specs.Ledger.{Ledger, empty, followed, after_length, effect, after_pairs, after_call}
use Rattle.ledger.specs.Calls.{Call, Outcome, write, step, ledger_input}
use Rattle.ledger.specs.Demand3.{Event, History, then, RunsTo, at_power_on, called, Standing, running, enters, ledger_of, NextPairs}
use Rattle.ledger.proofs.AcceptedOrDeclined.{either_way}
use Rattle.ledger.proofs.OneRun.{same_state}
use Rattle.ledger.proofs.Theorem.{invariant, speaks, demand3}
use Rattle.general_time.specs.Rounds.{Starts}
use Rattle.general_time.proofs.Behind.{at_first, none_left}
use Rattle.general_time.proofs.Going.{some_left}
use Rattle.general_time.proofs.Rounds.{Reaches, last}
use Rattle.general_time.proofs.Count as count

-- ---- under compat nothing is ever left
abbrev compat_of : Standing → Bool
compat_of (running k l) = k.compat

abbrev left_of : Standing → ℕ
left_of (running k l) = l.left

locked_effect : (k : Configuration) (c : LedgerInput) (r : Reply) (l : Ledger) → k.compat ≡ true → (effect k c r l).left ≡ l.left
locked_effect k (a_write a v) r l locked = rw locked
locked_effect k a_fall r l locked = refl
locked_effect k a_switch r l locked = refl
locked_effect k a_drain r l locked = refl
locked_effect k another r l locked = refl

locked_step :
    (k : Configuration) (c : LedgerInput) (r : Reply) (l : Ledger) → k.compat ≡ true → l.left ≡ 0 →
    (accepts r ≡ true → NextPairs (effect k c r l) r.pairs) → (after_call k c r l).left ≡ 0
unfolding after_call after_pairs
locked_step k c r l locked z next = by (accepts r) refl
  where
    zero : (effect k c r l).left ≡ 0
    zero = locked_effect k c r l locked ∙ z

    by : (b : Bool) → accepts r ≡ b → (cond b (after_pairs r.pairs (effect k c r l)) l).left ≡ 0
    by true e = ap (λ (ps : List BytePair). (after_pairs ps (effect k c r l)).left) (none_left (effect k c r l) r.pairs zero (next e)) ∙ zero
    by false e = z

locked_enters :
    (w : Standing) (e : Event) → compat_of w ≡ true → left_of w ≡ 0 →
    ((k : Configuration) (l : Ledger) → w ≡ running k l → accepts e.reply ≡ true →
    NextPairs (effect k (ledger_input e.call) e.reply l) e.reply.pairs) →
    left_of (enters w e) ≡ 0
locked_enters (running k l) e locked z next = locked_step k (ledger_input e.call) e.reply l locked z (next k l refl)

same_lock : (w : Standing) (e : Event) → compat_of (enters w e) ≡ compat_of w
same_lock (running k l) e = refl

nothing_left : {h : History} {s : Cgb} → RunsTo h s → compat_of (ledger_of h) ≡ true → left_of (ledger_of h) ≡ 0
unfolding ledger_of empty
nothing_left (at_power_on k s g) locked = refl
nothing_left (called {h = h} c o r returned) locked =
    let e : Event = record { call = c; reply = o.reply } in
    let lock = sym (same_lock (ledger_of h) e) ∙ locked in
    locked_enters (ledger_of h) e lock (nothing_left r lock)
    (λ k l is ok. demand3.next_of_ledger h e o.state (called c o r returned) k l is ok)

-- ---- the write
pub write_pairs : (s : Cgb) (a : ℕ) (i : WriteInput) (n : ℕ) (byte : _) → (step s (write a i n byte)).reply.pairs ≡ []
unfolding step
write_pairs s a i n byte = refl

written_speed :
    (s : Cgb) (i : WriteInput) (n : ℕ) (byte : _) → s.dmg_compat ≡ false →
    (step s (write 0xFF55 i n byte)).state.double_speed ≡ s.double_speed
written_speed s i n byte free =
    either_way s (λ (o : Outcome). o.state.double_speed ≡ s.double_speed) (write 0xFF55 i n byte)
    (λ none. ap (λ (x : Cgb). x.double_speed) (map_write_steps.registers s i free).ff55) (λ refused. refl)

-- the ledger after it
enters_length :
    (k : Configuration) (r : Reply) (l : Ledger) (i : WriteInput) (n : ℕ) (byte : _) → k.compat ≡ false → accepts r ≡ true → r.pairs ≡ [] →
    after_call k (ledger_input (write 0xFF55 i n byte)) r l ≡ after_length (16 * (i.value % 128 + 1)) l
unfolding after_call after_pairs ledger_input followed
enters_length k r l i n byte free ok none = rw (ok, none, free)

module _ {h : History} {l : Ledger} {double : Bool} {v : ℕ} {w : Event} (b : Starts h l double v w) where
  -- where the write left its ledger
  enters_write : ledger_of (then h w) ≡ running b.configuration (after_call b.configuration (ledger_input w.call) w.reply l)
  unfolding ledger_of
  enters_write = ap (λ (x : Standing). enters x w) b.ledger

  pub unlocked : b.configuration.compat ≡ false
  unlocked = by b.configuration.compat refl
    where
      by : (c : Bool) → b.configuration.compat ≡ c → c ≡ false
      by false e = refl
      by true e =
          let none = nothing_left b.started (ap compat_of enters_write ∙ e) in
          let same = demand3.same_left (then h w) b.after b.started b.configuration _ enters_write in
          let some = some_left b.after (invariant b.started).reached b.general in
          absurd (omega (arith, sym (ap left_of enters_write) ∙ none, same, some))

  reply_none : w.reply.pairs ≡ []
  reply_none =
      let e = last b.started in
      ap (λ (x : Reply). x.pairs) e.reply
      ∙ ap (λ (c : Call). (step e.before c).reply.pairs) b.call
      ∙ write_pairs e.before 0xFF55 b.input b.wram b.byte

  stands : ledger_of (then h w) ≡ running b.configuration (after_length (16 * (v % 128 + 1)) l)
  stands =
      enters_write
      ∙ ap (λ (c : Call). running b.configuration (after_call b.configuration (ledger_input c) w.reply l)) b.call
      ∙ ap (running b.configuration) (enters_length b.configuration w.reply l b.input b.wram b.byte unlocked b.accepted reply_none)
      ∙ ap (λ (x : ℕ). running b.configuration (after_length (16 * (x % 128 + 1)) l)) b.value

  -- the speed after it
  speed_after : (s : Cgb) → RunsTo (then h w) s → s.double_speed ≡ double
  speed_after s r =
      let e = last r in
      let here : e.before ≡ b.before = same_state e.runs b.runs in
      let free : b.before.dmg_compat ≡ false = (speaks b.runs b.configuration l b.ledger).locked ∙ unlocked in
      ap (λ (x : Cgb). x.double_speed) e.state
      ∙ ap (λ (x : Cgb). (step x w.call).state.double_speed) here
      ∙ ap (λ (c : Call). (step b.before c).state.double_speed) b.call
      ∙ written_speed b.before b.input b.wram b.byte free
      ∙ b.speed

  -- no round yet
  pub at_start : (s : Cgb) → RunsTo (then h w) s → Reaches (after_length (16 * (v % 128 + 1)) l) double 0 [] (then h w) s
  at_start s r =
      let same = demand3.same_pointers h b.before b.runs b.configuration l b.ledger in
      let width = demand3.pointer_widths h b.before b.runs in
      record {
        configuration = b.configuration;
        ledger = after_length (16 * (v % 128 + 1)) l;
        stands = stands;
        n = 0;
        behind = at_first _ b.unowed (omega (arith, same.0, width.0)) (omega (arith, same.1, width.1));
        count = (count.no_round double _).come;
        speed = speed_after s r;
      }
