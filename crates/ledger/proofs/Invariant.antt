-- What each call does to the engine and the ledger beside it: the two stay alike, and at most two pairs come between accepted
-- falls. Assumes nothing.
use Prim.Native.Nat.{ℕ, ◌+◌, ◌<◌, ◌≤◌}
use native.Mathlib.Omega.{arith}
use mathlib.Core.Path.{◌≡◌, refl, sym, ap, subst, ◌∙◌}
use mathlib.Core.Bool.{Bool, true, false, cond, not, ◌&&◌, ◌||◌, false≢true}
use mathlib.Core.List.{List, []}
use lib.Dec.{ltb, lit<}
use lib.ListN.{length}
use Rattle.std.specs.Prelude as option
use Rattle.console.specs.Reached.{unreached}
use Rattle.console.specs.Set.{with_vram_dma}
use Rattle.console.specs.declared.Cgb.{Cgb}
use Rattle.console.specs.declared.vram_dma.TransferCursor.{TransferCursor}
use Rattle.console.specs.declared.vram_dma.VramDma.{VramDma}
use Rattle.console.specs.declared.refusal.Refusal.{Refusal}
use Rattle.console.proofs.Refusals.{NoneHolds, some_number}
use Rattle.fall_stages.specs.declared.FallInput.{FallInput}
use Rattle.fall_stages.proofs.Steps.{fall_steps}
use Rattle.fall_stages.proofs.Refills.{refills}
use Rattle.map_write.specs.Write.{map_write_of}
use Rattle.map_write.specs.declared.WriteInput.{WriteInput}
use Rattle.cut.specs.Cut.{ready_block, outcome_of, ungranted, cut_of, discarded_of, graded_of, upward_of, engine_after}
use Rattle.speed_switch.specs.Switch.{switched_of}
use Rattle.speed_switch.specs.declared.switch.SwitchInput.{SwitchInput}
use Rattle.cut.specs.declared.SwitchOutcome.TheVariants.{None, Discarded, Cut}
use Rattle.transfer.specs.Pair.{moving_of, quota_of, drain_of}
use Rattle.transfer.specs.declared.pair.BytePair.{BytePair}
use Rattle.transfer.specs.declared.pair.Cause.{Cause}
use Rattle.transfer.specs.declared.pair.NextByte.{NextByte}
use Rattle.transfer.proofs.PairSteps.{pair_steps}
use Rattle.engine.specs.Calls.{fallen, fallen_state, inside_bus}
use Rattle.ledger.specs.LedgerInput.{Configuration, LedgerInput, a_write, a_fall, a_switch, a_drain, another, Reply, accepts, is_fall, is_drain}
use Rattle.ledger.specs.Ledger.{Ledger, after_cut, effect, after_pairs, after_call}
use Rattle.ledger.specs.Calls
use Rattle.ledger.specs.Calls.{Call, Outcome, step, ledger_input}
use Rattle.ledger.specs.Causes.{CausesFollow, no_cause}
use Rattle.ledger.specs.Demand3.{NextPairs, no_more, Balanced}
use Rattle.ledger.proofs.Core.{Core, under, core_of, quota, fall_core, lcd_core, lcd_quota, blackout_core, blackout_quota, wake_core}
use Rattle.ledger.proofs.Core.{wake_quota}
use Rattle.ledger.proofs.AcceptedOrDeclined.{quiet, giving, handing_on, accepting, declined, cuts, reasons_of, given_by, either_way}
use Rattle.ledger.proofs.PairsMatch.{Match, PairsMatch, next_match, drain_match, bus_match}
use Rattle.ledger.proofs.Writes.{write_match}

-- the pairs since the last accepted fall, after one more call
abbrev pub since : ℕ → LedgerInput → Reply → ℕ
since n c r = cond (accepts r && is_fall c) 0 (n + cond (is_drain c) 0 (length r.pairs))

-- the ledger speaks of the engine, and n pairs have come since the last accepted fall
pub record Invariant (k : Configuration) (s : Cgb) (l : Ledger) (n : ℕ) : Type 0 where
  pub agree : Match k (core_of s) l
  pub budget : n + quota s ≤ 2

-- what a call must do
pub record CallLaws (k : Configuration) (l : Ledger) (n : ℕ) (c : LedgerInput) (o : Outcome) : Type 0 where
  pub next : accepts o.reply ≡ true → NextPairs (effect k c o.reply l) o.reply.pairs
  pub caused : accepts o.reply ≡ true → CausesFollow (effect k c o.reply l) o.reply.pairs o.reply.causes
  pub refill :
      is_fall c ≡ true → accepts o.reply ≡ true →
      quota o.state ≡ quota_of (moving_of o.state.vram_dma) o.state.double_speed
  pub holds : Invariant k o.state (after_call k c o.reply l) (since n c o.reply)

no_fall : {A : Type 0} → ◌≡◌ {A = Bool} false true → A
no_fall e = absurd (false≢true e)

-- a switch, by its three tests: the cursor but for mode and escape stays, and the escape is owed where it says cut
switch_core :
    (locked up latched ready : Bool) (d : VramDma) →
    (let cut : Bool = cuts (cond (up && latched) (cond ready Cut Discarded) None) in
    let e : VramDma = cond up (cond latched (cond ready (cut_of (ungranted d)) (discarded_of (ungranted d))) d) d in
    under locked e.cursor ≡
    record { locked = locked; source = d.cursor.source; dest = d.cursor.dest; left = d.cursor.remaining; free = cut || d.cursor.escape_byte })
unfolding cut_of discarded_of ungranted
switch_core locked false latched ready d = refl
switch_core locked true false ready d = refl
switch_core locked true true false d = refl
switch_core locked true true true d = refl

switch_quota :
    (up latched ready : Bool) (d : VramDma) →
    (cond up (cond latched (cond ready (cut_of (ungranted d)) (discarded_of (ungranted d))) d) d).cursor.quota ≡ d.cursor.quota
unfolding cut_of discarded_of ungranted
switch_quota false latched ready d = refl
switch_quota true false ready d = refl
switch_quota true true false d = refl
switch_quota true true true d = refl

upward_cursor : (up : Bool) (d : VramDma) → (engine_after up d).cursor ≡ (cond up (graded_of d) d).cursor
unfolding engine_after upward_of
upward_cursor true d = refl
upward_cursor false d = refl

module _ (k : Configuration) (s : Cgb) (l : Ledger) (n : ℕ) (i : Invariant k s l n) where
  -- a refusal keeps all: "no refused call changes it"
  refused_ledger : (c : LedgerInput) (r : Refusal) → after_call k c (declined (option.Some r) s).reply l ≡ l
  unfolding after_call
  refused_ledger c r = ap (λ (b : Bool). cond b (after_pairs [] (effect k c (declined (option.Some r) s).reply l)) l) (some_number r)

  declined_laws : (c : LedgerInput) (r : Refusal) → CallLaws k l n c (declined (option.Some r) s)
  declined_laws c r =
      let e = some_number r in
      record {
        next = λ t. no_fall (sym e ∙ t);
        caused = λ t. no_fall (sym e ∙ t);
        refill = λ f t. no_fall (sym e ∙ t);
        holds = record {
          agree = subst (Match k (core_of s)) (sym (refused_ledger c r)) i.agree;
          budget = rw e (spent (is_drain c));
        };
      }
    where
      spent : (b : Bool) → n + cond b 0 0 + quota s ≤ 2
      spent true = omega (arith, i.budget)
      spent false = omega (arith, i.budget)

  -- a call that keeps the core and the quota and hands out nothing
  quiet_laws : (t : Cgb) → core_of t ≡ core_of s → quota t ≡ quota s → CallLaws k l n another (accepting (quiet t))
  unfolding after_call after_pairs
  quiet_laws t same q =
      record {
        next = λ e. no_more;
        caused = λ e. no_cause;
        refill = λ f e. no_fall f;
        holds = record {
          agree = subst (λ (c : Core). Match k c l) (sym same) i.agree;
          budget = omega (arith, q, i.budget);
        };
      }

  -- a call that hands out the ledger's next pairs, each taken from quota
  giving_laws :
      (ps : List BytePair) (ks : List Cause) (e : VramDma) → PairsMatch k s.dmg_compat l (quota s) ps ks e →
      CallLaws k l n another (accepting (giving ps ks (with_vram_dma e s)))
  unfolding after_call
  giving_laws ps ks e p =
      record {
        next = λ t. p.next;
        caused = λ t. p.caused;
        refill = λ f t. no_fall f;
        holds = record { agree = p.agree; budget = omega (arith, p.quota, i.budget) };
      }

  write_laws : (a : ℕ) (w : WriteInput) → w.value < 256 → CallLaws k l n (a_write a w.value) (accepting (quiet (map_write_of s w a).state))
  unfolding after_call after_pairs
  write_laws a w byte =
      let both = write_match k s w byte l i.agree a in
      record {
        next = λ e. no_more;
        caused = λ e. no_cause;
        refill = λ f e. no_fall f;
        holds = record { agree = both.agree; budget = omega (arith, both.quota, i.budget) };
      }

  -- a fall hands out nothing, and refills the quota where nothing refused it
  fall_laws :
      (x : FallInput) → (fallen s x).refused ≡ false →
      CallLaws k l n a_fall (accepting (given_by s (Calls.fall x)))
  unfolding after_call after_pairs fallen_state
  fall_laws x accepted =
      record {
        next = λ t. no_more;
        caused = λ t. no_cause;
        refill = λ f t. (fall_steps x s.double_speed s.vram_dma).quota accepted;
        holds = record {
          agree = subst (λ (c : Core). Match k c l) (sym (fall_core s x)) i.agree;
          budget = within s.double_speed _ ((refills x s.double_speed s.vram_dma).bounded accepted);
        };
      }
    where
      within : (double : Bool) (q : ℕ) → q ≤ cond double 1 2 → 0 + q ≤ 2
      within true q h = omega arith
      within false q h = omega arith

  -- a switch: a cut sets free
  switch_laws : (x : SwitchInput) → CallLaws k l n a_switch (accepting (given_by s (Calls.switch_speed x)))
  unfolding after_call after_pairs switched_of outcome_of graded_of Balanced
  switch_laws x =
      let m = i.agree in
      let up = not s.double_speed in
      let d = s.vram_dma in
      let latched = ltb 0 d.block.remaining in
      let core : under s.dmg_compat (engine_after up d).cursor ≡ _ =
      ap (under s.dmg_compat) (upward_cursor up d) ∙ switch_core s.dmg_compat up latched (ready_block d) d in
      record {
        next = λ e. no_more;
        caused = λ e. no_cause;
        refill = λ f e. no_fall f;
        holds = record {
          agree = subst (λ (c : Core). Match k c (after_cut (cuts (switched_of x s).outcome) l)) (sym core)
              (record {
                locked = m.locked;
                source = m.source;
                dest = m.dest;
                left = m.left;
                free = ap (λ (f : Bool). cuts (switched_of x s).outcome || f) m.free;
                source_bound = m.source_bound;
                dest_bound = m.dest_bound;
                balance = m.balance;
              });
          budget = omega (
            arith,
            ap (λ (c : TransferCursor). c.quota) (upward_cursor up d),
            switch_quota up latched (ready_block d) d,
            i.budget,
          );
        };
      }

  -- the escape drain: its pair is not counted, and it leaves quota 0
  abbrev DrainLaws : NextByte → Type 0
  DrainLaws x = CallLaws k l n a_drain (accepting (handing_on s x))

  drained_laws : s.vram_dma.cursor.escape_byte ≡ true → moving_of s.vram_dma ≡ true → DrainLaws (drain_of s.vram_dma)
  unfolding after_call
  drained_laws owed moving =
      let p = drain_match k s.dmg_compat s.vram_dma l i.agree owed moving in
      record {
        next = λ t. p.next;
        caused = λ t. p.caused;
        refill = λ f t. no_fall f;
        holds = record { agree = p.agree; budget = omega (arith, (pair_steps.drains s.vram_dma owed moving).1, i.budget) };
      }

  undrained_laws : drain_of s.vram_dma ≡ record { answer = option.None; dma = s.vram_dma } → DrainLaws (drain_of s.vram_dma)
  unfolding after_call after_pairs
  undrained_laws e =
      subst DrainLaws (sym e)
      (record {
        next = λ t. no_more;
        caused = λ t. no_cause;
        refill = λ f t. no_fall f;
        holds = record { agree = i.agree; budget = omega (arith, i.budget) };
      })

  drain_laws : DrainLaws (drain_of s.vram_dma)
  drain_laws = by s.vram_dma.cursor.escape_byte (moving_of s.vram_dma) refl refl
    where
      by :
          (a b : Bool) → s.vram_dma.cursor.escape_byte ≡ a → moving_of s.vram_dma ≡ b → DrainLaws (drain_of s.vram_dma)
      by true true a b = drained_laws a b
      by true false a b = undrained_laws (pair_steps.owed_still s.vram_dma b)
      by false m a b = undrained_laws (pair_steps.none_owed s.vram_dma a)

  -- every call of H, accepted
  accepted_laws : (c : Call) → (unreached s ≡ false) × NoneHolds (reasons_of s c) → CallLaws k l n (ledger_input c) (accepting (given_by s c))
  unfolding ledger_input
  accepted_laws (Calls.write a w x byte) none = write_laws a w (lit< byte)
  accepted_laws (Calls.read a x) none = quiet_laws s refl refl
  accepted_laws (Calls.fall x) none = fall_laws x none.1.1.0
  accepted_laws Calls.next_pair none = giving_laws _ _ _ (next_match k s.dmg_compat s.vram_dma l i.agree)
  accepted_laws Calls.escape_drain none = drain_laws
  accepted_laws (Calls.bus_call x y) none = giving_laws _ _ _ (bus_match k s.dmg_compat x s.vram_dma l i.agree)
  accepted_laws (Calls.switch_speed x) none = switch_laws x
  accepted_laws Calls.lcd_off none = quiet_laws _ (lcd_core s) (lcd_quota s)
  accepted_laws Calls.retired none = quiet_laws (given_by s Calls.retired).state refl refl
  accepted_laws (Calls.blackout elapsed) none = quiet_laws _ (blackout_core s elapsed) (blackout_quota s elapsed)
  accepted_laws (Calls.wake boundary) none = quiet_laws _ (wake_core s boundary) (wake_quota s boundary)
  accepted_laws (Calls.arbitrate x) none = quiet_laws (given_by s (Calls.arbitrate x)).state refl refl
  accepted_laws (Calls.conflict a) none = quiet_laws s refl refl
  accepted_laws (Calls.query q) none = quiet_laws s refl refl
  accepted_laws (Calls.arbitrate_inside x) none = quiet_laws (given_by s (Calls.arbitrate_inside x)).state refl refl
  accepted_laws (Calls.bus_call_inside x y) none =
      giving_laws _ _ _ (bus_match k s.dmg_compat (inside_bus s x) s.vram_dma l i.agree)
  accepted_laws (Calls.object_dma_cycle a y) none = quiet_laws (given_by s (Calls.object_dma_cycle a y)).state refl refl

  -- and declined
  pub keeps : (c : Call) → CallLaws k l n (ledger_input c) (step s c)
  keeps c =
      either_way s (CallLaws k l n (ledger_input c)) c (accepted_laws c) (declined_laws (ledger_input c))
