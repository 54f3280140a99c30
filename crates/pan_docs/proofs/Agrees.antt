-- The port agrees with Pan Docs where specs/Agreement says so, and differs where it says so. Assumes nothing.
use Prim.Native.Nat.{ℕ, ◌+◌, ◌-◌, ◌*◌, ◌/◌, ◌%◌, ◌<◌, ◌≤◌}
use native.Mathlib.Omega.{arith}
use mathlib.Core.Path.{◌≡◌, refl, ap, ◌∙◌}
use mathlib.Core.Bool.{Bool, true, false, not, and-false}
use lib.Dec.{ltb}
use mathlib.Core.List.{List, [], ◌∷◌}
use lib.ListN as list
use borrow.Author.Tests.{lt-ltb, le-ltb, not-false}
use Rattle.std.proofs.Common.{None, Ok}
use Rattle.console.specs.Modes.{is_hblank}
use Rattle.console.specs.PowerOn.{power_on_of, dma_at_rest}
use Rattle.console.specs.Reached.{unreached, Reached}
use Rattle.console.specs.declared.Cgb.{Cgb}
use Rattle.console.specs.declared.vram_dma.TransferMode.TheVariants as mode
use Rattle.console.specs.Set.{with_ff_72, with_ff_73, with_ff_74, with_ff_75, with_svbk}
use Rattle.console.specs.Refusals.{Reason, ◌⇒◌, number_of, Numbered}
use Rattle.console.specs.declared.refusal.Refusal.TheVariants.{Phase, Held, State, Blackout, Unarmed, Deferred, Page}
use Rattle.console.proofs.Reached.{reached, passes, reached_with_svbk}
use Rattle.console.proofs.Refusals.{none_holds, numbered}
use Rattle.hdma.specs.Hdma5.{hdma5_written, armed_of, cancelled_of, general_started, status_byte, visible}
use Rattle.transfer.specs.Questions.{write_address, seizes_bus}
use Rattle.registers.specs.Map.{place_of, readable, writable, banked_ram, locks_at}
use Rattle.memory.specs.Lengths.{wram_length}
use Rattle.memory.specs.Wram as port
use Rattle.map_write.specs.Write.{MapWritten, state_at, with_source, with_dest, map_write_of, stored_of}
use Rattle.map_write.specs.declared.WriteInput.{WriteInput}
use Rattle.map_write.proofs.WriteSteps.{map_write_steps}
use Rattle.hdma.proofs.Written.{keeps, arms, disarms, starts}
use Rattle.registers.proofs.Places.{at_d}
use Rattle.engine.specs.Calls.{page_above, write_refusal, access_refusal, read_of, write_of, fall_refusal, fallen_state, fall_call_of}
use Rattle.engine.specs.Calls.{defers, switch_refusal, switch_call_of}
use Rattle.fall_stages.specs.Fall.{view_of}
use Rattle.fall_stages.specs.Fall.{observed_arb, observed_of, judged_block, ungranted_arb, probation_of, dropped_block, halt_latch_arb}
use Rattle.fall_stages.specs.Fall.{halt_latch_of, aged_arb, pended_arb, grants, granted_arb, gated_of, refilled_of, blinds_arb, blinds_of}
use Rattle.fall_stages.specs.Fall.{commit_block, commit_arb, commit_of, tenure_arb, tenure_of, pend_arb, pend_of, readied_block, readiness_of}
use Rattle.fall_stages.specs.Fall.{seized_block, seizure_of}
use Rattle.fall_stages.specs.Fall as stages
use Rattle.fall_stages.specs.Fall.{fall_of, ran_of, decided_of, served_of}
use Rattle.transfer.specs.Pair.{moving_of}
use Rattle.speed_switch.specs.Switch.{switched_of, blackout_of}
use Rattle.speed_switch.specs.declared.switch.SwitchInput.{SwitchInput}
use Rattle.answers.specs.declared.Outcome.{Outcome}
use Rattle.register_calls.proofs.Accepted.{read_accepted, write_accepted, write_unlocked}
use Rattle.register_calls.proofs.Refusals.{at_21}
use Rattle.pan_docs.specs.PanDocs as pan
use Rattle.pan_docs.specs.Agreement.{CgbMode, Whole, state_after_write, transferring, Reads, Agreement, Difference}
use Rattle.pan_docs.proofs.Bits as bits

abbrev input : ℕ → Bool → ℕ → WriteInput
input v lcd edge = record { value = v; lcd_on = lcd; oam_start_edge = edge }

module _ (s : Cgb) (m : CgbMode s) where
  -- in CGB mode an accepted write leaves what the map says
  written :
      (a v : ℕ) (lcd : Bool) (edge : ℕ) → writable (place_of a) ≡ true → page_above v a ≡ false →
      state_after_write a v lcd edge s ≡ state_at s (input v lcd edge) (place_of a)
  written a v lcd edge mapped page = write_unlocked s m.reached a (input v lcd edge) mapped page m.unlocked

  key1_reads : Reads s 0xFF4D (pan.key1 s.double_speed s.key1_armed)
  unfolding place_of
  key1_reads wram whole =
      read_accepted s m.reached 0xFF4D refl wram whole ∙ rw (m.unlocked, bits.key1)

  key1_arms :
      (v : ℕ) (lcd : Bool) (edge : ℕ) →
      (pan.flag_bit (state_after_write 0xFF4D v lcd edge s).key1_armed ≡ pan.bit_at 0 v) ×
      ((state_after_write 0xFF4D v lcd edge s).double_speed ≡ s.double_speed)
  unfolding place_of
  key1_arms v lcd edge = rw (written 0xFF4D v lcd edge refl refl) (bits.flag v, refl)

  vbk_selects : (v : ℕ) (lcd : Bool) (edge : ℕ) → (state_after_write 0xFF4F v lcd edge s).vram.selected ≡ pan.bit_at 0 v
  unfolding place_of
  vbk_selects v lcd edge = rw (written 0xFF4F v lcd edge refl refl) (omega arith)

  vbk_reads : Reads s 0xFF4F (pan.vbk s.vram.selected)
  unfolding place_of
  vbk_reads wram whole =
      read_accepted s m.reached 0xFF4F refl wram whole ∙ rw (bits.vbk s.vram.selected (reached s m.reached).banks.bank)

  -- a pointer's write keeps what CGB mode asks
  source_mode : (x : ℕ) → CgbMode (with_source x s)
  unfolding unreached
  source_mode x = record { reached = m.reached; unlocked = m.unlocked }

  dest_mode : (x : ℕ) → CgbMode (with_dest x s)
  unfolding unreached
  dest_mode x = record { reached = m.reached; unlocked = m.unlocked }

  dma : (v : ℕ) (lcd : Bool) (edge : ℕ) → (state_after_write 0xFF55 v lcd edge s).vram_dma ≡ hdma5_written v lcd s.vram_dma
  unfolding place_of
  dma v lcd edge = rw (written 0xFF55 v lcd edge refl refl)

  key0_locked : (v : ℕ) (lcd : Bool) (edge : ℕ) → state_after_write 0xFF4C v lcd edge s ≡ s
  unfolding place_of
  key0_locked v lcd edge = rw (written 0xFF4C v lcd edge refl refl)

  pointers_hidden : Reads s 0xFF51 pan.write_only × Reads s 0xFF52 pan.write_only × Reads s 0xFF53 pan.write_only × Reads s 0xFF54 pan.write_only
  unfolding place_of
  pointers_hidden = (
    read_accepted s m.reached 0xFF51 refl,
    read_accepted s m.reached 0xFF52 refl,
    read_accepted s m.reached 0xFF53 refl,
    read_accepted s m.reached 0xFF54 refl,
  )

  -- the port stores the length with every write, also where Pan Docs does not
  length-set : (v : ℕ) (lcd : Bool) (edge : ℕ) → (state_after_write 0xFF55 v lcd edge s).vram_dma.cursor.remaining ≡ pan.transfer_length v
  length-set v lcd edge = rw (dma v lcd edge, (keeps v lcd s.vram_dma).left) (bits.length v)

  hblank_starts : (v : ℕ) (lcd : Bool) (edge : ℕ) → v < 256 → pan.bit_at 7 v ≡ 1 → (state_after_write 0xFF55 v lcd edge s).vram_dma.cursor.mode ≡ mode.HBlank
  hblank_starts v lcd edge h e = rw (dma v lcd edge) (arms v lcd s.vram_dma (bits.bit7_set v h e))

  general_starts :
      (v : ℕ) (lcd : Bool) (edge : ℕ) → v < 256 → pan.bit_at 7 v ≡ 0 → is_hblank s.vram_dma.cursor.mode ≡ false →
      (state_after_write 0xFF55 v lcd edge s).vram_dma.cursor.mode ≡ mode.General
  general_starts v lcd edge h e none = rw (dma v lcd edge) (starts v lcd s.vram_dma (bits.bit7_clear v h e) none)

  cancel_stops :
      (v : ℕ) (lcd : Bool) (edge : ℕ) → v < 256 → pan.bit_at 7 v ≡ 0 → s.vram_dma.cursor.mode ≡ mode.HBlank →
      (state_after_write 0xFF55 v lcd edge s).vram_dma.cursor.mode ≡ mode.Idle
  cancel_stops v lcd edge h e runs =
      rw (dma v lcd edge) (disarms v lcd s.vram_dma (bits.bit7_clear v h e) (ap is_hblank runs))

  status_reads : Reads s 0xFF55 (status_byte s.vram_dma)
  unfolding place_of
  status_reads wram whole = read_accepted s m.reached 0xFF55 refl wram whole

  svbk_selects : (v : ℕ) (lcd : Bool) (edge : ℕ) → port.wram_bank (state_after_write 0xFF70 v lcd edge s).svbk ≡ pan.work_ram_bank v
  unfolding place_of
  svbk_selects v lcd edge = rw (written 0xFF70 v lcd edge refl refl)

module _ (s : Cgb) (m : CgbMode s) (high low : ℕ) (lcd : Bool) (edge : ℕ) (h : low < 256) where
  source_set : (state_after_write 0xFF52 low lcd edge (state_after_write 0xFF51 high lcd edge s)).vram_dma.cursor.source ≡ pan.source high low
  unfolding place_of
  source_set =
      rw (written s m 0xFF51 high lcd edge refl refl, written (with_source _ s) (source_mode s m _) 0xFF52 low lcd edge refl refl)
      (bits.source high low s.vram_dma.cursor.source h)

  destination_set :
      write_address (state_after_write 0xFF54 low lcd edge (state_after_write 0xFF53 high lcd edge s)).vram_dma.cursor ≡ pan.destination high low
  unfolding place_of
  destination_set =
      rw (written s m 0xFF53 high lcd edge refl refl, written (with_dest _ s) (dest_mode s m _) 0xFF54 low lcd edge refl refl)
      (bits.destination high low s.vram_dma.cursor.dest h)

module _ (s : Cgb) (m : CgbMode s) where
  running_reads :
      (remaining : ℕ) → s.vram_dma.cursor.mode ≡ mode.HBlank → s.vram_dma.arb.granted_ahead ≡ 0 →
      s.vram_dma.cursor.remaining ≡ 16 * remaining → 0 < remaining → remaining ≤ 128 → Reads s 0xFF55 (pan.hdma5_running remaining)
  unfolding status_byte
  running_reads n armed granted left some few wram whole =
      let seen : visible s.vram_dma ≡ n = omega arith in
      status_reads s m wram whole ∙
      rw (seen, ap is_hblank armed, lt-ltb 0 n some) (ap Ok (bits.running n some few))

  complete_reads : s.vram_dma.cursor.remaining ≡ 0 → Reads s 0xFF55 pan.hdma5_complete
  unfolding status_byte
  complete_reads none wram whole =
      let seen : visible s.vram_dma ≡ 0 = omega arith in
      status_reads s m wram whole ∙ rw (seen, and-false)

module _ (s : Cgb) (m : CgbMode s) (v : ℕ) (lcd : Bool) (edge : ℕ) where
  -- a bank of three bits passes 7
  banked_reached : unreached (with_svbk (v % 8) s) ≡ false
  banked_reached =
      let r : Reached s = reached s m.reached in
      passes (with_svbk (v % 8) s)
      (reached_with_svbk s (v % 8) r (omega arith))

  banked_reads :
      (i : ℕ) (wram : List ℕ) → Whole wram → i < 4096 →
      read_of (state_after_write 0xFF70 v lcd edge s) wram (0xD000 + i) ≡ Ok (list.get_or wram (pan.work_ram_bank v * 4096 + i) 0)
  unfolding place_of
  banked_reads i wram whole h =
      rw (written s m 0xFF70 v lcd edge refl refl)
      (let place : place_of (0xD000 + i) ≡ banked_ram i =
      at_d (0xD000 + i) (omega arith) (omega arith) ∙ ap banked_ram (let e : 0xD000 + i - 0xD000 ≡ i = omega arith in e) in
      read_accepted (with_svbk (v % 8) s) banked_reached (0xD000 + i) (ap readable place) wram whole ∙ rw place)

  ff72_reads : Reads (state_after_write 0xFF72 v lcd edge s) 0xFF72 v
  unfolding place_of unreached
  ff72_reads wram whole = rw (written s m 0xFF72 v lcd edge refl refl) (read_accepted (with_ff_72 v s) m.reached 0xFF72 refl wram whole)

  ff73_reads : Reads (state_after_write 0xFF73 v lcd edge s) 0xFF73 v
  unfolding place_of unreached
  ff73_reads wram whole = rw (written s m 0xFF73 v lcd edge refl refl) (read_accepted (with_ff_73 v s) m.reached 0xFF73 refl wram whole)

  ff74_reads : Reads (state_after_write 0xFF74 v lcd edge s) 0xFF74 v
  unfolding place_of unreached
  ff74_reads wram whole =
      rw (written s m 0xFF74 v lcd edge refl refl) (read_accepted (with_ff_74 v s) m.reached 0xFF74 refl wram whole ∙ rw m.unlocked)

  ff75_reads : Reads (state_after_write 0xFF75 v lcd edge s) 0xFF75 (pan.ff75 v)
  unfolding place_of unreached
  ff75_reads wram whole =
      rw (written s m 0xFF75 v lcd edge refl refl)
      (read_accepted (with_ff_75 (v / 16 % 8 * 16) s) m.reached 0xFF75 refl wram whole ∙ ap Ok (bits.ff75 v))

ff74_locked : (s : Cgb) → unreached s ≡ false → s.dmg_compat ≡ true → Reads s 0xFF74 0xFF
unfolding place_of
ff74_locked s r compat wram whole = read_accepted s r 0xFF74 refl wram whole ∙ rw compat

module _ (s : Cgb) (i : SwitchInput) where
  switch_flips :
      switch_refusal s i ≡ None →
      ((switch_call_of s i).state.double_speed ≡ not s.double_speed) × ((switch_call_of s i).state.key1_armed ≡ false)
  unfolding switch_call_of switched_of
  switch_flips accepted = (rw accepted, rw accepted)

  -- where a switch is accepted none of its reasons to decline holds: the fifth is that it is not armed
  switch_armed : switch_refusal s i ≡ None → s.key1_armed ≡ true
  unfolding switch_refusal
  switch_armed accepted = not-false s.key1_armed (none_holds reasons (ap number_of accepted)).1.1.1.1.0
    where
      reasons : List Reason
      reasons =
          (unreached s ⇒ State) ∷
          (ltb 4 i.dot_phase ⇒ Phase) ∷
          (i.hold ⇒ Held) ∷
          (ltb 0 s.speed_switch_blackout ⇒ Blackout) ∷
          (not s.key1_armed ⇒ Unarmed) ∷
          (defers s ⇒ Deferred) ∷ []

-- ---- object DMA
dma_starts :
    (s : Cgb) (p : ℕ) (lcd : Bool) (edge : ℕ) → unreached s ≡ false → p ≤ pan.last_page →
    (state_after_write 0xFF46 p lcd edge s).object_dma ≡ transferring p 0 edge
unfolding place_of
dma_starts s p lcd edge reached low =
    ap (λ (r : Outcome (Unit {0})). r.state.object_dma) (write_accepted s reached 0xFF46 (input p lcd edge) refl (le-ltb 0xDF p low))
    ∙ ap (λ (r : MapWritten). r.state.object_dma) (map_write_steps.dma s (input p lcd edge)).starts

dma_above : (s : Cgb) (p : ℕ) → unreached s ≡ false → pan.last_page < p → Numbered (write_refusal s p wram_length 0xFF46) Page 21
dma_above s p reached high = numbered (at_21 s p wram_length 0xFF46 reached refl (lt-ltb 0xDF p high))

pub agreement : Agreement
agreement =
    record {
      key0_locked = λ s v lcd edge m. key0_locked s m v lcd edge;
      key1_reads = key1_reads;
      key1_arms = λ s v lcd edge m. key1_arms s m v lcd edge;
      switch_flips = switch_flips;
      switch_armed = switch_armed;
      vbk_selects = λ s v lcd edge m. vbk_selects s m v lcd edge;
      vbk_reads = vbk_reads;
      source_set = λ s high low lcd edge m h. source_set s m high low lcd edge h;
      destination_set = λ s high low lcd edge m h. destination_set s m high low lcd edge h;
      pointers_hidden = pointers_hidden;
      length-set = λ s v lcd edge m starts. length-set s m v lcd edge;
      hblank_starts = λ s v lcd edge m. hblank_starts s m v lcd edge;
      general_starts = λ s v lcd edge m. general_starts s m v lcd edge;
      cancel_stops = λ s v lcd edge m. cancel_stops s m v lcd edge;
      running_reads = λ s n m. running_reads s m n;
      complete_reads = complete_reads;
      svbk_selects = λ s v lcd edge m. svbk_selects s m v lcd edge;
      banked_reads = λ s v i lcd edge wram m. banked_reads s m v lcd edge i wram;
      dma_starts = dma_starts;
      dma_above = dma_above;
      dma_moves = λ p k edge h. (lt-ltb k 160 h, refl, refl);
      dma_ends = λ p edge. refl;
      ff72_reads = λ s v lcd edge m. ff72_reads s m v lcd edge;
      ff73_reads = λ s v lcd edge m. ff73_reads s m v lcd edge;
      ff74_reads = λ s v lcd edge m. ff74_reads s m v lcd edge;
      ff75_reads = λ s v lcd edge m. ff75_reads s m v lcd edge;
      ff74_locked = ff74_locked;
      time = bits.time;
      time_with_room = bits.time_with_room;
      time_double_with_room = bits.time_double_with_room;
    }

-- What the differences compute with, by what their calls do: to open one of these is to open all that it names
opens_access : Unit {0}
unfolding power_on_of dma_at_rest unreached read_of write_of access_refusal place_of map_write_of stored_of locks_at
opens_access = tt

opens_hdma5 : Unit {0}
unfolding hdma5_written armed_of cancelled_of general_started status_byte moving_of seizes_bus
opens_hdma5 = tt

opens_fall_decides : Unit {0}
unfolding fall_call_of fall_refusal fallen_state fall_of view_of ran_of decided_of stages.started_of served_of
opens_fall_decides = tt

opens_fall_grants : Unit {0}
unfolding observed_arb observed_of judged_block ungranted_arb probation_of dropped_block halt_latch_arb halt_latch_of aged_arb pended_arb grants granted_arb
opens_fall_grants = tt

opens_fall_commits : Unit {0}
unfolding gated_of refilled_of blinds_arb blinds_of commit_block commit_arb commit_of tenure_arb tenure_of pend_arb pend_of
    readied_block readiness_of seized_block seizure_of
opens_fall_commits = tt

opens_switch : Unit {0}
unfolding switch_call_of switch_refusal switched_of blackout_of defers
opens_switch = tt

pub difference : Difference
unfolding opens_access opens_hdma5 opens_fall_decides opens_fall_grants opens_fall_commits opens_switch
difference =
    record {
      cancel_stores = (λ wram whole. rw whole, refl);
      destination_kept = (refl, refl);
      counted_at_commit = (refl, λ wram whole. rw whole, refl);
      general_seen = λ wram whole. rw whole;
      time_double = (refl, refl);
      time_short = bits.time_short;
      time_carried = (refl, refl, refl, refl);
      halt_counts = (λ wram whole. rw whole, refl);
      switch_length = (refl, refl);
      switch_held = (refl, refl);
      vbk_unlocked = λ wram whole. rw whole;
      svbk_read_back = λ wram whole. rw whole;
      key0_reads = λ wram whole. rw whole;
      extra_oam = λ wram whole. rw whole;
    }
