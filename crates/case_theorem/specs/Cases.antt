-- The cases (document 01, "Cases"), with the ledger beside them: lists of calls from power-on, run by the calls' own definitions.
-- In a list a bus call is by its slices' lengths: what it hands out is the same for any contents.
use Rattle.std.specs.Prelude.{ℕ, zero, suc, ◌+◌, ◌-◌, ◌<◌, ◌≡◌, true, false, List, [], ◌∷◌, ◌++◌, T, ltb, length, set, get_or, Ok}
use Rattle.console.specs.PowerOn.{power_on_of}
use Rattle.console.specs.declared.Cgb.{Cgb}
use Rattle.memory.specs.Lengths.{cartridge_length, wram_length, vram_length, oam_length}
use Rattle.bus.specs.declared.arbitration.Arbitration.TheVariants.{Contended}
use Rattle.bus.specs.declared.arbitration.ArbitrationInput.{ArbitrationInput}
use Rattle.bus.specs.declared.commit.BusInput.{BusInput}
use Rattle.cut.specs.declared.SwitchOutcome.TheVariants.{Cut}
use Rattle.transfer.specs.declared.pair.BytePair.{BytePair}
use Rattle.engine.specs.Calls.{read_of, Lengths, lengths_of, bus_answer, bus_vram, bus_oam, arbitration_call_of, switch_call_of, inside_bus}
use Rattle.speed_switch.specs.declared.switch.SwitchInput.{SwitchInput}
use Rattle.ledger.specs.LedgerInput.{Configuration}
use Rattle.ledger.specs.Ledger.{Ledger, empty, after_call}
use Rattle.ledger.specs.Calls.{Call, write, read, fall, next_pair, escape_drain, bus_call, switch_speed, lcd_off, retired}
use Rattle.ledger.specs.Calls.{blackout, wake, arbitrate, conflict, query, arbitrate_inside, bus_call_inside, object_dma_cycle, step, ledger_input}

-- the engine, the ledger beside it, and the pairs so far
pub record Progress : Type 0 where
  pub engine : Cgb
  pub ledger : Ledger
  pub pairs : List BytePair

-- power-on with and without compat
abbrev pub in_compat : Configuration
in_compat = record { compat = true }

abbrev pub without_compat : Configuration
without_compat = record { compat = false }

unfoldable pub start : Configuration → Progress
start k = record { engine = power_on_of k.compat; ledger = empty; pairs = [] }

unfoldable pub after_one : Configuration → Progress → Call → Progress
after_one k w c =
    let o = step w.engine c in
    record {
      engine = o.state;
      ledger = after_call k (ledger_input c) o.reply w.ledger;
      pairs = w.pairs ++ o.reply.pairs;
    }

-- a list of calls, each at what the last one left
unfoldable pub after_calls : Configuration → Progress → List Call → Progress
after_calls k w [] = w
after_calls k w (c ∷ cs) = after_calls k (after_one k w c) cs

-- from power-on without compat
abbrev pub run : List Call → Progress
run calls = after_calls without_compat (start without_compat) calls

-- VRAM after those calls, with these contents in the slices
abbrev pub vram_at : Progress → Call → List ℕ → List ℕ → List ℕ → List ℕ
vram_at w (write a i n byte) cartridge wram vram = vram
vram_at w (read a n) cartridge wram vram = vram
vram_at w (fall i) cartridge wram vram = vram
vram_at w next_pair cartridge wram vram = vram
vram_at w escape_drain cartridge wram vram = vram
vram_at w (bus_call i n) cartridge wram vram = bus_vram w.engine i n cartridge wram vram
vram_at w (switch_speed i) cartridge wram vram = vram
vram_at w lcd_off cartridge wram vram = vram
vram_at w retired cartridge wram vram = vram
vram_at w (blackout elapsed) cartridge wram vram = vram
vram_at w (wake boundary) cartridge wram vram = vram
vram_at w (arbitrate i) cartridge wram vram = vram
vram_at w (conflict a) cartridge wram vram = vram
vram_at w (query q) cartridge wram vram = vram
vram_at w (arbitrate_inside i) cartridge wram vram = vram
vram_at w (bus_call_inside i n) cartridge wram vram = bus_vram w.engine (inside_bus w.engine i) n cartridge wram vram
vram_at w (object_dma_cycle a n) cartridge wram vram = vram

unfoldable pub vram_run : Progress → List Call → List ℕ → List ℕ → List ℕ → List ℕ
vram_run w [] cartridge wram vram = vram
vram_run w (c ∷ cs) cartridge wram vram = vram_run (after_one without_compat w c) cs cartridge wram (vram_at w c cartridge wram vram)

-- the first n bytes of the cartridge, at the start of VRAM
abbrev pub copied : ℕ → List ℕ → List ℕ → List ℕ
copied zero cartridge vram = vram
copied (suc n) cartridge vram = set (copied n cartridge vram) n (get_or cartridge n 0)

-- "FF55 is v": a read call of it answers v, whatever the work RAM that is lent to it holds
abbrev pub ff55_is : ℕ → Progress → Type 0
ff55_is v w = (wram : List ℕ) → length wram ≡ wram_length → read_of w.engine wram 0xFF55 ≡ Ok v

-- "LCD on"
abbrev pub to : (address value : ℕ) → T (ltb value 256) → Call
to address value byte = write address (record { value = value; lcd_on = true; oam_start_edge = 0 }) 32768 byte

-- a running fall at an edge
abbrev pub falls_at : ℕ → ℕ → Call
falls_at edge mode =
    fall (record { mode = mode; halted = false; irq_latched = false; stopped = false; master_edge = edge; oam_owns_bus = false })

abbrev pub falls : ℕ → Call
falls mode = falls_at 0 mode

-- a held bus, beside an OAM DMA that started at this edge
abbrev pub held_beside : ℕ → BusInput
held_beside edge = record { hold = true; suspended = false; oam_start_edge = edge }

abbrev pub held_input : BusInput
held_input = held_beside 0

abbrev pub lengths : Lengths
lengths = record { cartridge = cartridge_length; wram = wram_length; vram = vram_length; oam = oam_length }

abbrev pub held_bus : Call
held_bus = bus_call held_input lengths

-- n rounds of fall and held bus
abbrev pub rounds : ℕ → ℕ → List Call
rounds zero mode = []
rounds (suc n) mode = falls mode ∷ held_bus ∷ rounds n mode

abbrev pub unheld : ℕ → SwitchInput
unheld phase = record { hold = false; dot_phase = phase; interrupt_ready = false; master_edge = 0 }

-- the addresses of pairs, source and destination
abbrev pub addresses : List BytePair → List (ℕ × ℕ)
addresses [] = []
addresses (p ∷ ps) = (p.source, p.dest) ∷ addresses ps

-- n pairs from these addresses up
abbrev pub upward : ℕ → ℕ → ℕ → List (ℕ × ℕ)
upward zero source dest = []
upward (suc n) source dest = (source, dest) ∷ upward n (source + 1) (dest + 1)

-- "FF55=00, eight rounds of fall and held bus: 0000h→8000h to 000Fh→800Fh, then FF", in any mode of the fall
abbrev pub k1_calls : ℕ → List Call
k1_calls mode = to 0xFF55 0x00 tt ∷ rounds 8 mode

abbrev pub k1 : ℕ → Progress
k1 mode = run (k1_calls mode)

pub record K1 (mode : ℕ) : Type 0 where
  pub moved : addresses (k1 mode).pairs ≡ upward 16 0x0000 0x8000
  pub reads : ff55_is 0xFF (k1 mode)
  pub counted : ((k1 mode).ledger.pairs ≡ 16) × ((k1 mode).ledger.left ≡ 0)
  -- with any memory contents
  pub stored : (cartridge wram vram : List ℕ) → vram_run (start without_compat) (k1_calls mode) cartridge wram vram ≡ copied 16 cartridge vram

-- "FF55=80 and falls in modes 3, 0, 0, 0, 0: FF55 is 00 after the second, FF after the third; bus after the fourth takes the
-- set-up cell, after the fifth two pairs"
abbrev pub two_falls : (v : ℕ) → T (ltb v 256) → List Call
two_falls v byte = to 0xFF55 v byte ∷ falls 3 ∷ falls 0 ∷ []

abbrev pub four_falls : (v : ℕ) → T (ltb v 256) → List Call
four_falls v byte = two_falls v byte ++ (falls 0 ∷ falls 0 ∷ [])

abbrev pub five_falls : (v : ℕ) → T (ltb v 256) → List Call
five_falls v byte = four_falls v byte ++ (held_bus ∷ falls 0 ∷ [])

pub record K2 : Type 0 where
  pub second : ff55_is 0x00 (run (two_falls 0x80 tt))
  pub third : ff55_is 0xFF (run (two_falls 0x80 tt ++ (falls 0 ∷ [])))
  pub fourth : bus_answer (run (four_falls 0x80 tt)).engine held_input lengths ≡ Ok (record { count = 0; setup_cell = true })
  pub fifth : bus_answer (run (five_falls 0x80 tt)).engine held_input lengths ≡ Ok (record { count = 2; setup_cell = false })
  pub moved : addresses (run (five_falls 0x80 tt ++ (held_bus ∷ []))).pairs ≡ upward 2 0x0000 0x8000

-- "83 then 00 in front of any fall: 80"
pub record K3 : Type 0 where
  pub reads : ff55_is 0x80 (run (to 0xFF55 0x83 tt ∷ to 0xFF55 0x00 tt ∷ []))

-- "destination FFF0h, General 01: 16 pairs, cut off 16"
abbrev pub k4 : Progress
k4 = run (to 0xFF53 0xFF tt ∷ to 0xFF54 0xF0 tt ∷ to 0xFF55 0x01 tt ∷ rounds 16 3)

pub record K4 : Type 0 where
  pub moved : addresses k4.pairs ≡ upward 16 0x0000 0x9FF0
  pub cut_off : k4.ledger.cut_off ≡ 16
  pub left : k4.ledger.left ≡ 0

-- "destination 9FF0h, General 01: 32 pairs, the 17th to 8000h"
abbrev pub k5 : Progress
k5 = run (to 0xFF53 0x9F tt ∷ to 0xFF54 0xF0 tt ∷ to 0xFF55 0x01 tt ∷ rounds 16 3)

pub record K5 : Type 0 where
  pub moved : addresses k5.pairs ≡ upward 16 0x0000 0x9FF0 ++ upward 16 0x0010 0x8000
  pub cut_off : k5.ledger.cut_off ≡ 0

-- "as K2 with 81, then FF4D=01 and an unheld switch: cut; fall and bus: one free pair, left 30, FF55 80"
abbrev pub k6_armed : Progress
k6_armed = run (five_falls 0x81 tt ++ (held_bus ∷ to 0xFF4D 0x01 tt ∷ []))

abbrev pub k6 : Progress
k6 = after_calls without_compat k6_armed (switch_speed (unheld 4) ∷ falls 0 ∷ held_bus ∷ [])

pub record K6 : Type 0 where
  pub cut : (switch_call_of k6_armed.engine (unheld 4)).answer ≡ Ok Cut
  pub moved : addresses k6.pairs ≡ upward 3 0x0000 0x8000
  pub free : k6.ledger.free_pairs ≡ 1
  pub left : (k6.engine.vram_dma.cursor.remaining ≡ 30) × (k6.ledger.left ≡ 30)
  pub reads : ff55_is 0x80 k6

-- "up at phase 3, down, up, each after FF4D=01, unheld, no interrupt ready, drained between: 131,077, 262,144, 131,079"
abbrev pub k7_up : Progress
k7_up = run (to 0xFF4D 0x01 tt ∷ switch_speed (unheld 3) ∷ [])

abbrev pub k7_down : Progress
k7_down = after_calls without_compat k7_up (blackout 131077 ∷ to 0xFF4D 0x01 tt ∷ switch_speed (unheld 3) ∷ [])

abbrev pub k7_again : Progress
k7_again = after_calls without_compat k7_down (blackout 262144 ∷ to 0xFF4D 0x01 tt ∷ switch_speed (unheld 3) ∷ [])

pub record K7 : Type 0 where
  pub up : k7_up.engine.speed_switch_blackout ≡ 131077
  pub down : k7_down.engine.speed_switch_blackout ≡ 262144
  pub again : k7_again.engine.speed_switch_blackout ≡ 131079

-- "block edge 100: OAM edges 98, 92 second, 96, 94 first; both 0: second". As K2, with source 1230h: the third fall commits the
-- block, at the block edge
abbrev pub k8_committed : ℕ → List Call
k8_committed edge = to 0xFF51 0x12 tt ∷ to 0xFF52 0x30 tt ∷ to 0xFF55 0x80 tt ∷ falls 3 ∷ falls 0 ∷ falls_at edge 0 ∷ []

-- the set-up cell taken, two pairs to move
abbrev pub k8_ready : ℕ → Progress
k8_ready edge = run (k8_committed edge ++ (falls 0 ∷ held_bus ∷ falls 0 ∷ []))

-- and the held bus arbitrated while OAM DMA drives a byte
abbrev pub beside_oam : ArbitrationInput
beside_oam = record { hold = true; suspended = false; oam_transferring = true }

abbrev pub k8 : ℕ → Progress
k8 edge = after_calls without_compat (k8_ready edge) (arbitrate beside_oam ∷ [])

-- memory of any contents, lent to a bus call
pub record Lent : Type 0 where
  pub cartridge : List ℕ
  pub wram : List ℕ
  pub vram : List ℕ
  pub oam : List ℕ
  pub sized : lengths_of cartridge wram vram oam ≡ lengths

-- OAM at exit of the bus call, which comes next: its block's edge, and the edge at which OAM DMA started
abbrev pub k8_oam : (block_edge oam-edge : ℕ) → Lent → List ℕ
k8_oam block_edge oam-edge m =
    bus_oam (k8 block_edge).engine (held_beside oam-edge) (lengths_of m.cartridge m.wram m.vram m.oam) m.cartridge
    m.wram m.oam

-- the first byte, of 1230h, at FE30h, or the second, of 1231h, at FE31h; and no other place of OAM is touched
abbrev pub first_lands : Lent → List ℕ
first_lands m = set m.oam (0xFE30 - 0xFE00) (get_or m.cartridge 0x1230 0)

abbrev pub second_lands : Lent → List ℕ
second_lands m = set m.oam (0xFE31 - 0xFE00) (get_or m.cartridge 0x1231 0)

pub record K8 : Type 0 where
  pub block_edge : (k8 100).engine.vram_dma.block.start_edge ≡ 100
  pub contended : (arbitration_call_of (k8_ready 100).engine beside_oam).answer ≡ Ok Contended
  pub moved : addresses (after_calls without_compat (k8 100) (bus_call (held_beside 98) lengths ∷ [])).pairs ≡ upward 2 0x1230 0x8000
  pub at_98 : (m : Lent) → k8_oam 100 98 m ≡ second_lands m
  pub at_92 : (m : Lent) → k8_oam 100 92 m ≡ second_lands m
  pub at_96 : (m : Lent) → k8_oam 100 96 m ≡ first_lands m
  pub at_94 : (m : Lent) → k8_oam 100 94 m ≡ first_lands m
  pub both_0 : (m : Lent) → k8_oam 0 0 m ≡ second_lands m
  -- not among the paper's edges: without wrap the distance of these would be 0 too, and the second would land
  pub wraps : (m : Lent) → k8_oam 0 4 m ≡ first_lands m

-- "compat: FF55=00 leaves FF"
pub record K10 : Type 0 where
  pub reads : ff55_is 0xFF (after_calls in_compat (start in_compat) (to 0xFF55 0x00 tt ∷ []))

pub record Cases : Type 0 where
  pub case1 : (mode : ℕ) → mode < 4 → K1 mode
  pub case2 : K2
  pub case3 : K3
  pub case4 : K4
  pub case5 : K5
  pub case6 : K6
  pub case7 : K7
  pub case8 : K8
  pub case10 : K10
