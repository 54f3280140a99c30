-- What the entry leaves, from what its parts gave. Assumes nothing.
use Prim.Native.Nat.{ℕ}
use mathlib.Core.Path.{◌≡◌, refl, ap, ◌∙◌}
use mathlib.Core.List.{List}
use Rattle.std.proofs.Common.{Option, Some, None}
use Rattle.codec.specs.Codec.{encode_of, decode_of}
use Rattle.codec.proofs.RoundTrip.{round_trip}
use Rattle.arithmetic.specs.Number.{byte_at}
use Rattle.call.specs.declared.Call.{Call}
use Rattle.console.specs.declared.Cgb.{Cgb}
use Rattle.perform.specs.Record.{record_performed, record_wram, record_vram, record_oam, PerformsRecord}
use Rattle.record.specs.Answer.{answer_bytes, refused_bytes}
use Rattle.record.proofs.DeclinedAnswer.{answer_alone}
use Rattle.record.specs.Record.{call_of}
use Rattle.told.specs.declared.Performed.{Performed}
use Rattle.c_api.specs.Entry.{Left, called_of, entered_at, entered_of, Entered}

-- what a performed record leaves in the caller's bytes
left_of : Cgb → Option Call → List ℕ → List ℕ → List ℕ → List ℕ → Left
left_of s k cartridge wram vram oam =
    let p = record_performed s k cartridge wram vram oam in
    record {
      result = p.told.refusal;
      state = encode_of p.state;
      answer = answer_bytes p;
      wram = record_wram s k wram;
      vram = record_vram s k cartridge wram vram oam;
      oam = record_oam s k cartridge wram vram oam;
    }

module _ (state call cartridge wram vram oam : List ℕ) where
  pub entered_unreadable :
      (answer : List ℕ) (n : ℕ) → decode_of state ≡ None → n ≡ 7 → answer ≡ refused_bytes n →
      Entered state call cartridge wram vram oam n state answer wram vram oam
  unfolding entered_of entered_at
  entered_unreadable answer n unread seven a =
      record {
        all = rw (unread, a, seven);
        number = ap (λ (b : List ℕ). byte_at b 0) a;
        declined = λ _. record { number_alone = a; same_state = refl; same_wram = refl; same_vram = refl; same_oam = refl };
      }

  module _ (before : Cgb) (read : decode_of state ≡ Some before) where
    -- the bytes of the state that was read are the caller's
    given_bytes : encode_of before ≡ state
    given_bytes = round_trip.canonical state before read

    left_is : (k : Option Call) → left_of before k cartridge wram vram oam ≡ called_of before k state cartridge wram vram oam
    unfolding left_of called_of record_performed record_wram record_vram record_oam
    left_is (Some c) = refl
    left_is None = rw given_bytes

    entered : (left : Left) → left ≡ called_of before (call_of call) state cartridge wram vram oam → left ≡ entered_of state call cartridge wram vram oam
    unfolding entered_of entered_at
    entered left e = rw read e

    pub entered_performed :
        (k : Option Call) (p : Performed) (last_state last_answer last_wram last_vram last_oam : List ℕ) → k ≡ call_of call →
        PerformsRecord before k cartridge wram vram oam p last_wram last_vram last_oam → last_answer ≡ answer_bytes p →
        last_state ≡ encode_of p.state →
        Entered state call cartridge wram vram oam p.told.refusal last_state last_answer last_wram last_vram last_oam
    unfolding left_of
    entered_performed k p last_state last_answer last_wram last_vram last_oam e q a s =
        record {
          all = rw (a, s, q.work, q.stored, q.deposit, q.result, e) (entered _ (left_is (call_of call)));
          number = ap (λ (b : List ℕ). byte_at b 0) a;
          declined =
              λ n. let d = q.declined n in
              record {
                number_alone = a ∙ answer_alone p d;
                same_state = s ∙ ap encode_of d.same_state ∙ given_bytes;
                same_wram = d.same_wram;
                same_vram = d.same_vram;
                same_oam = d.same_oam;
              };
        }
