-- The sizes that a driver asks for are those of what the calls write and refuse. Assumes nothing.
use mathlib.Core.Path.{◌≡◌, refl, ap, ◌∙◌}
use mathlib.Core.List.{List}
use Prim.Native.Nat.{ℕ, suc, ◌*◌, ◌≤◌}
use lib.Dec.{ltb}
use lib.ListN.{length}
use Rattle.codec.specs.Ring.{read_ring}
use Rattle.parts.specs.Messages.{all}
use Rattle.parts.specs.declared.list.Messages.{Messages}
use Rattle.std.specs.Prelude.{Option, None, Some}
use Rattle.parts.specs.declared.list.Message.{Message}
use Rattle.parts.specs.Frames.{Dispatch}
use Rattle.packet_codec.specs.declared.packet.Packet.{Packet}
use Rattle.packet_codec.specs.declared.packet.Packet.TheVariants.{Token, Transmit, Information}
use Rattle.records.proofs.Laws.Tables.{length_joined}
use Rattle.record_theorems.proofs.Laws.Front.{file_fits}
use Rattle.driver_calls.specs.Calls.{bad_out}
use Rattle.driver_buffers.specs.Telling.{message_told, told_of, taken_told}
use Rattle.rtep.specs.Told.{values_of}
use Rattle.rtep.specs.Sizes.{out_length, longest_file, told_numbers, taken_numbers, packet_numbers}

-- an out buffer is refused exactly where it has fewer octets
pub out_least : (out : ℕ) → bad_out out ≡ ltb out out_length
out_least out = refl

-- no good ring file has more octets than the longest
pub file_most : (file : List ℕ) → (read_ring file).number ≡ 0 → length file ≤ longest_file
file_most file good = file_fits file good

-- a call that gives up 16 messages, which is the most, tells as many numbers as are lent
pub told_fills : (ring : List ℕ) (sent : Dispatch) (struck : Option ℕ) (gone : Messages) → length (all gone) ≡ 16 → length (told_of ring sent struck gone) ≡ told_numbers
told_fills ring sent struck gone e = ap (λ (n : ℕ). suc (suc (suc (suc n)))) (length_joined (message_told ring) 5 (λ m. refl) (all gone) ∙ ap (λ (n : ℕ). n * 5) e)

pub taken_fills : (ring : List ℕ) (p : Option Message) → length (taken_told ring p) ≡ taken_numbers
unfolding taken_told
taken_fills ring None = refl
taken_fills ring (Some m) = refl

pub packet_fills : (p : Packet) → length (values_of p) ≡ packet_numbers
unfolding values_of
packet_fills (Token p) = refl
packet_fills (Transmit p) = refl
packet_fills (Information h) = refl
