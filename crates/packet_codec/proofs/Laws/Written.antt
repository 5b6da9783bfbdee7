-- Laws of writing a packet of a known kind where there is room. Assumes nothing.
use mathlib.Core.Path.{◌≡◌, refl, sym, ap, ◌∙◌}
use mathlib.Core.List.{List}
use Prim.Native.Nat.{ℕ, ◌≤◌, ◌<◌}
use borrow.Author.Tests.{lt-ltb, le-ltb}
use lib.ListN.{length}
use Rattle.codec.specs.Order.{first_of}
use Rattle.codec.specs.Octets.{laid}
use Rattle.packet_codec.specs.declared.fields.Looked.{Looked}
use Rattle.packet_codec.specs.declared.fields.Looked.TheVariants.{Sound, Bad}
use Rattle.packet_codec.specs.declared.packet.Packet.{Packet}
use Rattle.packet_codec.specs.Packet.{field_tests, length_tests, write_tests, information_length, length_from, then_looked, packet_octets, write_refusal, Written}
use Rattle.packet_codec.proofs.Laws.Packet.{fields_apart}
use Rattle.packet_codec.proofs.Laws.Looked.{then_looked_lem}

-- the fields first, and then the length
pub write_looked : (ring : List ℕ) (p : Packet) (n : ℕ) (first whole : Looked) → first ≡ first_of Sound (field_tests ring p)
    → whole ≡ then_looked first (first_of Sound (length_tests n (information_length p) (length_from p))) → whole ≡ first_of Sound (write_tests ring p n)
write_looked ring p n first whole e f =
    f ∙ ap (λ (l : Looked). then_looked l (first_of Sound (length_tests n (information_length p) (length_from p)))) e
    ∙ sym (then_looked_lem (field_tests ring p) (length_tests n (information_length p) (length_from p)) (fields_apart ring p))

module _ (ring : List ℕ) (p : Packet) (info out : List ℕ) where
  pub no_room : length out < 1500 → Written ring p info out 9 out
  unfolding write_refusal
  no_room h = record { answer = simp (lt-ltb (length out) 1500 h); out_is = refl }

  module _ (room : 1500 ≤ length out) (looked : Looked) (found : looked ≡ first_of Sound (write_tests ring p (length info))) where
    pub written_not : (k : ℕ) → looked ≡ Bad k → Written ring p info out 12 out
    unfolding write_refusal
    written_not k e = record { answer = simp (le-ltb (length out) 1500 room, sym found ∙ e); out_is = refl }

    pub written : (out' : List ℕ) → looked ≡ Sound → out' ≡ laid out 0 (packet_octets p info) → Written ring p info out 0 out'
    unfolding write_refusal
    written out' e o = record { answer = simp (le-ltb (length out) 1500 room, sym found ∙ e); out_is = o }
