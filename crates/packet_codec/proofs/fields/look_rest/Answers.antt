-- `fields::look_rest` meets its contract: the pad's tests, then the length's.
use mathlib.Core.Path.{◌≡◌, sym, ap, ◌∙◌}
use Prim.Native.Nat.{ℕ, ◌-◌}
use lib.ListN.{length}
use Rattle.codec.specs.Order.{first_of}
use Rattle.packet_codec.specs.declared.fields.Looked.TheVariants.{Sound}
use Rattle.packet_codec.specs.Packet.{pad_tests, length_tests, pad_from, size, length_from}
use Rattle.packet_codec.proofs.Laws.Packet.{looked_bad, looked_sound, pads_apart}
use Rattle.packet_codec.proofs.fields.look_rest.Goals as goal
use Rattle.packet_codec.proofs.fields.look_rest.Goals.{After-look_pad}

-- what the pad's tests give
pad_found : (c : After-look_pad) → first_of Sound (pad_tests c.args.s.now (pad_from c.args.p) (46 - pad_from c.args.p)) ≡ c.look_pad.result
pad_found c = sym (c.look_pad.ensures ∙ ap (λ (from : ℕ). first_of Sound (pad_tests c.args.s.now from (46 - from))) c.pad_from.ensures)

pub returns-in-Bad : goal.returns-in-Bad
returns-in-Bad c =
    let a = c.args in
    sym (looked_bad (pad_tests a.s.now (pad_from a.p) (46 - pad_from a.p)) (length_tests (length a.s.now) (size a.p) (length_from a.p)) _ (pad_found (goal.at.returns-in-Bad c).After-look_pad ∙ c.in-Bad.is))

pub returns-in-Sound : goal.returns-in-Sound
returns-in-Sound c =
    let a = c.args in
    c.look_length.ensures
    ∙ rw (c.size.ensures, c.length_from.ensures)
    (sym (looked_sound (pad_tests a.s.now (pad_from a.p) (46 - pad_from a.p)) (length_tests (length a.s.now) (size a.p) (length_from a.p)) (pads_apart a.s.now (pad_from a.p) (46 - pad_from a.p)) (pad_found (goal.at.returns-in-Sound c).After-look_pad ∙ c.in-Sound.is)))
