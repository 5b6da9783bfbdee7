-- A ring file that `rtep_to_form_1` or `rtep_to_form_2` gives in the form that was asked for, handed to the call for the form that it had,
-- comes back as the same octets. Assumes nothing.
use mathlib.Core.Path.{◌≡◌, sym, ap, ◌∙◌, subst}
use mathlib.Core.Bool.{true}
use mathlib.Core.List.{List, [], ◌∷◌}
use Prim.Native.Nat.{ℕ}
use lib.ListN.{length, take, get_or}
use Rattle.codec.specs.Octets.{Octets, laid}
use Rattle.codec.specs.Ring.{form, is_form, formed, ThereAndBack}
use Rattle.codec.proofs.Laws.Octets.{laid_start}
use Rattle.codec.proofs.Theorems.Forms.{there_and_back}
use Rattle.packet_codec.specs.Packet.{kept}
use Rattle.rtep.specs.Told.{FormTold}
use Rattle.rtep_theorems.specs.Numbers.{written}
use Rattle.rtep_theorems.specs.RoundTrip.{FormBack}

pub form_and_back : (asked : ℕ) (file out told out' told' : List ℕ) → Octets file → is_form asked ≡ true → FormTold asked file out told 0 out' told'
    → (room told₂ : List ℕ) (r : ℕ) (room' told₂' : List ℕ) → FormTold (form file) (written out' told') room told₂ r room' told₂'
    → FormBack file room r room' told₂'
form_and_back asked file out told out' told' o a there room told₂ r room' told₂' back =
    let other : List ℕ = formed asked file in
    let t : ThereAndBack asked file = there_and_back asked file o a (sym there.answer) in
    let given : written out' told' ≡ other =
    ap (λ (l : List ℕ). take (get_or l 0 0) out') there.told_is ∙ laid_start out out' other there.out_is in
    let d : FormTold (form file) other room told₂ r room' told₂' = subst (λ (l : List ℕ). FormTold (form file) l room told₂ r room' told₂') given back in
    let zero : r ≡ 0 = d.answer ∙ t.back in
    record {
      answer = zero;
      octets = d.out_is ∙ ap (λ (n : ℕ). kept n room (laid room 0 (formed (form file) other))) zero ∙ ap (laid room 0) t.same;
      length_is = d.told_is ∙ ap (λ (n : ℕ). kept n told₂ (length (formed (form file) other) ∷ [])) zero ∙ ap (λ (l : List ℕ). length l ∷ []) t.same;
    }
