-- The file of form 1 written of a good ring `rtep_ring` reads as that ring; and a file of form 1 that it reads is the one written of what
-- it tells, which is a good ring. Assumes nothing.
use mathlib.Core.Path.{◌≡◌, refl, sym, ap, ◌∙◌, subst}
use mathlib.Core.List.{List, ◌∷◌}
use Prim.Native.Nat.{ℕ}
use native.Mathlib.Omega.{arith}
use borrow.Author.Tests.{ne_eqb}
use lib.ListN.{length, replicate}
use lib.Seq.{take_at}
use Rattle.codec.specs.Octets.{Octets, laid}
use Rattle.codec.specs.Ring.{RingRead, form, version, count, limit, addresses_of, all_channels, channels_of, filled, ring_file, read_ring}
use Rattle.codec.specs.Ring as ring
use Rattle.codec.proofs.Laws.Ring.{members_filled, length_addresses, read_zero, read_good}
use Rattle.codec.proofs.Theorems.RingFile.{file_again}
use Rattle.packet_codec.specs.Packet.{kept}
use Rattle.rtep.specs.Told.{told_ring, RingTold}
use Rattle.rtep_theorems.specs.Numbers.{limit_told, members_told}
use Rattle.rtep_theorems.specs.Rings.{GoodRing, ring_with, file_with}
use Rattle.rtep_theorems.proofs.Laws.Files.{all_channels_lem, file_reads}
use Rattle.rtep_theorems.proofs.Laws.Members.{read_ring_good}
use Rattle.rtep_theorems.specs.RoundTrip.{RingBack, FileBack}

-- what is told of a ring of these members
told_with : (told : List ℕ) (r : ℕ) (ms : List ℕ) → told_ring told (ring_with r ms) ≡ laid told 0 (length ms ∷ r ∷ ms)
unfolding told_ring
told_with told r ms = ap (λ (l : List ℕ). laid told 0 (length ms ∷ r ∷ l)) (members_filled ms (length ms) refl)

-- ---- reading after writing

pub ring_after_write : (limit : ℕ) (members : List ℕ) → GoodRing limit members
    → (told : List ℕ) (r : ℕ) (told' : List ℕ) → RingTold (file_with limit members) told r told' → RingBack limit members told r told'
ring_after_write limit members g told r told' t =
    let reads = file_reads limit members g in
    let zero : r ≡ 0 = t.answer ∙ ap (λ (q : RingRead). q.number) reads in
    record {
      answer = zero;
      numbers =
          t.told_is
          ∙ ap (λ (n : ℕ). kept n told (told_ring told (read_ring (file_with limit members)).ring)) zero
          ∙ ap (λ (q : RingRead). told_ring told q.ring) reads
          ∙ told_with told limit members;
    }

-- ---- writing after reading

pub write_after_ring : (file told told' : List ℕ) → Octets file → form file ≡ 1 → RingTold file told 0 told' → FileBack file told'
unfolding ring.ring_of
write_after_ring file told told' o one t =
    let e : (read_ring file).number ≡ 0 = sym t.answer in
    let z = read_zero file e in
    let r : ℕ = limit file in
    let ms : List ℕ = addresses_of file (count file) in
    let n : count file ≡ length ms = sym (length_addresses file (count file)) in
    let other : form file ≡ 2 → ⊥ = λ z. omega (arith, one, z) in
    let v : version file ≡ 1 = rw (ne_eqb (form file) 2 other) in
    let c : channels_of file (count file) ≡ replicate (length ms) all_channels = all_channels_lem file (count file) other ∙ ap (λ (k : ℕ). replicate k all_channels) n in
    let is : (read_ring file).ring ≡ ring_with r ms =
    ap (λ (q : RingRead). q.ring) (read_good file z) ∙ (λ i. record { form = one i; n = n i; limit = r; version = v i; addresses = filled ms; channels = filled (c i) }) in
    let numbers : told' ≡ laid told 0 (length ms ∷ r ∷ ms) = t.told_is ∙ ap (told_ring told) is ∙ told_with told r ms in
    let same_limit : r ≡ limit_told told' = sym (ap limit_told numbers) in
    let same_members : ms ≡ members_told told' = sym (ap members_told numbers ∙ take_at ms _ (length ms) refl) in
    let written : file ≡ file_with r ms = file_again file o e ∙ ap ring_file is in
    record {
      good = subst (λ (l : List ℕ). GoodRing (limit_told told') l) same_members (subst (λ (k : ℕ). GoodRing k ms) same_limit (read_ring_good file z));
      again = written ∙ ap (λ (k : ℕ). file_with k ms) same_limit ∙ ap (file_with (limit_told told')) same_members;
    }
