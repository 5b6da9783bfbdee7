-- `rtep_ring` meets its contract: a file without a refusal has its addresses laid over an array, and its members are told.
use mathlib.Core.Path.{◌≡◌, refl, sym, ap, ◌∙◌}
use mathlib.Core.List.{List, ◌∷◌}
use Prim.Native.Nat.{ℕ}
use native.Mathlib.Omega.{arith}
use borrow.Author.Rules.{rules}
use borrow.Author.Tests.{ne_eqb}
use lib.ListN.{length, take}
use Rattle.codec.specs.Octets.{laid}
use Rattle.codec.specs.Ring.{RingRead, limit, count, count_of, addresses_of, ring_refusal, ring_of}
use Rattle.codec.specs.declared.head.HeadBits.{HeadBits}
use Rattle.codec.proofs.Laws.Bits.{bits_below}
use Rattle.codec.proofs.Laws.Ring.{HeadGood, few_others, head_good, head_passed, read_refused, read_good, members_laid, members_filled, length_addresses}
use Rattle.rtep.specs.Told.{told_ring}
use Rattle.rtep.proofs.rtep_ring.Goals as goal
use Rattle.rtep.proofs.rtep_ring.Goals.{After-members, Else-number-ne0}

pub returns-then-number-ne0 : goal.returns-then-number-ne0
returns-then-number-ne0 c =
    let r = c.read_into-number in
    record {
      answer = r.ensures.0 ∙ sym (ap (λ (x : RingRead). x.number) (read_refused _ (ring_refusal c.args.file.now) refl (λ z. c.if-number-ne0.true (r.ensures.0 ∙ z))));
      told_is = simp (ne_eqb _ _ c.if-number-ne0.true);
    }

passed : (c : Else-number-ne0) → ring_refusal c.args.file.now ≡ 0
passed c = sym c.read_into-number.ensures.0 ∙ c.if-number-ne0.false

good : (c : Else-number-ne0) → HeadGood c.args.file.now
good c =
    let passed' : ring_refusal c.args.file.now ≡ 0 = sym c.read_into-number.ensures.0 ∙ c.if-number-ne0.false in
    head_good _ (head_passed _ passed')

pub head_of-head-requires : goal.head_of-head-requires
head_of-head-requires c = omega (arith, good c)

pub count-n-requires : goal.count-n-requires
count-n-requires c = few_others _ _ c.head_of-head.ensures

-- the members lent are the file's addresses
the_members : (c : After-members) → c.members.result.now ≡ addresses_of c.args.file.now (count c.args.file.now)
the_members c =
    let r = c.read_into-number in
    let file = c.args.file.now in
    let n : c.count-n.result ≡ count file = c.count-n.ensures ∙ ap count_of c.head_of-head.ensures in
    c.members.ensures ∙ ap (λ (k : ℕ). take k r.new.addresses) n ∙ members_laid file _ r.new.addresses (count file) (r.ensures.1 c.if-number-ne0.false)

pub tell_ring-requires : goal.tell_ring-requires
tell_ring-requires c =
    let file = c.args.file.now in
    let e : length c.members.result.now ≡ count file = ap length (the_members c) ∙ length_addresses file (count file) in
    (omega (arith, e, bits_below file 4 6), search rules)

pub returns : goal.returns
unfolding told_ring ring_of
returns c =
    let file = c.args.file.now in
    let told = c.args.told.now in
    let all = addresses_of file (count file) in
    let h = c.head_of-head.result.limit in
    let el : h ≡ limit file = ap (λ (x : HeadBits). x.limit) c.head_of-head.ensures in
    record {
      answer = sym (ap (λ (x : RingRead). x.number) (read_good file (passed (goal.at.returns c).Else-number-ne0)));
      told_is = c.tell_ring.ensures
          ∙ ap (λ (x : List ℕ). laid told 0 (length x ∷ h ∷ x)) (the_members (goal.at.returns c).After-members)
          ∙ ap (λ (k : ℕ). laid told 0 (k ∷ h ∷ all)) (length_addresses file (count file))
          ∙ ap (λ (k : ℕ). laid told 0 (count file ∷ k ∷ all)) el
          ∙ ap (λ (x : List ℕ). laid told 0 (count file ∷ limit file ∷ x)) (sym (members_filled all (count file) (length_addresses file (count file))))
          ∙ sym (ap (λ (x : RingRead). told_ring told x.ring) (read_good file (passed (goal.at.returns c).Else-number-ne0)));
    }
