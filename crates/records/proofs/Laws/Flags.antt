-- Laws of the octets of the live set. Assumes nothing.
use mathlib.Core.Path.{◌≡◌, refl, sym, ap, ◌∙◌}
use mathlib.Core.Bool.{Bool, true, false, not}
use mathlib.Core.List.{List}
use Prim.Native.Nat.{ℕ, zero, suc, ◌+◌, ◌*◌, ◌<◌, ◌≤◌, max}
use native.Mathlib.Nat.{add-zero}
use native.Mathlib.Omega.{arith}
use borrow.Author.Tests.{ltb-true, ltb-false, lt-ltb, le-ltb, ne_eqb}
use lib.Dec.{ltb, eqb}
use lib.ListN.{length, get_or}
use Rattle.codec.specs.Octets.{number_at}
use Rattle.codec.proofs.Laws.Octets.{number_more}
use Rattle.parts.specs.Choose.{pick}
use Rattle.records.specs.Fields.{flag_number, flag_good, flags_good, greatest}

-- ---- the greatest octet

pub greatest_none : (s : List ℕ) (at k : ℕ) → k ≡ 0 → greatest s at k ≡ 0
unfolding greatest
greatest_none s at k e = rw e

greatest_more : (s : List ℕ) (at k j : ℕ) → k ≡ suc j → greatest s at k ≡ max (number_at s at 1) (greatest s (suc at) j)
unfolding greatest
greatest_more s at k j e = rw e

max_three : (a b c : ℕ) → max (max a b) c ≡ max a (max b c)
max_three a b c = omega arith

pub max_none : (a : ℕ) → max 0 a ≡ a
max_none a = omega arith

nothing_before : (a b : ℕ) → 0 * a + b ≡ b
nothing_before a b = omega arith

number_one : (s : List ℕ) (at : ℕ) → at < length s → number_at s at 1 ≡ get_or s at 0
number_one s at h = number_more s at 0 (omega arith) ∙ nothing_before 256 (get_or s (at + 0) 0) ∙ ap (λ (i : ℕ). get_or s i 0) (add-zero at)

-- one octet more is passed: what is left still makes up the whole
pub greatest_turn : (s : List ℕ) (at k j most next whole : ℕ) → k ≡ suc j → at < length s → next ≡ max most (get_or s at 0) → max most (greatest s at k) ≡ whole → max next (greatest s (suc at) j) ≡ whole
greatest_turn s at k j most next whole e h n w =
    ap (λ (m : ℕ). max m (greatest s (suc at) j)) n
    ∙ max_three most (get_or s at 0) (greatest s (suc at) j)
    ∙ ap (λ (m : ℕ). max most (max m (greatest s (suc at) j))) (sym (number_one s at h))
    ∙ ap (λ (m : ℕ). max most m) (sym (greatest_more s at k j e))
    ∙ w

-- ---- each octet is a flag where the greatest is below 2

flag_small : (x : ℕ) → x < 2 → flag_good x ≡ true
flag_small zero h = refl
flag_small (suc zero) h = refl
flag_small (suc (suc x)) h = absurd (omega arith)

flag_great : (x : ℕ) → 2 ≤ x → flag_good x ≡ false
flag_great x h = ap (λ (t : Bool). eqb (flag_number (not t)) x) (ne_eqb x 0 (λ e. omega arith)) ∙ ne_eqb 1 x (λ e. omega arith)

max_small : (x g : ℕ) → x < 2 → ltb g 2 ≡ ltb (max x g) 2
max_small x g h = go (ltb g 2) refl
  where
    go : (t : Bool) → ltb g 2 ≡ t → ltb g 2 ≡ ltb (max x g) 2
    go true e = let less : g < 2 = ltb-true g 2 e in e ∙ sym (lt-ltb (max x g) 2 (omega arith))
    go false e = let more : 2 ≤ g = ltb-false g 2 e in e ∙ sym (le-ltb (max x g) 2 (omega arith))

flags_step : (x g : ℕ) (later : Bool) → later ≡ ltb g 2 → pick (flag_good x) later false ≡ ltb (max x g) 2
unfolding pick
flags_step x g later e = go (ltb x 2) refl
  where
    go : (t : Bool) → ltb x 2 ≡ t → pick (flag_good x) later false ≡ ltb (max x g) 2
    go true h = ap (λ (t : Bool). pick t later false) (flag_small x (ltb-true x 2 h)) ∙ e ∙ max_small x g (ltb-true x 2 h)
    go false h =
        let more : 2 ≤ x = ltb-false x 2 h in
        ap (λ (t : Bool). pick t later false) (flag_great x more) ∙ sym (le-ltb (max x g) 2 (omega arith))

pub flags_greatest : (s : List ℕ) (at k : ℕ) → flags_good s at k ≡ ltb (greatest s at k) 2
unfolding flags_good greatest
flags_greatest s at zero = refl
flags_greatest s at (suc k) = flags_step (number_at s at 1) (greatest s (suc at) k) (flags_good s (suc at) k) (flags_greatest s (suc at) k)
