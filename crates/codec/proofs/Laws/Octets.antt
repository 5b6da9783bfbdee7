-- Laws of numbers in octets, each once for every width. Assumes nothing.
use mathlib.Core.Path.{◌≡◌, refl, sym, ap, ◌∙◌}
use mathlib.Core.List.{List, [], ◌∷◌, ◌++◌, append_assoc}
use Prim.Native.Nat.{ℕ, zero, suc, ◌+◌, ◌*◌, ◌/◌, ◌%◌, ◌^◌, ◌<◌, ◌≤◌, zero-le, suc-le-suc}
use native.Mathlib.Nat.{pow-suc, pow-succ', mod-lt, mod-eq_of_lt, mod-one, mul_assoc, add-zero, add-suc, suc-add, add_assoc, mul-add-div_right, mul-add-mod_self_right, div-eq_of_lt, pow-le-pow_right, le_of_lt}
use native.Mathlib.Numerals.{add-one}
use native.Mathlib.Omega.{arith}
use lib.Arith.{mod-mul, digits_lt}
use lib.ListN.{length, take, drop, get_or, set, length-append, length-drop, take-append-drop, length-replicate}
use lib.Seq.{length-take-le, take-suc, drop-cons, append_snoc, set_at, set-append_left, take_at, drop_at, drop-drop, get_or-drop}
use Rattle.codec.specs.Octets.{Octets, octets, number, number_at, laid, zeros}

pub pow_positive : (k : ℕ) → 0 < 256 ^ k
pow_positive k = pow-le-pow_right {n = 256} (suc-le-suc zero-le) {i = 0} {j = k} zero-le

pub length_octets : (k v : ℕ) → length (octets k v) ≡ k
length_octets zero v = refl
length_octets (suc k) v = ap suc (length_octets k v)

pub length_zeros : (k : ℕ) → length (zeros k) ≡ k
length_zeros k = length-replicate k 0

-- ---- from a number to its octets and back

pub number_octets : (k v : ℕ) → number (octets k v) ≡ v % 256 ^ k
number_octets zero v = sym (mod-one v)
number_octets (suc k) v =
    rw (length_octets k v, number_octets k v, pow-succ' 256 k) (sym (mod-mul v {m = 256} {c = 256 ^ k} (suc-le-suc zero-le) (pow_positive k)))

-- a number that fits comes back as it is
pub back : (k v : ℕ) → v < 256 ^ k → number (octets k v) ≡ v
back k v fits = number_octets k v ∙ mod-eq_of_lt fits

-- what lies above the width is not seen
octets_above : (k a b : ℕ) → octets k (a * 256 ^ k + b) ≡ octets k b
octets_above zero a b = refl
octets_above (suc k) a b =
    let e : a * 256 ^ suc k ≡ a * 256 * 256 ^ k = ap (λ (n : ℕ). a * n) (pow-succ' 256 k) ∙ sym (mul_assoc a 256 (256 ^ k)) in
    rw (e, octets_above k (a * 256) b, mul-add-div_right (pow_positive k) (a * 256) b, mul-add-mod_self_right a 256 (b / 256 ^ k))

octets_tail : (x : ℕ) (xs : List ℕ) → Octets (x ∷ xs) → Octets xs
octets_tail x xs o i = o (suc i)

pub number_below : (xs : List ℕ) → Octets xs → number xs < 256 ^ length xs
number_below [] o = suc-le-suc zero-le
number_below (x ∷ xs) o = rw pow-succ' (digits_lt (o 0) (number_below xs (octets_tail x xs o)))

pub octets_number : (xs : List ℕ) → Octets xs → octets (length xs) (number xs) ≡ xs
octets_number [] o = refl
octets_number (x ∷ xs) o =
    let below : number xs < 256 ^ length xs = number_below xs (octets_tail x xs o) in
    rw (octets_above (length xs) x (number xs), octets_number xs (octets_tail x xs o), mul-add-div_right (pow_positive (length xs)) x (number xs), div-eq_of_lt below, add-zero, mod-eq_of_lt (o 0))

-- one octet more at the end
pub number_snoc : (xs : List ℕ) (b : ℕ) → number (xs ++ (b ∷ [])) ≡ number xs * 256 + b
number_snoc [] b = omega arith
number_snoc (x ∷ xs) b =
    let wider : x * 256 ^ (length xs + 1) ≡ x * 256 ^ length xs * 256 =
    ap (λ (n : ℕ). x * 256 ^ n) (add-one (length xs)) ∙ ap (λ (n : ℕ). x * n) (pow-suc 256 (length xs)) ∙ sym (mul_assoc x (256 ^ length xs) 256) in
    rw (length-append xs (b ∷ []), number_snoc xs b, wider) (omega arith)

pub octets_small : (k v : ℕ) → Octets (octets k v)
octets_small zero v i = suc-le-suc zero-le
octets_small (suc k) v zero = mod-lt _ (suc-le-suc zero-le)
octets_small (suc k) v (suc i) = octets_small k v i

-- what bounds two lists bounds them joined
pub below_append : (b : ℕ) (s t : List ℕ) → ((i : ℕ) → get_or s i 0 < b) → ((i : ℕ) → get_or t i 0 < b) → (i : ℕ) → get_or (s ++ t) i 0 < b
below_append b [] t p q i = q i
below_append b (x ∷ xs) t p q zero = p 0
below_append b (x ∷ xs) t p q (suc i) = below_append b xs t (λ j. p (suc j)) q i

-- ---- a part of a list

-- one octet more is read
pub number_more : (s : List ℕ) (at i : ℕ) → at + i < length s → number_at s at (i + 1) ≡ number_at s at i * 256 + get_or s (at + i) 0
number_more s at i h =
    let more : i < length (drop at s) = rw (length-drop at s) (omega arith) in
    rw (add-one i, take-suc (drop at s) i 0 more, number_snoc (take i (drop at s)) (get_or (drop at s) i 0), get_or-drop at s i 0)

pub length_part : (s : List ℕ) (at k : ℕ) → at + k ≤ length s → length (take k (drop at s)) ≡ k
length_part s at k h = length-take-le k (drop at s) (rw (length-drop at s) (omega arith))

pub octets_take : (n : ℕ) (l : List ℕ) → Octets l → Octets (take n l)
octets_take zero l o i = suc-le-suc zero-le
octets_take (suc n) [] o i = suc-le-suc zero-le
octets_take (suc n) (x ∷ xs) o zero = o 0
octets_take (suc n) (x ∷ xs) o (suc i) = octets_take n xs (octets_tail x xs o) i

pub octets_drop : (n : ℕ) (l : List ℕ) → Octets l → Octets (drop n l)
octets_drop n l o i = rw (get_or-drop n l i 0) (o (n + i))

-- a field written again is the octets that it was read from
pub field_again : (s : List ℕ) (at k : ℕ) → Octets s → at + k ≤ length s → octets k (number_at s at k) ≡ take k (drop at s)
field_again s at k o h =
    ap (λ (n : ℕ). octets n (number_at s at k)) (sym (length_part s at k h)) ∙ octets_number (take k (drop at s)) (octets_take k (drop at s) (octets_drop at s o))

-- so a list goes on, from a field, with that field's octets
pub field_then : (s : List ℕ) (at k end : ℕ) → Octets s → at + k ≡ end → end ≤ length s → drop at s ≡ octets k (number_at s at k) ++ drop end s
field_then s at k end o e h =
    rw (field_again s at k o (rw e h), ← e, ← drop-drop k at s) (sym (take-append-drop k (drop at s)))

-- ---- laying over

pub laid_none : (l : List ℕ) (at : ℕ) → laid l at [] ≡ l
laid_none l at = rw add-zero (take-append-drop at l)

laid_split : (l x : List ℕ) (at : ℕ) → laid l at x ≡ (take at l ++ x) ++ drop (at + length x) l
laid_split l x at = sym (append_assoc (take at l) x (drop (at + length x) l))

length_front : (l x : List ℕ) (at : ℕ) → at ≤ length l → length (take at l ++ x) ≡ at + length x
length_front l x at h = length-append (take at l) x ∙ ap (λ (n : ℕ). n + length x) (length-take-le at l h)

pub length_laid : (l x : List ℕ) (at : ℕ) → at + length x ≤ length l → length (laid l at x) ≡ length l
length_laid l x at h =
    ap length (laid_split l x at)
    ∙ length-append (take at l ++ x) (drop (at + length x) l)
    ∙ rw (length_front l x at (omega arith), length-drop (at + length x) l) (omega arith)

-- two writes side by side are one write of the joined octets
pub laid_laid : (l x y : List ℕ) (at next : ℕ) → at + length x ≡ next → next ≤ length l → laid (laid l at x) next y ≡ laid l at (x ++ y)
laid_laid l x y at next e h =
    let front : List ℕ = take at l ++ x in
    let long : length front ≡ next = length_front l x at (omega arith) ∙ e in
    let whole : laid l at x ≡ front ++ drop next l = laid_split l x at ∙ ap (λ (n : ℕ). front ++ drop n l) e in
    let rest : drop (next + length y) (front ++ drop next l) ≡ drop (next + length y) l =
    sym (drop-drop (length y) next (front ++ drop next l)) ∙ ap (drop (length y)) (drop_at front (drop next l) next long) ∙ drop-drop (length y) next l in
    rw (whole, take_at front (drop next l) next long, rest, length-append x y, ← add_assoc at (length x) (length y), e)
    (append_assoc (take at l) x (y ++ drop (next + length y) l) ∙ ap (λ (r : List ℕ). take at l ++ r) (sym (append_assoc x y (drop (next + length y) l))))

-- the same as a chain of calls has it
pub then_laid : (l l₁ l₂ x y : List ℕ) (at next : ℕ) → at + length x ≡ next → next ≤ length l → l₁ ≡ laid l at x → l₂ ≡ laid l₁ next y → l₂ ≡ laid l at (x ++ y)
then_laid l l₁ l₂ x y at next e h p q = q ∙ ap (λ (o : List ℕ). laid o next y) p ∙ laid_laid l x y at next e h

-- one octet more behind what is laid over
pub laid_behind : (l x : List ℕ) (at b : ℕ) → at + length x < length l → set (laid l at x) (at + length x) b ≡ laid l at (x ++ (b ∷ []))
laid_behind l x at b h =
    let end : ℕ = at + length x in
    let long : length (take at l ++ x) ≡ end = length_front l x at (omega arith) in
    let after : at + length (x ++ (b ∷ [])) ≡ suc end = ap (λ (n : ℕ). at + n) (length-append x (b ∷ [])) ∙ omega arith in
    ap (λ (o : List ℕ). set o end b) (laid_split l x at ∙ ap (λ (o : List ℕ). (take at l ++ x) ++ o) (drop-cons l end 0 h))
    ∙ set_at (take at l ++ x) (get_or l end 0) (drop (suc end) l) b end long
    ∙ rw (after, append_snoc x b (drop (suc end) l)) (append_assoc (take at l) x (b ∷ drop (suc end) l))

-- the same as a loop that copies x has it
pub laid_more : (l l₁ x : List ℕ) (at i : ℕ) → i < length x → at + i < length l → l₁ ≡ laid l at (take i x) → set l₁ (at + i) (get_or x i 0) ≡ laid l at (take (i + 1) x)
laid_more l l₁ x at i more room e =
    let long : length (take i x) ≡ i = length-take-le i x (le_of_lt more) in
    let here : at + length (take i x) ≡ at + i = ap (λ (n : ℕ). at + n) long in
    ap (λ (o : List ℕ). set o (at + i) (get_or x i 0)) e
    ∙ ap (λ (n : ℕ). set (laid l at (take i x)) n (get_or x i 0)) (sym here)
    ∙ laid_behind l (take i x) at (get_or x i 0) (rw here room)
    ∙ rw (add-one i, take-suc x i 0 more)

-- one octet more in front of it
pub laid_before : (l x : List ℕ) (at b : ℕ) → at < length l → set (laid l (suc at) x) at b ≡ laid l at (b ∷ x)
laid_before l x at b h =
    let long : at < length (take (suc at) l) = rw (length-take-le (suc at) l h) (omega arith) in
    set-append_left (take (suc at) l) (x ++ drop (suc at + length x) l) at b long
    ∙ rw (take-suc l at 0 h, set_at (take at l) (get_or l at 0) [] b at (length-take-le at l (le_of_lt h)), append_assoc, suc-add, add-suc)

-- three writes side by side
pub laid_three : (l l₁ l₂ l₃ x y z : List ℕ) (at b c : ℕ) → at + length x ≡ b → b + length y ≡ c → c ≤ length l
    → l₁ ≡ laid l at x → l₂ ≡ laid l₁ b y → l₃ ≡ laid l₂ c z → l₃ ≡ laid l at (x ++ (y ++ z))
laid_three l l₁ l₂ l₃ x y z at b c eb ec h p q r =
    let e : at + length (x ++ y) ≡ c = ap (λ (n : ℕ). at + n) (length-append x y) ∙ omega arith in
    then_laid l l₂ l₃ (x ++ y) z at c e h (then_laid l l₁ l₂ x y at b eb (omega arith) p q) r
    ∙ ap (laid l at) (append_assoc x y z)

-- the start of a list that x is laid over
pub laid_start : (l l₁ x : List ℕ) → l₁ ≡ laid l 0 x → take (length x) l₁ ≡ x
laid_start l l₁ x e = ap (take (length x)) e ∙ take_at x (drop (0 + length x) l) (length x) refl
