-- A list of octets that goes on, from a place, with certain octets. Assumes nothing.
use mathlib.Core.Path.{◌≡◌, sym, ap, ◌∙◌}
use mathlib.Core.List.{List, ◌++◌, append_assoc}
use Prim.Native.Nat.{ℕ, ◌+◌, ◌-◌, ◌^◌, ◌<◌, ◌≤◌}
use native.Mathlib.Omega.{arith}
use lib.ListN.{length, take, drop, length-append, length-drop}
use lib.Seq.{drop-drop, drop-append_seam, take_at}
use Rattle.codec.specs.Octets.{octets, number, number_at, laid}
use Rattle.codec.proofs.Laws.Octets.{back, length_octets}

-- x stands in s from one place up to another
abbrev pub Goes : List ℕ → ℕ → List ℕ → ℕ → Type 0
Goes s at x next = drop at s ≡ x ++ drop next s

module _ (s : List ℕ) where
  pub goes_join : (x y : List ℕ) (a b c : ℕ) → Goes s a x b → Goes s b y c → Goes s a (x ++ y) c
  goes_join x y a b c p q = p ∙ ap (λ (l : List ℕ). x ++ l) q ∙ sym (append_assoc x y (drop c s))

  pub goes_second : (x y : List ℕ) (a b c : ℕ) → a + length x ≡ b → Goes s a (x ++ y) c → Goes s b y c
  goes_second x y a b c e p =
      ap (λ (n : ℕ). drop n s) (sym e)
      ∙ sym (drop-drop (length x) a s)
      ∙ ap (drop (length x)) (p ∙ append_assoc x y (drop c s))
      ∙ drop-append_seam x (y ++ drop c s)

  pub goes_first : (x y : List ℕ) (a b c : ℕ) → a + length x ≡ b → Goes s a (x ++ y) c → Goes s a x b
  goes_first x y a b c e p =
      p ∙ append_assoc x y (drop c s) ∙ ap (λ (l : List ℕ). x ++ l) (sym (goes_second x y a b c e p))

  -- what is laid over what stands there already may be left out
  pub laid_goes : (x y : List ℕ) (at mid next : ℕ) → at + length x ≡ mid → mid ≤ next → next ≤ length s → Goes s mid y next → laid s at (x ++ y) ≡ laid s at x
  laid_goes x y at mid next e h room p =
      let long : length y + (length s - next) ≡ length s - mid =
      ap (λ (n : ℕ). length y + n) (sym (length-drop next s)) ∙ sym (length-append y (drop next s)) ∙ ap length (sym p) ∙ length-drop mid s in
      let both : at + length (x ++ y) ≡ next = ap (λ (n : ℕ). at + n) (length-append x y) ∙ omega arith in
      ap (λ (n : ℕ). take at s ++ ((x ++ y) ++ drop n s)) both
      ∙ ap (λ (l : List ℕ). take at s ++ l) (append_assoc x y (drop next s) ∙ ap (λ (l : List ℕ). x ++ l) (sym p))
      ∙ ap (λ (n : ℕ). take at s ++ (x ++ drop n s)) (sym e)

  -- the number that stands there
  pub goes_number : (k v at next : ℕ) → v < 256 ^ k → Goes s at (octets k v) next → number_at s at k ≡ v
  goes_number k v at next fits p =
      ap (λ (l : List ℕ). number (take k l)) p
      ∙ ap number (take_at (octets k v) (drop next s) k (length_octets k v))
      ∙ back k v fits
