-- Numbers side by side, each with its width: what is written of them reads as them, and what reads as them is written of them.
-- Assumes nothing.
use mathlib.Core.Path.{◌≡◌, sym, ap, ◌∙◌}
use mathlib.Core.List.{List, [], ◌∷◌, ◌++◌}
use Prim.Native.Nat.{ℕ, ◌+◌, ◌^◌, ◌<◌, ◌≤◌}
use native.Mathlib.Nat.{add-zero, add_assoc}
use native.Mathlib.Omega.{arith}
use lib.ListN.{length, drop}
use Rattle.codec.specs.Octets.{Octets, octets, number_at}
use Rattle.codec.proofs.Laws.Octets.{field_then, length_octets}
use Rattle.record_theorems.proofs.Laws.Goes.{Goes, goes_join, goes_first, goes_second, goes_number}

-- a width and a number
abbrev pub Field : Type 0
Field = ℕ × ℕ

abbrev pub octets_of : List Field → List ℕ
octets_of [] = []
octets_of (f ∷ fs) = octets f.0 f.1 ++ octets_of fs

abbrev pub widths : List Field → ℕ
widths [] = 0
widths (f ∷ fs) = f.0 + widths fs

-- each number fits its width
abbrev pub Fit : List Field → Type 0
Fit [] = Unit {0}
Fit (f ∷ fs) = (f.1 < 256 ^ f.0) × Fit fs

-- they are read from a place on, o octets behind it
abbrev pub Reads : List ℕ → ℕ → ℕ → List Field → Type 0
Reads s at o [] = Unit {0}
Reads s at o (f ∷ fs) = (number_at s (at + o) f.0 ≡ f.1) × Reads s at (o + f.0) fs

module _ (s : List ℕ) (at : ℕ) where
  -- what is written reads
  pub fields_read : (o : ℕ) (fs : List Field) (next : ℕ) → Fit fs → Goes s (at + o) (octets_of fs) next → Reads s at o fs
  fields_read o [] next fits p = tt
  fields_read o (f ∷ fs) next fits p =
      let e : at + o + length (octets f.0 f.1) ≡ at + (o + f.0) =
      ap (λ (n : ℕ). at + o + n) (length_octets f.0 f.1) ∙ add_assoc at o f.0 in (
        goes_number s f.0 f.1 (at + o) (at + (o + f.0)) fits.0
            (goes_first s (octets f.0 f.1) (octets_of fs) (at + o) (at + (o + f.0)) next e p),
        fields_read (o + f.0) fs next fits.1
            (goes_second s (octets f.0 f.1) (octets_of fs) (at + o) (at + (o + f.0)) next e p),
      )

  -- what reads is written
  pub fields_written : Octets s → (o : ℕ) (fs : List Field) (next : ℕ) → at + (o + widths fs) ≡ next → next ≤ length s → Reads s at o fs
      → Goes s (at + o) (octets_of fs) next
  fields_written os o [] next e h r = ap (λ (n : ℕ). drop n s) (ap (λ (n : ℕ). at + n) (sym (add-zero o)) ∙ e)
  fields_written os o (f ∷ fs) next e h r =
      let b : ℕ = at + (o + f.0) in
      let e' : at + (o + f.0 + widths fs) ≡ next = omega arith in
      let here : Goes s (at + o) (octets f.0 (number_at s (at + o) f.0)) b = field_then s (at + o) f.0 b os (add_assoc at o f.0) (omega arith) in
      goes_join s (octets f.0 f.1) (octets_of fs) (at + o) b next
      (here ∙ ap (λ (v : ℕ). octets f.0 v ++ drop b s) r.0)
      (fields_written os (o + f.0) fs next e' h r.1)

  -- from the place itself on
  pub numbers_read : (fs : List Field) (next : ℕ) → Fit fs → Goes s at (octets_of fs) next → Reads s at 0 fs
  numbers_read fs next fits p = fields_read 0 fs next fits (rw add-zero p)

  pub numbers_written : Octets s → (fs : List Field) (next : ℕ) → at + widths fs ≡ next → next ≤ length s → Reads s at 0 fs → Goes s at (octets_of fs) next
  numbers_written os fs next e h r = rw (add-zero at) at (fields_written os 0 fs next (omega arith) h r)
