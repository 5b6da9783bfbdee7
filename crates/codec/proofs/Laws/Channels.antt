-- Laws of open channels. Assumes nothing.
use mathlib.Core.Path.{◌≡◌, refl, ap, ◌∙◌}
use mathlib.Core.Bool.{Bool, true, false, cond, ◌&&◌, false≢true}
use mathlib.Core.List.{List, [], ◌∷◌, ◌++◌}
use Prim.Native.Nat.{ℕ, zero, suc, ◌+◌, ◌-◌, ◌*◌, ◌≤◌, ◌<◌}
use native.Mathlib.Numerals.{add-one}
use native.Mathlib.Omega.{arith}
use borrow.Author.Tests.{lt-ltb, le-ltb, le-leb, lt-leb, eq-eqb, ne_eqb, eqb-true, ltb-true, ltb-false}
use lib.Dec.{eqb, ltb}
use lib.ListN.{length, get_or, get_or-append}
use lib.Seq.{get_or_at}
use Rattle.codec.specs.Octets.{zeros}
use Rattle.codec.specs.Bits.{bits}
use Rattle.codec.specs.Ring.{form, member_at, count, all_channels, channels_at, channels_of, is_open, all_open, filled, ring_of, listens}
use Rattle.codec.proofs.Laws.Octets.{below_append}
use Rattle.codec.proofs.Laws.Bits.{bits_below}
use Rattle.codec.proofs.Laws.Ring.{length_channels}

-- ---- of one member

-- the file says nothing of them, and so all are open; or it does
pub all_in : (file : List ℕ) (i : ℕ) → (form file ≡ 2 → ⊥) → channels_at file i ≡ all_channels
all_in file i n = rw (ne_eqb (form file) 2 n)

pub said_in : (file : List ℕ) (i : ℕ) → form file ≡ 2 → channels_at file i ≡ bits file (member_at file i * 8 + 48) 8
said_in file i e = rw (eq-eqb (form file) 2 e)

pub channels_get : (file : List ℕ) (n i : ℕ) → i < n → get_or (channels_of file n) i 0 ≡ channels_at file i
unfolding channels_of
channels_get file zero i h = absurd (omega arith)
channels_get file (suc n) i h = go (ltb i n) refl (channels_get file n i)
  where
    go : (b : Bool) → ltb i n ≡ b → (i < n → get_or (channels_of file n) i 0 ≡ channels_at file i) → get_or (channels_of file n ++ (channels_at file n ∷ [])) i 0 ≡ channels_at file i
    go true e before = get_or-append (channels_of file n) (channels_at file n ∷ []) 0 i (rw (length_channels file n) (ltb-true i n e)) ∙ before (ltb-true i n e)
    go false e before =
        let here : n ≡ i = let l : n ≤ i = ltb-false i n e in omega arith in
        get_or_at (channels_of file n) (channels_at file n) [] 0 i (length_channels file n ∙ here) ∙ ap (channels_at file) here

-- ---- who listens

module _ (file : List ℕ) (p channel : ℕ) where
  pub nobody_there : count file ≤ p → listens (ring_of file) p channel ≡ true
  unfolding listens ring_of
  nobody_there h = rw (le-leb (count file) p h)

  pub no_channel : p < count file → 7 < channel → listens (ring_of file) p channel ≡ true
  unfolding listens ring_of
  no_channel h c = rw (lt-leb (count file) p h, lt-ltb 7 channel c)

  pub listens_there : p < count file → channel ≤ 7 → listens (ring_of file) p channel ≡ is_open (channels_at file p) channel
  unfolding listens ring_of
  listens_there h c =
      let cs : List ℕ = channels_of file (count file) in
      let here : get_or (filled cs) p 0 ≡ channels_at file p =
      get_or-append cs (zeros (64 - length cs)) 0 p (rw (length_channels file (count file)) h) ∙ channels_get file (count file) p h in
      rw (lt-leb (count file) p h, le-ltb 7 channel c) (ap (λ (k : ℕ). is_open k channel) here)

-- ---- of all members

all_snoc : (cs : List ℕ) (c : ℕ) → all_open (cs ++ (c ∷ [])) ≡ (all_open cs && eqb c all_channels)
unfolding all_open
all_snoc [] c = go (eqb c all_channels)
  where
    go : (b : Bool) → (b && true) ≡ b
    go true = refl
    go false = refl
all_snoc (d ∷ cs) c = go (eqb d all_channels) (all_snoc cs c)
  where
    go : (b : Bool) → all_open (cs ++ (c ∷ [])) ≡ (all_open cs && eqb c all_channels) → (b && all_open (cs ++ (c ∷ []))) ≡ ((b && all_open cs) && eqb c all_channels)
    go true e = e
    go false e = refl

-- one member more
pub all_more : (file : List ℕ) (i : ℕ) → all_open (channels_of file (i + 1)) ≡ (all_open (channels_of file i) && eqb (channels_at file i) all_channels)
unfolding channels_of
all_more file i = ap (λ (k : ℕ). all_open (channels_of file k)) (add-one i) ∙ all_snoc (channels_of file i) (channels_at file i)

-- each octet has 8 bits
pub channels_fit : (file : List ℕ) (n i : ℕ) → get_or (channels_of file n) i 0 < 256
unfolding channels_of
channels_fit file zero i = omega arith
channels_fit file (suc n) i = below_append 256 (channels_of file n) (channels_at file n ∷ []) (channels_fit file n) (one (eqb (form file) 2)) i
  where
    one : (b : Bool) (i : ℕ) → get_or (cond b (bits file (member_at file n * 8 + 48) 8) all_channels ∷ []) i 0 < 256
    one true zero = bits_below file (member_at file n * 8 + 48) 8
    one false zero = omega arith
    one b (suc i) = omega arith

-- all open, member by member
pub all_each : (cs : List ℕ) → all_open cs ≡ true → (i : ℕ) → i < length cs → get_or cs i 0 ≡ all_channels
unfolding all_open
all_each [] e i h = absurd (omega arith)
all_each (c ∷ cs) e i h = go (eqb c all_channels) refl e (all_each cs)
  where
    go : (b : Bool) → eqb c all_channels ≡ b → (b && all_open cs) ≡ true → (all_open cs ≡ true → (j : ℕ) → j < length cs → get_or cs j 0 ≡ all_channels) → get_or (c ∷ cs) i 0 ≡ all_channels
    go true q t later = at i h
      where
        at : (j : ℕ) → j < length (c ∷ cs) → get_or (c ∷ cs) j 0 ≡ all_channels
        at zero g = eqb-true c all_channels q
        at (suc j) g = later t j (omega arith)
    go false q t later = absurd (false≢true t)

pub each_all : (cs : List ℕ) → ((i : ℕ) → i < length cs → get_or cs i 0 ≡ all_channels) → all_open cs ≡ true
unfolding all_open
each_all [] e = refl
each_all (c ∷ cs) e = rw (eq-eqb c all_channels (e 0 (omega arith))) (each_all cs (λ i h. e (suc i) (omega arith)))
