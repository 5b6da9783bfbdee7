-- Laws of what is counted of the frames composed: their kinds and their octets. Assumes nothing.
use mathlib.Core.Path.{◌≡◌, refl}
use mathlib.Core.Bool.{true}
use mathlib.Core.List.{List, [], ◌++◌}
use Prim.Native.Nat.{ℕ, ◌+◌, ◌*◌, ◌≤◌}
use native.Mathlib.Omega.{arith}
use lib.ListN.{length}
use borrow.Author.Tests.{leb-true}
use Rattle.parts.specs.Frames.{fit}
use Rattle.parts.specs.declared.frame.Frame.{Frame}
use Rattle.parts.specs.declared.frame.Frame.TheVariants.{Token, Transmit, Information}
use Rattle.std.specs.Prelude.{Some}
use Rattle.station_theorems.proofs.Laws.Sending.{passes}
use Rattle.bench.specs.Rows.{kind_of, octets_of, row_of, row_on}
use Rattle.bench.specs.declared.rows.Row.{Row}
use Rattle.bench.specs.declared.rows.Kind.{Kind}
use Rattle.bench.specs.declared.rows.Kind.TheVariants.{T, G, I}
use Rattle.waiting.specs.Waiting.{is_short, is_information, shorts, informations, octets_on_wire}

-- ---- the count of a frame

pub one_kind : (k : Kind) → is_short k + is_information k ≡ 1
one_kind T = refl
one_kind G = refl
one_kind I = refl

-- 72 octets for a short frame, at most 1,526 for information
pub few_octets : (n : ℕ) (f : Frame) → fit n f ≡ true → octets_of f ≤ 72 * is_short (kind_of f) + 1526 * is_information (kind_of f)
few_octets n (Token t) e = omega arith
few_octets n (Transmit t) e = omega arith
few_octets n (Information i) e =
    let h : i.length ≤ 1492 = leb-true i.length 1492 (passes (passes e).1).1 in
    omega arith

-- ---- the counts of frames composed

-- so many short frames and so many information frames, at most so many octets
pub record Counts (rows : List Row) (short info : ℕ) : Type 0 where
  pub few_short : shorts rows ≤ short
  pub few_information : informations rows ≤ info
  pub octets : octets_on_wire rows ≤ 72 * shorts rows + 1526 * informations rows
  pub all_counted : length rows ≡ shorts rows + informations rows

pub counts_none : (short info : ℕ) → Counts [] short info
unfolding shorts informations octets_on_wire
counts_none short info = record { few_short = omega arith; few_information = omega arith; octets = omega arith; all_counted = refl }

pub counts_more : (n from : ℕ) (f : Frame) (to : ℕ) → fit n f ≡ true → (rows : List Row) (short info short' info' : ℕ)
    → is_short (kind_of f) + short' ≤ short → is_information (kind_of f) + info' ≤ info → Counts rows short' info' → Counts (row_on from (Some (f, to)) ++ rows) short info
unfolding shorts informations octets_on_wire row_on row_of
counts_more n from f to e rows short info short' info' a b c =
    record {
      few_short = omega (arith, c.few_short);
      few_information = omega (arith, c.few_information);
      octets = omega (arith, c.octets, few_octets n f e);
      all_counted = omega (arith, c.all_counted, one_kind (kind_of f));
    }
