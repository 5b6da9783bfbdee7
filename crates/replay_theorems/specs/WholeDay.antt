-- What holds of a day throughout: every station is whole, and every frame on the wire is fit and between two members.
use Rattle.std.specs.Prelude.{◌≡◌, true, ℕ, ◌<◌, ◌≤◌, length}
use mathlib.Core.List.{Memᴰ}
use Rattle.parts.specs.Frames.{fit}
use Rattle.station.specs.declared.station.Station.{Station}
use Rattle.station_theorems.specs.Shaped.{WholeStation}
use Rattle.bench.specs.Ring.{nobody}
use Rattle.day.specs.declared.wire.Flying.{Flying}
use Rattle.day.specs.Day.{Day, most_frames, member_at}

-- a whole station at the position p of a ring of n with a retry limit
pub record MemberOf (n limit p : ℕ) (s : Station) : Type 0 where
  pub same_n : s.n ≡ n
  pub same_limit : s.limit ≡ limit
  pub own : s.own ≡ p
  pub whole : WholeStation s

-- a fit frame from a member to another
pub record Proper (n : ℕ) (f : Flying) : Type 0 where
  pub sender : f.from < n
  pub addressee : f.to < n
  pub another : f.to ≡ f.from → ⊥
  pub fits : fit n f.frame ≡ true

pub record WholeDay (n limit : ℕ) (d : Day) : Type 0 where
  pub size : d.n ≡ n
  pub table : length d.stations ≡ 64
  pub members : (p : ℕ) → p < n → MemberOf n limit p (member_at d p)
  -- past the ring nothing has begun
  pub nobody_past : (p : ℕ) → n ≤ p → member_at d p ≡ nobody
  pub on_wire : (f : Flying) → Memᴰ f d.wire → Proper n f
  pub never_more : length d.wire ≤ most_frames
