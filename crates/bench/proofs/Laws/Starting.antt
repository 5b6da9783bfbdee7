-- Laws of how a ring begins: turn by turn, from the last member down. Assumes nothing.
use mathlib.Core.Path.{◌≡◌, refl, sym, ap, ◌∙◌}
use mathlib.Core.List.{List}
use Prim.Native.Nat.{ℕ, suc}
use lib.ListN.{set, replicate}
use Rattle.parts.specs.Live.{seats}
use Rattle.station.specs.Stations.{made}
use Rattle.station.specs.Start.{start_rule}
use Rattle.std.specs.Prelude.{None}
use Rattle.station.specs.declared.station.Station.{Station}
use Rattle.station.specs.declared.station.Answer.{Answer}
use Rattle.bench.specs.Ring.{nobody, on_wire, start_at, start_down, ring_with}
use Rattle.bench.specs.declared.ring.Wire.{Wire}
use Rattle.bench.specs.declared.ring.Bench.{Bench}

abbrev pub bench_of : ℕ → List Station → Wire → Bench
bench_of n stations wire = record { n = n; stations = stations; wire = wire }

pub start_begins : (n limit p : ℕ) (s : Station) → p ≡ seats n → s ≡ made 0 0 0
    → start_down limit p (bench_of n (replicate 64 s) (record { from = 0; sent = None })) ≡ ring_with n limit
unfolding ring_with nobody
start_begins n limit p s e f = rw (e, f)

pub start_one : (limit : ℕ) (b : Bench) (k : ℕ) → start_down limit (suc k) b ≡ start_down limit k (start_at limit b k)
unfolding start_down
start_one limit b k = refl

pub start_turn : (n limit k p : ℕ) (stations : List Station) (wire w : Wire) (s : Station) (a : Answer) (t : Bench) → p ≡ suc k
    → s ≡ made n limit k → a ≡ start_rule s → w ≡ on_wire wire k a.sent → start_down limit p (bench_of n stations wire) ≡ t
    → start_down limit k (bench_of n (set stations k a.station) w) ≡ t
unfolding start_at
start_turn n limit k p stations wire w s a t e i j o d =
    ap (start_down limit k) (rw (o, j, i))
    ∙ sym (start_one limit (bench_of n stations wire) k)
    ∙ ap (λ (q : ℕ). start_down limit q (bench_of n stations wire)) (sym e)
    ∙ d

pub start_ends : (limit p : ℕ) (b t : Bench) → p ≡ 0 → start_down limit p b ≡ t → b ≡ t
unfolding start_down
start_ends limit p b t e d = ap (λ (q : ℕ). start_down limit q b) (sym e) ∙ d
