-- A day begins whole. Assumes nothing.
use mathlib.Core.Path.{◌≡◌, refl, sym, ap, subst, ◌∙◌}
use mathlib.Core.List.Memᴰ
use mathlib.Core.List.{[], ◌∷◌, Memᴰ}
use Prim.Native.Nat.{ℕ, zero, suc, ◌<◌, ◌≤◌}
use native.Mathlib.Omega.{arith}
use lib.ListN.{length, get_or, replicate}
use lib.Seq.{get_or-set_other}
use Rattle.parts.specs.Live.{seats}
use Rattle.station.specs.declared.station.Station.{Station}
use Rattle.bench.specs.Ring.{nobody, station_at, first_answer, start_at, start_down, empty_bench, ring_with}
use Rattle.bench.specs.declared.ring.Bench.{Bench}
use Rattle.bench_theorems.specs.Quiet.{Member, Quiet}
use Rattle.bench_theorems.proofs.Laws.FullSet.{seats_most}
use Rattle.bench_theorems.proofs.Laws.Beginning.{ring_n}
use Rattle.bench_theorems.proofs.Laws.Ringing.{quiet_start}
use Rattle.day.specs.declared.wire.Flying.{Flying}
use Rattle.day.specs.Day.{member_at, joining, begun_by, start_day}
use Rattle.replay_theorems.specs.WholeDay.{MemberOf, Proper, WholeDay}

-- ---- past the ring nobody starts

above : (limit k : ℕ) (b : Bench) (p : ℕ) → k ≤ p → station_at (start_down limit k b) p ≡ station_at b p
unfolding start_down start_at
above limit zero b p h = refl
above limit (suc k) b p h =
    above limit k (start_at limit b k) p (omega arith) ∙ get_or-set_other b.stations k p (first_answer b.n limit k).station nobody (λ e. omega arith)

each_same : {A : Type 0} (k p : ℕ) (a : A) → get_or (replicate k a) p a ≡ a
each_same zero p a = refl
each_same (suc k) zero a = refl
each_same (suc k) (suc p) a = each_same k p a

ring_past : (n limit p : ℕ) → n ≤ 64 → n ≤ p → station_at (ring_with n limit) p ≡ nobody
unfolding ring_with
ring_past n limit p most h = above limit (seats n) (empty_bench n) p (omega (arith, seats_most n most)) ∙ each_same 64 p nobody

-- ---- a quiet bench, as a day

-- its one frame
pub wire_begun : (b : Bench) {limit : ℕ} (q : Quiet limit b) → (begun_by b).wire ≡ record { from = b.wire.from; frame = q.frame; to = q.to } ∷ []
unfolding joining
wire_begun b q = ap (joining b.wire.from) q.on_wire

member_of : {n limit p : ℕ} {s : Station} → Member n limit p s → MemberOf n limit p s
member_of m = record { same_n = m.same_n; same_limit = m.same_limit; own = m.own; whole = m.whole }

module _ (n limit : ℕ) (b : Bench) (q : Quiet limit b) (size : b.n ≡ n) where
  begun_members : (p : ℕ) → p < n → MemberOf n limit p (member_at (begun_by b) p)
  begun_members p h = subst (λ (k : ℕ). MemberOf k limit p (station_at b p)) size (member_of (q.picture.members p (omega arith)))

  begun_proper : (f : Flying) → Memᴰ f (begun_by b).wire → Proper n f
  begun_proper f i =
      let first : Flying = record { from = b.wire.from; frame = q.frame; to = q.to } in
      let at : Proper b.n first =
      record { sender = q.picture.sender_member; addressee = q.picture.addressee_member; another = q.picture.another; fits = q.picture.fits } in
      subst (Proper n) (sym (Memᴰ.eq_of_singleton (subst (Memᴰ f) (wire_begun b q) i))) (subst (λ (k : ℕ). Proper k first) size at)

  pub begun_whole : ((p : ℕ) → n ≤ p → station_at b p ≡ nobody) → WholeDay n limit (begun_by b)
  begun_whole past =
      record {
        size = size;
        table = q.table;
        members = begun_members;
        nobody_past = past;
        on_wire = begun_proper;
        never_more = omega (arith, ap length (wire_begun b q));
      }

pub start_whole_day : (n limit : ℕ) → 2 ≤ n → n ≤ 64 → 1 ≤ limit → limit ≤ 15 → WholeDay n limit (start_day n limit)
unfolding start_day
start_whole_day n limit two most low high =
    begun_whole n limit (ring_with n limit) (quiet_start n limit two most low high) (ring_n n limit two most) (λ p h. ring_past n limit p most h)
