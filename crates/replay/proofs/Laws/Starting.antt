-- Laws of a day's calls: its first course, the lines of the frames on the wire, and how far one call goes. Assumes nothing.
use mathlib.Core.Path.{◌≡◌, refl, sym, ap, subst, ◌∙◌}
use mathlib.Core.Bool.{Bool, true, false}
use mathlib.Core.List.{List, [], ◌∷◌, ◌++◌}
use Prim.Native.Nat.{ℕ, zero, suc, ◌+◌, ◌*◌, ◌-◌, ◌/◌, ◌^◌, ◌<◌, ◌≤◌}
use native.Mathlib.Omega.{arith}
use lib.Dec.{ltb}
use lib.ListN.{length, get_or, take}
use borrow.Author.Tests.{eq-eqb, ne_eqb, lt-ltb, le-ltb, ltb-true, ltb-false}
use Rattle.codec.specs.Octets.{laid}
use Rattle.parts.specs.Choose.{pick}
use Rattle.parts.specs.Frames.{Dispatch}
use Rattle.std.specs.Prelude.{None, Some}
use Rattle.parts.proofs.Laws.Choose.{pick_true, pick_false}
use Rattle.station.specs.declared.station.Station.{Station}
use Rattle.bench.specs.Ring.{nobody, ring_with}
use Rattle.bench.specs.declared.ring.Bench.{Bench}
use Rattle.capture.specs.Record.{read_record}
use Rattle.capture.specs.declared.record.Read.{Read}
use Rattle.capture.specs.declared.record.Read.TheVariants.{End}
use Rattle.day.specs.Day.{most_frames, joining, begun_by, start_day}
use Rattle.day.specs.Printed.{station_text}
use Rattle.replay.specs.Replays.{is_end, is_over, turns_in, RanFrom}
use Rattle.replay.specs.Running.{longest, AllDone, Begins}
use Rattle.replay.specs.Runs.{Course, begun}
use Rattle.replay.specs.Table.{way_of}
use Rattle.day.specs.Wire.{no_frames, flying_of}
use Rattle.replay.specs.declared.going.Going.{Going}
use Rattle.replay.specs.declared.run.Replay.{Replay}
use Rattle.replay.specs.declared.run.Ran.{Ran}
use Rattle.day.specs.declared.wire.Frames.{Frames}
use Rattle.day.specs.declared.wire.Flying.{Flying}
use Rattle.day.proofs.Laws.Wire.{flying_most}

-- ---- the first course

abbrev pub course_with : ℕ → List Station → List Flying → Course
course_with n ss fs = record { day = record { n = n; stations = ss; wire = fs }; done = 0; number = 0 }

joins_first : (p : ℕ) (d : Dispatch) → take most_frames (joining p d) ≡ joining p d
unfolding joining
joins_first p None = refl
joins_first p (Some (frame, to)) = refl

none_flying : flying_of no_frames ≡ []
unfolding flying_of
none_flying = refl

pub first_course : (n limit : ℕ) (b : Bench) (none wire : Frames) → b ≡ ring_with n limit → none ≡ no_frames → flying_of wire ≡ take most_frames (flying_of none ++ joining b.wire.from b.wire.sent)
    → course_with b.n b.stations (flying_of wire) ≡ begun (start_day n limit)
unfolding start_day
first_course n limit b none wire eb en ew =
    ap (course_with b.n b.stations) (ew ∙ ap (λ (f : Frames). take most_frames (flying_of f ++ joining b.wire.from b.wire.sent)) en ∙ ap (λ (fs : List Flying). take most_frames (fs ++ joining b.wire.from b.wire.sent)) none_flying ∙ joins_first b.wire.from b.wire.sent)
    ∙ ap (λ (x : Bench). begun (begun_by x)) eb

-- ---- whether it is over

module _ (r : Replay) (s : List ℕ) where
  pub over_stopped : (r.number ≡ 0 → ⊥) → true ≡ is_over r s
  over_stopped o = sym (pick_false (is_end (read_record r.n s r.at)) true (ne_eqb r.number 0 o))

  pub over_read : (d : Read) (b : Bool) → r.number ≡ 0 → d ≡ read_record r.n s r.at → b ≡ is_end d → b ≡ is_over r s
  over_read d b z e x = x ∙ ap is_end e ∙ sym (pick_true (is_end (read_record r.n s r.at)) true (eq-eqb r.number 0 z))

-- ---- how far one call goes

module _ (room done k left : ℕ) (e : k ≡ room) (f : left ≡ 2 ^ 63 - done) where
  pub turns_room : k / 1440 < left → k / 1440 ≡ turns_in room done
  unfolding turns_in
  turns_room less = sym (pick_true (room / longest) (2 ^ 63 - done) (lt-ltb (room / longest) (2 ^ 63 - done) (rw (← e, ← f) less)) ∙ ap (λ (j : ℕ). j / longest) (sym e))

  pub turns_left : left ≤ k / 1440 → left ≡ turns_in room done
  unfolding turns_in
  turns_left less = f ∙ sym (pick_false (room / longest) (2 ^ 63 - done) (le-ltb (room / longest) (2 ^ 63 - done) (rw (← e, ← f) less)))

-- there is room for all of them, and they can be counted
pub turns_fit : (room done : ℕ) → (longest * turns_in room done ≤ room) × (turns_in room done ≤ 2 ^ 63 - done)
unfolding turns_in
turns_fit room done = go (ltb (room / longest) (2 ^ 63 - done)) refl
  where
    go : (b : Bool) → ltb (room / longest) (2 ^ 63 - done) ≡ b
        → (longest * pick (ltb (room / longest) (2 ^ 63 - done)) (room / longest) (2 ^ 63 - done) ≤ room) × (pick (ltb (room / longest) (2 ^ 63 - done)) (room / longest) (2 ^ 63 - done) ≤ 2 ^ 63 - done)
    go true z =
        let p : pick (ltb (room / longest) (2 ^ 63 - done)) (room / longest) (2 ^ 63 - done) ≡ room / longest = pick_true (room / longest) (2 ^ 63 - done) z in
        let h : room / longest < 2 ^ 63 - done = ltb-true (room / longest) (2 ^ 63 - done) z in
        (omega (arith, p), omega (arith, p, h))
    go false z =
        let p : pick (ltb (room / longest) (2 ^ 63 - done)) (room / longest) (2 ^ 63 - done) ≡ 2 ^ 63 - done = pick_false (room / longest) (2 ^ 63 - done) z in
        let h : 2 ^ 63 - done ≤ room / longest = ltb-false (room / longest) (2 ^ 63 - done) z in
        (omega (arith, p, h), omega (arith, p))

-- what is kept of a course for the call
abbrev pub going_from : Replay → ℕ → ℕ → Going
going_from r at most = record { n = r.n; channels = r.channels; wire = r.wire; at = r.at; done = r.done; number = r.number; used = at; most = most; k = 0; read = End }

abbrev pub ran_with : Replay → Going → List Station → Ran
ran_with r g ss = record { replay = record { n = g.n; channels = r.channels; stations = ss; wire = g.wire; at = g.at; done = g.done; number = g.number }; used = g.used }

module _ (r : Replay) (s out₀ : List ℕ) (at most : ℕ) (e : most ≡ turns_in (length out₀ - at) r.done) where
  pub call_begins : length r.wire.items ≡ 64 → Begins (way_of (going_from r at most)) (length out₀)
  call_begins size =
      let f : (longest * turns_in (length out₀ - at) r.done ≤ length out₀ - at) × (turns_in (length out₀ - at) r.done ≤ 2 ^ 63 - r.done) = turns_fit (length out₀ - at) r.done in
      record { none = refl; counted = omega (arith, e, f.1); roomy = omega (arith, e, f.0); few = (flying_most r.wire size).0 }

  pub ran_from : (g : Going) (ss : List Station) (out : List ℕ) → AllDone (way_of (going_from r at most)) r.stations s out₀ (way_of g) ss out → RanFrom r s out₀ at (ran_with r g ss) out
  ran_from g ss out d =
      let f : AllDone (way_of (going_from r at (turns_in (length out₀ - at) r.done))) r.stations s out₀ (way_of g) ss out = subst (λ (k : ℕ). AllDone (way_of (going_from r at k)) r.stations s out₀ (way_of g) ss out) e d in
      record { course = f.course; same_channels = refl; offset = f.offset; end = f.end; text = f.text }

-- ---- a station of the table

get_d_any : (ss : List Station) (i : ℕ) (d e : Station) → i < length ss → get_or ss i d ≡ get_or ss i e
get_d_any [] i d e less = absurd (omega arith)
get_d_any (s ∷ ss) zero d e less = refl
get_d_any (s ∷ ss) (suc i) d e less = get_d_any ss i d e (omega arith)

pub station_any : (l l₁ : List ℕ) (at r n p : ℕ) (ss : List Station) (d : Station) → p < length ss → (l₁ ≡ laid l at (station_text n p (get_or ss p d))) × (r ≡ at + length (station_text n p (get_or ss p d)))
    → (l₁ ≡ laid l at (station_text n p (get_or ss p nobody))) × (r ≡ at + length (station_text n p (get_or ss p nobody)))
station_any l l₁ at r n p ss d less h = subst (λ (s : Station). (l₁ ≡ laid l at (station_text n p s)) × (r ≡ at + length (station_text n p s))) (get_d_any ss p d nobody less) h
