-- A station's live set at the end is all members without those that are printed as struck by it. Assumes nothing.
use mathlib.Core.Path.{◌≡◌, refl, sym, ap, ◌∙◌}
use mathlib.Core.Bool.{Bool, true, false, not, ◌&&◌}
use mathlib.Core.List.{List, [], ◌∷◌}
use Prim.Native.Nat.{ℕ, ◌<◌, ◌≤◌}
use native.Mathlib.Omega.{arith}
use lib.Dec.{ltb}
use borrow.Author.Tests.{ltb-true, ltb-false}
use Rattle.parts.specs.Live.{live_at, full}
use Rattle.station.specs.declared.station.Station.{Station}
use Rattle.station_theorems.proofs.Theorems.Whole.{whole_is}
use Rattle.bench_theorems.proofs.Laws.Beginning.{ring_n}
use Rattle.bench_theorems.proofs.Laws.FullSet.{full_live}
use Rattle.bench_theorems.proofs.Laws.Ringing.{quiet_start}
use Rattle.day.specs.Day.{Day, member_at, start_day}
use Rattle.replay.specs.Runs.{Record, good, bad, Course, record_number, effect, turn, gone, begun}
use Rattle.replay_theorems.specs.Lines.{Line, effect_lines, turn_lines, run_lines}
use Rattle.replay_theorems.specs.Strikes.{struck_by}
use Rattle.replay_theorems.specs.WholeDay.{MemberOf, WholeDay}
use Rattle.replay_theorems.proofs.Laws.Turning.{Turned, Turns, over, stops, goes, turns, turn_keeps}
use Rattle.replay_theorems.proofs.Laws.Striking.{and-true, and_nor, none_says, stopped_says, append_says}
use Rattle.replay_theorems.proofs.Laws.WholeRecords.{record_whole}
use Rattle.replay_theorems.proofs.Laws.Beginning.{start_whole_day}
use Rattle.replay_theorems.proofs.Laws.LiveRecords.{Left, record_left}

none_left : (q : ℕ) (d : Day) (ls : List Line) → ((p : ℕ) → struck_by p q ls ≡ false) → Left q d d ls
none_left q d ls o p = sym (ap (λ (b : Bool). live_at (member_at d q).live p && not b) (o p) ∙ and-true (live_at (member_at d q).live p))

module _ {n limit : ℕ} (most : n ≤ 64) (q : ℕ) (h : q < n) where
  effect_left : (c : Course) (r : Record) → WholeDay n limit c.day → Left q c.day (effect c r).day (effect_lines c.day r)
  effect_left c (good e) w = record_left w most q h e
  effect_left c (bad k) w = none_left q c.day [] (λ p. none_says p q)

  turn_left : (c : Course) (r : Record) → WholeDay n limit c.day → Left q c.day (turn c r).day (turn_lines c r)
  turn_left c r w = go (turns c r)
    where
      at : {x : Course} {t : List ℕ} {ls : List Line} → Turned c r x t ls → Left q c.day x.day ls → Left q c.day (turn c r).day (turn_lines c r)
      at t l p =
          ap (λ (x : Course). live_at (member_at x.day q).live p) t.leaves
          ∙ l p
          ∙ sym (ap (λ (ls : List Line). live_at (member_at c.day q).live p && not (struck_by p q ls)) t.shows)

      go : Turns c r → Left q c.day (turn c r).day (turn_lines c r)
      go (over o t) = at t (none_left q c.day [] (λ p. none_says p q))
      go (stops z o t) = at t (none_left q c.day _ (λ p. stopped_says p q (record_number c.day r) c.done))
      go (goes z k t) = at t (effect_left c r w)

  run_left : (rs : List Record) (c : Course) → WholeDay n limit c.day → Left q c.day (gone c rs).day (run_lines c rs)
  unfolding gone run_lines
  run_left [] c w p = none_left q c.day [] (λ i. none_says i q) p
  run_left (r ∷ rs) c w p =
      run_left rs (turn c r) (turn_keeps (WholeDay n limit) (record_whole most) c r w) p
      ∙ ap (λ (b : Bool). b && not (struck_by p q (run_lines (turn c r) rs))) (turn_left c r w p)
      ∙ and_nor (live_at (member_at c.day q).live p) (struck_by p q (turn_lines c r)) (struck_by p q (run_lines (turn c r) rs))
      ∙ ap (λ (b : Bool). live_at (member_at c.day q).live p && not b) (sym (append_says p q (turn_lines c r) (run_lines (turn c r) rs)))

-- ---- at first every member is live, and nobody else

module _ (n limit : ℕ) (two : 2 ≤ n) (most : n ≤ 64) (low : 1 ≤ limit) (high : limit ≤ 15) (q : ℕ) (h : q < n) where
  first_live : (member_at (start_day n limit) q).live ≡ full n
  unfolding start_day
  first_live =
      ((quiet_start n limit two most low high).picture.members q (omega (arith, ring_n n limit two most))).live ∙ ap full (ring_n n limit two most)

  all_first : (p : ℕ) → live_at (member_at (start_day n limit) q).live p ≡ ltb p n
  all_first p = go (ltb p n) refl
    where
      s : Station
      s = member_at (start_day n limit) q

      m : MemberOf n limit q s
      m = (start_whole_day n limit two most low high).members q h

      none : n ≤ p → (b : Bool) → live_at s.live p ≡ b → b ≡ false
      none o true e =
          let x : p < s.n = (whole_is s m.whole.shaped m.whole.is_whole).live_set.members_only p e in
          absurd (omega (arith, m.same_n))
      none o false e = refl

      go : (t : Bool) → ltb p n ≡ t → live_at s.live p ≡ ltb p n
      go true x = ap (λ l. live_at l p) first_live ∙ full_live n p most (ltb-true p n x) ∙ sym x
      go false x = none (ltb-false p n x) (live_at s.live p) refl ∙ sym x

  pub live_at_end : (rs : List Record) (p : ℕ)
      → live_at (member_at (gone (begun (start_day n limit)) rs).day q).live p ≡ (ltb p n && not (struck_by p q (run_lines (begun (start_day n limit)) rs)))
  live_at_end rs p =
      run_left most q h rs (begun (start_day n limit)) (start_whole_day n limit two most low high) p
      ∙ ap (λ (b : Bool). b && not (struck_by p q (run_lines (begun (start_day n limit)) rs))) (all_first p)
