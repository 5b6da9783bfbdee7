-- What a queue call keeps of a whole station, whatever its numbers: its turn does not change, and its head becomes no lower.
-- Assumes nothing.
use mathlib.Core.Path.{◌≡◌, refl, ap, ◌∙◌}
use mathlib.Core.Bool.{Bool, true, false}
use mathlib.Core.List.{List, [], ◌∷◌}
use Prim.Native.Nat.{◌<◌, ◌≤◌}
use native.Mathlib.Omega.{arith}
use lib.Dec.{ltb, eqb}
use lib.ListN.{length}
use borrow.Author.Tests.{ltb-true, eqb-true}
use Rattle.parts.specs.Choose.{pick}
use Rattle.parts.specs.Moves.{move_of, runs}
use Rattle.parts.specs.Messages.{all, pushed, fits, better_of, best_of, best}
use Rattle.std.specs.Prelude.{Option, None, Some}
use Rattle.parts.specs.Live.{live_at}
use Rattle.parts.specs.Frames.{flight}
use Rattle.station.specs.Stations.{state_of, awaited_of, with_sends, head, answered, moved, unless}
use Rattle.sent.specs.Round.{priority_of}
use Rattle.station.specs.Queue.{new_message, accepted, queue_number, queue_rule}
use Rattle.parts.specs.declared.moves.Event.TheVariants.{Queue}
use Rattle.parts.specs.declared.list.Message.{Message}
use Rattle.parts.specs.declared.list.Which.{Which}
use Rattle.parts.specs.declared.list.Which.TheVariants.{AnyWaiting}
use Rattle.parts.specs.declared.request.Request.{Request}
use Rattle.station.specs.declared.station.Station.{Station}
use Rattle.parts.proofs.Laws.Messages.{best_none, best_more}
use Rattle.parts.proofs.Laws.Queue.{queue_good}
use Rattle.station_theorems.specs.Shaped.{WholeStation}
use Rattle.station_theorems.proofs.Laws.Kept.{push_all}
use Rattle.station_theorems.proofs.Laws.Carried.{best_append}
use Rattle.bench_theorems.specs.Quiet.{head_priority}

-- ---- a message more in the send list

better_rises : (w : Which) (b : Option Message) (m : Message) → priority_of b ≤ priority_of (better_of w b m)
unfolding better_of pick
better_rises w None m = omega arith
better_rises w (Some c) m = go (fits w m) (ltb c.priority m.priority) refl
  where
    go : (t v : Bool) → ltb c.priority m.priority ≡ v → c.priority ≤ priority_of (pick t (pick v (Some m) (Some c)) (Some c))
    go false v d = omega arith
    go true true d = let h : c.priority < m.priority = ltb-true _ _ d in omega arith
    go true false d = omega arith

-- ---- the station

-- what a queue call keeps
pub record Keeps (s t : Station) : Type 0 where
  pub same_n : t.n ≡ s.n
  pub same_limit : t.limit ≡ s.limit
  pub same_own : t.own ≡ s.own
  pub same_live : t.live ≡ s.live
  pub same_turn : t.turn ≡ s.turn
  pub rises : head_priority s ≤ head_priority t

pub keeps_all : (s : Station) → Keeps s s
keeps_all s = record { same_n = refl; same_limit = refl; same_own = refl; same_live = refl; same_turn = refl; rises = omega arith }

head_pushed : (s : Station) (m : Message) → length s.sends.items ≡ 16 → s.sends.len < 16 → head_priority s ≤ head_priority (with_sends s (pushed s.sends m))
unfolding head best
head_pushed s m full room =
    let w : Which = AnyWaiting (flight (awaited_of s)) in
    let e : best w (pushed s.sends m) ≡ better_of w (best w s.sends) m =
    ap (λ (l : List Message). best_of w l None) (push_all s.sends m full room)
    ∙ best_append w (all s.sends) (m ∷ []) None
    ∙ best_more w m [] (best w s.sends)
    ∙ best_none w _ in
    omega (arith, ap priority_of e, better_rises w (best w s.sends) m)

module _ (s : Station) (whole : WholeStation s) (q : Request) where
  accepted_keeps : queue_number s q ≡ 0 → Keeps s (accepted s q).station
  unfolding accepted
  accepted_keeps z =
      let g = queue_good s.n s.own (live_at s.live q.to) s.sends.len q z in
      record {
        same_n = refl;
        same_limit = refl;
        same_own = refl;
        same_live = refl;
        same_turn = refl;
        rises = head_pushed s (new_message s q) whole.shaped.sends g.room;
      }

  pub queue_keeps : Keeps s (queue_rule s q).station
  unfolding queue_rule moved unless pick
  queue_keeps = go (eqb (move_of (state_of s) Queue) runs) (eqb (queue_number s q) 0) refl
    where
      go : (a b : Bool) → eqb (queue_number s q) 0 ≡ b
          → Keeps s
          (pick a
          (pick b (accepted s q) (answered s (queue_number s q)))
          (answered s (move_of (state_of s) Queue))
          ).station
      go false b e = keeps_all s
      go true false e = keeps_all s
      go true true e = accepted_keeps (eqb-true _ _ e)
