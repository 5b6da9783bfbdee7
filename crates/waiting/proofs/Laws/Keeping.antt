-- Until its own frame is composed a message on top waits, and the frame that is its own carries it. Assumes nothing.
use mathlib.Core.Path.{◌≡◌, sym, subst, ◌∙◌}
use mathlib.Core.Bool.{true, false, false≢true}
use mathlib.Core.List.{List, [], ◌∷◌, ◌++◌}
use Prim.Native.Nat.{ℕ, ◌+◌, ◌*◌, ◌≤◌}
use Rattle.sent.specs.Round.{information_of}
use Rattle.parts.specs.declared.list.Message.{Message}
use Rattle.bench.specs.Delivery.{step}
use Rattle.bench.specs.Calls.{queue}
use Rattle.bench.specs.Runs.{Event, stepped, queued, after_event, final}
use Rattle.bench.specs.declared.ring.Wire.{Wire}
use Rattle.bench.specs.declared.ring.Bench.{Bench}
use Rattle.waiting.specs.Waiting.{Spot, OnTop, StaysOnTop, own, goes}
use Rattle.waiting.proofs.Laws.Ahead.{some_ahead}
use Rattle.waiting.proofs.Laws.Own.{goes_own, goes_another}
use Rattle.waiting.proofs.Laws.Stepping.{Holds, AheadOn, Steps, goes_now, waits_on, next_step}
use Rattle.waiting.proofs.Laws.Running.{holds_queue, top_now, top_step, top_queue}

-- ---- the rank, whatever is on the wire

pub record Ranked (n s priority : ℕ) (w : Wire) : Type 0 where
  pub short : ℕ
  pub info : ℕ
  pub rank : AheadOn n s priority w short info
  pub few_short : short ≤ 2 * n + 1
  pub one_information : info ≤ 1

pub ranked : (n : ℕ) (x : Spot) (m : Message) (b : Bench) → Holds n x m b → Ranked n x.station m.priority b.wire
ranked n x m b h =
    let q = h.quiet in
    subst (λ (i : ℕ). Ranked i x.station m.priority b.wire) h.size
    (let a = some_ahead x.station m.priority q.picture.phase in
    record {
      short = a.short;
      info = a.information;
      rank = record { frame = q.frame; to = q.to; on_wire = q.on_wire; ahead = a.ahead };
      few_short = a.few_short;
      one_information = a.one_information;
    })

module _ (n : ℕ) (x : Spot) (m : Message) where
  -- a step, whatever the rank
  one_step : (b : Bench) (h : Holds n x m b) → OnTop x m.priority b → Steps n x m (step b) (ranked n x m b h).short (ranked n x m b h).info
  one_step b h top = next_step n x m b h top (ranked n x m b h).short (ranked n x m b h).info (ranked n x m b h).rank

  -- ---- until it goes

  -- after the first of the events the message waits, and stays on top in the rest of them
  pub record Still (b : Bench) (rest : List Event) : Type 0 where
    pub holds : Holds n x m b
    pub on_top : StaysOnTop x m.priority b rest

  pub until_it_goes : (es rest : List Event) (b : Bench) → Holds n x m b → StaysOnTop x m.priority b (es ++ rest) → goes x b es ≡ false → Still (final b es) rest
  unfolding final after_event goes
  until_it_goes [] rest b h t g = record { holds = h; on_top = t }
  until_it_goes (stepped ∷ es) rest b h t g = go (one_step b h (top_now x m.priority b (stepped ∷ (es ++ rest)) t)) (until_it_goes es rest (step b))
    where
      go : {k j : ℕ} → Steps n x m (step b) k j
          → (Holds n x m (step b) → StaysOnTop x m.priority (step b) (es ++ rest) → goes x (step b) es ≡ false → Still (final (step b) es) rest)
          → Still (final (step b) es) rest
      go (goes_now w) next = absurd (false≢true (sym g ∙ goes_own x b es w.is_own))
      go (waits_on w) next =
          next w.holds (top_step x m.priority b (es ++ rest) w.not_own t) (sym (goes_another x b es w.not_own) ∙ g)
  until_it_goes (queued from q ∷ es) rest b h t g =
      until_it_goes es rest (queue b from q).bench (holds_queue n x m b h from q)
      (top_queue x m.priority b from q (es ++ rest) t) g

  -- ---- its own frame

  pub own_is_its : (b : Bench) → Holds n x m b → OnTop x m.priority b → own x (step b).wire ≡ true
      → (number : ℕ) × ((step b).wire ≡ record { from = x.station; sent = information_of number m })
  own_is_its b h top e = go (one_step b h top)
    where
      go : {k j : ℕ} → Steps n x m (step b) k j → (number : ℕ) × ((step b).wire ≡ record { from = x.station; sent = information_of number m })
      go (goes_now w) = (w.number, w.is_sent)
      go (waits_on w) = absurd (false≢true (sym w.not_own ∙ e))
