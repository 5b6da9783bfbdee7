-- One missed frame heals: on every bench that a fault-free run comes to, whoever misses the frame on the wire. Assumes nothing.
use mathlib.Core.Path.{◌≡◌, sym, ap, subst, ◌∙◌}
use mathlib.Core.Bool.{Bool, true, false}
use mathlib.Core.List.{List}
use Prim.Native.Nat.{ℕ, ◌≤◌}
use Rattle.bench.specs.Ring.{ring_with}
use Rattle.bench.specs.Delivery.{step}
use Rattle.bench.specs.Runs.{Event, final}
use Rattle.bench.specs.declared.ring.Bench.{Bench}
use Rattle.bench_theorems.specs.Quiet.{Quiet}
use Rattle.bench_theorems.proofs.Theorems.ReachedQuiet.{reached_quiet}
use Rattle.acknowledging.specs.Missing.{miss, Meanwhile}
use Rattle.acknowledging.specs.Heals.{AtOnce, Heals, SparesOn, no_one}
use Rattle.acknowledging.proofs.Laws.AfreshRuns.{none_retried}
use Rattle.acknowledging.proofs.Laws.Calm.{reached_calm}
use Rattle.acknowledging.proofs.Laws.Missed.{miss_delivers, spares_missing, next_at_once, healed_missed, spares_next}
use Rattle.acknowledging.proofs.Laws.Lull.{Undisturbed, Lull, lull_missed}
use Rattle.acknowledging.proofs.Laws.Meanwhile.{lull_meanwhile, harmless}
use Rattle.acknowledging.proofs.Laws.Resent.{by_timer}

module _ {limit : ℕ} (b : Bench) (u : Undisturbed limit b) (misses : ℕ → Bool) where
  abbrev q : Quiet limit b
  q = u.quiet

  at_once : misses q.to ≡ false → AtOnce misses b
  at_once here =
      let e = miss_delivers b q misses in
      record {
        next_frame = ap (λ (c : Bench). c.wire) e ∙ next_at_once b q misses here;
        spares_all = subst (λ (c : Bench). SparesOn no_one c c.wire.sent) (sym e) (spares_next b q misses here);
        healed = ap step e ∙ healed_missed b q misses here;
      }

  lull : misses q.to ≡ true → Lull b u (miss misses b)
  lull gone = subst (Lull b u) (sym (miss_delivers b q misses)) (lull_missed b u misses gone)

  lull_then : misses q.to ≡ true → (c : Bench) → Meanwhile b.wire.from (miss misses b) c → Lull b u c
  lull_then gone c h = lull_meanwhile b u (miss misses b) (lull gone) c h

  heals_quiet : Heals misses b
  heals_quiet =
      record {
        frame = q.frame;
        to = q.to;
        on_wire = q.on_wire;
        spares_all = spares_missing b q misses;
        heard = at_once;
        unanswered = λ gone. (lull gone).empty;
        meanwhile = λ gone c h p k others. harmless b u c (lull_then gone c h) p k others;
        missed = λ gone c h. by_timer b u c (lull_then gone c h);
      }

pub heals : (n limit : ℕ) → 2 ≤ n → n ≤ 64 → 1 ≤ limit → limit ≤ 15 → (es : List Event) (misses : ℕ → Bool) → Heals misses (final (ring_with n limit) es)
heals n limit two most low high es misses =
    heals_quiet (final (ring_with n limit) es)
    (record {
      quiet = reached_quiet n limit two most low high es;
      retries = low;
      none_retried = none_retried n limit es;
      calm = reached_calm n limit two most low high es;
    })
    misses
