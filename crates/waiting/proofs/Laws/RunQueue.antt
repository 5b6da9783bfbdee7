-- A queue call at a member with an empty send list: it is accepted, and the message is the only one that waits there. Assumes nothing.
use mathlib.Core.Path.{◌≡◌, refl, sym, ap, ◌∙◌}
use mathlib.Core.Bool.{Bool, true, not}
use mathlib.Core.List.{[], ◌∷◌}
use Prim.Native.Nat.{ℕ, ◌<◌, ◌≤◌}
use native.Mathlib.Omega.{arith}
use lib.Dec.{ltb, leb, eqb}
use lib.Seq.{get_or-set_same, get_or-set_other}
use borrow.Author.Tests.{lt-leb, le-ltb, ne_eqb}
use Rattle.std.specs.Prelude.{None}
use Rattle.codec.proofs.Laws.Order.{first_passed}
use Rattle.parts.specs.Choose.{pick}
use Rattle.parts.specs.Moves.{move_of, runs}
use Rattle.parts.specs.Messages.{all, none, pushed, has_place, free_from, lowest_free, message_for}
use Rattle.parts.specs.Live.{live_at, seats}
use Rattle.parts.specs.Frames.{flight}
use Rattle.station.specs.Stations.{state_of, awaited_of}
use Rattle.station.specs.Queue.{accepted, queue_number, queue_rule}
use Rattle.parts.specs.Refusals.{queue_refusal}
use Rattle.parts.specs.declared.moves.Event.TheVariants.{Queue}
use Rattle.parts.specs.declared.live.Live.{Live}
use Rattle.parts.specs.declared.list.Message.{Message}
use Rattle.parts.specs.declared.list.Messages.{Messages}
use Rattle.parts.specs.declared.request.Request.{Request}
use Rattle.station.specs.declared.station.Station.{Station}
use Rattle.station.specs.declared.station.Answer.{Answer}
use Rattle.station.proofs.Laws.Moved.{moved_runs, unless_passes}
use Rattle.bench.specs.Ring.{nobody, station_at}
use Rattle.bench.specs.Calls.{with_station, queue}
use Rattle.bench.specs.declared.ring.Bench.{Bench}
use Rattle.bench.specs.declared.calls.Queued.{Queued}
use Rattle.bench.proofs.Laws.Calls.{queue_inside}
use Rattle.bench_theorems.specs.Quiet.{Member, Quiet}
use Rattle.bench_theorems.proofs.Laws.FullSet.{seats_most, full_live}
use Rattle.waiting.proofs.Laws.RunWaiting.{waiting, resting_all}

-- a member that takes part, with an empty send list
pub record Unused (n limit p : ℕ) (s : Station) : Type 0 where
  pub member : Member n limit p s
  pub takes_part : move_of (state_of s) Queue ≡ runs
  pub empty : s.sends ≡ none
  pub none_flies : flight (awaited_of s) ≡ None

pub unused_waits : {n limit p : ℕ} {s : Station} → Unused n limit p s → waiting s ≡ []
unfolding waiting
unused_waits {n} {limit} {p} {s} u = resting_all (flight (awaited_of s)) u.none_flies (all s.sends) ∙ ap all u.empty

-- the lowest free place of an empty list
pub unused_place : {n limit p : ℕ} {s : Station} → Unused n limit p s → lowest_free (all s.sends) ≡ 0
unfolding lowest_free free_from has_place pick
unused_place u = ap (λ (l : Messages). lowest_free (all l)) u.empty

-- what is asked of the message
pub record Proper (n p : ℕ) (r : Request) : Type 0 where
  pub member : r.to < n
  pub another : r.to ≡ p → ⊥
  pub some : 1 ≤ r.priority
  pub most : r.priority ≤ 255
  pub channel_fits : r.channel ≤ 7
  pub hears : r.listens ≡ true
  pub length_fits : r.length ≤ 1492

proper_passes : (n p : ℕ) (alive : Bool) (len : ℕ) (r : Request) → alive ≡ true → len < 16 → Proper n p r
    → queue_refusal n p alive len r ≡ 0
unfolding queue_refusal
proper_passes n p alive len r e room g =
    first_passed 0
    ((eqb r.priority 0, 14) ∷ (ltb 255 r.priority, 14) ∷ (leb n r.to, 15) ∷ (eqb r.to p, 15) ∷ (not alive, 16) ∷ (ltb 7 r.channel, 17) ∷ (not r.listens, 28) ∷ (ltb 1492 r.length, 18) ∷ (leb 16 len, 19) ∷ []) (
      ne_eqb r.priority 0 (λ z. omega (arith, g.some)),
      (
        le-ltb 255 r.priority g.most,
        (
          lt-leb n r.to g.member,
          (
            ne_eqb r.to p g.another,
            (ap not e, (le-ltb 7 r.channel g.channel_fits, (ap not g.hears, (le-ltb 1492 r.length g.length_fits, (lt-leb 16 len room, tt))))),
          ),
        ),
      ),
    )

-- the message, at the lowest place
abbrev pub only_one : Request → Message
only_one r = message_for r 0

module _ {n limit p : ℕ} {s : Station} (most : n ≤ 64) (u : Unused n limit p s) (r : Request) (g : Proper n p r) where
  passes : queue_number s r ≡ 0
  passes =
      ap (λ (i : ℕ). queue_refusal i s.own (live_at s.live r.to) s.sends.len r) u.member.same_n
      ∙ ap (λ (i : ℕ). queue_refusal n i (live_at s.live r.to) s.sends.len r) u.member.own
      ∙ proper_passes n p (live_at s.live r.to) s.sends.len r
      (ap (λ (l : Live). live_at l r.to) u.member.live ∙ full_live n r.to most g.member) (omega (arith, ap (λ (l : Messages). l.len) u.empty)) g

  accepts : queue_rule s r ≡ accepted s r
  unfolding queue_rule
  accepts = moved_runs s Queue _ refl u.takes_part ∙ unless_passes s _ _ refl passes

  pub rule_number : (queue_rule s r).number ≡ 0
  unfolding accepted
  rule_number = ap (λ (a : Answer). a.number) accepts

  pub rule_waits : waiting (queue_rule s r).station ≡ only_one r ∷ []
  unfolding accepted waiting pushed lowest_free free_from has_place pick
  rule_waits =
      ap (λ (a : Answer). waiting a.station) accepts
      ∙ resting_all (flight (awaited_of s)) u.none_flies _
      ∙ ap (λ (l : Messages). all (pushed l (message_for r (lowest_free (all l))))) u.empty

-- ---- on the bench

module _
    {limit : ℕ} (b : Bench) (q : Quiet limit b) (n : ℕ) (same_n : b.n ≡ n) (p : ℕ) (place : p < n) (u : Unused n limit p (station_at b p)) (r : Request)
    (g : Proper n p r)
  where
    most : n ≤ 64
    most = omega (arith, q.picture.most_members)

    a : Answer
    a = queue_rule (station_at b p) r

    queued_is : queue b p r ≡ record { bench = with_station b p a.station; number = a.number }
    unfolding a
    queued_is =
        let seats_are : n ≡ seats b.n = sym (ap seats same_n ∙ seats_most n most) in
        sym (queue_inside b n p r seats_are (station_at b p) (queue_rule (station_at b p) r) place refl refl)

    pub queue_number_lem : (queue b p r).number ≡ 0
    unfolding a
    queue_number_lem = ap (λ (x : Queued). x.number) queued_is ∙ rule_number most u r g

    pub queue_here : waiting (station_at (queue b p r).bench p) ≡ only_one r ∷ []
    unfolding a
    queue_here =
        ap (λ (x : Queued). waiting (station_at x.bench p)) queued_is
        ∙ ap waiting (get_or-set_same b.stations p a.station nobody (omega (arith, q.table)))
        ∙ rule_waits most u r g

    pub queue_other : (i : ℕ) → (i ≡ p → ⊥) → station_at (queue b p r).bench i ≡ station_at b i
    queue_other i o = ap (λ (x : Queued). station_at x.bench i) queued_is ∙ get_or-set_other b.stations p i a.station nobody o
