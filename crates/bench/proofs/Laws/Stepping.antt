-- Laws of a run over the lent table: what is handed round, when there is a next step, one step, and all of them. Assumes nothing.
use mathlib.Core.Path.{◌≡◌, refl, sym, ap, ◌∙◌}
use mathlib.Core.Bool.{Bool, true, false, false≢true}
use mathlib.Core.List.{List}
use Prim.Native.Nat.{ℕ, ◌+◌, ◌*◌, ◌-◌, ◌<◌, ◌≤◌}
use native.Mathlib.Omega.{arith}
use lib.Dec.{ltb}
use lib.ListN.{length, get_or}
use borrow.Author.Tests.{lt-ltb, le-ltb, ltb-true, ltb-false}
use Rattle.codec.specs.Octets.{laid}
use Rattle.parts.specs.Live.{seats}
use Rattle.parts.specs.declared.frame.Frame.{Frame}
use Rattle.parts.specs.Frames.{Dispatch}
use Rattle.std.specs.Prelude.{None, Some}
use Rattle.parts.proofs.Laws.Choose.{pick_true, pick_false, pick_and}
use Rattle.station.specs.declared.station.Station.{Station}
use Rattle.bench.specs.Ring.{nobody}
use Rattle.bench.specs.Delivery.{is_sent, is_quiet, handed, delivered, steps}
use Rattle.bench.specs.Rows.{rows_on}
use Rattle.bench.specs.Text.{rows_text}
use Rattle.bench.specs.Running.{steps_text, ran}
use Rattle.bench.specs.Table.{hears, bench_in, no_frame, handing_by, handing_of, goes_on, step_text, printed, went_on, stepped}
use Rattle.bench.specs.declared.ring.Wire.{Wire}
use Rattle.bench.specs.declared.ring.Bench.{Bench}
use Rattle.bench.specs.declared.running.Ran.{Ran}
use Rattle.bench.specs.declared.table.Handing.{Handing}
use Rattle.bench.specs.declared.table.Going.{Going}
use Rattle.bench.specs.declared.table.Stepped.{Stepped}
use Rattle.bench.proofs.Laws.Starting.{bench_of}
use Rattle.bench.proofs.Laws.Running.{step_sent}
use Rattle.bench.proofs.Laws.Steps.{steps_one, text_one, steps_size}
use Rattle.bench.proofs.Laws.Going.{UnderWay, ran_of, going_none, going_room, going_on, going_all, going_silent}

abbrev pub handing_with : ℕ → ℕ → Frame → Bool → ℕ → ℕ → Handing
handing_with n m frame quiet from to = record { n = n; m = m; frame = frame; quiet = quiet; from = from; to = to; lost = false }

abbrev pub wire_of : ℕ → Dispatch → Wire
wire_of from sent = record { from = from; sent = sent }

abbrev pub stepped_of : List Station → Wire → ℕ → Stepped
stepped_of stations wire used = record { stations = stations; wire = wire; used = used }

abbrev pub going_of : ℕ → Wire → ℕ → ℕ → ℕ → Going
going_of n wire most k used = record { n = n; wire = wire; most = most; k = k; used = used }

-- ---- what is handed round

module _ (g : Going) (m : ℕ) (size : m ≡ seats g.n) where
  pub handing_sent : (f : Frame) (to : ℕ) (quiet : Bool) → g.wire.sent ≡ Some (f, to) → quiet ≡ is_quiet f
      → handing_with g.n m f quiet g.wire.from to ≡ handing_of g
  handing_sent f to quiet e q = rw (size, q) (ap (handing_by g) (sym e))

  pub handing_none : g.wire.sent ≡ None → handing_with g.n m no_frame true 0 0 ≡ handing_of g
  handing_none e = rw size (ap (handing_by g) (sym e))

-- as `hand` asks for it
pub handing_asks : (g : Going) (h : Handing) → h ≡ handing_of g → (h.m ≡ seats h.n) × (h.quiet ≡ is_quiet h.frame)
handing_asks g h e = rw e (go g.wire.sent)
  where
    go : (d : Dispatch) → ((handing_by g d).m ≡ seats (handing_by g d).n) × ((handing_by g d).quiet ≡ is_quiet (handing_by g d).frame)
    go None = (refl, refl)
    go (Some (f, to)) = (refl, refl)

-- ---- whether there is a next step

module _ (g : Going) where
  pub over_on : g.most ≤ g.k → false ≡ goes_on g
  over_on h = sym (pick_false _ _ (le-ltb g.k g.most h))

  pub sent_on : (f : Frame) (to : ℕ) → g.k < g.most → g.wire.sent ≡ Some (f, to) → true ≡ goes_on g
  sent_on f to h e = sym (pick_true _ _ (lt-ltb g.k g.most h) ∙ ap is_sent e)

  pub none_on : g.k < g.most → g.wire.sent ≡ None → false ≡ goes_on g
  none_on h e = sym (pick_true _ _ (lt-ltb g.k g.most h) ∙ ap is_sent e)

  pub on_less : goes_on g ≡ true → g.k < g.most
  on_less e = ltb-true g.k g.most (pick_and e).0

  pub on_sent : goes_on g ≡ true → (f : Frame) × (to : ℕ) × (g.wire.sent ≡ Some (f, to))
  on_sent e = go g.wire.sent (pick_and e).1
    where
      go : (d : Dispatch) → is_sent d ≡ true → (f : Frame) × (to : ℕ) × (d ≡ Some (f, to))
      go None x = absurd (false≢true x)
      go (Some (f, to)) x = (f, to, refl)

-- ---- one step

-- the run, the table and the octets once one step of the run g is done
abbrev pub OneDone : Going → List Station → List ℕ → Going → List Station → List ℕ → Type 0
OneDone g ss out r ss₁ out₁ = (r ≡ went_on g ss) × ((ss₁ ≡ (steps 1 (bench_in g ss)).stations) × (out₁ ≡ laid out g.used (steps_text 1 (bench_in g ss))))

-- the frame is handed round, and the new one printed
pub one_step : (g : Going) (h : Handing) (ss ss₁ : List Station) (reply : Dispatch) (r : Going) (out out₁ : List ℕ)
    → goes_on g ≡ true → h ≡ handing_of g
    → reply ≡ (handed h.n (hears h) h.frame h.from h.to h.to (get_or ss h.to nobody)).sent
    → ss₁ ≡ delivered h.n (hears h) h.frame h.from h.to 0 ss
    → r ≡ printed g h.to reply → out₁ ≡ laid out g.used (step_text h.to reply)
    → OneDone g ss out r ss₁ out₁
one_step g h ss ss₁ reply r out out₁ on e er es ep eo =
    let b : Bench = bench_in g ss in
    let f : Frame = (on_sent g on).0 in
    let to : ℕ = (on_sent g on).1 in
    let sent : g.wire.sent ≡ Some (f, to) = (on_sent g on).2 in
    let eh : h ≡ handing_by g (Some (f, to)) = e ∙ ap (handing_by g) sent in
    let et : h.to ≡ to = ap (λ (x : Handing). x.to) eh in
    let done : bench_of g.n ss₁ (wire_of to reply) ≡ steps 1 b =
    step_sent b f to ss₁ reply sent (es ∙ ap (λ (x : Handing). delivered x.n (hears x) x.frame x.from x.to 0 ss) eh)
    (er ∙ ap (λ (x : Handing). (handed x.n (hears x) x.frame x.from x.to x.to (get_or ss x.to nobody)).sent) eh)
    ∙ sym (steps_one b) in
    let line : step_text h.to reply ≡ steps_text 1 b =
    ap (λ (t : ℕ). step_text t reply) et
    ∙ ap (λ (c : Bench). rows_text (rows_on c.wire)) (done ∙ steps_one b) ∙ sym (text_one b) in
    let wire : wire_of h.to reply ≡ (steps 1 b).wire = ap (λ (t : ℕ). wire_of t reply) et ∙ ap (λ (c : Bench). c.wire) done in (
      ep
          ∙ ap (λ (w : Wire). going_of g.n w g.most (g.k + 1) (g.used + length (step_text h.to reply))) wire
          ∙ ap (λ (t : List ℕ). going_of g.n (steps 1 b).wire g.most (g.k + 1) (g.used + length t)) line,
      (ap (λ (c : Bench). c.stations) done, eo ∙ ap (laid out g.used) line),
    )

-- ---- a run: what holds before each step

-- the wire, the end of what is printed, the table and the octets once all steps of the run g are done
abbrev pub AllDone : Going → List Station → List ℕ → Wire → ℕ → List Station → List ℕ → Type 0
AllDone g ss₀ out₀ wire used ss out =
    (wire ≡ (steps g.most (bench_in g ss₀)).wire)
    × ((used ≡ g.used + length (steps_text g.most (bench_in g ss₀)))
    × ((ss ≡ (steps g.most (bench_in g ss₀)).stations)
    × (out ≡ laid out₀ g.used (steps_text g.most (bench_in g ss₀)))))

module _ (g : Going) (ss₀ : List Station) (out₀ : List ℕ) where
  -- r is where the run that began as g has come to
  abbrev pub Runs : Going → List Station → List ℕ → Type 0
  Runs r ss out = (r.most ≡ g.most) × UnderWay (bench_in g ss₀) out₀ g.used g.most (bench_in r ss) out r.used r.k

  pub runs_none : length ss₀ ≡ 64 → g.k ≡ 0 → 32 * g.most ≤ length out₀ - g.used → Runs g ss₀ out₀
  runs_none size e room = rw e (refl, going_none (bench_in g ss₀) out₀ g.used g.most room size)

  module _ (r : Going) (ss : List Station) (out : List ℕ) (w : Runs r ss out) where
    less : r.k < r.most → r.k < g.most
    less h = omega (arith, w.0)

    pub runs_room : goes_on r ≡ true → r.used + 32 ≤ length out
    runs_room on = going_room _ _ _ _ _ _ _ _ w.1 (less (on_less r on))

    runs_at : (r₁ : Going) (ss₁ : List Station) (out₁ : List ℕ) {used k : ℕ} → r₁.used ≡ used → r₁.k ≡ k
        → UnderWay (bench_in g ss₀) out₀ g.used g.most (bench_in r₁ ss₁) out₁ used k
        → UnderWay (bench_in g ss₀) out₀ g.used g.most (bench_in r₁ ss₁) out₁ r₁.used r₁.k
    runs_at r₁ ss₁ out₁ eu ek x = rw (eu, ek) x

    pub runs_on : (r₁ : Going) (ss₁ : List Station) (out₁ : List ℕ) → goes_on r ≡ true → length ss₁ ≡ length ss → OneDone r ss out r₁ ss₁ out₁ → Runs r₁ ss₁ out₁
    runs_on r₁ ss₁ out₁ on long p =
        let e : r₁ ≡ went_on r ss = p.0 in
        let b : Bench = bench_in r ss in
        let done : bench_in r₁ ss₁ ≡ steps 1 b =
        ap (λ (x : Going). bench_in x ss₁) e ∙ ap (λ (x : List Station). bench_of r.n x (steps 1 b).wire) p.1.0
        ∙ ap (λ (n : ℕ). bench_of n (steps 1 b).stations (steps 1 b).wire) (sym (steps_size 1 b)) in
        let next : UnderWay (bench_in g ss₀) out₀ g.used g.most (bench_in r₁ ss₁) out₁ (r.used + length (steps_text 1 b)) (r.k + 1) =
        going_on _ _ _ _ _ _ _ _ w.1 (less (on_less r on)) (bench_in r₁ ss₁) out₁ _ done (long ∙ w.1.table) p.1.1 refl in (
          ap (λ (x : Going). x.most) e ∙ w.0,
          runs_at r₁ ss₁ out₁ (ap (λ (x : Going). x.used) e) (ap (λ (x : Going). x.k) e) next,
        )

    pub runs_nearer : (r₁ : Going) → goes_on r ≡ true → r₁ ≡ went_on r ss → g.most - r₁.k < g.most - r.k
    runs_nearer r₁ on e =
        let h : r.k < g.most = less (on_less r on) in
        let k : r₁.k ≡ r.k + 1 = ap (λ (x : Going). x.k) e in omega arith

    -- no next step: all are done, or no frame is left
    pub runs_all : goes_on r ≡ false → AllDone g ss₀ out₀ r.wire r.used ss out
    runs_all off = go (ltb r.k r.most) refl
      where
        fields : (ran_of (bench_in r ss) r.used g.most ≡ ran (bench_in g ss₀) g.most g.used) × (out ≡ laid out₀ g.used (steps_text g.most (bench_in g ss₀))) → AllDone g ss₀ out₀ r.wire r.used ss out
        fields p = (ap (λ (x : Ran). x.bench.wire) p.0, (ap (λ (x : Ran). x.used) p.0, (ap (λ (x : Ran). x.bench.stations) p.0, p.1)))

        silent : (d : Dispatch) → is_sent d ≡ false → d ≡ None
        silent None e = refl
        silent (Some (f, to)) e = absurd (false≢true (sym e))

        go : (y : Bool) → ltb r.k r.most ≡ y → AllDone g ss₀ out₀ r.wire r.used ss out
        go true e = fields (going_silent _ _ _ _ _ _ _ _ w.1 _ refl (silent r.wire.sent (sym (pick_true _ _ e) ∙ off)))
        go false e = let h : r.most ≤ r.k = ltb-false r.k r.most e in fields (going_all _ _ _ _ _ _ _ _ w.1 _ refl (omega (arith, w.0)))

-- ---- all of a run

pub all_steps : (g : Going) (ss₀ ss : List Station) (out₀ out : List ℕ) (wire : Wire) (used : ℕ) → AllDone g ss₀ out₀ wire used ss out → stepped_of ss wire used ≡ stepped g ss₀
all_steps g ss₀ ss out₀ out wire used p = rw (p.0, p.1.0, p.1.1.0)

-- as the bench gives it
pub all_ran : (self : Bench) (most at full : ℕ) (r : Stepped) → most ≡ full → r ≡ stepped (going_of self.n self.wire most 0 at) self.stations
    → ran_of (bench_of self.n r.stations r.wire) r.used most ≡ ran self full at
all_ran self most at full r e er =
    rw (er, e) (ap (λ (n : ℕ). ran_of (bench_of n (steps full self).stations (steps full self).wire) (at + length (steps_text full self)) full) (sym (steps_size full self)))
