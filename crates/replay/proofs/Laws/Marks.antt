-- Laws of the strikers that are marked. Assumes nothing.
use mathlib.Core.Path.{◌≡◌, refl, sym, ap, subst, ◌∙◌}
use mathlib.Core.Bool.{Bool}
use mathlib.Core.List.{List}
use Prim.Native.Nat.{ℕ, suc, ◌+◌, ◌≤◌}
use native.Mathlib.Omega.{arith}
use lib.ListN.{length, get_or}
use native.Mathlib.Numerals.{add-one}
use Rattle.std.specs.Prelude.{Option}
use Rattle.parts.specs.declared.live.Live.{Live}
use Rattle.station.specs.declared.station.Station.{Station}
use Rattle.bench.specs.declared.table.Handing.{Handing}
use Rattle.codec.specs.Octets.{laid}
use Rattle.parts.specs.Live.{seats}
use Rattle.parts.specs.Frames.{Dispatch}
use Rattle.bench.specs.Ring.{nobody}
use Rattle.bench.specs.Delivery.{is_quiet}
use Rattle.capture.specs.declared.record.Read.{Read}
use Rattle.day.specs.Strikes.{strikes_at, span, no_strikers, marked, strikers_of, taken_of}
use Rattle.day.specs.Calls.{told_by}
use Rattle.replay.specs.Table.{Way, plan_in, taken_in, handed_in, called_in, table_in, told_in, way_of, after_read, read_text, way_after, text_after}
use Rattle.day.specs.declared.calls.Call.{Call}
use Rattle.day.specs.declared.plan.Plan.{Plan}
use Rattle.replay.specs.declared.going.Going.{Going}
use Rattle.day.specs.declared.calls.Told.{Told}
use Rattle.day.proofs.Laws.Lines.{span_most}
use Rattle.replay.proofs.Laws.Turns.{plan_asks}

module _ (none : Live) (ys : List Station) (h : Handing) where
  pub strikers_none : none ≡ strikers_of none 0 ys h
  unfolding strikers_of
  strikers_none = refl

  strikers_one : (k : ℕ) → strikers_of none (suc k) ys h ≡ marked (strikers_of none k ys h) k (strikes_at ys h k)
  unfolding strikers_of
  strikers_one k = refl

  pub strikers_more : (l next : Live) (j : ℕ) (r : Bool) → l ≡ strikers_of none j ys h → r ≡ strikes_at ys h j → next ≡ marked l j r → next ≡ strikers_of none (j + 1) ys h
  strikers_more l next j r a b c =
      c ∙ ap (λ (k : Live). marked k j r) a ∙ ap (λ (t : Bool). marked (strikers_of none j ys h) j t) b ∙ sym (strikers_one j) ∙ ap (λ (k : ℕ). strikers_of none k ys h) (sym (add-one j))

-- ---- what is asked for, by the names of what the functions answered

pub marks_few : (h : Handing) (m : ℕ) → m ≡ span h → (ys : List Station) → length ys ≡ 64 → h.m ≤ 64 → m ≤ length ys
marks_few h m e ys size few = omega (arith, span_most h)

pub strikers_named : (h : Handing) (m : ℕ) (none : Live) (ys : List Station) (h' : Handing) → h ≡ h' → m ≡ span h → none ≡ no_strikers → strikers_of none m ys h ≡ strikers_of no_strikers (span h') ys h'
strikers_named h m none ys h' e f o =
    ap (λ (k : ℕ). strikers_of none k ys h) f ∙ ap (λ (l : Live). strikers_of l (span h) ys h) o ∙ ap (λ (k : Handing). strikers_of no_strikers (span k) ys k) e

pub told_named : (p : ℕ) (c : Option Call) (ys : List Station) (k : Plan) → p ≡ k.place → c ≡ k.call → told_by (get_or ys p nobody) c ≡ told_in k ys
told_named p c ys k e f = ap (λ (i : ℕ). told_by (get_or ys i nobody) c) e ∙ ap (λ (d : Option Call). told_by (get_or ys k.place nobody) d) f

pub asks_named : (h : Handing) (w : Way) (r : Read) → h ≡ (plan_in w r).handing → (h.m ≡ seats h.n) × (h.quiet ≡ is_quiet h.frame)
asks_named h w r e = subst (λ (k : Handing). (k.m ≡ seats k.n) × (k.quiet ≡ is_quiet k.frame)) (sym e) (plan_asks w r)

pub acts_named : (h : Handing) (p : ℕ) (c : Option Call) (ys : List Station) (k : Plan) (r : Dispatch) (us : List Station) → h ≡ k.handing → p ≡ k.place → c ≡ k.call
    → (r ≡ (taken_in h ys).reply) × (us ≡ called_in p c (handed_in h ys)) → (r ≡ (taken_in k.handing ys).reply) × (us ≡ table_in k ys)
acts_named h p c ys k r us e f d x = (
  x.0 ∙ ap (λ (i : Handing). (taken_in i ys).reply) e,
  x.1 ∙ ap (λ (i : Handing). called_in p c (handed_in i ys)) e ∙ ap (λ (i : ℕ). called_in i c (handed_in k.handing ys)) f ∙ ap (λ (i : Option Call). called_in k.place i (handed_in k.handing ys)) d,
)

-- one record's turn
pub advanced_named : (g : Going) (ys : List Station) (os : List ℕ) (l : Live) (y : Dispatch) (t : Told) (r : Going) (zs : List Station) (us : List ℕ)
    → l ≡ (taken_in (plan_in (way_of g) g.read).handing ys).strikers → t ≡ told_in (plan_in (way_of g) g.read) ys
    → (y ≡ (taken_in (plan_in (way_of g) g.read).handing ys).reply) × (zs ≡ table_in (plan_in (way_of g) g.read) ys)
    → (way_of r ≡ after_read (way_of g) g.read (plan_in (way_of g) g.read).handing (taken_of l y) t) × (us ≡ laid os g.used (read_text (way_of g) g.read (plan_in (way_of g) g.read).handing (taken_of l y) t))
    → (way_of r ≡ way_after (way_of g) g.read ys) × ((zs ≡ table_in (plan_in (way_of g) g.read) ys) × (us ≡ laid os g.used (text_after (way_of g) g.read ys)))
advanced_named g ys os l y t r zs us a b c d =
    let w : Way = way_of g in
    let h : Handing = (plan_in w g.read).handing in (
      d.0 ∙ ap (λ (v : Live). after_read w g.read h (taken_of v y) t) a ∙ ap (λ (v : Dispatch). after_read w g.read h (taken_of (taken_in h ys).strikers v) t) c.0 ∙ ap (λ (v : Told). after_read w g.read h (taken_in h ys) v) b,
      (c.1, d.1 ∙ ap (λ (v : Live). laid os g.used (read_text w g.read h (taken_of v y) t)) a ∙ ap (λ (v : Dispatch). laid os g.used (read_text w g.read h (taken_of (taken_in h ys).strikers v) t)) c.0 ∙ ap (λ (v : Told). laid os g.used (read_text w g.read h (taken_in h ys) v)) b),
    )
