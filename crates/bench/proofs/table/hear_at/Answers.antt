-- `table::hear_at` meets its contract: a frame that changes the turn alone leaves everything else of the station.
use Rattle.std.proofs.Common.{◌≡◌, ap, sym, ◌∙◌, true, ℕ, List, get_or, set}
use Rattle.parts.specs.Frames.{Dispatch}
use Rattle.parts.specs.declared.frame.Frame.{Frame}
use Rattle.station.specs.Decide.{decided, turned_by}
use Rattle.station.specs.Deeds.{turn_alone}
use Rattle.station.specs.Heard.{frame_rule}
use Rattle.station.specs.Stations.{with_turn}
use Rattle.station.specs.declared.rules.deeds.Turned.{Turned}
use Rattle.station.specs.declared.station.Answer.{Answer}
use Rattle.station.specs.declared.station.Station.{Station}
use Rattle.station.proofs.Laws.Decide.{turned_hears}
use Rattle.bench.specs.Ring.{nobody}
use Rattle.bench.proofs.table.hear_at.Goals as goal

-- what is said of the result and of the last list
abbrev Said : List Station → ℕ → Frame → ℕ → ℕ → Dispatch → List Station → Type 0
Said ys i f from to d ws = (d ≡ (frame_rule (get_or ys i nobody) f from to).sent) × (ws ≡ set ys i (frame_rule (get_or ys i nobody) f from to).station)

-- a frame that changes the turn alone
turned_said : (ys : List Station) (i : ℕ) (f : Frame) (from to : ℕ) (l : Turned) (zs : List Station) → l ≡ turned_by (get_or ys i nobody) f from to → l.alone ≡ true → zs ≡ set ys i (with_turn (get_or ys i nobody) l.turn) → Said ys i f from to l.sent zs
turned_said ys i f from to l zs e alone z =
    let s : Station = get_or ys i nobody in
    let rule : frame_rule s f from to ≡ turn_alone s (decided s f from to) = turned_hears s f from to (ap (λ (y : Turned). y.alone) (sym e) ∙ alone) in
    (ap (λ (y : Turned). y.sent) e ∙ ap (λ (a : Answer). a.sent) (sym rule), z ∙ ap (λ (y : Turned). set ys i (with_turn s y.turn)) e ∙ ap (λ (a : Answer). set ys i a.station) (sym rule))

pub returns-then-t : goal.returns-then-t
returns-then-t c =
    let a = c.args in
    turned_said a.table.now a.p a.frame a.from a.to c.turned_at-t.result c.turn_at.new.table c.turned_at-t.ensures c.if-t.true c.turn_at.ensures
