-- Where the turn alone changes, the turn's octets are all that is to be written: the others of a whole record are those of its station.
-- Assumes nothing.
use mathlib.Core.Path.{◌≡◌, refl, sym, ap, ◌∙◌}
use mathlib.Core.Bool.{true}
use mathlib.Core.List.{List, ◌++◌, append_assoc}
use Prim.Native.Nat.{ℕ}
use native.Mathlib.Omega.{arith}
use lib.ListN.{drop}
use Rattle.codec.specs.Octets.{Octets, laid}
use Rattle.station.specs.Stations.{with_turn}
use Rattle.station.specs.declared.station.Turn.{Turn}
use Rattle.station.specs.declared.station.Station.{Station}
use Rattle.records.specs.Layout.{own_at, lost_at, record_length}
use Rattle.records.specs.Fields.{turn_octets, live_octets}
use Rattle.records.specs.Record.{Loaded, counts_octets, lists_octets, station_octets, ring_from, station_of, read_record}
use Rattle.record_theorems.proofs.Laws.Goes.{Goes, goes_second, laid_goes}
use Rattle.record_theorems.proofs.Laws.Stations.{station_written}
use Rattle.record_theorems.proofs.Laws.Reading.{parts, parts_read}

-- a station's octets behind its turn
abbrev behind : Station → List ℕ
behind s = (counts_octets s.counts ++ live_octets s.live) ++ lists_octets s

turn_first : (s : Station) → station_octets s ≡ turn_octets s.own s.turn ++ behind s
turn_first s = append_assoc (turn_octets s.own s.turn) (counts_octets s.counts ++ live_octets s.live) (lists_octets s)

pub turn_alone_written : (rec : List ℕ) → Octets rec → (read_record rec).ok ≡ true → (t : Turn)
    → laid rec own_at (turn_octets (read_record rec).station.own t) ≡ laid rec own_at (station_octets (with_turn (read_record rec).station t))
turn_alone_written rec o ok t =
    let p = parts rec ok in
    let s : Station = (read_record rec).station in
    let is : s ≡ station_of rec = ap (λ (l : Loaded). l.station) (parts_read rec p) in
    let all : Goes rec own_at (station_octets (station_of rec)) record_length =
    station_written rec (ring_from rec).ring.n (ring_from rec).ring.limit o p.sized p.turn p.flags in
    let here : Goes rec own_at (turn_octets s.own s.turn ++ behind s) record_length =
    all ∙ ap (λ (l : List ℕ). l ++ drop record_length rec) (ap station_octets (sym is) ∙ turn_first s) in
    let rest : Goes rec lost_at (behind s) record_length =
    goes_second rec (turn_octets s.own s.turn) (behind s) own_at lost_at record_length refl here in
    sym (ap (laid rec own_at) (turn_first (with_turn s t)) ∙ laid_goes rec (turn_octets s.own t) (behind s) own_at lost_at record_length refl (omega arith) (omega (arith, p.sized)) rest)
