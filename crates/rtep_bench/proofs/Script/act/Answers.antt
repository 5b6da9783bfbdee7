use Rattle.std.proofs.Common.{◌≡◌, ◌-◌, ◌<◌, ◌≤◌, length, ap, ◌∙◌, subst, arith, rules}
use Rattle.std.specs.Prelude.{IfSome}
use Rattle.script.specs.Session.{obeyed}
use Rattle.script.specs.declared.session.Acted.{Acted}
use Rattle.script.proofs.Theorems.InParts.{room_enough, left_falls}
use Rattle.rtep_bench.proofs.Script.act.Goals as goal

pub unwrap-acted-requires : goal.unwrap-acted-requires
unwrap-acted-requires g c =
    let s = c.make_room.new.self in
    let l : length s.out ≡ 65536 = search rules in
    let room : 64 ≤ length s.out - s.used = omega (arith, c.in_ok-make_room.ensures) in
    rw c.obey.ensures.acted (room_enough s.session c.args.line (length s.out - s.used) s.used room)

pub returns : goal.returns
returns g c count e h =
    let s = c.make_room.new.self in
    let l : length s.out ≡ 65536 = search rules in
    let room : 64 ≤ length s.out - s.used = omega (arith, c.in_ok-make_room.ensures) in
    let a = c.obey.ensures.acted ∙ ap (λ line. obeyed s.session line (length s.out - s.used) s.used) e in
    subst (λ r. IfSome r (λ (a : Acted). a.left < count)) c.unwrap-acted.ensures (left_falls s.session c.obey.result count (length s.out - s.used) s.used a h room)
