use mathlib.Core.Path.{◌≡◌, refl, sym, ap, ◌∙◌}
use mathlib.Core.Bool.{false}
use Prim.Native.Nat.{ℕ, ◌+◌, ◌*◌}
use native.Mathlib.Omega.{arith}
use borrow.Author.Rules.{rules}
use lib.ListN.{length}
use lib.Seq.{take-length}
use Rattle.codec.specs.Octets.{octets, laid}
use Rattle.codec.proofs.Laws.Octets.{laid_none}
use Rattle.records.specs.Layout.{live_at}
use Rattle.records.specs.Fields.{flag_octets}
use Rattle.records.proofs.Laws.Tables.{joined_none, joined_more}
use Rattle.records.proofs.live.put_live.Goals as goal

pub loop-p-init : goal.loop-p-init
loop-p-init c =
    let a = c.args in
    (omega arith, refl, sym (ap (laid a.out.now live_at) (joined_none flag_octets 1 (λ m. refl) a.live.on) ∙ laid_none a.out.now live_at))

pub overflow_add-p : goal.overflow_add-p
overflow_add-p c = omega arith

pub put-requires : goal.put-requires
put-requires c = omega arith

pub overflow_add-p-in-loop-p : goal.overflow_add-p-in-loop-p
overflow_add-p-in-loop-p c = omega arith

pub loop-p-smaller : goal.loop-p-smaller
loop-p-smaller c = omega arith

pub loop-p-preserved : goal.loop-p-preserved
loop-p-preserved c =
    let l = c.loop-p in
    let a = c.args in
    let h : length a.live.on ≡ 64 = search rules in
    let e : live_at + l.p * 1 ≡ live_at + l.p = omega arith in
    (omega arith, c.put.auto.out ∙ l.invariant.1, joined_more flag_octets 1 (λ m. refl) a.out.now l.out c.put.new.out a.live.on live_at (live_at + l.p) l.p false e (omega arith) (omega arith) l.invariant.2 (c.put.ensures ∙ ap (λ (x : ℕ). laid l.out (live_at + l.p) (octets 1 x)) c.flag_number-x.ensures))

pub returns : goal.returns
returns c =
    let l = c.loop-p in
    let a = c.args in
    let h : length a.live.on ≡ 64 = search rules in
    let e : l.p ≡ length a.live.on = omega arith in
    l.invariant.2 ∙ rw (e, take-length a.live.on)
