use Rattle.std.proofs.Common.{◌≤◌, length, arith}
use Rattle.polys.specs.Terms.{power}
use Rattle.polys.proofs.Frobenius.{canonical_power}
use Rattle.polys.proofs.Tops.{none_of, top_shorter, top_whole}
use Rattle.polys.proofs.top.by_tops.Goals as goal

pub returns-then-limit-len : goal.returns-then-limit-len
returns-then-limit-len c =
    let p = c.args.p in
    let g = power p c.args.a.now c.args.n in
    let t = c.in_ok-top.top in
    let s : length t.terms.items ≤ length g =
    top_shorter p t.cut t.terms.items g c.in_ok-top.ensures.top.terms.canonical (canonical_power p c.args.a.now c.args.n (omega arith)) c.in_ok-top.ensures.above c.in_ok-top.ensures.value in
    omega arith

pub returns-then-is_none : goal.returns-then-is_none
returns-then-is_none c =
    let p = c.args.p in
    let g = power p c.args.a.now c.args.n in
    let t = c.in_ok-top.top in (
      top_whole p t.cut t.terms.items g (none_of t.cut c.if-is_none.ensures) c.in_ok-top.ensures.top.terms.canonical (canonical_power p c.args.a.now c.args.n (omega arith)) c.in_ok-top.ensures.value,
      c.in_ok-top.ensures.top.terms,
      omega arith,
    )
