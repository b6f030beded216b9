use Rattle.std.proofs.Common.{◌<◌, inl, inr, length, sym, arith}
use Rattle.std.specs.List.{Contains}
use Rattle.standard_monomials.specs.Finding.{terms_of}
use Rattle.standard_monomials.proofs.Steps.{searched_more, searched_all, searched_each}
use Rattle.standard_monomials.proofs.finding.search.Goals.{then-loop-next-test+else-len-limit, else-loop-next-test}
use Rattle.standard_monomials.proofs.finding.search.Goals as goal

pub insert_multiples-requires-clause-room : goal.insert_multiples-requires-clause-room
insert_multiples-requires-clause-room c =
    let inside : c.loop-next.next < length c.loop-next.found.items = omega (arith, c.loop-next-test.true, c.len.ensures) in
    let there : Contains c.loop-next.found.items c.index-m.result.now = (c.loop-next.next, inside, sym c.index-m.ensures) in
    elim c.requires.reach [
      | inl h ↦ let l = c.loop-next.invariant.low c.index-m.result.now there in omega (arith, c.len.ensures, c.len-in-loop-next.ensures)
      | inr h ↦ h c.index-m.result.now (c.loop-next.invariant.each c.index-m.result.now there)
    ]

pub loop-next-preserved : goal.loop-next-preserved
loop-next-preserved c =
    searched_more c.args.variables (terms_of c.args.basis.now) c.requires.variables c.loop-next.next c.index-m.result.now c.loop-next.found.items c.insert_multiples.new.found.items
    c.loop-next.invariant (omega (arith, c.loop-next-test.true, c.len.ensures)) c.index-m.ensures c.in_ok-insert_multiples.ensures

pub returns-clause-each : goal.returns-clause-each
returns-clause-each c = searched_each c.args.variables (terms_of c.args.basis.now) c.loop-next.next c.loop-next.found.items c.loop-next.invariant

pub returns-clause-whole : goal.returns-clause-whole
returns-clause-whole c l =
    elim c.loop-next-test.branch [
      | then-loop-next-test+else-len-limit w ↦ absurd (omega (arith, l, w.if-len-limit.false, w.len-in-loop-next.ensures))
      | else-loop-next-test w ↦
          searched_all c.args.variables (terms_of c.args.basis.now) c.loop-next.next c.loop-next.found.items c.loop-next.invariant
          (omega (arith, w.loop-next-test.false, c.len.ensures))
    ]
