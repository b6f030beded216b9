use Rattle.std.proofs.Common.{◌≡◌, ◌-◌, sym, subst, arith}
use Rattle.std.specs.List.{Contains}
use Rattle.std.proofs.lemmas.List.Elements.{Contains-append_left}
use Rattle.polys.specs.Poly.{terms_of}
use Rattle.module_basis.specs.Growing.{AreOfOneComponent, IsAwaited}
use Rattle.module_basis.proofs.Joining.{gains_then, awaited_next, awaited_same}
use Rattle.module_basis.proofs.growing.Growing.pair_up.Goals as goal

pub loop-first-preserved : goal.loop-first-preserved
loop-first-preserved c =
    let gens = c.args.gens.now in
    let old = c.args.self.now in
    let now = c.loop-first.self in
    let new = c.join.new.self in
    let inv = c.loop-first.invariant in
    let g = c.in_ok-join.ensures.gains in
    record {
      growing = c.in_ok-join.ensures.growing;
      gains = gains_then c.args.e old now new inv.gains g;
      awaited = awaited_next gens old.cap c.loop-first.first (c.len-last.result - 1) (terms_of old.basis.items) now.pairs.items new.pairs.items
          (λ q h. subst (λ l. Contains l q) (sym g.pairs) (Contains-append_left now.pairs.items g.more q h)) inv.awaited
          (awaited_same gens now.basis.items old.basis.items now.cap old.cap c.loop-first.first (c.len-last.result - 1) new.pairs.items inv.gains.vectors inv.gains.cap c.in_ok-join.ensures.awaited);
    }

pub returns-clause-awaited : goal.returns-clause-awaited
returns-clause-awaited c i k h l one =
    let e = c.len-last.ensures in
    let t = c.loop-first-test.false in
    let q : k ≡ c.len-last.result - 1 = omega (arith, c.len-last.ensures) in
    subst (λ j. IsAwaited c.args.gens.now c.args.self.now.cap (terms_of c.args.self.now.basis.items) c.loop-first.self.pairs.items i j) (sym q)
    (c.loop-first.invariant.awaited i (omega arith) (subst (AreOfOneComponent (terms_of c.args.self.now.basis.items) i) q one))
