use Rattle.std.proofs.Common.{◌≡◌, ◌↔◌, length, take, All, sym, ap, subst, ◌∙◌, arith}
use Rattle.std.proofs.lemmas.List.Elements.{All-nil}
use Rattle.std.proofs.Math.Seq.{take-length}
use Rattle.polys.specs.Curve.{data_of}
use Rattle.row_space.specs.Subspace.{IsIn}
use Rattle.row_space.specs.Echelon.{IsRow}
use Rattle.over_module.specs.Raising.{IsRaised, IsSpannedBy}
use Rattle.endo_ring.specs.Taken.{IsTaken}
use Rattle.over_module.proofs.Facts.{finite}
use Rattle.endo_ring.proofs.Generators.{all_more, taken_is}
use Rattle.endo_ring.proofs.narrowing.solutions.Goals as goal
use Rattle.endo_ring.proofs.narrowing.solutions.Goals.{After-rows, In_ok-found}

width_is : (c : After-rows) → c.entries-width.result ≡ c.args.ideal.now.width
width_is c = c.entries-width.ensures.value ∙ sym c.requires.ideal.width

pub spanned-requires : goal.spanned-requires
spanned-requires c =
    let ideal = c.args.ideal.now in
    subst (All (IsRow c.prime.result c.entries-width.result)) (sym c.rows.ensures.basis)
    (subst (λ w. All (IsRow c.prime.result w) ideal.basis) (sym (width_is (goal.at.spanned-requires c).After-rows))
    (subst (λ p. All (IsRow p ideal.width) ideal.basis) (sym c.prime.ensures) c.rows.ensures.reduced.1.rows))

-- at first all rows of the ideal are left
again : (c : In_ok-found) → IsSpannedBy c.args.ideal.now.prime c.args.ideal.now.width c.args.ideal.now.basis c.in_ok-found.found
again c =
    let ideal = c.args.ideal.now in
    let found = c.in_ok-found.found in
    subst (λ p. IsSpannedBy p ideal.width ideal.basis found) c.prime.ensures
    (subst (λ w. IsSpannedBy c.prime.result w ideal.basis found) (c.entries-width.ensures.value ∙ sym c.requires.ideal.width)
    (subst (λ us. IsSpannedBy c.prime.result c.entries-width.result us found) c.rows.ensures.basis c.in_ok-found.ensures))

pub loop-i-init : goal.loop-i-init
loop-i-init c =
    let g = c.args.digits.now in
    let e = again (goal.at.loop-i-init c).In_ok-found in
    record {
      of_digits = record { prime = e.prime ∙ c.requires.ideal.prime; width = e.width ∙ c.requires.ideal.width };
      members = λ row h. (
        λ x. ((e.members row).0 x, All-nil (λ v. IsTaken (data_of g.curve) g.basis c.args.blocks c.args.ideal.now v.terms row)),
        λ x. (e.members row).1 x.0,
      );
    }

pub loop-i-preserved : goal.loop-i-preserved
loop-i-preserved c =
    let g = c.args.digits.now in
    let s = c.entries-width.ensures.known in
    let b = c.args.blocks in
    let ideal = c.args.ideal.now in
    let target = c.in_ok-target.target in
    let xs = c.args.generators.now in
    let i = c.loop-i.i in
    let v = c.index-generators-i.result in
    let is = c.index-generators-i.is in
    let a = subst (λ n. IsRaised n ideal target) c.entries-width.ensures.value c.in_ok-target.ensures in
    record {
      of_digits = c.in_ok-found-2.ensures.of_digits;
      members = λ row h.
          let n = c.in_ok-found-2.ensures.members row h in
          let t = taken_is (data_of g.curve) (finite g s) g.basis s.corners b ideal target c.requires.ideal a v.terms row in
          let m = c.loop-i.invariant.members row h in
          let am = all_more (λ x. IsTaken (data_of g.curve) g.basis b ideal x.terms row) xs i v c.loop-i-test.true in (
            λ x. let y = n.0 x in let z = m.0 y.0 in (z.0, am.0 (z.1, subst (λ p. IsTaken (data_of g.curve) g.basis b ideal p.terms row) is (t.0 y.1))),
            λ x. let z = am.1 x.1 in n.1 (m.1 (x.0, z.0), t.1 (subst (λ p. IsTaken (data_of g.curve) g.basis b ideal p.terms row) (sym is) z.1)),
          );
    }

pub returns-clause-members : goal.returns-clause-members
returns-clause-members c =
    let g = c.args.digits.now in
    let xs = c.args.generators.now in
    let k = c.loop-i.auto.i-end in
    let e = c.loop-i-test.false in
    let all : c.loop-i.i ≡ length c.args.generators.now = omega arith in
    λ row h. subst (λ ys. IsIn c.loop-i.found row ↔ IsIn c.args.ideal.now row × All (λ v. IsTaken (data_of g.curve) g.basis c.args.blocks c.args.ideal.now v.terms row) ys)
    (ap (λ n. take n xs) all ∙ take-length xs) (c.loop-i.invariant.members row h)
