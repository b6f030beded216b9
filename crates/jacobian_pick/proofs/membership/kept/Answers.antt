use Rattle.std.proofs.Common.{◌≡◌, ◌+◌, ◌∷◌, ◌++◌, [], length, ℕ, IsTrue, take, subst, sym, ◌∙◌}
use Rattle.std.specs.List.{All}
use Rattle.std.proofs.lemmas.List.Elements.{All-push}
use Rattle.polys.specs.Curve.{IsOver}
use Rattle.polys.specs.Poly.{Polynomial, terms_of}
use Rattle.polys.specs.Terms.{IsMonicOf}
use Rattle.jacobian_pick.specs.Candidates.{AreKept}
use Rattle.jacobian_pick.proofs.Memberships.{still, one_more}
use Rattle.jacobian_pick.proofs.membership.kept.Goals as goal
use Rattle.jacobian_pick.proofs.membership.kept.Goals.{then-not-branch+in_ok-monic+in_ok-push, else-not-branch}

pub loop-f-preserved : goal.loop-f-preserved
loop-f-preserved c =
    let over : IsOver c.args.problem.now.prime (length c.args.problem.now.letters) c.f-item.result =
    subst (IsOver c.args.problem.now.prime (length c.args.problem.now.letters)) (sym c.f-item.is) (c.requires.over c.loop-f.f-index c.f-item.result c.loop-f-test.true)
    in
    elim c.if-not-branch.branch [
      | then-not-branch+in_ok-monic+in_ok-push w ↦
          let e : c.if-not-branch.kept ≡ c.loop-f.kept ++ w.in_ok-monic.field-0 ∷ [] = w.kept-is ∙ w.in_ok-push.ensures.ok in
          record {
            primes = subst (All (λ m. m.prime ≡ c.args.problem.now.prime)) (sym e)
                (All-push (λ (m : Polynomial). m.prime ≡ c.args.problem.now.prime) c.loop-f.kept w.in_ok-monic.field-0 c.loop-f.invariant.primes
                (w.in_ok-monic.ensures.prime ∙ over.prime));
            kept = one_more c.args.problem.now.prime (length c.args.problem.now.letters) (terms_of c.args.problem.now.generators) c.args.polynomials.now c.loop-f.kept c.if-not-branch.kept c.loop-f.f-index c.f-item.result
                w.in_ok-monic.field-0 c.loop-f-test.true c.f-item.is c.loop-f.invariant.kept
                (λ i. (let t : IsTrue c.in_ok-is_member.field-0 = c.in_ok-is_member.ensures.1 i in cc))
                (subst (λ (q : ℕ). IsMonicOf q c.f-item.result.terms w.in_ok-monic.field-0.terms) over.prime w.in_ok-monic.ensures.monic) e;
          }
      | else-not-branch w ↦ record {
        primes = subst (All (λ m. m.prime ≡ c.args.problem.now.prime)) (sym w.kept-is) c.loop-f.invariant.primes;
        kept = subst (λ ms. AreKept c.args.problem.now.prime (length c.args.problem.now.letters) (terms_of c.args.problem.now.generators) (terms_of (take (c.loop-f.f-index + 1) c.args.polynomials.now)) (terms_of ms)) (sym w.kept-is)
            (still c.args.problem.now.prime (length c.args.problem.now.letters) (terms_of c.args.problem.now.generators) c.args.polynomials.now c.loop-f.kept c.loop-f.f-index c.f-item.result c.loop-f-test.true c.f-item.is
            c.loop-f.invariant.kept (c.in_ok-is_member.ensures.0 (cc)));
      }
    ]
