use Rattle.std.proofs.Common.{◌≡◌, ◌++◌, length, sym, ap, ◌∙◌, subst}
use Rattle.std.specs.List.{All}
use Rattle.polys.specs.Poly.{terms_of}
use Rattle.jacobian_pick.specs.Candidates.{AreCandidates, AreSecond, AreThird}
use Rattle.jacobian_pick.specs.Lists.{IsUpTo}
use Rattle.problem.specs.Problem.{problem_data}
use Rattle.jacobian_pick.proofs.Listings.{all_up_to, all_candidates}
use Rattle.jacobian_pick.proofs.listing.candidates.Goals as goal
use Rattle.jacobian_pick.proofs.listing.candidates.Goals.{In_ok-append-2}

-- the three lists one after another
whole : (c : In_ok-append-2) → c.append-2.new.self ≡ c.in_ok-all.all ++ c.in_ok-second.second ++ c.in_ok-third.third
whole c = c.in_ok-append-2.ensures.ok ∙ ap (λ xs. xs ++ c.in_ok-third.third) c.in_ok-append.ensures.ok

pub returns-clause-low : goal.returns-clause-low
returns-clause-low c =
    subst (All (IsUpTo c.args.problem.now.prime (length c.args.problem.now.letters) 119)) (sym (whole (goal.at.returns-clause-low c).In_ok-append-2))
    (all_up_to c.args.problem.now.prime (length c.args.problem.now.letters) c.in_ok-all.all c.in_ok-second.second c.in_ok-third.third c.in_ok-all.ensures.low c.in_ok-second.ensures.low c.in_ok-third.ensures.low)

pub returns-clause-exact : goal.returns-clause-exact
returns-clause-exact c =
    subst (λ w. AreCandidates (problem_data c.args.problem.now) (terms_of w)) (sym (whole (goal.at.returns-clause-exact c).In_ok-append-2))
    (all_candidates c.args.problem.now c.in_ok-all.all c.in_ok-second.second c.in_ok-third.third c.in_ok-all.ensures.exact
    (subst (λ w. AreSecond (problem_data c.args.problem.now) (terms_of w) (terms_of c.in_ok-second.second)) c.as_slice-2.ensures c.in_ok-second.ensures.exact)
    (subst (λ w. AreThird (problem_data c.args.problem.now) (terms_of w) (terms_of c.in_ok-third.third)) c.as_slice-3.ensures c.in_ok-third.ensures.exact))
