use Rattle.std.proofs.Common.{◌∷◌, ◌++◌, [], subst, sym}
use Rattle.named_points.specs.Deciding.{AreChosen}
use Rattle.named_points.proofs.Choosing.{chosen_more, chosen_same}
use Rattle.named_points.proofs.naming.chosen.Goals as goal

pub loop-local-preserved-then-named : goal.loop-local-preserved-then-named
loop-local-preserved-then-named c =
    let g = c.args.digits.now in
    let statements = c.args.statements.now in
    let local = c.in-Some.local in
    record {
      next = tt;
      finite = tt;
      made = subst (AreChosen g statements (c.loop-local.yielded ++ local ∷ [])) (sym c.in_ok-push.ensures.ok)
          (chosen_more g statements c.loop-local.yielded c.loop-local.points local c.loop-local.invariant.made (c.in_ok-named.ensures.0 c.if-named.true));
    }

pub loop-local-preserved : goal.loop-local-preserved
loop-local-preserved c =
    record {
      next = tt;
      finite = tt;
      made = chosen_same c.args.digits.now c.args.statements.now c.loop-local.yielded c.loop-local.points c.in-Some.local c.loop-local.invariant.made
          (λ n. let t = c.in_ok-named.ensures.1 n in absurd (cc));
    }
