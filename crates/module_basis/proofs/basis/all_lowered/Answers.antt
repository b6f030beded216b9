use Rattle.std.proofs.Common.{◌++◌, ◌∷◌, [], sym, ap, ◌∙◌, subst}
use Rattle.std.specs.List.{All}
use Rattle.std.proofs.lemmas.List.{map_more}
use Rattle.std.proofs.lemmas.List.Elements.{All-push}
use Rattle.polys.specs.Poly.{Polynomial, IsVector}
use Rattle.homogenising.specs.Laws.{IsHomogeneousPoly}
use Rattle.module_basis.specs.Basis.{lowered_of}
use Rattle.module_division.proofs.Lists.{place_of}
use Rattle.module_basis.proofs.basis.all_lowered.Goals as goal

pub with_variable_one-requires-clause-homogeneous : goal.with_variable_one-requires-clause-homogeneous
with_variable_one-requires-clause-homogeneous c =
    subst (λ (f : Polynomial). IsHomogeneousPoly c.args.prime c.args.variables f.terms) (sym c.index-vectors-k.is)
    (place_of (IsHomogeneousPoly c.args.prime c.args.variables) c.args.vectors.now c.requires.homogeneous c.loop-k.k c.index-vectors-k.result c.loop-k-test.true)

pub loop-k-preserved : goal.loop-k-preserved
loop-k-preserved c = record {
  so_far =
      c.in_ok-push.ensures.ok
      ∙ (λ i. c.loop-k.invariant.so_far i ++ (c.in_ok-g.ensures.value ∙ ap (lowered_of c.args.prime) c.index-vectors-k.is) i ∷ [])
      ∙ sym (map_more (lowered_of c.args.prime) c.args.vectors.now c.loop-k.k c.index-vectors-k.result c.loop-k-test.true);
  known = subst (All (λ (f : Polynomial). IsVector c.args.prime f.terms)) (sym c.in_ok-push.ensures.ok) (All-push (λ (f : Polynomial). IsVector c.args.prime f.terms) c.loop-k.all c.in_ok-g.g c.loop-k.invariant.known c.in_ok-g.ensures.known);
}
