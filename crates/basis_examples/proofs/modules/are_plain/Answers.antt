use Rattle.std.proofs.Common.{subst}
use Rattle.std.specs.List.{All}
use Rattle.std.proofs.lemmas.List.{take_all}
use Rattle.std.proofs.lemmas.List.Elements.{All-map}
use Rattle.polys.specs.Poly.{Polynomial, IsPlain}
use Rattle.polys.specs.Terms.{EachMono}
use Rattle.basis_examples.proofs.modules.are_plain.Goals as goal

pub returns : goal.returns
returns c sure =
    All-map (EachMono IsPlain) (λ (f : Polynomial). f.terms) c.args.fs.now
    (subst (All (λ (f : Polynomial). EachMono IsPlain f.terms)) (take_all c.loop-k.k c.args.fs.now c.loop-k-test.false) c.loop-k.invariant)
