use Rattle.std.proofs.Common.{◌≡◌, take}
use Rattle.std.specs.List.{All}
use Rattle.denominator_module.specs.Module.{colon_members}
use Rattle.polys.specs.Poly.{terms_of}
use Rattle.lift_colon.proofs.parts.colon_part.Given as goal

abbrev pub invariant-loop-v : goal.invariant-loop-v
invariant-loop-v l = All (λ f. f.prime ≡ l.fn.prime) l.parts × (terms_of l.parts ≡ colon_members l.fn.prime (terms_of (take l.v-index l.vectors)))
