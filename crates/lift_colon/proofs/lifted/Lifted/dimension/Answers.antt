use Rattle.std.proofs.Common.{inr, sym, ap, subst}
use Rattle.polys.specs.Poly.{terms_of}
use Rattle.standard_monomials.specs.Finding.{HasLowLeads}
use Rattle.lift_colon.proofs.Bases.{low_leads}
use Rattle.lift_colon.specs.Lifted.{LiftedData}
use Rattle.lift_colon.proofs.Lifting.{call_finite, call_wide, call_infinite}
use Rattle.lift_colon.proofs.lifted.Lifted.dimension.Goals as goal

pub dimension_modulo-requires-clause-limit : goal.dimension_modulo-requires-clause-limit
dimension_modulo-requires-clause-limit c =
    inr (subst (λ b. HasLowLeads (terms_of b)) (sym c.sum_basis.ensures.value) (low_leads (terms_of c.args.self.now.sum) c.sum_basis.ensures.known.sum_low))

pub returns-clause-finite : goal.returns-clause-finite
returns-clause-finite c =
    call_finite c.args.self.now c.sum_basis.ensures.known c.self.inside.prime c.self.inside.variables c.args.limit c.sum_basis.result.now (ap (λ (l : LiftedData). l.prime) c.self.view_is)
    (ap (λ (l : LiftedData). l.variables) c.self.view_is) c.sum_basis.ensures.value c.dimension_modulo.result c.dimension_modulo.ensures.finite

pub returns-clause-wide : goal.returns-clause-wide
returns-clause-wide c =
    call_wide c.args.self.now c.sum_basis.ensures.known c.self.inside.prime c.self.inside.variables c.args.limit c.sum_basis.result.now (ap (λ (l : LiftedData). l.prime) c.self.view_is)
    (ap (λ (l : LiftedData). l.variables) c.self.view_is) c.sum_basis.ensures.value c.dimension_modulo.result c.dimension_modulo.ensures.wide

pub returns-clause-infinite : goal.returns-clause-infinite
returns-clause-infinite c =
    call_infinite c.args.self.now c.sum_basis.ensures.known c.self.inside.prime c.self.inside.variables c.args.limit c.sum_basis.result.now (ap (λ (l : LiftedData). l.prime) c.self.view_is)
    (ap (λ (l : LiftedData). l.variables) c.self.view_is) c.sum_basis.ensures.value c.dimension_modulo.result c.dimension_modulo.ensures.infinite
