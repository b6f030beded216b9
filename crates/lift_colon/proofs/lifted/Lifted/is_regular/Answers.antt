use Rattle.std.proofs.Common.{◌≡◌, sym, ap, ◌∙◌, subst}
use Rattle.lift_colon.specs.Lifted.{LiftedData, IsLifted, HasModule}
use Rattle.lift_colon.proofs.Lifting.{regular}
use Rattle.lift_colon.proofs.lifted.Lifted.is_regular.Goals as goal

pub returns : goal.returns
returns c =
    let k = subst (λ x. IsLifted x × HasModule x c.self.inside.graded) c.self.view_is (c.self.invariant.0, c.self.invariant.1) in
    let r = regular c.args.self.now c.self.inside.graded k.0 k.1 in
    let a : c.as_slice.result.now ≡ c.args.self.now.ideal = c.as_slice.ensures ∙ ap (λ (l : LiftedData). l.ideal) c.self.view_is in
    let b : c.as_slice-2.result.now ≡ c.args.self.now.colon = c.as_slice-2.ensures ∙ ap (λ (l : LiftedData). l.colon) c.self.view_is in
    (λ y. r.0 (sym a ∙ c.are_same.ensures.0 y ∙ b), λ h. c.are_same.ensures.1 (a ∙ r.1 h ∙ sym b))
