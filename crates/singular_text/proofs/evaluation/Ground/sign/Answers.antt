use Rattle.std.proofs.Common.{◌≡◌, sym, subst, Result, Ok, Some, false, arith}
use Rattle.std.specs.Prelude.{is_none}
use Rattle.std.proofs.lemmas.Grind.{common_steps}
use Rattle.polys.specs.Poly.{Polynomial}
use Rattle.singular_text.specs.declared.evaluation.Frame.{Frame}
use Rattle.singular_text.specs.declared.faults.ReadFault.{ReadFault}
use Rattle.singular_text.specs.Evaluating.{IsFault, close, and_then, signed_frame, sign_step_by}
use Rattle.singular_text.proofs.Handing.{fault_through, handed_on, sign_behind}
use Rattle.singular_text.proofs.evaluation.Ground.sign.Goals as goal

pub returns-in_err-sum-clause-exact : goal.returns-in_err-sum-clause-exact
returns-in_err-sum-clause-exact c =
    let p = c.args.self.now.prime in
    let fault = c.in_err-sum.field-0.0 in
    let none : is_none c.args.frame.factor ≡ false = grind (arith, common_steps) in
    let same : sign_step_by c.args.frame.factor p c.args.frame c.args.is_negative ≡ and_then (close p c.args.frame) (λ e. Ok (signed_frame (Some e) c.args.is_negative)) =
    sign_behind c.args.frame.factor p c.args.frame c.args.is_negative none in
    let P : Result Frame ReadFault → Type 0 = λ (r : Result Frame ReadFault). IsFault fault r in
    handed_on (λ (f : Frame). f) c.from_residual.result fault _ c.from_residual.ensures.1
    (subst P (sym same) (fault_through fault (close p c.args.frame) (λ (e : Polynomial). Ok (signed_frame (Some e) c.args.is_negative)) c.in_err-sum.ensures.exact))
