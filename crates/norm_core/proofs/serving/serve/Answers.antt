-- What was answered is told under the limits alone.
use Rattle.std.proofs.Common.{refl, inl, inr}
use Rattle.std.specs.Prelude.{Ok, Err}
use Rattle.norm_core.specs.Refusals.{status_of, line_of}
use Rattle.norm_core.proofs.RunLemmas.{run-told, told-text, run-exact, run-complete, run-cut_short, refuse-status, refuse-told, refuse-cut_short}
use Rattle.norm_core.proofs.serving.serve.Goals as goal

pub returns-in-Ok-clause-told : goal.returns-in-Ok-clause-told
returns-in-Ok-clause-told g c =
    run-told _ _ _ _ _ 0 c.tell.result c.as_slice.result.now c.tell.ensures.whole
    (inr (c.args.limits.cap, c.args.limits.limit, (refl, refl), told-text c.args.limits.cap c.args.limits.limit _ _ 0 _ _ c.as_slice.ensures c.in-Ok.ensures.answered))

pub returns-in-Ok-clause-exact : goal.returns-in-Ok-clause-exact
returns-in-Ok-clause-exact g c =
    (run-exact c.args.limits.cap c.args.limits.limit _ (Ok c.in-Ok.text) c.tell.result c.in-Ok.ensures.exact (λ kept. (c.tell.ensures.whole kept).0))

pub returns-in-Ok-clause-complete : goal.returns-in-Ok-clause-complete
returns-in-Ok-clause-complete g c =
    (run-complete c.args.limits.cap c.args.limits.limit _ (Ok c.in-Ok.text) c.tell.result c.in-Ok.ensures.complete (λ kept. (c.tell.ensures.whole kept).0))

pub returns-in-Ok-clause-cut_short : goal.returns-in-Ok-clause-cut_short
returns-in-Ok-clause-cut_short g c cut =
    run-cut_short _ _ _ _ _ 0 c.as_slice.result.now
    (inr (c.args.limits.cap, c.args.limits.limit, (refl, refl), told-text c.args.limits.cap c.args.limits.limit _ _ 0 _ _ c.as_slice.ensures c.in-Ok.ensures.answered))
    (c.tell.ensures.part cut)

pub returns-in-Err-clause-told : goal.returns-in-Err-clause-told
returns-in-Err-clause-told g c =
    refuse-told _ _ _ _ _ c.args.limits.cap c.args.limits.limit (status_of c.in-Err.refusal) c.refuse.result (line_of c.in-Err.refusal) _ _ (refl, refl) c.refuse.ensures.silent
    c.refuse.ensures.whole c.in-Err.ensures.refused

pub returns-in-Err-clause-exact : goal.returns-in-Err-clause-exact
returns-in-Err-clause-exact g c =
    (run-exact c.args.limits.cap c.args.limits.limit _ (Err c.in-Err.refusal) c.refuse.result c.in-Err.ensures.exact
    (refuse-status (status_of c.in-Err.refusal) c.refuse.result _ _ c.refuse.ensures.silent c.refuse.ensures.whole))

pub returns-in-Err-clause-complete : goal.returns-in-Err-clause-complete
returns-in-Err-clause-complete g c =
    (run-complete c.args.limits.cap c.args.limits.limit _ (Err c.in-Err.refusal) c.refuse.result c.in-Err.ensures.complete
    (refuse-status (status_of c.in-Err.refusal) c.refuse.result _ _ c.refuse.ensures.silent c.refuse.ensures.whole))

pub returns-in-Err-clause-cut_short : goal.returns-in-Err-clause-cut_short
returns-in-Err-clause-cut_short g c cut =
    refuse-cut_short _ _ _ _ _ c.args.limits.cap c.args.limits.limit (status_of c.in-Err.refusal) (line_of c.in-Err.refusal) _ (refl, refl) c.in-Err.ensures.refused (c.refuse.ensures.part cut)
