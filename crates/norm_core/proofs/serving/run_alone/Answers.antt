-- What was read is told of the words.
use Rattle.std.proofs.Common.{◌≡◌, ℕ, List, map, string_bytes, refl, ap, subst, ◌∙◌, inl, inr}
use Rattle.std.specs.Prelude.{Ok, Err}
use Rattle.command_line.specs.Asks.{AsksFor}
use Rattle.command_line.specs.declared.asking.Ask.{Ask}
use Rattle.command_line.specs.declared.asking.Ask.TheVariants.{Alone}
use Rattle.command_line.specs.declared.reading.WordFault.TheVariants.{Usage, Memory}
use Rattle.norm_core.specs.Asking.{AsksAlone}
use Rattle.norm_core.proofs.RunLemmas.{run-told, run-cut_short, told_by, cut_short_by, limits_served, alone_limits, exact-for, complete-for, nothing_of_one, nothing_but_normal, not_nothing, bool_clash}
use Rattle.norm_core.proofs.serving.run_alone.Goals as goal

pub returns-then-is_threaded-clause-cut_short : goal.returns-then-is_threaded-clause-cut_short
returns-then-is_threaded-clause-cut_short g c cut =
    let normal = c.is_threaded.ensures.0 c.if-is_threaded.true in
    run-cut_short _ _ _ _ _ 2 _ (inl (nothing_of_one _ normal, refl, refl)) (c.tell.ensures.part cut)

pub returns-in-Ok-Alone-clause-told : goal.returns-in-Ok-Alone-clause-told
returns-in-Ok-Alone-clause-told g c =
    let asks = subst (AsksFor _) c.in-Ok-Alone.field-0-is c.in-Ok-Alone.ensures.asks in
    told_by _ _ _ _ _ _ _ (limits_served c.in-Ok-Alone.limits (AsksAlone _) asks) c.serve.ensures.told

pub returns-in-Ok-Alone-clause-usage : goal.returns-in-Ok-Alone-clause-usage
returns-in-Ok-Alone-clause-usage g c nothing =
    let asks = subst (AsksFor _) c.in-Ok-Alone.field-0-is c.in-Ok-Alone.ensures.asks in
    absurd (nothing c.in-Ok-Alone.limits.cap c.in-Ok-Alone.limits.limit asks)

pub returns-in-Ok-Alone-clause-exact : goal.returns-in-Ok-Alone-clause-exact
returns-in-Ok-Alone-clause-exact g c cap limit asked =
    let read : c.read_words.result ≡ Ok (Alone c.in-Ok-Alone.limits) = c.in-Ok-Alone.is ∙ ap Ok c.in-Ok-Alone.field-0-is in
    let same = alone_limits c.read_words.result c.in-Ok-Alone.limits cap limit read (c.read_words.ensures.exact (Alone (record { cap = cap; limit = limit })) asked) in
    exact-for c.in-Ok-Alone.limits cap limit _ _ same c.serve.ensures.exact

pub returns-in-Ok-Alone-clause-complete : goal.returns-in-Ok-Alone-clause-complete
returns-in-Ok-Alone-clause-complete g c cap limit asked =
    let read : c.read_words.result ≡ Ok (Alone c.in-Ok-Alone.limits) = c.in-Ok-Alone.is ∙ ap Ok c.in-Ok-Alone.field-0-is in
    let same = alone_limits c.read_words.result c.in-Ok-Alone.limits cap limit read (c.read_words.ensures.exact (Alone (record { cap = cap; limit = limit })) asked) in
    complete-for c.in-Ok-Alone.limits cap limit _ _ same c.serve.ensures.complete

pub returns-in-Ok-Alone-clause-cut_short : goal.returns-in-Ok-Alone-clause-cut_short
returns-in-Ok-Alone-clause-cut_short g c cut =
    let asks = subst (AsksFor _) c.in-Ok-Alone.field-0-is c.in-Ok-Alone.ensures.asks in
    cut_short_by _ _ _ _ _ _ (limits_served c.in-Ok-Alone.limits (AsksAlone _) asks) (c.serve.ensures.cut_short cut)

pub returns-in-Err-Usage-clause-told : goal.returns-in-Err-Usage-clause-told
returns-in-Err-Usage-clause-told g c =
    let usage : c.read_words.result ≡ Err Usage = c.in-Err-Usage.is ∙ ap Err c.in-Err-Usage.field-0-is in
    run-told _ _ _ _ _ 2 c.tell-in-Err-Usage.result _ c.tell-in-Err-Usage.ensures.whole
    (inl (λ cap limit a. c.read_words.ensures.usage usage (Alone (record { cap = cap; limit = limit })) a, refl, refl))

pub returns-in-Err-Usage-clause-exact : goal.returns-in-Err-Usage-clause-exact
returns-in-Err-Usage-clause-exact g c cap limit asked =
    let usage : c.read_words.result ≡ Err Usage = c.in-Err-Usage.is ∙ ap Err c.in-Err-Usage.field-0-is in
    absurd (c.read_words.ensures.usage usage (Alone (record { cap = cap; limit = limit })) asked)

pub returns-in-Err-Usage-clause-complete : goal.returns-in-Err-Usage-clause-complete
returns-in-Err-Usage-clause-complete g c cap limit asked =
    let usage : c.read_words.result ≡ Err Usage = c.in-Err-Usage.is ∙ ap Err c.in-Err-Usage.field-0-is in
    absurd (c.read_words.ensures.usage usage (Alone (record { cap = cap; limit = limit })) asked)

pub returns-in-Err-Usage-clause-cut_short : goal.returns-in-Err-Usage-clause-cut_short
returns-in-Err-Usage-clause-cut_short g c cut =
    let usage : c.read_words.result ≡ Err Usage = c.in-Err-Usage.is ∙ ap Err c.in-Err-Usage.field-0-is in
    run-cut_short _ _ _ _ _ 2 _
    (inl (λ cap limit a. c.read_words.ensures.usage usage (Alone (record { cap = cap; limit = limit })) a, refl, refl))
    (c.tell-in-Err-Usage.ensures.part cut)

pub returns-in-Err-Memory-clause-usage : goal.returns-in-Err-Memory-clause-usage
returns-in-Err-Memory-clause-usage g c nothing =
    let memory : c.read_words.result ≡ Err Memory = c.in-Err-Memory.is ∙ ap Err c.in-Err-Memory.field-0-is in
    absurd (not_nothing c.read_words.result _ memory c.read_words.ensures.not_asked
    (nothing_but_normal _ (λ n. absurd (bool_clash c.is_threaded.result (c.is_threaded.ensures.1 n) c.if-is_threaded.false)) nothing))
