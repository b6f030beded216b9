use Rattle.std.proofs.Common.{◌∙◌, ap, sym, subst, refl, List, length, [], Ok, rules}
use Rattle.polys.specs.Poly.{Polynomial}
use Rattle.problem_form.specs.Tokens.{tokens}
use Rattle.problem_form.specs.declared.words.Class.TheVariants as class
use Rattle.singular_text.specs.Evaluating.{evaluate, new_frame, IsFault, IsFitFrame}
use Rattle.singular_text.specs.declared.evaluation.Frame.{Frame}
use Rattle.singular_text.proofs.Handing.{handed_on}
use Rattle.singular_text.proofs.Steps.{semicolon_fault, semicolon_ok, comma_fault, comma_on, inner_fault, inner_on, all_push, at_end, class_is}
use Rattle.singular_text.proofs.evaluation.Ground.list.Goals as goal

pub returns-in_err-close-in-Semicolon-clause-exact : goal.returns-in_err-close-in-Semicolon-clause-exact
returns-in_err-close-in-Semicolon-clause-exact c =
    handed_on _ c.from_residual.result c.in_err-close-in-Semicolon.field-0.0 _ c.from_residual.ensures.1
    (semicolon_fault c.args.self.now.prime c.args.self.now.letters c.loop-token.values c.loop-token.frame c.loop-token.frames.items c.in-Some.token.now (tokens c.loop-token.rest.now) (tokens c.in-Some.after.now) (evaluate c.args.self.now.prime c.args.self.now.letters [] new_frame [] (tokens c.args.text.now))
    c.in_err-close-in-Semicolon.field-0.0 c.loop-token.invariant.same c.in-Some.ensures.0 (class_is c.args.self.now.letters c.as_slice.result.now c.in-Some.token.now c.class_of.result class.Semicolon c.as_slice.ensures.value c.class_of.ensures c.in-Semicolon.is) c.in_err-close-in-Semicolon.ensures.exact)

pub returns-in-Semicolon-clause-exact : goal.returns-in-Semicolon-clause-exact
returns-in-Semicolon-clause-exact c =
    semicolon_ok c.args.self.now.prime c.args.self.now.letters c.loop-token.values c.loop-token.frame c.loop-token.frames.items c.in-Some.token.now (tokens c.loop-token.rest.now) (tokens c.in-Some.after.now) (evaluate c.args.self.now.prime c.args.self.now.letters [] new_frame [] (tokens c.args.text.now))
    c.in_ok-close-in-Semicolon.field-0 c.loop-token.invariant.same c.in-Some.ensures.0 (class_is c.args.self.now.letters c.as_slice.result.now c.in-Some.token.now c.class_of.result class.Semicolon c.as_slice.ensures.value c.class_of.ensures c.in-Semicolon.is) c.in_ok-close-in-Semicolon.ensures.exact
    ∙ ap (λ (fs : List Polynomial). Ok (fs, tokens c.in-Some.after.now)) (sym c.in_ok-push-in-Semicolon.ensures.ok)

pub returns-in_err-close-in-Comma-clause-exact : goal.returns-in_err-close-in-Comma-clause-exact
returns-in_err-close-in-Comma-clause-exact c =
    handed_on _ c.from_residual-in_err-close-in-Comma.result c.in_err-close-in-Comma.field-0.0 _ c.from_residual-in_err-close-in-Comma.ensures.1
    (comma_fault c.args.self.now.prime c.args.self.now.letters c.loop-token.values c.loop-token.frame c.loop-token.frames.items c.in-Some.token.now (tokens c.loop-token.rest.now) (tokens c.in-Some.after.now) (evaluate c.args.self.now.prime c.args.self.now.letters [] new_frame [] (tokens c.args.text.now))
    c.in_err-close-in-Comma.field-0.0 c.loop-token.invariant.same c.in-Some.ensures.0 (class_is c.args.self.now.letters c.as_slice.result.now c.in-Some.token.now c.class_of.result class.Comma c.as_slice.ensures.value c.class_of.ensures c.in-Comma.is) c.in_err-close-in-Comma.ensures.exact)

pub returns-in_err-frame-in_default-class_of : goal.returns-in_err-frame-in_default-class_of
returns-in_err-frame-in_default-class_of c =
    let fault = c.in_err-frame-in_default-class_of.field-0.0 in
    let is : IsFault fault (evaluate c.args.self.now.prime c.args.self.now.letters [] new_frame [] (tokens c.args.text.now)) =
    inner_fault c.args.self.now.prime c.args.self.now.letters c.loop-token.values c.loop-token.frame c.loop-token.frames.items c.in-Some.token.now (tokens c.loop-token.rest.now) (tokens c.in-Some.after.now) (evaluate c.args.self.now.prime c.args.self.now.letters [] new_frame [] (tokens c.args.text.now))
    fault c.class_of.result c.loop-token.invariant.same c.in-Some.ensures.0 (class_is c.args.self.now.letters c.as_slice.result.now c.in-Some.token.now c.class_of.result c.class_of.result c.as_slice.ensures.value c.class_of.ensures refl) c.in_default-class_of.not-Semicolon c.in_default-class_of.not-Comma
    c.in_err-frame-in_default-class_of.ensures.exact in
    record {
      exact = handed_on _ c.from_residual-in_err-frame-in_default-class_of.result fault _ c.from_residual-in_err-frame-in_default-class_of.ensures.1 is;
      fit = search rules;
    }

pub loop-token-preserved-in_ok-push-in-Comma : goal.loop-token-preserved-in_ok-push-in-Comma
loop-token-preserved-in_ok-push-in-Comma c = record {
  same =
      (λ i.
      evaluate c.args.self.now.prime c.args.self.now.letters (c.in_ok-push-in-Comma.ensures.ok i) (c.new-frame-in-Comma.ensures i) c.loop-token.frames.items
      (tokens c.in-Some.after.now))
      ∙ comma_on c.args.self.now.prime c.args.self.now.letters c.loop-token.values c.loop-token.frame c.loop-token.frames.items c.in-Some.token.now (tokens c.loop-token.rest.now) (tokens c.in-Some.after.now) (evaluate c.args.self.now.prime c.args.self.now.letters [] new_frame [] (tokens c.args.text.now))
      c.in_ok-close-in-Comma.field-0 c.loop-token.invariant.same c.in-Some.ensures.0 (class_is c.args.self.now.letters c.as_slice.result.now c.in-Some.token.now c.class_of.result class.Comma c.as_slice.ensures.value c.class_of.ensures c.in-Comma.is) c.in_ok-close-in-Comma.ensures.exact;
  frame = let P : Frame → Type 0 = λ (f : Frame). IsFitFrame c.args.self.now.prime (length c.args.self.now.letters) f in subst P (sym c.new-frame-in-Comma.ensures) (record { sum = tt; product = tt; factor = tt });
  frames = c.loop-token.invariant.frames;
  values =
      all_push c.args.self.now.prime (length c.args.self.now.letters) c.loop-token.values c.in_ok-close-in-Comma.field-0 _ c.in_ok-push-in-Comma.ensures.ok c.loop-token.invariant.values
      c.in_ok-close-in-Comma.ensures.fit;
}

pub loop-token-preserved : goal.loop-token-preserved
loop-token-preserved c = record {
  same =
      inner_on c.args.self.now.prime c.args.self.now.letters c.loop-token.values c.loop-token.frame c.loop-token.frames.items c.in-Some.token.now (tokens c.loop-token.rest.now) (tokens c.in-Some.after.now) (evaluate c.args.self.now.prime c.args.self.now.letters [] new_frame [] (tokens c.args.text.now))
      c.class_of.result c.in_ok-frame-in_default-class_of.frame c.step.new.frames.items c.loop-token.invariant.same c.in-Some.ensures.0
      (class_is c.args.self.now.letters c.as_slice.result.now c.in-Some.token.now c.class_of.result c.class_of.result c.as_slice.ensures.value c.class_of.ensures refl) c.in_default-class_of.not-Semicolon c.in_default-class_of.not-Comma c.in_ok-frame-in_default-class_of.ensures.exact;
  frame = c.in_ok-frame-in_default-class_of.ensures.fit;
  frames = c.in_ok-frame-in_default-class_of.ensures.outer;
  values = c.loop-token.invariant.values;
}

pub returns-clause-exact : goal.returns-clause-exact
returns-clause-exact c = sym c.loop-token.invariant.same ∙ at_end _ _ c.loop-token.values c.loop-token.frame c.loop-token.frames.items _ c.in_default.ensures
