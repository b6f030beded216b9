use Rattle.std.proofs.Common.{ℕ, ◌+◌, ◌<◌, List, length, get_or, sym, ap, ◌∙◌, subst}
use Rattle.std.proofs.lemmas.List.{length_push, get_or_default}
use Rattle.std.proofs.lemmas.List.Elements.{All-push}
use Rattle.monomials.specs.Mono.{unit}
use Rattle.polys.specs.Curve.{data_of}
use Rattle.digit_make.specs.Blocks.{HasBlocks, HaveBlocks, IsKnown}
use Rattle.digit_make.proofs.Deeper.{known_push}
use Rattle.digit_make.proofs.extending.border_rows.Goals as goal

pub loop-j-preserved : goal.loop-j-preserved
loop-j-preserved c =
    let A = data_of c.args.digits.now.curve in
    let ms = c.args.digits.now.basis in
    let monomials = c.args.monomials.now in
    let rows = c.loop-j.rows in
    let row = c.in_ok-row.row in
    let ok = c.in_ok-push.ensures.ok in
    record {
      count = ap length ok ∙ length_push rows row ∙ ap (λ z. z + 1) c.loop-j.invariant.count;
      each = subst (λ z. (i : ℕ) (d : List ℕ) → i < length z → IsKnown A ms (get_or monomials i unit) (get_or z i d)) (sym ok)
          (known_push A ms monomials rows row c.loop-j.j c.loop-j.invariant.count c.loop-j.invariant.each
          (subst (λ z. IsKnown A ms z row) (c.index-monomials-j.is ∙ get_or_default monomials c.loop-j.j c.index-monomials-j.result unit c.loop-j-test.true) c.in_ok-row.ensures.known));
      blocks = subst (HaveBlocks (length ms) 0 c.args.digits.now.depth) (sym ok) (All-push (HasBlocks (length ms) 0 c.args.digits.now.depth) rows row c.loop-j.invariant.blocks c.in_ok-row.ensures.blocks);
    }
