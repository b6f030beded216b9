use Rattle.std.proofs.Common.{[], ◌++◌, sym, append-nil}
use Rattle.std.specs.Prelude.{map, codes}
use Rattle.poly_text.specs.PolyText.{poly_text}
use Rattle.norm_text.specs.Joined.{separator_part}
use Rattle.norm_text.proofs.Joins.{joined_rest-first, joined_rest-next, printed-two}
use Rattle.norm_text.proofs.printing.print_list.Goals as goal

pub loop-poly-init : goal.loop-poly-init
loop-poly-init c = record {
  done = [];
  printed = sym (append-nil c.args.out.now);
  whole = joined_rest-first (codes ", ") (map (λ f. poly_text f.prime c.args.letters.now f.terms) c.args.polys.now);
}

pub loop-poly-preserved : goal.loop-poly-preserved
loop-poly-preserved c =
    let loop = c.loop-poly.invariant in
    let x = c.poly-item.result in
    record {
      done = (loop.done ++ separator_part c.loop-poly.is_first (codes ", ")) ++ poly_text x.prime c.args.letters.now x.terms;
      printed = printed-two _ _ _ _ _ _ _ c.in_ok-print_poly.ensures c.in_ok-print_separator.ensures loop.printed;
      whole = joined_rest-next (codes ", ") _ loop.done (λ f. poly_text f.prime c.args.letters.now f.terms) c.args.polys.now c.loop-poly.is_first c.loop-poly.poly-index x x c.loop-poly-test.true c.poly-item.is loop.whole;
    }
