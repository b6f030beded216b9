use Rattle.std.proofs.Common.{◌≡◌, ℕ, List, ◌++◌, drop}
use Rattle.std.specs.Prelude.{map, codes}
use Rattle.poly_text.specs.PolyText.{join, poly_text}
use Rattle.norm_text.specs.Joined.{joined_rest}
use Rattle.norm_text.proofs.printing.print_list.Given as goal

abbrev pub invariant-loop-poly : goal.invariant-loop-poly
invariant-loop-poly l = record {
  done : List ℕ;
  printed : l.out ≡ l.fn.out ++ done;
  whole : join (codes ", ") (map (λ f. poly_text f.prime l.letters f.terms) l.polys)
      ≡ done ++ joined_rest (codes ", ") l.is_first (map (λ f. poly_text f.prime l.letters f.terms) (drop l.poly-index l.polys));
}
