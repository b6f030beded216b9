use Rattle.std.proofs.Common.{◌≡◌, ℕ, List, [], ◌∷◌, ◌++◌, drop}
use Rattle.std.specs.Prelude.{map, codes}
use Rattle.poly_text.specs.PolyText.{join}
use Rattle.norm_text.specs.Joined.{joined_rest}
use Rattle.norm_text.proofs.printing.print_letters.Given as goal

abbrev pub invariant-loop-letter : goal.invariant-loop-letter
invariant-loop-letter l = record {
  done : List ℕ;
  printed : l.out ≡ l.fn.out ++ done;
  whole : join (codes ",") (map (λ x. x ∷ []) l.letters) ≡ done ++ joined_rest (codes ",") l.is_first (map (λ x. x ∷ []) (drop l.letter-index l.letters));
}
