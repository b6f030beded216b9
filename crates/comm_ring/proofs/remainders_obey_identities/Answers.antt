-- Each identity by one line: the solver reads `+`, `*`, `-`, `%` and numerals off the goal.
use Rattle.std.proofs.Common.{[], ◌∷◌}
use Rattle.comm_ring.proofs.Residues.{mod_ring, mod_quote}
use Rattle.comm_ring.proofs.remainders_obey_identities.Goals as goal

pub returns : goal.returns
returns c = record {
  square = λ n positive a b. mod_ring n positive (a ∷ b ∷ []) _ _ (search mod_quote depth 20) tt;
  nested = λ n positive a b e. mod_ring n positive (a ∷ b ∷ e ∷ []) _ _ (search mod_quote depth 20) tt;
  opposite = λ n positive a b within. mod_ring n positive (a ∷ b ∷ []) _ _ (search mod_quote depth 20) tt;
}
