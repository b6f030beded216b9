use Rattle.std.proofs.Common.{ℕ, List, All, sym, subst}
use Rattle.row_space.specs.Echelon.{IsRow}
use Rattle.row_matrices.specs.Inverses.{AreRowsAt}
use Rattle.row_matrices.proofs.KernelLaws.{chosen_fit}
use Rattle.row_matrices.proofs.backward.kernel_backward.Goals as goal

pub inverse_of-requires : goal.inverse_of-requires
inverse_of-requires c = record {
  rows =
      let us = c.args.rows.now in
      let chosen = subst (λ (ps : List ℕ). AreRowsAt us ps c.in_ok-chosen.chosen) c.as_slice.ensures c.in_ok-chosen.ensures in
      subst (λ (rs : List (List ℕ)). All (IsRow c.args.prime c.args.columns) rs) (sym c.as_slice-2.ensures)
      (chosen_fit c.args.prime c.args.columns us c.in_ok-chosen.chosen c.in_ok-places.places chosen c.in_ok-places.ensures c.requires);
}
