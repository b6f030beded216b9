use Rattle.comm_ring.proofs.Residues.{residues}
use Rattle.comm_ring.proofs.Sums as Sums
use Rattle.comm_ring.proofs.sums_obey_their_laws.Goals as goal

pub returns : goal.returns
returns c = record {
  append = λ n positive f xs ys. Sums.sum-append (residues n positive) f xs ys;
  map = λ n positive f g xs. Sums.sum-map (residues n positive) f g xs;
  flat_map = λ n positive f g xs. Sums.sum-flat_map (residues n positive) f g xs;
  scaled = λ n positive e f xs. (Sums.sum-mul_left (residues n positive) e f xs, Sums.sum-mul_right (residues n positive) e f xs);
  sums = λ n positive f g xs. Sums.sum-add (residues n positive) f g xs;
  swap = λ n positive f xs ys. Sums.sum-swap (residues n positive) f xs ys;
  permutation = λ n positive f xs ys h. Sums.sum-IsPermutation (residues n positive) f xs ys h;
  products = λ n positive f g xs ys. Sums.sum-mul-sum (residues n positive) f g xs ys;
  range = λ n positive f m. (Sums.sum_below-suc (residues n positive) f m, Sums.sum_below-front (residues n positive) f m);
  geometric = λ n positive x m. Sums.geometric (residues n positive) x m;
}
