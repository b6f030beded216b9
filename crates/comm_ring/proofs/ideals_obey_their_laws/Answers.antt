use Rattle.comm_ring.proofs.Residues.{residues}
use Rattle.comm_ring.proofs.Ideals as Ideals
use Rattle.comm_ring.proofs.Takes as Takes
use Rattle.comm_ring.proofs.ideals_obey_their_laws.Goals as goal

pub returns : goal.returns
returns c = record {
  append = λ n positive gs hs f. (Ideals.append_is_sum (residues n positive) gs hs f, Ideals.sum_is_append (residues n positive) gs hs f);
  apart = λ n positive gs hs a. (
    Ideals.apart_powers (residues n positive) _ _ (Ideals.ideal_of_list (residues n positive) gs) (Ideals.ideal_of_list (residues n positive) hs) a,
    Ideals.apart_meet (residues n positive) _ _ (Ideals.ideal_of_list (residues n positive) gs) (Ideals.ideal_of_list (residues n positive) hs) a,
  );
  taken = λ n positive gs ks m f t. Takes.taken_by_generators (residues n positive) gs ks m f t;
}
