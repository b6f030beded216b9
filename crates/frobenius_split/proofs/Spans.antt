-- The space that gains rows, as a set of elements.
use Rattle.std.proofs.Common.{◌≡◌, ◌∙◌, ◌<◌, ◌++◌, [], ℕ, List, get_or, ap, subst}
use Rattle.std.proofs.lemmas.List.Elements.{All-from_get_or}
use Rattle.comm_ring.specs.Modules.{InSpan}
use Rattle.comm_ring.proofs.Modules as Modules
use Rattle.comm_ring.proofs.Residues.{residues}
use Rattle.row_space.specs.Subspace.{Subspace, IsIn, Joins}
use Rattle.row_space.proofs.Members.{span_of}
use Rattle.row_space.specs.Insertion.{IsInsertion}
use Rattle.row_space.specs.declared.space.Insert.{Insert}
use Rattle.row_space.specs.declared.space.Insert.TheVariants.{Inserted, Dependent}
use Rattle.finite_algebra.specs.Elements.{FiniteAlgebra, elements}
use Rattle.finite_algebra.proofs.Generated.{moved}
use Rattle.finite_algebra.proofs.Products.{module_of}

pub joined_span : (A : FiniteAlgebra) → 0 < A.prime → (old new : Subspace) (vs ws : List (List ℕ)) → old.prime ≡ A.prime → old.width ≡ A.dimension → old.basis ≡ [] → ws ≡ vs → Joins old ws new → (f : List ℕ) → IsIn new f → InSpan (elements A) vs f
joined_span A positive old new vs ws e h none same j f l =
    Modules.span_through (residues A.prime positive) (module_of A positive) new.basis vs (All-from_get_or (InSpan (elements A) vs) new.basis []
    (λ k m. subst (λ us. InSpan (elements A) us (get_or new.basis k [])) (ap (λ us. us ++ ws) none ∙ same)
    (moved old.prime A.prime old.width A.dimension (old.basis ++ ws) _ e h (span_of old.prime old.width (old.basis ++ ws) _ (j.covered k m)))))
    f (moved new.prime A.prime new.width A.dimension new.basis f (j.prime ∙ e) (j.width ∙ h) l)

-- an insertion keeps the prime and the length
pub insertion_shape : (said : Insert) (old new : Subspace) (row : List ℕ) → IsInsertion old row new said → (new.prime ≡ old.prime) × (new.width ≡ old.width)
insertion_shape Inserted old new row i = (i.1.prime, i.1.width)
insertion_shape (Dependent said) old new row i = (ap (λ (s : Subspace). s.prime) i.1, ap (λ (s : Subspace). s.width) i.1)
