-- What a multiplication takes to the nilpotent elements is the ideal at an element.
use Rattle.std.proofs.Common.{◌≡◌, ◌↔◌, ◌<◌, ◌∙◌, ℕ, List, length, ap, subst, sym}
use Rattle.comm_ring.proofs.Residues.{residues}
use Rattle.comm_ring.proofs.Modules as Modules
use Rattle.row_space.specs.Subspace.{Subspace, IsIn, product}
use Rattle.finite_algebra.specs.Elements.{FiniteAlgebra, AreProducts, elements}
use Rattle.finite_algebra.proofs.Generated.{moved}
use Rattle.finite_algebra.proofs.Multiplication.{product-times}
use Rattle.finite_algebra.proofs.Products.{module_of}
use Rattle.frobenius_split.specs.Idempotents.{IsIdealAt}

-- membership in an image does not depend on how its parts are written
pub image_moved : (s : Subspace) (p q w n : ℕ) (v : List ℕ) (us vs : List (List ℕ)) → p ≡ q → w ≡ n → us ≡ vs → IsIn s (product p w v us) → IsIn s (product q n v vs)
image_moved s p q w n v us vs e f g h = subst (λ c. IsIn s (product c n v vs)) e (subst (λ c. IsIn s (product p c v vs)) f (subst (λ c. IsIn s (product p w v c)) g h))

module _ (A : FiniteAlgebra) (pos : 0 < A.prime) (nilpotent : Subspace) (prime : nilpotent.prime ≡ A.prime) (width : nilpotent.width ≡ A.dimension) (e : List ℕ) (table : List (List ℕ)) (products : AreProducts A e table) where
  same_row : (f g : List ℕ) → (elements A).◌≋◌ f g → IsIn nilpotent f → IsIn nilpotent g
  same_row f g h i = moved A.prime nilpotent.prime A.dimension nilpotent.width nilpotent.basis g (sym prime) (sym width)
      ((Modules.span_submodule (residues A.prime pos) (module_of A pos) nilpotent.basis).resp f g h (moved nilpotent.prime A.prime nilpotent.width A.dimension nilpotent.basis f prime width i))

  pub preimage_is : (s : Subspace) (us : List (List ℕ)) → us ≡ table → s.prime ≡ nilpotent.prime → s.width ≡ length us
      → ((v : List ℕ) → length v ≡ length us → IsIn s v ↔ IsIn nilpotent (product nilpotent.prime nilpotent.width v us)) → IsIdealAt A nilpotent e s
  preimage_is s us same p w members = record {
    prime = p ∙ prime;
    width = w ∙ (ap length same ∙ products.count);
    members = λ x fits.
        let long = fits.0 ∙ sym (ap length same ∙ products.count) in (
          λ h. same_row _ _ (product-times A pos e table products x) (image_moved nilpotent nilpotent.prime A.prime nilpotent.width A.dimension x us table prime width same ((members x long).0 h)),
          λ h. (members x long).1 (image_moved nilpotent A.prime nilpotent.prime A.dimension nilpotent.width x table us (sym prime) (sym width) (sym same)
              (same_row _ _ ((module_of A pos).symm (product-times A pos e table products x)) h)),
        );
  }
