-- Vectors whose tails were divided.
use Rattle.std.proofs.Common.{◌≡◌, ℕ, ◌-◌, List, [], ◌∷◌, length, take, drop, get_or, refl, sym, ap, ◌∙◌, subst}
use Rattle.std.specs.List.{All}
use Rattle.std.specs.declared.cmp.Ordering.TheVariants.{Less}
use Rattle.std.proofs.lemmas.List.{take_rest}
use Rattle.monomials.specs.Mono.{cmp_dp}
use Rattle.polys.specs.declared.term.Term.{Term}
use Rattle.polys.specs.Terms.{EachMono, IsMonic}
use Rattle.polys.specs.Poly.{Polynomial, IsVector, terms_of}
use Rattle.polys.proofs.Each.{every_under}
use Rattle.monomials.proofs.Order.{turn_up}
use Rattle.graded_modules.proofs.Tops.{tail_below}
use Rattle.module_division.specs.Division.{IsDivisor, Reduces}
use Rattle.module_division.proofs.Lists.{divisor_vectors}
use Rattle.module_division.proofs.Reductions.{each_left, keeps_below}

-- the first term and the others
pub record IsSplit (p : ℕ) (f : List Term) (t : Term) (tail : List Term) : Type 0 where
  pub whole : f ≡ t ∷ tail
  pub vector : IsVector p tail

pub split_at : (p : ℕ) (f : Polynomial) → IsDivisor p f → (t : Term) (xs tail : List Term) → xs ≡ f.terms → t ≡ get_or xs 0 t → tail ≡ take (length xs - 1) (drop 1 xs) → IsSplit p f.terms t tail
split_at p f h t xs tail ex et el = go f.terms refl h.monic h.vector
  where
    go : (g : List Term) → f.terms ≡ g → IsMonic g → IsVector p g → IsSplit p g t tail
    go [] q m v = absurd m
    go (u ∷ g) q m v =
        let same : t ≡ u = et ∙ ap (λ (x : List Term). get_or x 0 t) (ex ∙ q) in
        let rest : tail ≡ g = el ∙ take_rest xs 1 ∙ ap (drop 1) (ex ∙ q) in
        record {
          whole = λ i. sym same i ∷ sym rest i;
          vector = subst (IsVector p) (sym rest) (record { canonical = v.canonical.3; monos = v.monos.1 });
        }

pub split_lead : (p : ℕ) (f : List Term) (t : Term) (tail r : List Term) (fs : List Polynomial) → All (IsDivisor p) fs → IsVector p f → IsSplit p f t tail
    → Reduces p (terms_of fs) tail r → IsVector p r → IsVector p (t ∷ r)
split_lead p f t tail r fs all v s d known =
    let w : IsVector p (t ∷ tail) = subst (IsVector p) s.whole v in
    let low : EachMono (λ m. cmp_dp m t.mono ≡ Less) r =
    each_left p (terms_of fs) tail (λ m. cmp_dp m t.mono ≡ Less) r (keeps_below p t.mono (terms_of fs) (divisor_vectors p fs all)) (tail_below p t tail w.canonical) d in
    record {
      canonical = (w.canonical.0, w.canonical.1, every_under (λ m. cmp_dp m t.mono ≡ Less) t.mono r (λ m h. turn_up m t.mono h) low, known.canonical);
      monos = (w.monos.0, known.monos);
    }
