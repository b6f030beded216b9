-- Sums of multiples of vectors.
use Rattle.std.proofs.Common.{◌≡◌, ℕ, ◌+◌, ◌*◌, ◌%◌, ◌<◌, List, [], ◌∷◌, ◌++◌, map, refl, sym, ap, ◌∙◌}
use native.Mathlib.Nat.{mod-lt, mod-mod}
use Rattle.std.specs.List.{All, Contains}
use Rattle.std.proofs.lemmas.List.Elements.{All-nil, All-cons, All-head, All-tail, All-append, All-map, All-weaker, All-contains}
use Rattle.monomials.specs.Mono.{Monomial, times, cmp_dp}
use Rattle.monomials.proofs.Order.{times_assoc, cmp_dp-times}
use Rattle.polys.specs.declared.term.Term.{Term}
use Rattle.polys.specs.Terms.{normal, add, mul, multiple}
use Rattle.polys.specs.Poly.{IsPlain}
use Rattle.polys.proofs.Sums.{normal_normal, add_assoc, add-mul}
use Rattle.polys.proofs.Units.{plain_times}
use Rattle.graded_modules.specs.Vector.{IsGraded, IsGenerator, degree_at, lead_mono}
use Rattle.graded_modules.specs.SVector.{Multiple, total, top, IsBelow, IsSumBelow}
use Rattle.graded_modules.proofs.Graded.{graded_times, degree_times, lead_graded}
use Rattle.graded_modules.proofs.Cofactors.{same_shape}
use Rattle.ideal_laws.proofs.Multiples.{mul_terms, mul_residue, multiple-add, multiple_term}

pub normal-total : (p : ℕ) (ss : List Multiple) → normal p (total p ss) ≡ total p ss
normal-total p [] = refl
normal-total p (s ∷ ss) = normal_normal p (mul p s.vector (s.term ∷ []) ++ total p ss)

pub total-append : (p : ℕ) (xs ys : List Multiple) → total p (xs ++ ys) ≡ add p (total p xs) (total p ys)
total-append p [] ys = sym (normal-total p ys)
total-append p (s ∷ xs) ys =
    ap (add p (mul p s.vector (s.term ∷ []))) (total-append p xs ys)
    ∙ sym (add_assoc p (mul p s.vector (s.term ∷ [])) (total p xs) (total p ys))

-- a multiple times a term
abbrev pub by : ℕ → Term → Multiple → Multiple
by p u s = record { vector = s.vector; term = record { coeff = (s.term.coeff * u.coeff) % p; mono = times s.term.mono u.mono } }

pub total-by : (p : ℕ) (u : Term) (ss : List Multiple) → mul p (total p ss) (u ∷ []) ≡ total p (map (by p u) ss)
total-by p u [] = refl
total-by p u (s ∷ ss) =
    add-mul p (mul p s.vector (s.term ∷ [])) (total p ss) (u ∷ [])
    ∙ (λ i. add p ((mul_terms p s.vector s.term u
    ∙ mul_residue p (s.term.coeff * u.coeff) ((s.term.coeff * u.coeff) % p) (times s.term.mono u.mono) s.vector (sym (mod-mod (s.term.coeff * u.coeff) p))) i) (total-by p u ss i))

-- the multiple by a number
abbrev pub times_number : ℕ → ℕ → Multiple → Multiple
times_number p c s = record { vector = s.vector; term = record { coeff = (c * s.term.coeff) % p; mono = s.term.mono } }

pub total-times_number : (p c : ℕ) (ss : List Multiple) → multiple p c (total p ss) ≡ total p (map (times_number p c) ss)
total-times_number p c [] = refl
total-times_number p c (s ∷ ss) =
    multiple-add p c (mul p s.vector (s.term ∷ [])) (total p ss)
    ∙ (λ i. add p ((multiple_term p c s.vector s.term
    ∙ mul_residue p (c * s.term.coeff) ((c * s.term.coeff) % p) s.term.mono s.vector (sym (mod-mod (c * s.term.coeff) p))) i) (total-times_number p c ss i))

module _ (p n shift : ℕ) where
  -- ---- sums of multiples below a monomial

  pub below_more : (bs cs : List (List Term)) (m : Monomial) (f : List Term) → ((b : List Term) → Contains bs b → Contains cs b) → IsSumBelow p n shift bs m f → IsSumBelow p n shift cs m f
  below_more bs cs m f h a = record {
    multiples = a.multiples;
    each = All-weaker (IsBelow p n shift bs m) (IsBelow p n shift cs m) (λ s b. record {
      member = h s.vector b.member;
      residue = b.residue;
      graded = b.graded;
      plain = b.plain;
      below = b.below;
      degree = b.degree;
    }) a.multiples a.each;
    sum = a.sum;
  }

  pub below_none : (bs : List (List Term)) (m : Monomial) → IsSumBelow p n shift bs m []
  below_none bs m = record { multiples = []; each = All-nil (IsBelow p n shift bs m); sum = refl }

  pub below_add : (bs : List (List Term)) (m : Monomial) (f g : List Term) → IsSumBelow p n shift bs m f → IsSumBelow p n shift bs m g → IsSumBelow p n shift bs m (add p f g)
  below_add bs m f g a b = record {
    multiples = a.multiples ++ b.multiples;
    each = All-append (IsBelow p n shift bs m) a.multiples b.multiples a.each b.each;
    sum = (λ i. add p (a.sum i) (b.sum i)) ∙ sym (total-append p a.multiples b.multiples);
  }

  pub below_multiple : (bs : List (List Term)) (m : Monomial) (c : ℕ) (f : List Term) → 0 < p → IsSumBelow p n shift bs m f → IsSumBelow p n shift bs m (multiple p c f)
  below_multiple bs m c f pos a = record {
    multiples = map (times_number p c) a.multiples;
    each = All-map (IsBelow p n shift bs m) (times_number p c) a.multiples (All-weaker (IsBelow p n shift bs m) (λ s. IsBelow p n shift bs m (times_number p c s)) (λ s b. record {
      member = b.member;
      residue = mod-lt (c * s.term.coeff) pos;
      graded = b.graded;
      plain = b.plain;
      below = b.below;
      degree = b.degree;
    }) a.multiples a.each);
    sum = ap (multiple p c) a.sum ∙ total-times_number p c a.multiples;
  }

  module _ (bs : List (List Term)) (pos : 0 < p) (vectors : All (IsGenerator p n shift) bs) where
    pub lead_of : (b : List Term) → Contains bs b → IsGraded n (lead_mono b)
    lead_of b c = lead_graded n b (All-contains (IsGenerator p n shift) bs b vectors c).vector.graded

    pub top_graded : (m : Monomial) (s : Multiple) → IsBelow p n shift bs m s → IsGraded n (top s)
    top_graded m s b = graded_times n (lead_mono s.vector) s.term.mono (lead_of s.vector b.member) b.graded b.plain

    by_below : (m : Monomial) (u : Term) (s : Multiple) → IsGraded n m → IsGraded n u.mono → IsPlain u.mono → IsBelow p n shift bs m s → IsBelow p n shift bs (times m u.mono) (by p u s)
    by_below m u s gm gu pu b =
        let steps : times (top s) u.mono ≡ top (by p u s) = times_assoc (lead_mono s.vector) s.term.mono u.mono in
        record {
          member = b.member;
          residue = mod-lt (s.term.coeff * u.coeff) pos;
          graded = graded_times n s.term.mono u.mono b.graded gu pu;
          plain = plain_times s.term.mono u.mono b.plain pu;
          below = ap (λ w. cmp_dp w (times m u.mono)) (sym steps) ∙ cmp_dp-times (top s) m u.mono (same_shape n (top s) m (top_graded m s b) gm) ∙ b.below;
          degree =
              ap (degree_at shift) (sym steps) ∙ degree_times shift (top s) u.mono ∙ ap (λ (k : ℕ). k + degree_at shift u.mono) b.degree ∙ sym (degree_times shift m u.mono);
        }

    pub below_mul : (m : Monomial) (u : Term) (f : List Term) → IsGraded n m → IsGraded n u.mono → IsPlain u.mono → IsSumBelow p n shift bs m f
        → IsSumBelow p n shift bs (times m u.mono) (mul p f (u ∷ []))
    below_mul m u f gm gu pu a = record {
      multiples = map (by p u) a.multiples;
      each = each a.multiples a.each;
      sum = ap (λ w. mul p w (u ∷ [])) a.sum ∙ total-by p u a.multiples;
    }
      where
        each : (ss : List Multiple) → All (IsBelow p n shift bs m) ss → All (IsBelow p n shift bs (times m u.mono)) (map (by p u) ss)
        each [] h = All-nil (IsBelow p n shift bs (times m u.mono))
        each (s ∷ ss) h =
            All-cons (IsBelow p n shift bs (times m u.mono)) (by p u s) (map (by p u) ss) (by_below m u s gm gu pu (All-head (IsBelow p n shift bs m) s ss h))
            (each ss (All-tail (IsBelow p n shift bs m) s ss h))
