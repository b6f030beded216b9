-- The merge of what is left with a multiple of a divisor.
use Rattle.std.proofs.Common.{◌≡◌, ℕ, ◌+◌, ◌<◌, ◌≤◌, List, [], ◌∷◌, map, length, get_or, drop, sym, ap, ◌∙◌, arith}
use Rattle.std.proofs.lemmas.List.{drop-map}
use Rattle.monomials.specs.Mono.{Monomial, IsMono, times, total_degree}
use Rattle.monomials.proofs.Exponents.{total_degree-plus}
use Rattle.prime_field.specs.Primes.{IsPrime}
use Rattle.polys.specs.declared.term.Term.{Term}
use Rattle.polys.specs.Terms.{EachMono, mul, degree_of}
use Rattle.polys.specs.Poly.{IsVector, IsPlain}
use Rattle.polys.proofs.Merge.{left_at}
use Rattle.polys.proofs.Products.{times_term, canonical_term, product_by_term, sevens}
use Rattle.polys.proofs.Units.{seven_times}

pub mono_times : (m w : Monomial) → IsMono m → IsMono w → IsPlain w → total_degree m.exponents + total_degree w.exponents ≤ 60000 → IsMono (times m w)
mono_times m w h k z room = record {
  seven = seven_times m w h.seven k.seven;
  bounded = let e = total_degree-plus m.exponents w.exponents in omega arith;
  one_of_two = let o = h.one_of_two in omega arith;
}

pub multiple_vector : (p : ℕ) (t : Term) (b : List Term) → IsPrime p → 0 < t.coeff → t.coeff < p → IsMono t.mono → IsPlain t.mono
    → degree_of b + total_degree t.mono.exponents ≤ 60000 → IsVector p b → IsVector p (map (times_term p t) b)
multiple_vector p t b prime h l m z room v = record {
  canonical = canonical_term p t b prime h l v.canonical (sevens b v.monos);
  monos = monos b room v.monos;
}
  where
    monos : (g : List Term) → degree_of g + total_degree t.mono.exponents ≤ 60000 → EachMono IsMono g → EachMono IsMono (map (times_term p t) g)
    monos [] r e = tt
    monos (u ∷ g) r e = (mono_times u.mono t.mono e.0 m z (omega arith), monos g (omega arith) e.1)

pub product_of_term : (p : ℕ) (t : Term) (b : List Term) → IsPrime p → 0 < t.coeff → t.coeff < p → IsVector p b → map (times_term p t) b ≡ mul p b (t ∷ [])
product_of_term p t b prime h l v = product_by_term p t b prime h l v.canonical (sevens b v.monos)

pub multiple_at : (f : Term → Term) (b : List Term) (j : ℕ) (u : Term) → j < length b → u ≡ get_or b j u → drop j (map f b) ≡ f u ∷ drop (j + 1) (map f b)
multiple_at f b j u h e = drop-map f j b ∙ ap (map f) (left_at b j u h e) ∙ ap (λ x. f u ∷ x) (sym (drop-map f (j + 1) b))
