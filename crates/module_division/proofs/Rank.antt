-- A number for each monomial of the program that rises with dp.
use Rattle.std.proofs.Common.{◌≡◌, ℕ, ◌+◌, ◌-◌, ◌*◌, ◌<◌, ◌≤◌, suc, List, [], ◌∷◌, length, refl, sym, ap, ◌∙◌, arith, subst}
use Rattle.std.specs.declared.cmp.Ordering.{Ordering}
use Rattle.std.specs.declared.cmp.Ordering.TheVariants.{Less, Equal, Greater}
use Rattle.std.specs.Ordering.{ordering_then, nat_cmp}
use Rattle.std.specs.Cmp.{ranked}
use Rattle.monomials.specs.Mono.{Monomial, IsMono, total_degree, cmp_last, cmp_dp}
use Rattle.polys.specs.declared.term.Term.{Term}
use Rattle.monomials.proofs.Order.{same_last}

unfoldable pub rank_from : ℕ → List ℕ → ℕ
rank_from h [] = h
rank_from h (x ∷ a) = rank_from h a * 65536 + (65535 - x)

unfoldable pub rank : Monomial → ℕ
rank m = rank_from ((1 - m.component) * 65536 + total_degree m.exponents) m.exponents

-- one more than the rank of the first monomial, or 0
unfoldable pub first_rank : List Term → ℕ
first_rank [] = 0
first_rank (t ∷ f) = suc (rank t.mono)

pub first_rank-cons : (t : Term) (f : List Term) → first_rank (t ∷ f) ≡ suc (rank t.mono)
unfolding first_rank
first_rank-cons t f = refl

pub first_rank-none : first_rank [] ≡ 0
unfolding first_rank
first_rank-none = refl

rises : (a b : List ℕ) (h k : ℕ) → h < k → length a ≡ length b → rank_from h a < rank_from k b
unfolding rank_from
rises [] [] h k l e = l
rises [] (y ∷ b) h k l e = absurd (omega arith)
rises (x ∷ a) [] h k l e = absurd (omega arith)
rises (x ∷ a) (y ∷ b) h k l e = let ih = rises a b h k l (omega arith) in omega arith

rises_last : (h : ℕ) (a b : List ℕ) → cmp_last a b ≡ Less → length a ≡ length b → total_degree a ≤ 60000 → rank_from h a < rank_from h b
unfolding rank_from
rises_last h [] [] e l d = absurd (grind arith)
rises_last h [] (y ∷ b) e l d = absurd (omega arith)
rises_last h (x ∷ a) [] e l d = absurd (omega arith)
rises_last h (x ∷ a) (y ∷ b) e l d = go (cmp_last a b) refl e (λ p. rises_last h a b p (omega arith) (omega arith))
  where
    go : (r : Ordering) → cmp_last a b ≡ r → ordering_then r (nat_cmp y x) ≡ Less → (cmp_last a b ≡ Less → rank_from h a < rank_from h b)
        → rank_from h a * 65536 + (65535 - x) < rank_from h b * 65536 + (65535 - y)
    go Less p q ih = let i = ih p in omega arith
    go Equal p q ih = let s : y < x = ranked y x Less (sym q) in let t : rank_from h a ≡ rank_from h b = ap (rank_from h) (same_last a b p) in omega arith
    go Greater p q ih = absurd (grind arith)

pub rank_rises : (m w : Monomial) → IsMono m → IsMono w → cmp_dp m w ≡ Less → rank m < rank w
unfolding rank
rank_rises m w hm hw e = by_component (nat_cmp w.component m.component) refl e
  where
    same_length : length m.exponents ≡ length w.exponents
    same_length = hm.seven ∙ sym hw.seven

    by_degree : w.component ≡ m.component → (r : Ordering) → nat_cmp (total_degree m.exponents) (total_degree w.exponents) ≡ r
        → ordering_then r (cmp_last m.exponents w.exponents) ≡ Less → rank m < rank w
    by_degree c Less p q =
        let d : total_degree m.exponents < total_degree w.exponents = ranked (total_degree m.exponents) (total_degree w.exponents) Less (sym p) in
        rises m.exponents w.exponents ((1 - m.component) * 65536 + total_degree m.exponents) ((1 - w.component) * 65536 + total_degree w.exponents) (rw c (omega arith)) same_length
    by_degree c Equal p q =
        let d : total_degree m.exponents ≡ total_degree w.exponents = ranked (total_degree m.exponents) (total_degree w.exponents) Equal (sym p) in
        subst (λ k. rank_from ((1 - m.component) * 65536 + total_degree m.exponents) m.exponents < rank_from k w.exponents) (λ i. (1 - sym c i) * 65536 + d i)
        (rises_last ((1 - m.component) * 65536 + total_degree m.exponents) m.exponents w.exponents q same_length hm.bounded)
    by_degree c Greater p q = absurd (grind arith)

    by_component : (r : Ordering) → nat_cmp w.component m.component ≡ r
        → ordering_then r (ordering_then (nat_cmp (total_degree m.exponents) (total_degree w.exponents)) (cmp_last m.exponents w.exponents)) ≡ Less → rank m < rank w
    by_component Less p q =
        let c : w.component < m.component = ranked w.component m.component Less (sym p) in
        let one = hm.one_of_two in
        let bound = hm.bounded in
        let z : w.component ≡ 0 = omega arith in
        let o : m.component ≡ 1 = omega arith in
        rises m.exponents w.exponents ((1 - m.component) * 65536 + total_degree m.exponents) ((1 - w.component) * 65536 + total_degree w.exponents) (rw (z, o) (omega arith)) same_length
    by_component Equal p q = by_degree (ranked w.component m.component Equal (sym p)) (nat_cmp (total_degree m.exponents) (total_degree w.exponents)) refl q
    by_component Greater p q = absurd (grind arith)
