use Rattle.std.proofs.Common.{◌≡◌, ℕ, ◌+◌, ◌-◌, ◌<◌, ◌≤◌, List, [], ◌∷◌, length, get_or, take, drop, ◌++◌, arith, sym, ap, ◌∙◌, subst}
use Rattle.std.proofs.lemmas.List.{take_rest}
use Rattle.prime_field.specs.Primes.{IsPrime}
use Rattle.monomials.specs.Mono.{total_degree}
use Rattle.polys.specs.declared.term.Term.{Term}
use Rattle.polys.specs.Terms.{add, mul, degree_of}
use Rattle.polys.specs.Poly.{Polynomial, IsVector, terms_of}
use Rattle.polys.proofs.Merge.{left_at}
use Rattle.module_division.proofs.Rank.{first_rank}
use Rattle.module_division.proofs.Steps.{Divided, divided_keep, divided_after, taken_after, opposes, Opposes, left_vector, rank_falls, rank_falls_on}
use Rattle.module_division.proofs.division.vector_remainder.Goals as goal
use Rattle.module_division.proofs.division.vector_remainder.Goals.{After-quotient, After-swap}

-- what is left begins with the monomial that is looked at
left_is : (rest : List Term) (i : ℕ) (t : Term) (p : ℕ) (bs : List (List Term)) (v out : List Term) → i < length rest → t ≡ get_or rest i t
    → Divided p bs v out (drop i rest) → IsVector p (t ∷ drop (i + 1) rest)
left_is rest i t p bs v out h e d = left_vector p out (t ∷ drop (i + 1) rest) (subst (λ r. IsVector p (out ++ r)) (left_at rest i t h e) d.vector)

pub loop-i-smaller-in-None : goal.loop-i-smaller-in-None
loop-i-smaller-in-None c =
    let R = c.loop-i.rest.items in
    let i = c.loop-i.i in
    let t = c.index.result.now in
    let q : drop i R ≡ t ∷ drop (i + 1) R = left_at R i t (omega (arith, c.len.ensures)) c.index.ensures in
    subst (λ r. first_rank (drop (i + 1) R) < first_rank r) (sym q)
    (rank_falls_on c.args.p t (drop (i + 1) R) (left_is R i t c.args.p (terms_of c.args.divisors.now) c.args.v.items c.loop-i.out.items (omega (arith, c.len.ensures)) c.index.ensures c.loop-i.invariant))

pub loop-i-preserved-in-None : goal.loop-i-preserved-in-None
loop-i-preserved-in-None c =
    let R = c.loop-i.rest.items in
    let i = c.loop-i.i in
    let t = c.index.result.now in
    let bs = terms_of c.args.divisors.now in
    let q : drop i R ≡ t ∷ drop (i + 1) R = left_at R i t (omega (arith, c.len.ensures)) c.index.ensures in
    rw c.in_ok-push-in-None.ensures.items
    (divided_keep c.args.p bs c.args.v.items c.loop-i.out.items (drop (i + 1) R) t c.in-None.ensures
    (subst (Divided c.args.p bs c.args.v.items c.loop-i.out.items) q c.loop-i.invariant))

pub neg-requires : goal.neg-requires
neg-requires c =
    (left_is c.loop-i.rest.items c.loop-i.i c.index.result.now c.args.p (terms_of c.args.divisors.now) c.args.v.items c.loop-i.out.items (omega (arith, c.len.ensures)) c.index.ensures c.loop-i.invariant).canonical.1

pub add_multiple-requires-clause-left : goal.add_multiple-requires-clause-left
add_multiple-requires-clause-left c =
    rw (c.deref-in-Some.ensures.value, take_rest) (left_vector c.args.p c.loop-i.out.items (drop c.loop-i.i c.loop-i.rest.items) c.loop-i.invariant.vector)

-- the place in what is left, and the multiple that takes its monomial away
record IsAt (p : ℕ) (fs : List Polynomial) (b : Polynomial) (R : List Term) (i : ℕ) (t s : Term) : Type 0 where
  split : drop i R ≡ t ∷ drop (i + 1) R
  vector : IsVector p (t ∷ drop (i + 1) R)
  opposes : Opposes p (terms_of fs) b.terms s t

at_step : (c : After-quotient)
    → IsAt c.args.p c.args.divisors.now c.index-divisors-k.result c.loop-i.rest.items c.loop-i.i c.index.result.now (record { coeff = c.neg.result; mono = c.quotient.result })
at_step c =
    let p = c.args.p in
    let fs = c.args.divisors.now in
    let R = c.loop-i.rest.items in
    let i = c.loop-i.i in
    let t = c.index.result.now in
    let b = c.index-divisors-k.result in
    let h : i < length R = omega (arith, c.len.ensures) in
    let v : IsVector p (t ∷ drop (i + 1) R) = left_is R i t p (terms_of fs) c.args.v.items c.loop-i.out.items h c.index.ensures c.loop-i.invariant in
    record {
      split = left_at R i t h c.index.ensures;
      vector = v;
      opposes = opposes p fs c.in-Some.k b t (drop (i + 1) R) c.quotient.result c.neg.result c.in-Some.ensures.0 c.index-divisors-k.is c.requires.divisors v c.in-Some.ensures.1 c.quotient.ensures.known
          (rw c.lead_mono.ensures at c.quotient.ensures.value) c.neg.ensures.opposite;
    }

-- what is left then
next_is : (c : After-swap) → drop c.loop-i.i c.loop-i.rest.items ≡ c.index.result.now ∷ drop (c.loop-i.i + 1) c.loop-i.rest.items
    → c.swap.new.x.items ≡ add c.args.p (c.index.result.now ∷ drop (c.loop-i.i + 1) c.loop-i.rest.items) (mul c.args.p c.index-divisors-k.result.terms (record { coeff = c.neg.result; mono = c.quotient.result } ∷ []))
next_is c q =
    let p = c.args.p in
    let i = c.loop-i.i in
    let D = c.deref-in-Some.result.now in
    let rest = c.index.result.now ∷ drop (i + 1) c.loop-i.rest.items in
    let slice : take (length D - i) (drop i D) ≡ rest = rw (c.deref-in-Some.ensures.value, take_rest) q in
    ap (λ w. w.items) c.swap.ensures.x_after ∙ c.in_ok-add_multiple-in-Some.ensures.value
    ∙ (λ k. add p (slice k) (mul p (c.terms.ensures.value k) (record { coeff = c.neg.result; mono = c.quotient.result } ∷ [])))

pub add_multiple-requires-clause-not_zero : goal.add_multiple-requires-clause-not_zero
add_multiple-requires-clause-not_zero c = (at_step (goal.at.add_multiple-requires-clause-not_zero c).After-quotient).opposes.not_zero

pub add_multiple-requires-clause-room : goal.add_multiple-requires-clause-room
add_multiple-requires-clause-room c =
    subst (λ f. degree_of f + total_degree c.quotient.result.exponents ≤ 60000) (sym c.terms.ensures.value)
    (at_step (goal.at.add_multiple-requires-clause-room c).After-quotient).opposes.room

pub loop-i-smaller : goal.loop-i-smaller
loop-i-smaller c =
    let p = c.args.p in
    let bs = terms_of c.args.divisors.now in
    let R = drop (c.loop-i.i + 1) c.loop-i.rest.items in
    let t = c.index.result.now in
    let b = c.index-divisors-k.result in
    let s : Term = record { coeff = c.neg.result; mono = c.quotient.result } in
    let at = at_step (goal.at.loop-i-smaller c).After-quotient in
    subst (λ r. first_rank c.swap.new.x.items < first_rank r) (sym at.split)
    (subst (λ r. first_rank r < first_rank (t ∷ R)) (sym (next_is (goal.at.loop-i-smaller c).After-swap at.split))
    (rank_falls p t R (add p (t ∷ R) (mul p b.terms (s ∷ []))) at.vector
    (taken_after p bs b.terms s t R (subst IsPrime c.get-prime.ensures.value c.get-prime.ensures.prime) at.opposes at.vector)))

pub loop-i-preserved : goal.loop-i-preserved
loop-i-preserved c =
    let p = c.args.p in
    let bs = terms_of c.args.divisors.now in
    let D = Divided p bs c.args.v.items c.loop-i.out.items in
    let at = at_step (goal.at.loop-i-preserved c).After-quotient in
    subst D (sym (next_is (goal.at.loop-i-preserved c).After-swap at.split))
    (divided_after p bs c.index-divisors-k.result.terms (record { coeff = c.neg.result; mono = c.quotient.result }) c.index.result.now (drop (c.loop-i.i + 1) c.loop-i.rest.items)
    c.args.v.items c.loop-i.out.items (subst IsPrime c.get-prime.ensures.value c.get-prime.ensures.prime) at.opposes at.vector (subst D at.split c.loop-i.invariant))
