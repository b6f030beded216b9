use Rattle.std.proofs.Common.{sym, ◌∙◌, subst, arith}
use Rattle.prime_field.specs.Primes.{IsPrime}
use Rattle.graded_modules.specs.SVector.{s_vector}
use Rattle.polys.specs.Poly.{terms_of}
use Rattle.module_division.specs.Division.{IsDivisor}
use Rattle.module_basis.specs.Growing.{IsMemberAt, IsBelowAll}
use Rattle.module_division.proofs.Lists.{member_is, count_lists}
use Rattle.module_basis.proofs.Growth.{divisors}
use Rattle.module_basis.proofs.Adding.{nothing_gained, s_member, s_settled}
use Rattle.module_basis.proofs.growing.Growing.settle.Goals as goal

pub returns-then-is_chained-clause-gains : goal.returns-then-is_chained-clause-gains
returns-then-is_chained-clause-gains c = nothing_gained c.args.gens.now c.args.e c.args.self.now

pub s_vector-requires-clause-left : goal.s_vector-requires-clause-left
s_vector-requires-clause-left c =
    let h = c.requires.low in
    let k = c.get-cap.ensures.within in
    let cap = c.get-cap.ensures.value in
    let r = c.requires.pair.rising in
    let i = c.requires.pair.inside in
    let n = count_lists c.args.self.now.basis.items in
    subst (IsDivisor c.args.gens.now.prime) (sym c.index.ensures)
    (divisors c.args.gens.now c.args.e c.args.self.now (omega arith) c.requires.growing c.args.pair.first c.index.result.now (omega arith))

pub s_vector-requires-clause-right : goal.s_vector-requires-clause-right
s_vector-requires-clause-right c =
    let h = c.requires.low in
    let k = c.get-cap.ensures.within in
    let cap = c.get-cap.ensures.value in
    let i = c.requires.pair.inside in
    let n = count_lists c.args.self.now.basis.items in
    subst (IsDivisor c.args.gens.now.prime) (sym c.index-2.ensures)
    (divisors c.args.gens.now c.args.e c.args.self.now (omega arith) c.requires.growing c.args.pair.second c.index-2.result.now (omega arith))

pub take-requires-clause-vector : goal.take-requires-clause-vector
take-requires-clause-vector c =
    let gens = c.args.gens.now in
    let fs = c.args.self.now.basis.items in
    let h = c.requires.low in
    let k = c.get-cap.ensures.within in
    let cap = c.get-cap.ensures.value in
    let r = c.requires.pair.rising in
    let i = c.requires.pair.inside in
    let n = count_lists fs in
    let mi = member_is fs c.args.pair.first c.index.result.now (omega arith) c.index.ensures in
    let mj = member_is fs c.args.pair.second c.index-2.result.now (omega arith) c.index-2.ensures in
    subst (IsMemberAt gens c.args.e)
    (sym (c.into_terms.ensures.value ∙ c.in_ok-s.ensures.value ∙ (λ x. s_vector gens.prime (sym mi x) (sym mj x))))
    (s_member gens c.args.e (omega arith) (subst IsPrime c.get-prime.ensures.value c.get-prime.ensures.prime) c.args.self.now c.requires.growing c.args.pair c.requires.pair c.requires.degree)

pub returns-clause-settled : goal.returns-clause-settled
returns-clause-settled c =
    let gens = c.args.gens.now in
    let fs = c.args.self.now.basis.items in
    let h = c.requires.low in
    let k = c.get-cap.ensures.within in
    let cap = c.get-cap.ensures.value in
    let r = c.requires.pair.rising in
    let i = c.requires.pair.inside in
    let n = count_lists fs in
    let mi = member_is fs c.args.pair.first c.index.result.now (omega arith) c.index.ensures in
    let mj = member_is fs c.args.pair.second c.index-2.result.now (omega arith) c.index-2.ensures in
    let g = c.in_ok-take.ensures.gains in
    s_settled gens c.args.e (omega arith) (subst IsPrime c.get-prime.ensures.value c.get-prime.ensures.prime) c.args.self.now c.requires.growing c.args.pair c.requires.pair c.requires.degree
    c.take.new.self.basis.items g.more g.vectors
    (subst (IsBelowAll gens c.args.e (terms_of c.take.new.self.basis.items))
    (c.into_terms.ensures.value ∙ c.in_ok-s.ensures.value ∙ (λ x. s_vector gens.prime (sym mi x) (sym mj x))) c.in_ok-take.ensures.below)
