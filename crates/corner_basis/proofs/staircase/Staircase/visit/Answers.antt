use Rattle.std.proofs.Common.{◌+◌, [], ◌∷◌, ◌++◌, refl, sym, subst, ◌∙◌, arith}
use Rattle.std.specs.Bool.{MatchBool}
use Rattle.polys.specs.declared.curve.Curve.{Curve}
use Rattle.standard_monomials.specs.Finding.{GainsMultiples}
use Rattle.corner_basis.specs.Staircase.{HasDivisor, IsSearch}
use Rattle.corner_basis.specs.Tried.{IsPutLead, IsPutStandard}
use Rattle.corner_basis.proofs.Search.{here, search_lead_found, search_skip, search_standard}
use Rattle.corner_basis.proofs.Tried.{is_new, standard_affine}
use Rattle.corner_basis.proofs.staircase.Staircase.visit.Goals as goal

pub returns-then-has_divisor-clause-search : goal.returns-then-has_divisor-clause-search
returns-then-has_divisor-clause-search c =
    let s = c.args.self.now in
    let m = c.index.result.now in
    search_skip c.args.front.now.digits.now.curve.variables c.args.next c.args.queue.now.items s.standard s.leads c.requires.search c.requires.next m c.index.ensures
    (subst (λ ls. HasDivisor ls m) c.as_slice.ensures (c.if-has_divisor.ensures.0 refl))

pub row_of-requires-clause-affine : goal.row_of-requires-clause-affine
row_of-requires-clause-affine c =
    let s = c.args.self.now in
    let m = c.index.result.now in
    c.requires.search.affine m (here c.args.front.now.digits.now.curve.variables c.args.next c.args.queue.now.items s.standard s.leads c.requires.search c.requires.next m c.index.ensures)

pub row_of-requires-clause-standard : goal.row_of-requires-clause-standard
row_of-requires-clause-standard c = standard_affine c.args.front.now c.requires.front c.entries-entries.ensures.known c.args.self.now c.requires.tried

pub put-requires-clause-new : goal.put-requires-clause-new
put-requires-clause-new c =
    let m = c.index.result.now in
    is_new c.args.front.now c.requires.front c.entries-entries.ensures.known c.args.self.now c.requires.tried c.args.next c.args.queue.now.items m c.requires.search c.requires.next c.index.ensures
    (λ q. let z = c.if-has_divisor.ensures.1 (subst (λ ls. HasDivisor ls m) (sym c.as_slice.ensures) q) in absurd (grind arith))

pub returns-in_ok-insert_multiples-clause-search : goal.returns-in_ok-insert_multiples-clause-search
returns-in_ok-insert_multiples-clause-search c =
    let n = c.args.front.now.digits.now.curve.variables in
    let s = c.args.self.now in
    let t = c.put.new.self in
    let m = c.index.result.now in
    let queue = c.args.queue.now.items in
    let new = c.insert_multiples.new.queue.items in
    let gains = subst (λ (z : Curve). GainsMultiples [] z.variables m queue new) (c.deref.ensures ∙ c.curve.ensures) c.in_ok-insert_multiples.ensures.gains in
    let base = search_standard n c.args.next queue s.standard s.leads c.requires.search c.requires.next m c.index.ensures c.entries-entries.ensures.known.fit.six_variables new gains in
    let put : IsPutStandard m s t = subst (λ b. MatchBool b (IsPutStandard m s t) (IsPutLead m s t)) c.if-branch.true c.in_ok-put.ensures.put in
    subst (λ z. IsSearch n (c.args.next + 1) new z t.leads) (sym put.standard) (subst (IsSearch n (c.args.next + 1) new (s.standard ++ m ∷ [])) (sym put.leads) base)

pub returns-else-branch-clause-search : goal.returns-else-branch-clause-search
returns-else-branch-clause-search c =
    let n = c.args.front.now.digits.now.curve.variables in
    let s = c.args.self.now in
    let t = c.put.new.self in
    let m = c.index.result.now in
    let queue = c.args.queue.now.items in
    let base = search_lead_found n c.args.next queue s.standard s.leads c.requires.search c.requires.next m c.index.ensures in
    let put : IsPutLead m s t = subst (λ b. MatchBool b (IsPutStandard m s t) (IsPutLead m s t)) c.if-branch.false c.in_ok-put.ensures.put in
    subst (λ z. IsSearch n (c.args.next + 1) queue z t.leads) (sym put.standard) (subst (IsSearch n (c.args.next + 1) queue s.standard) (sym put.leads) base)
