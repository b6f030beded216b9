use Rattle.std.proofs.Common.{◌≡◌, ◌<◌, ◌≤◌, [], ◌++◌, length, drop, refl, sym, ap, ◌∙◌, subst, arith, append-nil, append_assoc}
use Rattle.std.specs.Prelude.{Result, Ok, Err, IfErr, IsErrAnd}
use Rattle.std.specs.List.{All}
use Rattle.std.proofs.Math.ListN.{drop_of_length-le}
use Rattle.std.proofs.lemmas.List.Elements.{All-nil, All-append}
use Rattle.polys.specs.Poly.{terms_of}
use Rattle.module_basis.specs.declared.gens.BasisStop.{BasisStop}
use Rattle.module_basis.specs.declared.gens.BasisStop.TheVariants.{Deep}
use Rattle.module_basis.specs.declared.pairs.Pair.{Pair}
use Rattle.module_basis.specs.Growing.{IsParted, IsSettledPairOf, AreAwaited, HasHighLeads}
use Rattle.module_division.proofs.Lists.{contains_more}
use Rattle.module_basis.proofs.Advancing.{begins, gone_on, one_settled, pairs_still}
use Rattle.module_basis.proofs.growing.Growing.settle_pairs.Goals as goal

pub loop-k-init : goal.loop-k-init
loop-k-init c =
    let gens = c.args.gens.now in
    let old = c.args.self.now in
    let bs = terms_of old.basis.items in
    let r = c.requires.ready in
    let due = c.in_ok-due.field-0.due.items in
    let later = c.in_ok-due.field-0.later.items in
    let b = begins gens c.args.e old due later r (subst (λ ps. IsParted c.args.e ps due later) c.deref.ensures.value c.in_ok-due.ensures) in
    record {
      growing = record { primes = r.growing.primes; grown = r.growing.grown; pairs = b.later_pairs };
      cap = refl;
      vectors = ([], sym (append-nil old.basis.items));
      late = b.late;
      pairs = b.pairs;
      settled = All-nil (IsSettledPairOf gens bs);
      awaited = b.awaited;
    }

pub loop-k-preserved : goal.loop-k-preserved
loop-k-preserved c =
    let gens = c.args.gens.now in
    let now = c.loop-k.self in
    let new = c.settle.new.self in
    let g = c.in_ok-settle.ensures.gains in
    let inv = c.loop-k.invariant in
    let due = c.in_ok-due.field-0.due.items in
    let q = c.index.result.now in
    let l = c.len-k-end.ensures in
    let inside : c.loop-k.k < length due = omega arith in
    record {
      growing = c.in_ok-settle.ensures.growing;
      cap = g.cap ∙ inv.cap;
      vectors = (inv.vectors.0 ++ g.more, g.vectors ∙ ap (λ xs. xs ++ g.more) inv.vectors.1 ∙ append_assoc c.args.self.now.basis.items inv.vectors.0 g.more);
      late = subst (All (λ (q : Pair). c.args.e < q.degree)) (sym g.pairs) (All-append (λ (q : Pair). c.args.e < q.degree) now.pairs.items g.more_pairs inv.late g.late);
      pairs = pairs_still gens c.args.e now new due g inv.pairs;
      settled = one_settled gens c.args.e c.loop-k.k now new due q inside c.index.ensures g inv.pairs inv.settled c.in_ok-settle.ensures.settled;
      awaited = gone_on gens c.args.e c.args.self.now.cap c.loop-k.k now new due q inside c.index.ensures inv.cap inv.awaited g c.in_ok-settle.ensures.settled;
    }

pub returns-clause-vectors : goal.returns-clause-vectors
returns-clause-vectors c b h =
    contains_more c.args.self.now.basis.items c.loop-k.self.basis.items c.loop-k.invariant.vectors.0 c.loop-k.invariant.vectors.1 b h

-- the error that is passed on
passed_on : {T : Type 0} (r : Result T BasisStop) (stop : BasisStop) (P : Type 0) → IsErrAnd r (λ e. e ≡ stop) → (stop ≡ Deep → P) → IfErr r (λ e. e ≡ Deep → P)
passed_on (Ok x) stop P h d = tt
passed_on (Err e) stop P h d = λ q. d (sym h ∙ q)

pub returns-clause-awaited : goal.returns-clause-awaited
returns-clause-awaited c =
    let due = c.in_ok-due.field-0.due.items in
    let l = c.len-k-end.ensures in
    let done : length due ≤ c.loop-k.k = omega arith in
    let none : c.loop-k.self.pairs.items ++ drop c.loop-k.k due ≡ c.loop-k.self.pairs.items =
    ap (λ ps. c.loop-k.self.pairs.items ++ ps) (drop_of_length-le due done) ∙ append-nil c.loop-k.self.pairs.items in
    subst (λ ps. AreAwaited c.args.gens.now c.args.self.now.cap (terms_of c.loop-k.self.basis.items) ps (length c.loop-k.self.basis.items)) none c.loop-k.invariant.awaited

pub returns-in_err-settle-clause-deep : goal.returns-in_err-settle-clause-deep
returns-in_err-settle-clause-deep c =
    passed_on c.from_residual-in_err-settle.result c.in_err-settle.field-0.0 (HasHighLeads c.args.gens.now c.args.self.now.cap) c.from_residual-in_err-settle.ensures.1
    (λ q. subst (λ n. HasHighLeads c.args.gens.now n) c.loop-k.invariant.cap (c.in_err-settle.ensures.deep q))
