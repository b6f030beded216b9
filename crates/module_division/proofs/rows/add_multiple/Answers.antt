use Rattle.std.proofs.Common.{◌≡◌, ◌≤◌, ◌<◌, ◌*◌, ◌^◌, ℕ, [], ◌∷◌, ◌++◌, map, take, drop, arith, ap, ◌∙◌}
use Rattle.std.proofs.lemmas.List.{take_all}
use Rattle.polys.specs.declared.term.Term.{Term}
use Rattle.polys.specs.Terms.{add}
use Rattle.polys.proofs.Merge.{coeff_at}
use Rattle.polys.proofs.Products.{degree_at, product_below}
use Rattle.module_division.specs.Rows.{row_terms}
use Rattle.module_division.proofs.RowTerms.{sum_more, products_more, whole_product, add_whole}
use Rattle.module_division.proofs.rows.add_multiple.Goals as goal

pub product-m-requires-clause-room : goal.product-m-requires-clause-room
product-m-requires-clause-room c =
    let low = degree_at c.args.terms.now c.loop-j.j c.index-terms-j.result c.loop-j-test.true c.index-terms-j.is in
    let h = c.requires.room in
    omega arith

-- the product of two residues fits
small : (p : ℕ) (a b q : ℕ) → q ≡ p → q ≤ 32003 → a < p → b < p → a * b < 2 ^ 32
small p a b q e h l m = product_below p a b (omega arith) l m

pub overflow_mul-u : goal.overflow_mul-u
overflow_mul-u c =
    let r = c.get-prime.ensures in
    let h =
    small c.args.p c.index-terms-j.result.coeff c.args.t.now.coeff c.get-prime.result r.value r.range.1
    (coeff_at c.args.p c.args.terms.now c.loop-j.j c.index-terms-j.result c.requires.terms.canonical c.loop-j-test.true c.index-terms-j.is).1 c.requires.residue in
    omega arith

pub add_at-requires-clause-small : goal.add_at-requires-clause-small
add_at-requires-clause-small c =
    let r = c.get-prime.ensures in
    let h =
    small c.args.p c.index-terms-j.result.coeff c.args.t.now.coeff c.get-prime.result r.value r.range.1
    (coeff_at c.args.p c.args.terms.now c.loop-j.j c.index-terms-j.result c.requires.terms.canonical c.loop-j-test.true c.index-terms-j.is).1 c.requires.residue in
    let e = c.from-c.ensures in
    omega arith

pub loop-j-preserved : goal.loop-j-preserved
loop-j-preserved c =
    let p = c.args.p in
    let f = whole_product c.args.t.now in
    let ms = drop c.args.from c.args.columns.now in
    let old = row_terms ms (drop c.args.from c.args.row.now.items) in
    let now = row_terms ms (drop c.args.from c.loop-j.row.items) in
    let new = row_terms ms (drop c.args.from c.add_at.new.row.items) in
    let j = c.loop-j.j in
    let x : Term = record { coeff = c.from-c.result; mono = c.product-m.result } in
    let e : x ≡ f c.index-terms-j.result = λ i. record { coeff = c.from-c.ensures i; mono = c.product-m.ensures.value i } in
    record {
      same_length = c.add_at.ensures.same_length ∙ c.loop-j.invariant.same_length;
      entries = c.add_at.ensures.entries;
      sum =
          sum_more p now old (map f (take j c.args.terms.now)) x new c.loop-j.invariant.sum (c.add_at.ensures.sum c.if-not-add_at.false)
          ∙ ap (add p old) (ap (λ y. map f (take j c.args.terms.now) ++ y ∷ []) e ∙ products_more f c.args.terms.now j c.index-terms-j.result c.loop-j-test.true c.index-terms-j.is);
    }

pub returns-clause-sum : goal.returns-clause-sum
returns-clause-sum c = λ _.
    let p = c.args.p in
    let old = row_terms (drop c.args.from c.args.columns.now) (drop c.args.from c.args.row.now.items) in
    c.loop-j.invariant.sum ∙ ap (λ b. add p old (map (whole_product c.args.t.now) b)) (take_all c.loop-j.j c.args.terms.now c.loop-j-test.false) ∙ add_whole p c.args.t.now old c.args.terms.now
