-- What is said of a ring of fractions, along two properties that agree.
use Rattle.std.proofs.Common.{◌↔◌, ℕ, List, [], get_or, All}
use Rattle.std.proofs.lemmas.List.Elements.{All-from_get_or}
use Rattle.polys.specs.declared.term.Term.{Term}
use Rattle.polys.specs.Curve.{CurveData}
use Rattle.curve_model.specs.Fraction.{Fraction, IsFraction, over}
use Rattle.curve_model.specs.Laws.{ArePolys, power_of}
use Rattle.curve_model.specs.Rings.{IsProduct, no_product, one_more, InRadical}
use Rattle.finite_algebra.specs.Elements.{FiniteAlgebra}
use Rattle.quotient_laws.specs.Quotients.{HasQuotientProducts, IsQuotientAt}
use Rattle.quotient_laws.specs.ProductRows.{SpanNumerators}

module _ (A : CurveData) (P : List (List Term)) (B W : Fraction → Type 0) (same : (f : Fraction) → IsFraction A f → B f ↔ W f) where
  pub product_moved : (f : Fraction) → IsProduct A P B f → IsProduct A P W f
  product_moved _ (no_product f h z) = no_product f h z
  product_moved _ (one_more f b g q hf hb hg cq bb hy z) = one_more f b g q hf hb hg cq ((same b hb).0 bb) (product_moved g hy) z

  pub radical_moved : (f : Fraction) → IsFraction A f → InRadical A P B f → InRadical A P W f
  radical_moved f h r = ((same f h).0 r.0, (r.1.0, product_moved (power_of A f r.1.0) r.1.1))

  members_moved : (k : ℕ) (us : List (List Term)) → ArePolys A us → All (λ u. B (over u k)) us → All (λ u. W (over u k)) us
  members_moved k us h b = All-from_get_or (λ u. W (over u k)) us [] (λ i m. (same (over (get_or us i []) k) (h i [] m)).0 (b i [] m))

  pub span_moved : (k : ℕ) (vs : List (List Term)) → SpanNumerators A k B vs → SpanNumerators A k W vs
  span_moved k vs s = record {
    polys = s.polys;
    members = members_moved k vs s.polys s.members;
    spans = λ f hf w. s.spans f hf ((same f hf).1 w);
  }

module _ (A : CurveData) (P : List (List Term)) (B W : Fraction → Type 0) (same : (f : Fraction) → IsFraction A f → B f ↔ W f) where
  back : (f : Fraction) → IsFraction A f → W f ↔ B f
  back f h = ((same f h).1, (same f h).0)

  pub products_moved : (k : ℕ) (a : FiniteAlgebra) (us : List (List Term)) → HasQuotientProducts A P k B a us → HasQuotientProducts A P k W a us
  products_moved k a us q = record {
    prime = q.prime;
    count = q.count;
    squares = q.squares;
    rows = q.rows;
    unit = q.unit;
    polys = q.polys;
    members = members_moved A P B W same k us q.polys q.members;
    onto = λ f hf w. let x = q.onto f hf ((same f hf).1 w) in (x.0, x.1, product_moved A P B W same _ x.2);
    zero = λ x hx z. q.zero x hx (product_moved A P W B back _ z);
    one = product_moved A P B W same _ q.one;
    products = λ i j li lj. product_moved A P B W same _ (q.products i j li lj);
  }

  pub quotient_moved : (k : ℕ) (a : FiniteAlgebra) (us : List (List Term)) → IsQuotientAt A P k B a us → IsQuotientAt A P k W a us
  quotient_moved k a us q = record {
    prime = q.prime;
    count = q.count;
    polys = q.polys;
    members = members_moved A P B W same k us q.polys q.members;
    onto = λ f hf w. let x = q.onto f hf ((same f hf).1 w) in (x.0, x.1, product_moved A P B W same _ x.2);
    zero = λ x hx z. q.zero x hx (product_moved A P W B back _ z);
    one = product_moved A P B W same _ q.one;
    product = λ x y hx hy. product_moved A P B W same _ (q.product x y hx hy);
  }
