-- Laws of monomials and of their order.
use Rattle.std.specs.Prelude.{◌≡◌, ◌≢◌, ◌↔◌, length}
use Rattle.std.specs.Cmp.{IsTotalOrder}
use Rattle.std.specs.declared.cmp.Ordering.TheVariants.{Less, Equal}
use Rattle.monomials.specs.Mono.{Monomial, times, unit, common_multiple, cmp_dp, Divides}

-- dp is a total order, and only equal monomials tie
pub record DpIsTotal : Type 0 where
  pub order : IsTotalOrder cmp_dp
  pub ties : (a b : Monomial) → cmp_dp a b ≡ Equal → a ≡ b

-- two monomials of one shape
abbrev pub SameLength : Monomial → Monomial → Type 0
SameLength a b = length a.exponents ≡ length b.exponents

-- a factor keeps the order, and no multiple is smaller
pub record ProductsKeepDp : Type 0 where
  pub kept : (a b c : Monomial) → SameLength a b → cmp_dp (times a c) (times b c) ≡ cmp_dp a b
  pub grows : (a c : Monomial) → SameLength a c → c.component ≡ 0 → cmp_dp (times a c) a ≢ Less

-- the products of monomials
pub record Products : Type 0 where
  pub comm : (a b : Monomial) → times a b ≡ times b a
  pub assoc : (a b c : Monomial) → times (times a b) c ≡ times a (times b c)
  pub one : (a : Monomial) → length a.exponents ≡ 7 → times a unit ≡ a
  pub cancel : (a b c : Monomial) → SameLength a b → times a c ≡ times b c → a ≡ b

-- a divides exactly its multiples by monomials of component 0
abbrev pub DividesItsMultiples : Type 0
DividesItsMultiples = (a b : Monomial) → SameLength a b → Divides a b ↔ ((c : Monomial) × SameLength a c × (c.component ≡ 0) × (b ≡ times a c))

-- the least common multiple divides each common multiple and is one
pub record LeastCommonMultiple : Type 0 where
  pub left : (a b : Monomial) → SameLength a b → a.component ≡ b.component → Divides a (common_multiple a b)
  pub right : (a b : Monomial) → SameLength a b → a.component ≡ b.component → Divides b (common_multiple a b)
  pub least : (a b c : Monomial) → SameLength a b → Divides a c → Divides b c → Divides (common_multiple a b) c
