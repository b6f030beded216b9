-- lists of exponents place by place: sums, degrees, differences
pub mod Exponents
-- divisors, their factors, and least common multiples
pub mod Factors
-- which of component, degree and last place decides a comparison
pub mod Last
-- dp as a total order that products keep, and the laws of products
pub mod Order
