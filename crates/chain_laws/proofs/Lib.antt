-- the chain of rings of local fractions
pub mod ChainLaws
-- fractions over one power of d
pub mod OneExponent
-- the steps of a chain of rings of local fractions, and of a sum of parts
pub mod StepLaws
-- of independent local fractions any smaller number are independent
pub mod FewerLaws
-- the deltas of points bound the powers of the fractions that are local there
pub mod ClosureBound
