-- The stated laws.
use Rattle.denominator_module.specs.Laws.{ModuleIsGraded, PartsLaws}
use Rattle.denominator_module.proofs.Colons.{colon_law}
use Rattle.denominator_module.proofs.Firsts.{sum_law}
use Rattle.denominator_module.proofs.Pairs.{module_generators}

pub graded_law : ModuleIsGraded
graded_law p n d gs given = module_generators p n d gs given

pub parts_law : PartsLaws
parts_law = record { sum = λ p n d gs bs given mb. sum_law p n d gs given bs mb; colon = λ p n d gs bs given mb. colon_law p n d gs given bs mb }
