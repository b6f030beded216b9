use Rattle.norm_text.proofs.Sizes.{sizes_of, lists_of}
use Rattle.norm_text.proofs.reading.are_sized.Goals as goal

pub returns-then-are_sized_numbers : goal.returns-then-are_sized_numbers
returns-then-are_sized_numbers c = (
  λ yes_lists. sizes_of c.args.answer.now (c.are_sized_numbers.ensures.0 c.if-are_sized_numbers.true) (c.are_sized_lists.ensures.0 yes_lists),
  λ h. c.are_sized_lists.ensures.1 (lists_of c.args.answer.now h),
)
