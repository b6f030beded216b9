use Rattle.std.proofs.Common.{◌<◌, take, ◌∙◌, arith}
use Rattle.std.proofs.lemmas.List.{get_or-take, length-take}
use Rattle.module_basis.proofs.Tested.{only_first}
use Rattle.basis_timing.proofs.is_graded.Goals as goal

pub returns : goal.returns
returns c = λ _.
    let known = c.degree-degree.ensures.known in
    let a = c.args.m.now.exponents in
    record {
      seven = known.seven;
      first = only_first c.args.variables (take 6 a) (λ k l m.
          let n = length-take 6 a in
          let below : k < 6 = omega arith in
          get_or-take 6 a k 0 below ∙ c.loop-v.invariant k l (let e = c.loop-v-test.false in omega arith));
      two = let o = known.one_of_two in omega arith;
    }
