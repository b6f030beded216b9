use Rattle.std.proofs.Common.{◌≡◌, ◌≤◌, refl, arith, ◌++◌}
use Rattle.std.specs.Prelude.{codes}
use Rattle.std.specs.List.{flat_map}
use Rattle.norm_text.specs.Answer.{point_line}
use Rattle.norm_text.specs.Shown.{data_of}
use Rattle.norm_text.proofs.Told.{failed, number_read}
use Rattle.norm_text.proofs.Whole.{whole_text, behind_points, ready, power_read}
use Rattle.norm_text.proofs.reading.read_lines.Goals as goal

pub returns-in_err-prime-clause-exact : goal.returns-in_err-prime-clause-exact
returns-in_err-prime-clause-exact c a h text =
    let head = c.head_of-head.ensures a (flat_map (point_line a.prime a.letters) a.points ++ behind_points a.prime a.letters a) h (whole_text a c.args.bytes.now text) in
    failed c.from_residual.result c.in_err-prime.field-0.0 (λ answer. data_of answer ≡ a) c.from_residual.ensures (c.in_err-prime.ensures.exact a.prime h.prime head.characteristic)

pub returns-in_err-letters-clause-exact : goal.returns-in_err-letters-clause-exact
returns-in_err-letters-clause-exact c a h text =
    let head = c.head_of-head.ensures a (flat_map (point_line a.prime a.letters) a.points ++ behind_points a.prime a.letters a) h (whole_text a c.args.bytes.now text) in
    failed c.from_residual-in_err-letters.result c.in_err-letters.field-0.0 (λ answer. data_of answer ≡ a) c.from_residual-in_err-letters.ensures (c.in_err-letters.ensures.exact a.letters h.letters head.variables)

pub returns-in_err-denominator-clause-exact : goal.returns-in_err-denominator-clause-exact
returns-in_err-denominator-clause-exact c a h text =
    let head = c.head_of-head.ensures a (flat_map (point_line a.prime a.letters) a.points ++ behind_points a.prime a.letters a) h (whole_text a c.args.bytes.now text) in
    let prime = c.in_ok-prime.ensures.exact a.prime h.prime head.characteristic in
    let letters = c.in_ok-letters.ensures.exact a.letters h.letters head.variables in
    let r = ready a h c.head_of-head.result.denominator.now c.head_of-head.result.rest.now c.in_ok-prime.prime c.in_ok-letters.letters prime letters head.denominator head.rest in
    failed c.from_residual-in_err-denominator.result c.in_err-denominator.field-0.0 (λ answer. data_of answer ≡ a) c.from_residual-in_err-denominator.ensures (c.in_err-denominator.ensures.exact a.denominator r.fits r.text)

pub returns-in_err-points-clause-exact : goal.returns-in_err-points-clause-exact
returns-in_err-points-clause-exact c a h text =
    let head = c.head_of-head.ensures a (flat_map (point_line a.prime a.letters) a.points ++ behind_points a.prime a.letters a) h (whole_text a c.args.bytes.now text) in
    let prime = c.in_ok-prime.ensures.exact a.prime h.prime head.characteristic in
    let letters = c.in_ok-letters.ensures.exact a.letters h.letters head.variables in
    let r = ready a h c.head_of-head.result.denominator.now c.head_of-head.result.rest.now c.in_ok-prime.prime c.in_ok-letters.letters prime letters head.denominator head.rest in
    failed c.from_residual-in_err-points.result c.in_err-points.field-0.0 (λ answer. data_of answer ≡ a) c.from_residual-in_err-points.ensures (c.in_err-points.ensures.exact r.ground a.points (behind_points c.in_ok-prime.prime c.in_ok-letters.letters a) r.points h.sizes.few refl r.lines)

pub returns-in_err-numerators-clause-exact : goal.returns-in_err-numerators-clause-exact
returns-in_err-numerators-clause-exact c a h text =
    let head = c.head_of-head.ensures a (flat_map (point_line a.prime a.letters) a.points ++ behind_points a.prime a.letters a) h (whole_text a c.args.bytes.now text) in
    let prime = c.in_ok-prime.ensures.exact a.prime h.prime head.characteristic in
    let letters = c.in_ok-letters.ensures.exact a.letters h.letters head.variables in
    let r = ready a h c.head_of-head.result.denominator.now c.head_of-head.result.rest.now c.in_ok-prime.prime c.in_ok-letters.letters prime letters head.denominator head.rest in
    let points = c.in_ok-points.ensures.exact r.ground a.points (behind_points c.in_ok-prime.prime c.in_ok-letters.letters a) r.points h.sizes.few refl r.lines in
    let power = power_read a c.in_ok-prime.prime c.in_ok-letters.letters c.in_ok-points.rest.now c.field.result.0.now c.field.result.1.now h.sizes.power points.1
    c.field.ensures.field c.field.ensures.behind in
    failed c.from_residual-in_err-numerators.result c.in_err-numerators.field-0.0 (λ answer. data_of answer ≡ a) c.from_residual-in_err-numerators.ensures (c.in_err-numerators.ensures.exact r.ground a.numerators (codes "end\n") r.numerators refl power.1)

pub returns-clause-exact : goal.returns-clause-exact
returns-clause-exact c a h text =
    let head = c.head_of-head.ensures a (flat_map (point_line a.prime a.letters) a.points ++ behind_points a.prime a.letters a) h (whole_text a c.args.bytes.now text) in
    let prime = c.in_ok-prime.ensures.exact a.prime h.prime head.characteristic in
    let letters = c.in_ok-letters.ensures.exact a.letters h.letters head.variables in
    let r = ready a h c.head_of-head.result.denominator.now c.head_of-head.result.rest.now c.in_ok-prime.prime c.in_ok-letters.letters prime letters head.denominator head.rest in
    let points = c.in_ok-points.ensures.exact r.ground a.points (behind_points c.in_ok-prime.prime c.in_ok-letters.letters a) r.points h.sizes.few refl r.lines in
    let power = power_read a c.in_ok-prime.prime c.in_ok-letters.letters c.in_ok-points.rest.now c.field.result.0.now c.field.result.1.now h.sizes.power points.1
    c.field.ensures.field c.field.ensures.behind in
    let small : a.power ≤ 64 = h.sizes.power in
    let denominator = c.in_ok-denominator.ensures.exact a.denominator r.fits r.text in
    let numerators = c.in_ok-numerators.ensures.exact r.ground a.numerators (codes "end\n") r.numerators refl power.1 in
    let number = number_read c.field.result.0.now a.power c.number.result (omega arith) power.0 c.number.ensures in
    (λ i. record {
      prime = prime i;
      letters = letters i;
      denominator = denominator i;
      dimension = head.dimension i;
      named = head.named i;
      points = points.0 i;
      power = number i;
      numerators = numerators i;
    })
