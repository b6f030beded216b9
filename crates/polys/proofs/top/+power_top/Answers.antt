use Rattle.std.proofs.Common.{◌≡◌, ◌+◌, ◌*◌, ◌/◌, ◌%◌, ◌<◌, ◌≤◌, arith, sym, ap, subst, ◌∙◌}
use Rattle.prime_field.specs.Primes.{IsCharacteristic}
use Rattle.polys.specs.Terms.{power, degree_of}
use Rattle.polys.specs.Top.{Agrees, weight, reach}
use Rattle.polys.proofs.Products.{sevens}
use Rattle.polys.proofs.Frobenius.{power_by_digit}
use Rattle.polys.proofs.Tops.{digit_parts, digits_reach}
use Rattle.polys.proofs.top.+power_top.Goals as goal

pub returns-then-n-modulus-clause-value : goal.returns-then-n-modulus-clause-value
returns-then-n-modulus-clause-value r c =
    let p = c.args.p in
    let a = c.args.a.now in
    let s = c.in_ok-start.start in
    let e : 0 + c.args.n ≡ c.args.n = omega arith in
    subst (λ j. Agrees p c.in_ok-top.top.cut c.in_ok-top.top.terms.items (power p a j)) e
    (c.in_ok-top.ensures.value 0 (λ χ v. ap (λ l. weight χ l % p) c.in_ok-start.ensures.value.1))

pub top_power-requires-clause-room : goal.top_power-requires-clause-room
top_power-requires-clause-room r c =
    let d = degree_of c.args.a.now in
    let s = reach c.in_ok-root.root in
    let h = digits_reach d c.args.n c.args.p c.get-modulus.result s (s * c.args.p) c.get-modulus.ensures.value (let h = c.get-modulus.ensures.range.0 in let v = c.get-modulus.ensures.value in omega (arith, h, v)) c.in_ok-root.ensures.reach (omega arith) in
    let room = c.requires.room in
    omega (arith, h, room)

pub with_factors-requires-2-clause-room : goal.with_factors-requires-2-clause-room
with_factors-requires-2-clause-room r c =
    let d = degree_of c.args.a.now in
    let h = digits_reach d c.args.n c.args.p c.get-modulus.result (reach c.in_ok-root.root) (reach c.in_ok-start-2.start) c.get-modulus.ensures.value (let h = c.get-modulus.ensures.range.0 in let v = c.get-modulus.ensures.value in omega (arith, h, v)) c.in_ok-root.ensures.reach c.in_ok-start-2.ensures.reach in
    let room = c.requires.room in
    omega (arith, h, room)

pub returns-clause-value : goal.returns-clause-value
returns-clause-value r c =
    let p = c.args.p in
    let a = c.args.a.now in
    let v = c.get-modulus.ensures.value in
    let m = c.get-modulus.result in
    let low : p ≤ 47 = (let h = c.if-modulus-gt-SMALL.false in omega (arith, h, v)) in
    let big : 1 < p = (let h = c.get-modulus.ensures.range.0 in omega (arith, h, v)) in
    let table = subst IsCharacteristic v c.get-modulus.ensures.known in
    let q = c.args.n / p in
    let root : Agrees p c.in_ok-root.root.cut c.in_ok-root.root.terms.items (power p a q) = subst (λ d. Agrees p c.in_ok-root.root.cut c.in_ok-root.root.terms.items (power p a (c.args.n / d))) v c.in_ok-root.ensures.value in
    let start : Agrees p c.in_ok-start-2.start.cut c.in_ok-start-2.start.terms.items (power p a (q * p)) =
    subst (λ f. Agrees p c.in_ok-start-2.start.cut c.in_ok-start-2.start.terms.items f) (sym (power_by_digit p q a big table low (sevens a c.requires.terms.monos) c.requires.plain))
    (c.in_ok-start-2.ensures.value (power p a q) root) in
    let e : q * p + c.args.n % m ≡ c.args.n = ap (λ d. q * p + c.args.n % d) v ∙ sym (digit_parts c.args.n p (omega (arith, big))) in
    subst (λ j. Agrees p c.in_ok-top-2.top.cut c.in_ok-top-2.top.terms.items (power p a j)) e (c.in_ok-top-2.ensures.value (q * p) start)

pub returns-clause-reach : goal.returns-clause-reach
returns-clause-reach r c =
    let d = degree_of c.args.a.now in
    let h = digits_reach d c.args.n c.args.p c.get-modulus.result (reach c.in_ok-root.root) (reach c.in_ok-start-2.start) c.get-modulus.ensures.value (let h = c.get-modulus.ensures.range.0 in let v = c.get-modulus.ensures.value in omega (arith, h, v)) c.in_ok-root.ensures.reach c.in_ok-start-2.ensures.reach in
    omega (arith, h, c.in_ok-top-2.ensures.reach)
