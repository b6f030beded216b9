use Rattle.std.proofs.Common.{◌≡◌, ℕ, ◌+◌, ◌*◌, ◌/◌, ◌<◌, ◌≤◌, List, arith, refl, sym, ap, ◌∙◌, subst}
use Rattle.std.specs.Prelude.{IfOk}
use Rattle.monomials.specs.Mono.{IsMono}
use Rattle.polys.specs.declared.term.Term.{Term}
use Rattle.polys.specs.Terms.{EachMono, power, degree_of, mul}
use Rattle.polys.specs.Poly.{IsPlain}
use Rattle.polys.proofs.Degrees.{degree_of-power, power_room}
use Rattle.polys.proofs.Units.{plain_power, power_square, power_next}
use Rattle.polys.proofs.Products.{sevens}
use Rattle.polys.proofs.terms.+power_by_squares.Goals as goal

pub product-requires-clause-plain : goal.product-requires-clause-plain
product-requires-clause-plain t c =
    subst (EachMono IsPlain) (sym (c.deref-2.ensures.value ∙ c.in_ok-root.ensures.value)) (plain_power c.args.p c.args.a.now (c.args.n / 2) c.requires.plain)

pub product-requires-clause-room : goal.product-requires-clause-room
product-requires-clause-room t c =
    let p = c.args.p in
    let a = c.args.a.now in
    let h = c.args.n / 2 in
    let e : degree_of c.deref.result.now ≡ degree_of (power p a h) = ap degree_of (c.deref.ensures.value ∙ c.in_ok-root.ensures.value) in
    let f : degree_of c.deref-2.result.now ≡ degree_of (power p a h) = ap degree_of (c.deref-2.ensures.value ∙ c.in_ok-root.ensures.value) in
    let r : degree_of a * (h + h) ≤ 60000 = power_room (degree_of a) (h + h) c.args.n (omega arith) c.requires.room in
    omega (arith, degree_of-power p a h)

square : (p : ℕ) (a r x y z : List Term) (n h m : ℕ) → EachMono IsMono a → 0 < h → m ≡ h + h → r ≡ power p a h → x ≡ r → y ≡ r → z ≡ mul p x y → z ≡ power p a m
square p a r x y z n h m k pos e so ex ey ez =
    ez ∙ (λ i. mul p ((ex ∙ so) i) ((ey ∙ so) i)) ∙ power_square p a h m pos e (sevens a k)

pub returns-then-n-eq0-clause-value : goal.returns-then-n-eq0-clause-value
returns-then-n-eq0-clause-value t c =
    square c.args.p c.args.a.now c.in_ok-root.root.items c.deref.result.now c.deref-2.result.now c.in_ok-square.square.items c.args.n (c.args.n / 2) c.args.n
    c.requires.terms.monos (omega arith) (omega arith) c.in_ok-root.ensures.value c.deref.ensures.value c.deref-2.ensures.value c.in_ok-square.ensures.value

pub product-requires-else-n-eq0-clause-room : goal.product-requires-else-n-eq0-clause-room
product-requires-else-n-eq0-clause-room t c =
    let p = c.args.p in
    let a = c.args.a.now in
    let h = c.args.n / 2 in
    let e = square p a c.in_ok-root.root.items c.deref.result.now c.deref-2.result.now c.in_ok-square.square.items c.args.n h (h + h)
    c.requires.terms.monos (omega arith) refl c.in_ok-root.ensures.value c.deref.ensures.value c.deref-2.ensures.value c.in_ok-square.ensures.value in
    let d : degree_of c.deref-else-n-eq0.result.now ≡ degree_of (power p a (h + h)) = ap degree_of (c.deref-else-n-eq0.ensures.value ∙ e) in
    let r : degree_of a * ((h + h) + 1) ≤ 60000 = power_room (degree_of a) ((h + h) + 1) c.args.n (omega arith) c.requires.room in
    omega (arith, degree_of-power p a (h + h))

pub returns-clause-value : goal.returns-clause-value
returns-clause-value t c =
    let p = c.args.p in
    let a = c.args.a.now in
    let h = c.args.n / 2 in
    let e = square p a c.in_ok-root.root.items c.deref.result.now c.deref-2.result.now c.in_ok-square.square.items c.args.n h (h + h)
    c.requires.terms.monos (omega arith) refl c.in_ok-root.ensures.value c.deref.ensures.value c.deref-2.ensures.value c.in_ok-square.ensures.value in
    let n : c.args.n ≡ (h + h) + 1 = omega arith in
    subst (λ w. IfOk c.product-else-n-eq0.result (λ v. v.items ≡ w)) (ap (λ f. mul p f a) (c.deref-else-n-eq0.ensures.value ∙ e) ∙ power_next p a (h + h) c.args.n n)
    c.product-else-n-eq0.ensures.value
