-- The ring of the numbers modulo p, and identities between remainders.
use Rattle.std.proofs.Common.{◌≡◌, ℕ, zero, suc, refl, ap, ap₂, ◌+◌, ◌*◌, ◌-◌, ◌%◌, ◌<◌, ◌≤◌, sym, ◌∙◌, List, arith, mod-lt, mod-eq_of_lt, mul_assoc, mul_comm, mul-add, add_assoc, add_comm}
use native.Mathlib.Nat.{add-mod, mod-add-mod, add-mod-mod, mod_self, mod-mod}
use Rattle.std.proofs.lemmas.Nat.{mul-mod, mul-mod_first, mul-mod_second}
use lib.Dec.{T, eqb}
use Rattle.comm_ring.specs.Ring.{IsCommRing, CommRing, number}
use Rattle.comm_ring.specs.Residues.{residue_ops}
use Rattle.comm_ring.proofs.Derived as Derived
use Rattle.comm_ring.proofs.Solver.{agree, value}
use Rattle.comm_ring.proofs.Solver.Expression.{num, add, mul, opp}
use Rattle.comm_ring.proofs.Quote.{Quoted, Sides, quote, ring, ring_by, fact}

module _ (p : ℕ) where
  add_same : (x x' y y' : ℕ) → x % p ≡ x' % p → y % p ≡ y' % p → (x + y) % p ≡ (x' + y') % p
  add_same x x' y y' e f = add-mod x y p ∙ ap₂ (λ a b. (a + b) % p) e f ∙ sym (add-mod x' y' p)

  mul_same : (x x' y y' : ℕ) → x % p ≡ x' % p → y % p ≡ y' % p → (x * y) % p ≡ (x' * y') % p
  mul_same x x' y y' e f = mul-mod x y p ∙ ap₂ (λ a b. (a * b) % p) e f ∙ sym (mul-mod x' y' p)

  -- a remainder of equal numbers modulo p
  both : (m n : ℕ) → m % p ≡ n % p → (m % p) % p ≡ (n % p) % p
  both m n e = ap (λ z. z % p) e

  once : (m n : ℕ) → m % p ≡ n % p → (m % p) % p ≡ n % p
  once m n e = mod-mod m p ∙ e

  negative : (x : ℕ) → 0 < p → (x + (p - x % p) % p) % p ≡ 0 % p
  negative x positive =
      let b : x % p < p = mod-lt x positive in
      let e : x % p + (p - x % p) ≡ p = omega arith in
      add-mod-mod x (p - x % p) p ∙ sym (mod-add-mod x p (p - x % p)) ∙ ap (λ n. n % p) e ∙ mod_self p ∙ sym (mod-eq_of_lt positive)

  -- the numbers modulo p obey the laws of a ring
  pub residue_laws : 0 < p → IsCommRing (residue_ops p)
  residue_laws positive = record {
    rfl = λ x. refl;
    symm = λ {x} {y} e. sym e;
    trans = λ {x} {y} {z} e f. e ∙ f;
    add_cong = λ {x} {x'} {y} {y'} e f. both (x + y) (x' + y') (add_same x x' y y' e f);
    mul_cong = λ {x} {x'} {y} {y'} e f. both (x * y) (x' * y') (mul_same x x' y y' e f);
    neg_cong = λ {x} {x'} e. ap (λ z. ((p - z) % p) % p) e;
    add_assoc = λ x y z. both ((x + y) % p + z) (x + (y + z) % p) (mod-add-mod (x + y) p z ∙ ap (λ n. n % p) (add_assoc x y z) ∙ sym (add-mod-mod x (y + z) p));
    add_comm = λ x y. both (x + y) (y + x) (ap (λ n. n % p) (add_comm x y));
    add_zero = λ x. once (x + 0) x (ap (λ n. n % p) (omega arith));
    add_neg = λ x. once (x + (p - x % p) % p) 0 (negative x positive);
    mul_assoc = λ x y z. both ((x * y) % p * z) (x * ((y * z) % p)) (mul-mod_first (x * y) z p ∙ ap (λ n. n % p) (mul_assoc x y z) ∙ sym (mul-mod_second x (y * z) p));
    mul_comm = λ x y. both (x * y) (y * x) (ap (λ n. n % p) (mul_comm x y));
    mul_one = λ x. once (x * 1) x (ap (λ n. n % p) (omega arith));
    distrib = λ x y z. both (x * ((y + z) % p)) ((x * y) % p + (x * z) % p) (mul-mod_second x (y + z) p ∙ ap (λ n. n % p) (mul-add x y z) ∙ add-mod (x * y) (x * z) p);
  }

  -- the ring of the numbers modulo p
  abbrev pub residues : 0 < p → CommRing
  residues positive = record { ops = residue_ops p; laws = residue_laws positive }

-- an equation between remainders: `+`, `*`, `%`, `-` and numerals of ℕ are quoted too
module _ (p : ℕ) (positive : 0 < p) where
  -- numerals, sums, products and differences, read modulo p
  pub number-is : (n : ℕ) → number (residue_ops p) n % p ≡ n % p
  unfolding number
  number-is zero = refl
  number-is (suc n) = mod-mod (1 + number (residue_ops p) n) p ∙ add_same p 1 1 (number (residue_ops p) n) n refl (number-is n) ∙ ap (λ z. z % p) (omega arith)

  pub sum-is : (x m y n : ℕ) → x % p ≡ m % p → y % p ≡ n % p → ((x + y) % p) % p ≡ (m + n) % p
  sum-is x m y n e f = mod-mod (x + y) p ∙ add_same p x m y n e f

  pub product-is : (x m y n : ℕ) → x % p ≡ m % p → y % p ≡ n % p → ((x * y) % p) % p ≡ (m * n) % p
  product-is x m y n e f = mod-mod (x * y) p ∙ mul_same p x m y n e f

  pub difference-is : (x m y n : ℕ) → n ≤ m → x % p ≡ m % p → y % p ≡ n % p → ((x + (p - y % p) % p) % p) % p ≡ (m - n) % p
  difference-is x m y n h e f = Derived.sub_of_sum (residues p positive) x y m n (m - n) e f
      (let k : m ≡ (m - n) + n = omega arith in sym (mod-mod m p) ∙ ap (λ z. (z % p) % p) k ∙ refl)

  abbrev pub m_add : {vars : List ℕ} (m n : ℕ) → Quoted (residues p positive) vars m → Quoted (residues p positive) vars n → Quoted (residues p positive) vars (m + n)
  m_add {vars = vars} m n a b = record { expression = add a.expression b.expression; is = sum-is (value (residues p positive) vars a.expression) m (value (residues p positive) vars b.expression) n a.is b.is }

  abbrev pub m_mul : {vars : List ℕ} (m n : ℕ) → Quoted (residues p positive) vars m → Quoted (residues p positive) vars n → Quoted (residues p positive) vars (m * n)
  m_mul {vars = vars} m n a b = record { expression = mul a.expression b.expression; is = product-is (value (residues p positive) vars a.expression) m (value (residues p positive) vars b.expression) n a.is b.is }

  abbrev pub m_sub : {vars : List ℕ} (m n : ℕ) → n ≤ m → Quoted (residues p positive) vars m → Quoted (residues p positive) vars n → Quoted (residues p positive) vars (m - n)
  m_sub {vars = vars} m n h a b = record { expression = add a.expression (opp b.expression); is = difference-is (value (residues p positive) vars a.expression) m (value (residues p positive) vars b.expression) n h a.is b.is }

  abbrev pub m_mod : {vars : List ℕ} (m : ℕ) → Quoted (residues p positive) vars m → Quoted (residues p positive) vars (m % p)
  m_mod m a = record { expression = a.expression; is = a.is ∙ sym (mod-mod m p) }

  abbrev pub m_self : {vars : List ℕ} → Quoted (residues p positive) vars p
  m_self = record { expression = num 0; is = number-is 0 ∙ (mod-eq_of_lt positive ∙ sym (mod_self p)) }

  abbrev pub m_number : {vars : List ℕ} (n : ℕ) → T (eqb n n) → Quoted (residues p positive) vars n
  m_number n t = record { expression = num n; is = number-is n }

  -- both sides have one normal form modulo p; vars are the atoms
  pub mod_ring : (vars : List ℕ) (m n : ℕ) (s : Sides (residues p positive) vars m n) → T (agree s.left.expression s.right.expression) → m % p ≡ n % p
  mod_ring vars m n s h = ring (residues p positive) vars s h

pub ruleset mod_quote = (m_self, m_add, m_mul, m_sub, m_mod, quote, m_number)
