use Rattle.std.proofs.Common.{◌≡◌, sym, subst, ◌∙◌}
use Rattle.prime_field.specs.Primes.{IsCharacteristic}
use Rattle.norm_text.proofs.TextCuts.{prime_small}
use Rattle.norm_text.proofs.Told.{option_read, number_read}
use Rattle.norm_text.proofs.reading.read_prime.Goals as goal

pub returns-clause-exact : goal.returns-clause-exact
returns-clause-exact c p known text =
    let same : c.number.result ≡ p = number_read c.args.digits.now p c.number.result (prime_small p known) text c.number.ensures in
    option_read c.new.result c.ok_or.result (IsCharacteristic c.number.result) _ (λ q. q ≡ p) c.ok_or.ensures.value c.new.ensures
    (subst IsCharacteristic (sym same) known) (λ q h. h.0 ∙ same)
