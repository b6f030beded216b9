use Rattle.std.proofs.Common.{◌∙◌, subst}
use Rattle.prime_field.specs.Primes.{IsPrime}
use Rattle.frobenius_map.proofs.Stages.{next_stage}
use Rattle.frobenius_map.proofs.frobenius.one_back.Goals as goal

pub returns : goal.returns
returns c = λ e g. next_stage c.args.a.now (subst IsPrime (c.get-p.ensures.value ∙ c.prime.ensures) c.get-p.ensures.prime) c.one-one.ensures.laws
    c.args.matrix.now c.requires.matrix e c.args.space.now c.in_ok-next.next g c.in_ok-next.ensures.shape c.in_ok-next.ensures.members
