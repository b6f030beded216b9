use Rattle.std.proofs.Common.{◌∙◌, subst}
use Rattle.prime_field.specs.Primes.{IsPrime}
use Rattle.frobenius_map.proofs.GraphLaws.{graph_gains}
use Rattle.frobenius_map.proofs.graph.gain.Goals as goal

pub returns-in-Inserted : goal.returns-in-Inserted
returns-in-Inserted c = graph_gains c.args.a.now (subst IsPrime (c.get-p.ensures.value ∙ c.prime.ensures) c.get-p.ensures.prime) c.one-one.ensures.laws
    c.args.graph.now c.insert.new.self c.args.row.now c.in_ok-insert.field-0 c.requires.graph c.requires.row c.in_ok-insert.ensures.ok
