use Rattle.std.proofs.Common.{arith}
use Rattle.race_table.proofs.Cuts.{splits}
use Rattle.race_table.proofs.pass.Pass.split.Goals as goal

pub split_seat-seat-requires : goal.split_seat-seat-requires
split_seat-seat-requires c =
    let table = c.args.table.now.table in
    let seat = c.args.self.now.seat in
    let fresh = c.requires.fresh in (
      c.requires.table.table_id,
      omega (arith, c.args.table.now.sizes),
      λ s holds at. splits table.shared.key.strata table.shared.key.seats seat.id seat.me.0 s.words s.views c.requires.parts fresh.0 fresh.1 fresh.2 holds at,
    )
