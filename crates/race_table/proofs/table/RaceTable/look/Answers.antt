use Rattle.std.proofs.Common.{◌<◌, arith, refl, slice_index}
use Rattle.atomic_table.specs.Table.{keeps}
use Rattle.race_table.specs.Views.{looked}
use Rattle.race_table.proofs.Steps.{looks, tells}
use Rattle.race_table.proofs.table.RaceTable.look.Goals as goal

pub load-found-requires : goal.load-found-requires
load-found-requires c =
    let table = c.args.self.now.table in
    let seat = c.args.pass.now.seat in
    let i = c.args.stratum in
    let part : 0 < seat.me.0.parts = omega (arith, c.args.pass.now.size) in
    let within = c.requires.stratum.1 in (
      c.requires.table.table_id,
      omega (arith, c.args.self.now.sizes),
      λ s holds _ at _. (
        looked seat.me.0 i (slice_index s.words i),
        keeps,
        tt,
        looks table.shared.key.strata table.shared.key.seats s.words s.views holds seat.id seat.me.0 at part i c.requires.stratum.0 within,
        (refl, tells table.shared.key.strata table.shared.key.seats s.words s.views holds seat.id seat.me.0 at part i c.requires.stratum.0 within (slice_index s.words i) refl),
      ),
    )
