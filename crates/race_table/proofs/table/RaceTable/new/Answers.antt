use Rattle.std.proofs.Common.{rules, ◌≡◌, ℕ, ◌+◌, replicate}
use Rattle.race_table.proofs.Cuts.{opening-held}
use Rattle.race_table.proofs.table.RaceTable.new.Goals as goal

pub of_words-requires : goal.of_words-requires
of_words-requires c =
    let zeros : c.in-Ok.words.items ≡ replicate {A = ℕ} (c.args.strata + 1) 0 = search rules in
    rw (c.as_slice.ensures.value, zeros) (opening-held c.start_is_sound.ensures c.args.strata c.args.seats c.requires.strata c.requires.seats.1)
