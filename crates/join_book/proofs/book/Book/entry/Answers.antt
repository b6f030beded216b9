use Rattle.std.proofs.Common.{rules, ◌≡◌, List, option_map, subst}
use Rattle.join_book.specs.Answers.{IsEntryIn}
use Rattle.join_book.proofs.book.Book.entry.Goals as goal

pub returns : goal.returns
returns c =
    let same : c.as_slice.result.now ≡ c.args.self.now.entries = search rules in
    subst (λ l. IsEntryIn l c.args.stratum (option_map (λ d. d.now) c.entry_in.result)) same c.entry_in.ensures
