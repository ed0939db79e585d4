use Rattle.std.proofs.Common.{map, rules}
use Rattle.std.specs.String.{string_bytes}
use Rattle.command_words.proofs.Saying.{refused_says_nothing}
use Rattle.command_words.specs.Options.{check_app}
use Rattle.command_words.specs.Said.{check_of}
use Rattle.command_words.proofs.reading.read_check.Goals as goal

pub returns-in_err-matches_of-clause-refused : goal.returns-in_err-matches_of-clause-refused
returns-in_err-matches_of-clause-refused c =
    let none = refused_says_nothing check_app _ check_of (map string_bytes c.args.words.now) c.in_err-matches_of.field-0.0
    c.check_command.ensures c.in_err-matches_of.ensures.refused in
    search rules
