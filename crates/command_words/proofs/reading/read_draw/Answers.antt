use Rattle.std.proofs.Common.{map, rules}
use Rattle.std.specs.String.{string_bytes}
use Rattle.command_words.proofs.Saying.{refused_says_nothing}
use Rattle.command_words.specs.Options.{draw_app}
use Rattle.command_words.specs.Said.{draw_of}
use Rattle.command_words.proofs.reading.read_draw.Goals as goal

pub returns-in_err-matches_of-clause-refused : goal.returns-in_err-matches_of-clause-refused
returns-in_err-matches_of-clause-refused c =
    let none = refused_says_nothing draw_app _ draw_of (map string_bytes c.args.words.now) c.in_err-matches_of.field-0.0
    c.draw_command.ensures c.in_err-matches_of.ensures.refused in
    search rules
