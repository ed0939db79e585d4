use Rattle.std.proofs.Common.{map, rules, refl}
use Rattle.std.specs.String.{string_bytes}
use Rattle.command_words.proofs.Holding.{made_holds}
use Rattle.command_words.proofs.Saying.{refused_says_nothing}
use Rattle.command_words.specs.Options.{make_app}
use Rattle.command_words.specs.Said.{make_of}
use Rattle.command_words.proofs.reading.read_make.Goals as goal

pub returns-in_err-matches-clause-refused : goal.returns-in_err-matches-clause-refused
returns-in_err-matches-clause-refused c =
    let none = refused_says_nothing make_app _ make_of (map string_bytes c.args.words.now) c.in_err-matches.field-0.0
    c.in_ok-make_command.ensures c.in_err-matches.ensures.refused in
    search rules

pub made_of-count-requires : goal.made_of-count-requires
made_of-count-requires c = record { holds = made_holds make_app _ _ c.in_ok-matches.ensures.parsed c.in_ok-make_command.ensures refl refl }
