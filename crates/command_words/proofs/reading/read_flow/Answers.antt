use Rattle.std.proofs.Common.{map, rules, subst, refl}
use Rattle.std.specs.String.{string_bytes}
use Rattle.clap.specs.Words.{App, found_of, rows_of}
use Rattle.command_words.proofs.Holding.{sizes_hold}
use Rattle.command_words.proofs.Saying.{found_says, refused_says_nothing}
use Rattle.command_words.specs.inside.{IsFound}
use Rattle.command_words.specs.Options.{flow_app}
use Rattle.command_words.specs.Said.{flow_of}
use Rattle.command_words.proofs.reading.read_flow.Goals as goal

pub returns-in_err-matches-clause-refused : goal.returns-in_err-matches-clause-refused
returns-in_err-matches-clause-refused c =
    let none = refused_says_nothing flow_app _ flow_of (map string_bytes c.args.words.now) c.in_err-matches.field-0.0
    c.in_ok-flow_command.ensures c.in_err-matches.ensures.refused in
    search rules

pub words_of-requires : goal.words_of-requires
words_of-requires c =
    record { holds = sizes_hold flow_app _ _ c.in_ok-matches.ensures.parsed c.in_ok-flow_command.ensures refl refl refl }

pub returns-clause-said : goal.returns-clause-said
returns-clause-said c =
    let rows = rows_of (found_of c.in_ok-matches.matches) in
    let words = map string_bytes c.args.words.now in
    let found = subst (λ (a : App). IsFound a words rows) c.in_ok-flow_command.ensures c.in_ok-matches.ensures.found in
    let said = found_says flow_app flow_of words rows found in
    search rules
