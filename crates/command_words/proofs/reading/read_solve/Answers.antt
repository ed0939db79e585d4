use Rattle.std.proofs.Common.{map, rules, subst, refl}
use Rattle.std.specs.String.{string_bytes}
use Rattle.clap.specs.Words.{App, found_of, rows_of}
use Rattle.command_words.proofs.Holding.{run_holds}
use Rattle.command_words.proofs.Saying.{found_says, refused_says_nothing}
use Rattle.command_words.specs.inside.{IsFound}
use Rattle.command_words.specs.Options.{solve_app}
use Rattle.command_words.specs.Said.{solve_of}
use Rattle.command_words.proofs.reading.read_solve.Goals as goal

pub returns-in_err-matches-clause-refused : goal.returns-in_err-matches-clause-refused
returns-in_err-matches-clause-refused c =
    let none = refused_says_nothing solve_app _ solve_of (map string_bytes c.args.words.now) c.in_err-matches.field-0.0
    c.in_ok-solve_command.ensures c.in_err-matches.ensures.refused in
    search rules

pub run_of-requires : goal.run_of-requires
run_of-requires c = record {
  holds = run_holds solve_app _ _ c.in_ok-matches.ensures.parsed c.in_ok-solve_command.ensures refl refl refl refl refl;
}

pub returns-clause-said : goal.returns-clause-said
returns-clause-said c =
    let rows = rows_of (found_of c.in_ok-matches.matches) in
    let words = map string_bytes c.args.words.now in
    let found = subst (λ (a : App). IsFound a words rows) c.in_ok-solve_command.ensures c.in_ok-matches.ensures.found in
    let said = found_says solve_app solve_of words rows found in
    search rules
