use Rattle.std.proofs.Common.{◌∙◌}
use Rattle.std.specs.Str.Parse.{ParsesUnsigned, ExplainsUnsignedError, HasUnsignedDigitsIfOk}
use Rattle.clap.proofs.WalkLemmas.{one_text-rows}
use Rattle.clap.specs.Words.{found_of, rows_of}
use Rattle.command_words.proofs.Saying.{number_is}
use Rattle.command_words.proofs.reading.number_of.Goals as goal

pub returns : goal.returns
returns c low high holds =
    let rows = one_text-rows (found_of c.args.matches.now) c.args.name.now in
    c.unwrap_or.ensures ∙ number_is (λ bs r. ParsesUnsigned 64 10 bs r × ExplainsUnsignedError 10 bs r × HasUnsignedDigitsIfOk bs r)
    c.args.name.now low high c.args.default (rows_of (found_of c.args.matches.now)) c.get_one.result holds
    (λ none. c.get_one.ensures.none (rows ∙ none)) (λ t is. c.get_one.ensures.value t (rows ∙ is)) (λ t r gives. gives.0)
