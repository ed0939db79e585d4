use Rattle.std.proofs.Common.{◌∙◌}
use Rattle.clap.proofs.WalkLemmas.{one_text-rows}
use Rattle.clap.specs.Words.{found_of, rows_of}
use Rattle.command_words.proofs.Saying.{flag_is}
use Rattle.command_words.proofs.reading.flag_of.Goals as goal

pub returns : goal.returns
returns c =
    let rows = one_text-rows (found_of c.args.matches.now) c.args.name.now in
    c.unwrap_or.ensures ∙ flag_is _ c.args.name.now (rows_of (found_of c.args.matches.now)) c.get_one.result
    (λ none. c.get_one.ensures.none (rows ∙ none)) (λ t is. c.get_one.ensures.value t (rows ∙ is))
