use Rattle.clap.proofs.WalkLemmas.{both}
use Rattle.command_words.proofs.reading.matches_of.Goals as goal

pub returns-in-Ok-clause-found : goal.returns-in-Ok-clause-found
returns-in-Ok-clause-found c = record {
  fault = c.in-Ok.ensures.kinds c.requires.simple;
  rows = (c.in-Ok.ensures.matches (both _ _ c.requires.simple).0).0;
}
