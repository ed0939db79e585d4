-- A client knows its transcript, and each step is about the call that is begun or pending.
use Rattle.std.proofs.Common.{Option, refl, sym, ◌∙◌, arith}
use Rattle.adlb_unit.specs.declared.configs.Config.{Config}
use Rattle.adlb_unit.specs.declared.names.Rank.{Rank}
use Rattle.adlb_unit.specs.declared.notes.Trouble.{Trouble}
use Rattle.rank_client.specs.Remembered.{Remembers}
use Rattle.rank_client.specs.Says.{StepsTell}
use Rattle.rank_client.specs.State.{ClientModel, start}
use Rattle.rank_client.proofs.OpenBatches.{none_opened}
use Rattle.rank_client.proofs.CallsTell.{call_tells, is_ready}
use Rattle.rank_client.proofs.Granted.{grants_come_first}
use Rattle.rank_client.proofs.LettersTell.{letter_awaited, letter_tells}
use Rattle.rank_client.proofs.Notes.{held_none}
use Rattle.rank_client.proofs.Transcripts.{none_finished, none_told}

starts : (config : Config) (me : Rank) → Remembers (start config me)
starts config me = record {
  finishes = none_finished;
  told = none_told;
  first = grants_come_first.at_start config me;
  held = held_none;
  opened = sym none_opened;
  fits = tt;
  untold = λ call is heeds. refl;
  counted = omega arith;
}

fails : (s : ClientModel) (trouble : Option Trouble) → Remembers s → Remembers (record s { trouble = trouble })
fails s trouble r = record {
  finishes = r.finishes;
  told = r.told;
  first = r.first;
  held = r.held;
  opened = r.opened;
  fits = r.fits;
  untold = r.untold;
  counted = r.counted;
}

-- each step of a client is about the call that is begun or pending
pub steps_tell : StepsTell
steps_tell = record {
  at_start = starts;
  after_failure = fails;
  ready = λ s call r idle unfinished can. is_ready s r idle (sym r.finishes ∙ unfinished) call can;
  after_call = call_tells;
  after_letter = letter_tells;
  awaited = letter_awaited;
}
