-- The fields of a run in line.
use Rattle.std.specs.Prelude.{◌≡◌, ◌<◌, ◌≤◌, false, length, take, None, is_some}
use Rattle.adlb_unit.specs.Limits.{stamp_limit}
use Rattle.rank_client.specs.Calls.{has_finished, is_open}
use Rattle.server_core.specs.Left.{left_of}
use Rattle.core_inline.specs.declared.runs.InlineRun.TheInside.{Inside}
use Rattle.core_inline.specs.inside.Begun.{begun_in}
use Rattle.core_inline.specs.Inline.{IsInline, Run}
use Rattle.core_inline.specs.inside.Pairs.{IsReady, is_ended, rank_in, server_in}

-- the run of its fields
abbrev pub run_of : Inside → Run
run_of i = record {
  config = i.world.world.config;
  ledger = i.world.world.ledger;
  transcript = take i.answered (rank_in i.world).transcript;
  left = left_of (server_in i.world);
  failed = i.world.trouble;
  begun = begun_in i.world.world.config i.world.world.ledger (take i.answered (rank_in i.world).transcript);
  finished = i.finished;
  ended = is_ended (server_in i.world);
}

-- what holds of a world, and, while nothing failed, which state the next call finds, and that the rank's client knows whether a batch is
-- going on
pub record IsInside (i : Inside) : Type 0 where
  pub inline : IsInline (run_of i)
  pub answered : i.answered ≤ length (rank_in i.world).transcript
  pub ready : i.world.trouble ≡ None → has_finished (take i.answered (rank_in i.world).transcript) ≡ false → IsReady i.world
  pub opened : i.world.trouble ≡ None → is_some (rank_in i.world).batch ≡ is_open (rank_in i.world).transcript
  pub all : i.world.trouble ≡ None → i.answered ≡ length (rank_in i.world).transcript
  pub short : i.answered < stamp_limit
