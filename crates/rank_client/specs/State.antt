-- What a client keeps of its rank.
use Rattle.std.specs.Prelude.{ℕ, Bool, false, List, [], Option, None, replicate}
use Rattle.adlb_unit.specs.declared.configs.Config.{Config}
use Rattle.adlb_unit.specs.declared.names.CommonRef.{CommonRef}
use Rattle.adlb_unit.specs.declared.names.Rank.{Rank}
use Rattle.adlb_unit.specs.declared.notes.End.{End}
use Rattle.adlb_unit.specs.declared.notes.Trouble.{Trouble}
use Rattle.adlb_unit.specs.declared.notes.UnitNote.{UnitNote}
use Rattle.bag_ledger.specs.declared.entries.Said.{Said}
use Rattle.rank_client.specs.declared.pendings.Pending.{Pending}
use Rattle.rank_client.specs.declared.pendings.Pending.TheVariants as waits_for

-- what contracts see of a client
pub record ClientModel : Type 0 where
  pub config : Config
  pub me : Rank
  -- the call that is pending
  pub pending : Pending
  -- the number of the next call
  pub next : ℕ
  -- how many puts and batch beginnings were begun
  pub puts : ℕ
  -- the batch that is going on, and the end that was told
  pub batch : Option CommonRef
  -- how many puts were accepted since a batch began last
  pub accepted : ℕ
  pub end : Option End
  -- the notes of the units that were granted and not fetched
  pub handles : List UnitNote
  -- the stamp of the last event
  pub clock : ℕ
  -- how many letters went to each server
  pub sent : List ℕ
  pub finished : Bool
  -- the calls with their answers
  pub transcript : List Said
  -- what made the client fail, if anything did
  pub trouble : Option Trouble

-- a client before its first call
abbrev pub start : Config → Rank → ClientModel
start config me = record {
  config = config;
  me = me;
  pending = waits_for.Nothing;
  next = 0;
  puts = 0;
  accepted = 0;
  batch = None;
  end = None;
  handles = [];
  clock = 0;
  sent = replicate config.servers 0;
  finished = false;
  transcript = [];
  trouble = None;
}
