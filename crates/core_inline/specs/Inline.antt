-- What contracts see of a world of one rank and one server.
use Rattle.std.specs.Prelude.{ℕ, ◌+◌, ◌*◌, ◌≡◌, ◌<◌, ◌≤◌, Bool, false, ◌&&◌, List, [], ◌∷◌, ◌++◌, length, Option, None, Some, is_none}
use Rattle.adlb_unit.specs.Limits.{stamp_limit}
use Rattle.adlb_unit.specs.declared.configs.Config.{Config}
use Rattle.adlb_unit.specs.declared.names.Rank.{Rank}
use Rattle.adlb_unit.specs.declared.notes.Trouble.{Trouble}
use Rattle.adlb_unit.specs.declared.notes.Trouble.TheVariants.{TooLong}
use Rattle.bag_ledger.specs.declared.entries.Answer.{Answer}
use Rattle.bag_ledger.specs.declared.entries.Answer.TheVariants.{Fine}
use Rattle.bag_ledger.specs.declared.entries.Call.{Call}
use Rattle.bag_ledger.specs.declared.entries.Entry.{Entry}
use Rattle.bag_ledger.specs.declared.entries.Said.{Said}
use Rattle.bag_ledger.specs.declared.states.RankState.{RankState}
use Rattle.bag_ledger.specs.Bag.{Bag, rank_at, start}
use Rattle.bag_ledger.specs.Runs.{IsRun, call_of, calls}
use Rattle.rank_client.specs.Calls.{has_finished, is_open}
use Rattle.rank_client.specs.Link.{LinkModel}
use Rattle.rank_client.specs.Seat.{Seat}
use Rattle.server_core.specs.declared.states.LeftUnit.{LeftUnit}
use Rattle.core_inline.specs.Left.{IsLeft}

-- what contracts see of a run in line
pub record Run : Type 0 where
  -- its numbers
  pub config : Config
  -- the entries, in the order of the events
  pub ledger : List Entry
  -- the calls of the rank with their answers
  pub transcript : List Said
  -- the units that are at the server
  pub left : List LeftUnit
  -- what made it fail, if anything did, and the call that was then begun and not answered, if there was one
  pub failed : Option Trouble
  pub begun : Option Call
  -- the rank's finish was called; the server has handled it, and is shut
  pub finished : Bool
  pub ended : Bool

-- the world at the start, whose server has this limit
pub record IsStart (limit : ℕ) (run : Run) : Type 0 where
  pub one_rank : run.config.ranks ≡ 1
  pub one_server : run.config.servers ≡ 1
  pub limit_is : run.config.limit ≡ limit
  pub ledger : run.ledger ≡ []
  pub transcript : run.transcript ≡ []
  pub left : run.left ≡ []
  pub failed : run.failed ≡ None
  pub begun : run.begun ≡ None
  pub finished : run.finished ≡ false
  pub ended : run.ended ≡ false

-- the only rank
abbrev pub zeroth : Rank
zeroth = record { 0 = 0 }

-- whose link it is
abbrev pub seat_by : Config → Seat
seat_by config = record { ranks = config.ranks; servers = config.servers; limit = config.limit; me = zeroth }

-- the seat of the only rank
abbrev pub seat_of : Run → Seat
seat_of run = seat_by run.config

-- a batch is going on: it was begun and not ended, and nothing failed
abbrev pub batch_of : Run → Bool
batch_of run = is_open run.transcript && is_none run.failed

-- the link of its rank
abbrev pub link_of : Run → LinkModel
link_of run =
    record { seat = seat_of run; said = run.transcript; batch = batch_of run; failed = run.failed; begun = run.begun }

-- What the ledger says beyond the transcript, and which call was begun. If it says nothing, the call is the one that is pending in the bag,
-- if any. Otherwise it has the call with an answer that did not come back.
abbrev pub IsOpen : Option Call → List Said → Option Call → Type 0
IsOpen pending [] begun = begun ≡ pending
IsOpen pending (s ∷ []) begun = (pending ≡ None) × (begun ≡ Some s.call)
IsOpen pending (s ∷ t ∷ more) begun = ⊥

-- the ledger is a legal run, in which the calls of the rank are the transcript and what is open
pub record IsTold (config : Config) (ledger : List Entry) (transcript : List Said) (begun : Option Call) : Type 0 where
  pub last : Bag
  pub legal : IsRun (start config) ledger last
  pub more : List Said
  pub calls_are : calls config ledger zeroth ≡ transcript ++ more
  pub rank : RankState
  pub there : rank_at last zeroth ≡ Some rank
  pub open_call : IsOpen (call_of rank.status) more begun

-- while nothing failed, nothing is open, the units that are left are those of the bag, and the rank has finished, and the server with
-- it, where that was called
pub record IsWhole (run : Run) (last : Bag) : Type 0 where
  pub begun : run.begun ≡ None
  pub left : IsLeft last run.left
  pub finished : run.finished ≡ has_finished run.transcript
  pub ended : run.ended ≡ run.finished

-- what holds of a world after every sequence of calls
pub record IsInline (run : Run) : Type 0 where
  pub one_rank : run.config.ranks ≡ 1
  pub one_server : run.config.servers ≡ 1
  pub told : IsTold run.config run.ledger run.transcript run.begun
  pub whole : run.failed ≡ None → IsWhole run told.last
  -- each call took a stamp of its own
  pub short : length run.transcript < stamp_limit
  -- a stamp that was too long is past the last one, and each call took five events at most
  pub late : (stamp : ℕ) → run.failed ≡ Some (TooLong stamp) → (stamp_limit ≤ stamp) × (stamp ≤ 5 * length run.transcript + 5)

-- what Finish adds to the transcript: it is answered where nothing failed
abbrev pub finish_answer : Option Trouble → Option Answer
finish_answer None = Some Fine
finish_answer (Some trouble) = None

-- the parts that are given at the end: the ledger, the transcript and the units that are left
pub record IsEnd (run : Run) (ledger : List Entry) (transcript : List Said) (left : List LeftUnit) : Type 0 where
  pub last : Bag
  pub legal : IsRun (start run.config) ledger last
  pub calls_are : calls run.config ledger zeroth ≡ transcript
  pub left_is : IsLeft last left
