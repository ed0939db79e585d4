-- A world of one rank and one server between two calls, and what a call leaves of it.
use Rattle.std.specs.Prelude.{ℕ, ◌+◌, ◌*◌, ◌≡◌, ◌⊎◌, ◌<◌, ◌≤◌, Bool, false, ◌&&◌, slice_index_or, List, [], ◌∷◌, ◌++◌, length}
use Rattle.std.specs.Prelude.{take, Option, None, Some, is_some}
use Rattle.adlb_unit.specs.Limits.{stamp_limit}
use Rattle.adlb_unit.specs.declared.actors.Actor.{Actor}
use Rattle.adlb_unit.specs.declared.actors.Actor.TheVariants as by
use Rattle.adlb_unit.specs.declared.letters.Letter.{Letter}
use Rattle.adlb_unit.specs.declared.names.Server.{Server}
use Rattle.adlb_unit.specs.declared.notes.Trouble.{Trouble}
use Rattle.adlb_unit.specs.declared.notes.Trouble.TheVariants.{TooLong}
use Rattle.bag_ledger.specs.declared.entries.Answer.{Answer}
use Rattle.bag_ledger.specs.declared.entries.Call.{Call}
use Rattle.bag_ledger.specs.declared.entries.Said.{Said}
use Rattle.rank_client.specs.declared.pendings.Pending.TheVariants as waits_for
use Rattle.rank_client.specs.Answers.{IsAnswerTo}
use Rattle.rank_client.specs.Calls.{is_finish, is_open}
use Rattle.rank_client.specs.Remembered.{Remembers}
use Rattle.rank_client.specs.State.{ClientModel}
use Rattle.server_core.specs.Left.{left_of}
use Rattle.server_law.specs.State.{ServerModel}
use Rattle.core_run.specs.World.{World, client_of, pool_of}
use Rattle.core_world.specs.Seen.{Seen, under_way}
use Rattle.core_world.specs.Stage.{IsReached}
use Rattle.core_inline.specs.Inline.{IsTold, zeroth}
use Rattle.core_inline.specs.Left.{IsLeft}

-- the only server
abbrev pub first_server : Server
first_server = record { 0 = 0 }

-- the only rank
abbrev pub rank_in : Seen → ClientModel
rank_in w = client_of w.world zeroth

-- the only server
abbrev pub server_in : Seen → ServerModel
server_in w = pool_of w.world first_server

-- the server is shut, and has handled the rank's Finish
abbrev pub is_ended : ServerModel → Bool
is_ended s = s.kept.shut && slice_index_or s.kept.finished 0 false

-- one more call
abbrev pub with_call : List Said → Call → Answer → List Said
with_call said call answer = said ++ record { call = call; answer = answer } ∷ []

-- the only rank as an actor
abbrev pub by_rank : Actor
by_rank = by.Rank zeroth

-- the only server as an actor
abbrev pub by_server : Actor
by_server = by.Server first_server

-- the letters under way to the server, and those to the rank
abbrev pub asked : World → List Letter
asked w = under_way w by_rank by_server

-- the letters on their way to the rank
abbrev pub told : World → List Letter
told w = under_way w by_server by_rank

-- a letter is under way from the one actor to the other
abbrev pub IsUnderWay : World → Actor → Actor → Type 0
IsUnderWay w from to =
    ((from ≡ by_rank) × (to ≡ by_server) × (0 < length (asked w))) ⊎ ((from ≡ by_server) × (to ≡ by_rank) × (0 < length (told w)))

-- a run from the start leads to this world of one rank and one server
pub record IsLone (w : World) : Type 0 where
  pub one_rank : w.config.ranks ≡ 1
  pub one_server : w.config.servers ≡ 1
  pub reached : IsReached w

-- the rank runs, and no call is pending; each call took a stamp of its own, and five events at most
pub record IsIdle (c : ClientModel) (s : ServerModel) : Type 0 where
  pub idle : c.pending ≡ waits_for.Nothing
  pub going : c.finished ≡ false
  pub rank : Remembers c
  pub few : c.clock ≤ 5 * length c.transcript
  pub behind : s.clock ≤ 5 * length c.transcript

-- between two calls, where nothing failed
pub record IsReady (w : Seen) : Type 0 where
  pub whole : w.trouble ≡ None
  pub lone : IsLone w.world
  pub rests : IsIdle (rank_in w) (server_in w)

-- what the ledger tells, and what is left, while no call is pending
pub record IsTrue (w : Seen) : Type 0 where
  pub told : IsTold w.world.config w.world.ledger (rank_in w).transcript None
  pub left : IsLeft told.last (left_of (server_in w))
  pub short : length (rank_in w).transcript < stamp_limit

-- after the call has its answer: it comes to the transcript, and is what such a call can be answered. The client knows whether a batch is
-- going on. After Finish the server has ended, and after another call the rank can make the next one
pub record IsAnswered (said : List Said) (call : Call) (answer : Answer) (w : Seen) : Type 0 where
  pub whole : w.trouble ≡ None
  pub true_now : IsTrue w
  pub grown : (rank_in w).transcript ≡ with_call said call answer
  pub fits : IsAnswerTo said call answer
  pub opened : is_some (rank_in w).batch ≡ is_open (rank_in w).transcript
  pub ended : is_ended (server_in w) ≡ is_finish call
  pub ready : is_finish call ≡ false → IsReady w

-- The call failed: what the rank has heard is as before, and the ledger has of the call what was entered. A stamp that was too long is past
-- the last one.
pub record IsFailed (said : List Said) (call : Call) (trouble : Trouble) (w : Seen) : Type 0 where
  pub kept : take (length said) (rank_in w).transcript ≡ said
  pub within : length said ≤ length (rank_in w).transcript
  pub begun : Option Call
  pub told : IsTold w.world.config w.world.ledger said begun
  pub began : (begun ≡ None) ⊎ (begun ≡ Some call)
  pub late : (stamp : ℕ) → trouble ≡ TooLong stamp → (stamp_limit ≤ stamp) × (stamp ≤ 5 * length said + 5)
