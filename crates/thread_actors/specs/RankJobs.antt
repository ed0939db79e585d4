-- What a rank's thread promises.
use Rattle.std.specs.Prelude.{ℕ, ◌≡◌, ◌⊎◌, ◌<◌, ◌+◌, ◌∷◌, ◌++◌, Bool, true, not}
use Rattle.std.specs.Prelude.{IsSome, List, [], map, Option, None, Some, IfSome, is_none, is_some}
use Rattle.std.specs.List.{list_any, range_with_len}
use Rattle.std.specs.Option.{option_map}
use Rattle.adlb_unit.specs.Limits.{stamp_limit}
use Rattle.adlb_unit.specs.Links.{sending}
use Rattle.adlb_unit.specs.declared.actors.Actor.TheVariants as by
use Rattle.adlb_unit.specs.declared.letters.Letter.{Letter}
use Rattle.adlb_unit.specs.declared.letters.Sending.{Sending}
use Rattle.adlb_unit.specs.declared.messages.Message.TheVariants as tells
use Rattle.adlb_unit.specs.declared.names.Server.{Server}
use Rattle.bag_ledger.specs.declared.entries.Answer.TheVariants.{Fine}
use Rattle.bag_ledger.specs.declared.entries.Call.{Call}
use Rattle.bag_ledger.specs.declared.entries.Call.TheVariants.{Finish}
use Rattle.bag_ledger.specs.declared.entries.Said.{Said}
use Rattle.actor_desk.specs.Desks.{Begins, DeskModel, Tallies, sent_at}
use Rattle.adlb_unit.specs.declared.configs.Config.{Config}
use Rattle.adlb_unit.specs.declared.names.Rank.{Rank}
use Rattle.adlb_unit.specs.declared.notes.Trouble.{Trouble}
use Rattle.actor_desk.specs.World.{actors, server_named}
use Rattle.merge_history.specs.Own.{ClientWalks, got, letters_to, sent as sends_to}
use Rattle.rank_client.specs.State.{ClientModel, start}
use Rattle.rank_client.specs.Step.{call_stamp, hear, letter_stamp, told_trouble}
use Rattle.rank_client.specs.declared.pendings.Pending.TheVariants.{Nothing}
use Rattle.rank_client.specs.Calls.{plus}
use Rattle.rank_client.specs.Remembered.{pending_call}
use Rattle.rank_mail.specs.declared.posted.Posted.{Posted}
use Rattle.rank_mail.specs.Mailboxes.{letters_of}
use Rattle.thread_actors.specs.Faults.{IsLateFault, told}
use Rattle.thread_actors.specs.declared.faults.ActorFault.{ActorFault}
use Rattle.thread_actors.specs.declared.faults.ActorFault.TheVariants.{TooLong, Unexpected}

-- the transcript is one that the program can have at this outcome, and then Finish
abbrev pub HasFollowed : {O : Type 0} → (List Said → O → Type 0) → List Said → O → Type 0
HasFollowed {O} follows said outcome = (before : List Said) × follows before outcome × (said ≡ plus before Finish (Some Fine))

-- The rank's journal is its own run. It leads its client from the start to a state in which it has finished, no call is pending, and this
-- is its transcript. What went through its mailboxes is what the journal has.
pub record IsRankRun (config : Config) (rank : Rank) (desk : DeskModel) (said : List Said) : Type 0 where
  pub last : ClientModel
  pub walks : ClientWalks config (start config rank) desk.events last
  pub transcript : last.transcript ≡ said
  pub finished : last.finished ≡ true
  pub idle : last.pending ≡ Nothing
  pub tallies : Tallies desk []

-- the client does not expect this letter of the actor of this number: it tells no trouble, and is of no server from which it would be heard
pub record IsUnexpected (config : Config) (s : ClientModel) (from : ℕ) (letter : Letter) : Type 0 where
  pub untold : told_trouble letter.message ≡ None
  pub unheard : (server : Server) → server.0 < config.servers → config.ranks + server.0 ≡ from → hear s server letter ≡ None

-- the rank's journal is its own run up to a letter of the actor of this number, the last that was received, which its client did not
-- expect there
pub record IsCutShort (config : Config) (rank : Rank) (desk : DeskModel) (from : ℕ) : Type 0 where
  pub last : ClientModel
  pub walks : ClientWalks config (start config rank) desk.events last
  pub letter : Letter
  pub unexpected : IsUnexpected config last from letter
  pub before : List Posted
  pub received : desk.got ≡ before ++ record { from = from; letter = letter } ∷ []
  pub receives : (n : ℕ) → n < actors config
      → letters_of n desk.got ≡ got config n desk.events ++ letters_of n (record { from = from; letter = letter } ∷ [])

-- Whatever the rank met, its journal is its own run up to some state. There this is its transcript, and this call was begun and not
-- answered. No stamp in it is past the last one. What went through its mailboxes begins with what the journal says.
pub record IsBegun (config : Config) (rank : Rank) (desk : DeskModel) (said : List Said) (begun : Option Call) : Type 0 where
  pub last : ClientModel
  pub walks : ClientWalks config (start config rank) desk.events last
  pub transcript : last.transcript ≡ said
  pub pends : pending_call last.pending ≡ begun
  pub within : last.clock < stamp_limit
  pub begins : Begins desk

-- the letter of a server that was received last is expected, and its event would bear this stamp
pub record IsNextLetter (config : Config) (last : ClientModel) (desk : DeskModel) (stamp : ℕ) : Type 0 where
  pub server : Server
  pub within : server.0 < config.servers
  pub letter : Letter
  pub expected : IsSome (hear last server letter)
  pub stamp_is : stamp ≡ letter_stamp last letter
  pub receives : (n : ℕ) → n < actors config
      → letters_of n desk.got ≡ got config n desk.events ++ letters_of n (record { from = config.ranks + server.0; letter = letter } ∷ [])

-- the rank's next event would bear this stamp: that of a call, or that of the letter that was received last
abbrev pub WouldBear : Config → ClientModel → DeskModel → ℕ → Type 0
WouldBear config last desk stamp = (stamp ≡ call_stamp last) ⊎ IsNextLetter config last desk stamp

-- the rank's journal is its own run up to where its next event would bear this stamp
pub record IsStopped (config : Config) (rank : Rank) (desk : DeskModel) (stamp : ℕ) : Type 0 where
  pub last : ClientModel
  pub walks : ClientWalks config (start config rank) desk.events last
  pub bears : WouldBear config last desk stamp

-- one of these letters told that a server has failed
abbrev pub was_told : List Posted → Bool
was_told got = list_any (λ p. is_some (told_trouble p.letter.message)) got

-- what a rank tells besides its events: if it failed, each server once that it is gone, and with which trouble
abbrev pub last_words : Config → Option Trouble → List Sending
last_words config None = []
last_words config (Some trouble) =
    map (λ n. sending 0 0 (by.Server (server_named n)) (tells.Gone trouble)) (range_with_len 0 config.servers)

-- after what its events sent the rank has sent its last words, and nothing else
abbrev pub HasToldAll : Config → DeskModel → Option Trouble → Type 0
HasToldAll config desk trouble = (to : ℕ) → to < actors config
    → sent_at desk to ≡ sends_to config to desk.events ++ letters_to config to (last_words config trouble)

-- the transcript of a rank that ended so, after these calls: Finish is its last call if it did not fail
abbrev pub ended_by : Option ActorFault → List Said → List Said
ended_by None before = plus before Finish (Some Fine)
ended_by (Some fault) before = before

-- What contracts see of how a rank ended.
pub record Ended (O : Type 0) : Type 0 where
  pub said : List Said
  pub outcome : Option O
  pub fault : Option ActorFault
  pub own : Bool
  pub desk : DeskModel

-- Whatever the rank met, its journal is its own run so far. Its calls before Finish, and the one that was begun and not answered, are as
-- its program can have made them.
pub record HasBegun {O : Type 0} (so_far : List Said → Option Call → Type 0) (config : Config) (rank : Rank) (e : Ended O) : Type 0 where
  pub before : List Said
  pub begun : Option Call
  pub made : so_far before begun
  pub said_is : e.said ≡ ended_by e.fault before
  pub run : IsBegun config rank e.desk e.said begun

-- What a rank's thread promises: it has its desk. There is an outcome exactly if it did not fail, and then the transcript is that of the
-- program at this outcome, and then Finish. A stamp that was too long is past the last one. If it did not fail its journal is its own run.
-- If it failed by a letter that was not expected, it is so up to there. Whatever it met, its journal is its own run so far, and it sent
-- what the journal sent and its last words. What it met is its own exactly if no letter told that a server has failed. If that is a stamp
-- that was too long, its next event would bear that one.
pub record EndsAs {O : Type 0} (so_far : List Said → Option Call → Type 0) (follows : List Said → O → Type 0) (config : Config)
    (rank : Rank)
    (e : Ended O) : Type 0 where
  pub config_is : e.desk.config ≡ config
  pub number : e.desk.number ≡ rank.0
  pub outcome_is : is_some e.outcome ≡ is_none e.fault
  pub followed : IfSome e.outcome (HasFollowed follows e.said)
  pub late : IfSome e.fault IsLateFault
  pub own : e.fault ≡ None → IsRankRun config rank e.desk e.said
  pub cut : (from : ℕ) → e.fault ≡ Some (Unexpected from) → IsCutShort config rank e.desk from
  pub begun : HasBegun so_far config rank e
  pub sent : HasToldAll config e.desk (option_map told e.fault)
  pub itself : e.own ≡ not (was_told e.desk.got)
  pub stopped : e.own ≡ true → (stamp : ℕ) → e.fault ≡ Some (TooLong stamp) → IsStopped config rank e.desk stamp
