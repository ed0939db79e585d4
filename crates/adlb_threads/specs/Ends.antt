-- How all actors of a run ended, of which some threads may not have been started, and what none of them met.
use Rattle.std.specs.Prelude.{ℕ, ◌≡◌, ◌<◌, ◌+◌, Bool, true, false, nat_lt, not, List, [], ◌∷◌, ◌++◌, Some, length, map, slice_get}
use Rattle.std.specs.List.{AllByRecursion as Each, range_with_len}
use mathlib.Core.List.{IsPrefix}
use Rattle.adlb_unit.specs.Links.{sending}
use Rattle.adlb_unit.specs.declared.actors.Actor.TheVariants as by
use Rattle.adlb_unit.specs.declared.configs.Config.{Config}
use Rattle.adlb_unit.specs.declared.letters.Letter.{Letter}
use Rattle.adlb_unit.specs.declared.letters.Sending.{Sending}
use Rattle.adlb_unit.specs.declared.messages.Message.{Message}
use Rattle.adlb_unit.specs.declared.messages.Message.TheVariants as tells
use Rattle.adlb_unit.specs.declared.notes.Trouble.TheVariants as Trouble
use Rattle.actor_desk.specs.Desks.{DeskModel, IsNew, sent_at}
use Rattle.merge_history.specs.Own.{letters_to}
use Rattle.rank_mail.specs.declared.posted.Posted.{Posted}
use Rattle.rank_mail.specs.Mailboxes.{letters_of}
use Rattle.thread_actors.specs.declared.faults.ActorFault.TheVariants.{Unexpected}
use Rattle.thread_actors.specs.RankJobs.{EndsAs, Ended}
use Rattle.thread_actors.specs.ServerJobs.{EndsAs as ServesAs, Ended as Served}
use Rattle.thread_actors.specs.World.{actors, rank_named, server_named}

-- the caller tells an actor of this number that ranks were not started, if it is a server, and nothing else
abbrev pub tells_absent : Config → ℕ → Message → Bool
tells_absent config to (tells.Abort trouble absent) = not (nat_lt to config.ranks)
tells_absent config to _ = false

-- what the caller tells of a refused start: each of the first servers that so many ranks were not started
abbrev pub absences : ℕ → ℕ → List Sending
absences servers absent =
    map (λ k. sending 0 0 (by.Server (server_named k)) (tells.Abort Trouble.Memory absent)) (range_with_len 0 servers)

-- its desk after it told so, and nothing else
pub record HasTold (servers absent : ℕ) (old new : DeskModel) : Type 0 where
  pub same : new ≡ record old { sent = new.sent }
  pub told : (to : ℕ) → to < actors old.config → sent_at new to ≡ sent_at old to ++ letters_to old.config to (absences servers absent)

-- the desk of the caller, whose number is the last, from which nothing else went
pub record IsCaller (config : Config) (d : DeskModel) : Type 0 where
  pub config_is : d.config ≡ config
  pub number_is : d.number ≡ actors config
  pub tells : (to : ℕ) → to < actors config → Each (λ (l : Letter). tells_absent config to l.message ≡ true) (sent_at d to)

-- The first ranks and the first servers were started, and each ended as its thread promises. The desks of the others are as they were made.
pub record HaveEnded {O : Type 0} (config : Config) (ends : List (Ended O)) (absent : List DeskModel) (served : List Served)
    (missing : List DeskModel) (desk : DeskModel) : Type 0 where
  pub all_ranks : length ends + length absent ≡ config.ranks
  pub all_servers : length served + length missing ≡ config.servers
  pub ranks : (k : ℕ) (e : Ended O) → slice_get ends k ≡ Some e
      → EndsAs (λ said begun. Unit {0}) (λ said outcome. Unit {0}) config (rank_named k) e
  pub servers : (k : ℕ) (e : Served) → slice_get served k ≡ Some e → ServesAs config (server_named k) e
  pub new_ranks : (k : ℕ) (d : DeskModel) → slice_get absent k ≡ Some d → IsNew config (length ends + k) d
  pub new_servers : (k : ℕ) (d : DeskModel) → slice_get missing k ≡ Some d → IsNew config (config.ranks + (length served + k)) d
  pub caller : IsCaller config desk

-- the desks of all of them, by number
abbrev pub desks_of_all : {O : Type 0} → List (Ended O) → List DeskModel → List Served → List DeskModel → DeskModel → List DeskModel
desks_of_all ends absent served missing caller =
    ((map (λ e. e.desk) ends ++ absent) ++ (map (λ e. e.desk) served ++ missing)) ++ caller ∷ []

-- what each actor received of another is a prefix of what that one sent
abbrev pub AreReceived : List DeskModel → Type 0
AreReceived desks =
    (from to : ℕ) (d e : DeskModel) → slice_get desks from ≡ Some d → slice_get desks to ≡ Some e
    → IsPrefix (letters_of from e.got) (sent_at d to)

-- and each letter that it received is of an actor that has one of the desks
abbrev pub AreOfDesks : List DeskModel → Type 0
AreOfDesks desks = (to : ℕ) (e : DeskModel) → slice_get desks to ≡ Some e → Each (λ (p : Posted). p.from < length desks) e.got

-- no rank and no server ended by a letter that it did not expect
pub record AreExpecting {O : Type 0} (ends : List (Ended O)) (served : List Served) : Type 0 where
  pub ranks : (k : ℕ) (e : Ended O) (from : ℕ) → slice_get ends k ≡ Some e → e.fault ≡ Some (Unexpected from) → ⊥
  pub servers : (k : ℕ) (e : Served) (from : ℕ) → slice_get served k ≡ Some e → e.fault ≡ Some (Unexpected from) → ⊥
