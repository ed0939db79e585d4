-- What a server's thread knows of its server.
use Rattle.std.specs.Prelude.{◌≡◌, ◌<◌, ◌++◌, ◌∷◌, ℕ, Bool, false, List, [], None, Some, length, slice_get, take}
use Rattle.actor_desk.specs.Desks.{DeskModel, Tallies, sent_at}
use Rattle.adlb_unit.specs.Limits.{stamp_limit}
use Rattle.adlb_unit.specs.declared.configs.Config.{Config}
use Rattle.adlb_unit.specs.declared.letters.Sending.{Sending}
use Rattle.adlb_unit.specs.declared.names.Rank.{Rank}
use Rattle.adlb_unit.specs.declared.names.Server.{Server}
use Rattle.merge_history.specs.Own.{PoolWalks, letters_to, sent}
use Rattle.rank_mail.specs.declared.posted.Posted.{Posted}
use Rattle.server_law.specs.State.{ServerModel, start}
use Rattle.thread_actors.specs.Faults.{IsLateFault, told}
use Rattle.thread_actors.specs.World.{actors, has_ended, rank_named}
use Rattle.thread_actors.specs.declared.faults.ActorFault.{ActorFault}
use Rattle.thread_actors.specs.ServerJobs.{BreaksBy, IsBroken, all_told, came, is_over, waits_for}

-- the server is not broken, its journal is its own run so far, and what went through its mailboxes is what is there, and these letters
-- that it received besides
pub record Follows (d : DeskModel) (more : List Posted) (s : ServerModel) : Type 0 where
  pub whole : s.trouble ≡ None
  pub within : s.clock < stamp_limit
  pub tallies : Tallies d more
  pub walks : PoolWalks d.config (start d.config s.me) d.events s
  pub got : d.got ≡ came d ++ more

-- by rank, whether it is over after these letters
abbrev pub AreOver : Config → ServerModel → List Posted → List Bool → Type 0
AreOver config s heard over = (k : ℕ) → k < config.ranks → slice_get over k ≡ Some (is_over config s heard (rank_named k))

-- by rank, whether it waits for the server that this letter breaks, and whether it is over after it
pub record IsRoll (config : Config) (s : ServerModel) (x : Posted) (waits over : List Bool) : Type 0 where
  pub waits_are : (k : ℕ) → k < config.ranks → slice_get waits k ≡ Some (waits_for s x (rank_named k))
  pub over_are : AreOver config s (x ∷ []) over

-- one of so many ranks is not over
abbrev pub GoesOn : ℕ → List Bool → Type 0
GoesOn ranks over = (k : ℕ) × (k < ranks) × (slice_get over k ≡ Some false)

-- these were told besides
pub record AreTold (old : DeskModel) (all : List Sending) (new : DeskModel) : Type 0 where
  pub same : new ≡ record old { sent = new.sent }
  pub told_are : (to : ℕ) → to < actors old.config → sent_at new to ≡ sent_at old to ++ letters_to old.config to all

-- a letter breaks the server: it is the last that was received, and nobody was told
pub record IsCut (me : Server) (d : DeskModel) (waits over : List Bool) (fault : ActorFault) (own : Bool) : Type 0 where
  pub last : ServerModel
  pub walks : PoolWalks d.config (start d.config me) d.events last
  pub within : last.clock < stamp_limit
  pub letter : Posted
  pub got : d.got ≡ came d ++ letter ∷ []
  pub going : has_ended last ≡ false
  pub late : IsLateFault fault
  pub breaks : BreaksBy d.config last letter fault own
  pub sends : (to : ℕ) → to < actors d.config → sent_at d to ≡ sent d.config to d.events
  pub roll : IsRoll d.config last letter waits over

-- it is broken, has told all whom that concerns, and reads on
pub record IsReading (me : Server) (d : DeskModel) (over : List Bool) (fault : ActorFault) (own : Bool) : Type 0 where
  pub last : ServerModel
  pub walks : PoolWalks d.config (start d.config me) d.events last
  pub within : last.clock < stamp_limit
  pub letter : Posted
  pub later : List Posted
  pub got : d.got ≡ came d ++ letter ∷ later
  pub going : has_ended last ≡ false
  pub breaks : BreaksBy d.config last letter fault own
  pub sends : (to : ℕ) → to < actors d.config → sent_at d to
      ≡ sent d.config to d.events ++ letters_to d.config to (all_told d.config me last letter later (told fault))
  pub over_are : AreOver d.config last (letter ∷ later) over
  pub no_sooner : (n : ℕ) → n < length later
      → (rank : Rank) × (rank.0 < d.config.ranks) × (is_over d.config last (letter ∷ take n later) rank ≡ false)

-- it was broken in the last state of its journal, and has read all that it had to read
abbrev pub EndsBroken : Server → DeskModel → ActorFault → Bool → Type 0
EndsBroken me d fault own =
    (last : ServerModel) × PoolWalks d.config (start d.config me) d.events last × (last.clock < stamp_limit) × IsBroken me d last fault own
