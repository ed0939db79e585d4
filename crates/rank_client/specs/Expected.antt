-- Which letters a client expects.
use Rattle.std.specs.Prelude.{◌≡◌, ◌<◌, ◌↔◌, ℕ, false, Option, None, Some, length, IsSome}
use Rattle.adlb_unit.specs.Limits.{stamp_limit}
use Rattle.adlb_unit.specs.Targets.{home}
use Rattle.adlb_unit.specs.declared.letters.Letter.{Letter}
use Rattle.adlb_unit.specs.declared.messages.Message.{Message}
use Rattle.adlb_unit.specs.declared.messages.Message.TheVariants as tells
use Rattle.adlb_unit.specs.declared.names.CommonRef.{CommonRef}
use Rattle.adlb_unit.specs.declared.names.Server.{Server}
use Rattle.adlb_unit.specs.declared.notes.UnitNote.{UnitNote}
use Rattle.rank_client.specs.declared.pendings.Pending.{Pending}
use Rattle.rank_client.specs.declared.pendings.Pending.TheVariants as waits_for
use Rattle.rank_client.specs.Calls.{is_fetched, is_granted}
use Rattle.rank_client.specs.Rules.{asked, looks_at}
use Rattle.rank_client.specs.State.{ClientModel}
use Rattle.rank_client.specs.Step.{hear}

-- the answer to this request comes from the server that was asked
abbrev pub IsFor : ℕ → Server → Server → ℕ → Type 0
IsFor request at from to = (to ≡ request) × (from ≡ at)

-- a put: the unit was accepted or refused, or an end is told
abbrev pub AnswersPut : ℕ → Server → Server → Message → Type 0
AnswersPut request at from (tells.Accepted to) = IsFor request at from to
AnswersPut request at from (tells.Full to charge) = IsFor request at from to
AnswersPut request at from (tells.Ended to end) = IsFor request at from to
AnswersPut request at from _ = ⊥

-- the common part, if there is one, is at a server of the run
abbrev pub IsAtServer : ClientModel → Option CommonRef → Type 0
IsAtServer s None = Unit {0}
IsAtServer s (Some common) = common.server.0 < s.config.servers

-- the note names a server of the run, and so does its common part, if it has one. The rank was granted no unit of its id before,
-- and fetched none, which follows (`GrantsComeFirst`)
pub record IsNewNote (s : ClientModel) (note : UnitNote) : Type 0 where
  pub server : note.server.0 < s.config.servers
  pub ungranted : is_granted note.id s.transcript ≡ false
  pub unfetched : is_fetched note.id s.transcript ≡ false
  pub common : IsAtServer s note.common

-- a reserve, which the rank's home was asked: a unit is granted, or an end is told
abbrev pub AnswersReserve : ClientModel → ℕ → Server → Message → Type 0
AnswersReserve s request from (tells.Grant to note) = IsFor request (home s.config s.me) from to × IsNewNote s note
AnswersReserve s request from (tells.Ended to end) = IsFor request (home s.config s.me) from to
AnswersReserve s request from _ = ⊥

-- a try, for which a server was asked: a unit is granted, it found none, or an end is told
abbrev pub AnswersTry : ClientModel → ℕ → ℕ → Server → Message → Type 0
AnswersTry s request tried from (tells.Grant to note) = IsFor request (looks_at s tried) from to × IsNewNote s note
AnswersTry s request tried from (tells.Nothing to) = IsFor request (looks_at s tried) from to
AnswersTry s request tried from (tells.Ended to end) = IsFor request (looks_at s tried) from to
AnswersTry s request tried from _ = ⊥

-- a fetch, which the unit's server was asked: as many bytes as the note says
abbrev pub AnswersFetch : ℕ → UnitNote → Server → Message → Type 0
AnswersFetch request note from (tells.Bytes to body) = IsFor request note.server from to × (length body ≡ note.length)
AnswersFetch request note from _ = ⊥

-- the server of the common part was asked for that: as many bytes as the note says
abbrev pub AnswersCommon : ℕ → CommonRef → Server → Message → Type 0
AnswersCommon request common from (tells.Bytes to body) = IsFor request common.server from to × (length body ≡ common.length)
AnswersCommon request common from _ = ⊥

-- the end of a batch
abbrev pub AnswersClose : ℕ → CommonRef → Server → Message → Type 0
AnswersClose request batch from (tells.Closed to) = IsFor request batch.server from to
AnswersClose request batch from _ = ⊥

-- a count, which the rank's home was asked
abbrev pub AnswersCount : ℕ → Server → Server → Message → Type 0
AnswersCount request at from (tells.Counted to info) = IsFor request at from to
AnswersCount request at from _ = ⊥

-- that the problem is done, which a server was told
abbrev pub AnswersDone : ℕ → Server → Server → Message → Type 0
AnswersDone request at from (tells.DoneHeard to) = IsFor request at from to
AnswersDone request at from _ = ⊥

-- the pending call awaits such an answer, with this request, from this server
abbrev pub IsAwaited : ClientModel → Pending → Server → Message → Type 0
IsAwaited s waits_for.Nothing from message = ⊥
IsAwaited s (waits_for.Put unit first tried) from message = AnswersPut unit.id.number (asked s first tried) from message
IsAwaited s (waits_for.Reserve request types) from message = AnswersReserve s request from message
IsAwaited s (waits_for.Try request types tried) from message = AnswersTry s request tried from message
IsAwaited s (waits_for.Fetch request note) from message = AnswersFetch request note from message
IsAwaited s (waits_for.Common request note common own) from message = AnswersCommon request common from message
-- a batch's beginning is answered as a put is
IsAwaited s (waits_for.Keep request common first tried) from message = AnswersPut request (asked s first tried) from message
IsAwaited s (waits_for.Close request batch) from message = AnswersClose request batch from message
IsAwaited s (waits_for.Count request kind) from message = AnswersCount request (home s.config s.me) from message
IsAwaited s (waits_for.SetDone request tried) from message = AnswersDone request (looks_at s tried) from message

-- beside it: the rank has not finished, and the stamp is one that is given
pub record IsExpected (s : ClientModel) (from : Server) (letter : Letter) : Type 0 where
  pub going : s.finished ≡ false
  pub stamp : letter.stamp < stamp_limit
  pub awaited : IsAwaited s s.pending from letter.message

-- the law: exactly the letters that are expected have a step
abbrev pub ExpectedAreHeard : Type 0
ExpectedAreHeard = (s : ClientModel) (from : Server) (letter : Letter) → IsSome (hear s from letter) ↔ IsExpected s from letter
