-- What a server keeps from event to event. No free unit lies for a rank that is idle, and a rank for which another server is
-- asked is left alone until that server answers.
use Rattle.std.specs.Prelude.{◌≡◌, ◌≢◌, ◌≤◌, ℕ, All, Any, None, Some, count_by}
use Rattle.adlb_unit.specs.declared.actors.Actor.{Actor}
use Rattle.adlb_unit.specs.declared.actors.Actor.TheVariants as by
use Rattle.adlb_unit.specs.declared.configs.Config.{Config}
use Rattle.adlb_unit.specs.declared.letters.Letter.{Letter}
use Rattle.adlb_unit.specs.declared.messages.Message.{Message}
use Rattle.adlb_unit.specs.declared.messages.Message.TheVariants as tells
use Rattle.adlb_unit.specs.declared.names.Rank.{Rank}
use Rattle.adlb_unit.specs.declared.names.Server.{Server}
use Rattle.bag_ledger.specs.declared.entries.Entry.{Entry}
use Rattle.bag_ledger.specs.declared.entries.Entry.TheVariants as enters
use Rattle.server_components.specs.Parked.{is_of}
use Rattle.server_components.specs.Rest.{HasNoneFor}
use Rattle.server_components.specs.declared.waits.Waiting.{Waiting}
use Rattle.server_components.specs.declared.wishes.Wish.{Wish}
use Rattle.server_law.specs.Carried.{Served}
use Rattle.server_law.specs.Expected.{IsHome}
use Rattle.server_law.specs.State.{ServerModel, start}
use Rattle.server_law.specs.Step.{serve}

-- no rank waits twice
abbrev pub WaitOnce : ServerModel → Type 0
WaitOnce s = (rank : Rank) → count_by (is_of rank) s.kept.parked.waiting ≤ 1

-- no free unit here is permitted to a rank that waits here and is idle
abbrev pub IsCalm : ServerModel → Type 0
IsCalm s = All (λ (e : Waiting). e.asked ≡ None → HasNoneFor s.kept.queue e.wish) s.kept.parked.waiting

-- the law: at the start both are so
abbrev pub StartIsCalm : Type 0
StartIsCalm = (config : Config) (me : Server) → WaitOnce (start config me) × IsCalm (start config me)

-- the law: each event keeps both
abbrev pub EventsKeepOnce : Type 0
EventsKeepOnce =
    (s : ServerModel) (from : Actor) (letter : Letter) (x : Served) → WaitOnce s → serve s from letter ≡ Some x → WaitOnce x.state

-- each event of a server that is calm leaves it calm
abbrev pub EventsKeepCalm : Type 0
EventsKeepCalm =
    (s : ServerModel) (from : Actor) (letter : Letter) (x : Served) → WaitOnce s → IsCalm s → serve s from letter ≡ Some x
    → IsCalm x.state

-- What an event owes.

-- the law: an event in which a unit comes says its acknowledgement, so that none is owed between events
abbrev pub EventsPay : Type 0
EventsPay =
    (s : ServerModel) (from : Actor) (letter : Letter) (x : Served) → s.kept.owed ≡ None → serve s from letter ≡ Some x
    → x.state.kept.owed ≡ None

-- As long as a server is unanswered.

-- the rank waits with this wish, and this server was asked for it and has not answered
abbrev pub IsAsked : ServerModel → Wish → Server → Type 0
IsAsked s wish asked = Any (λ (e : Waiting). (e.wish ≡ wish) × (e.asked ≡ Some asked)) s.kept.parked.waiting

-- the actor is this server, and its letter is about the call of the wish
abbrev pub IsAbout : Wish → Server → Actor → Rank → ℕ → Type 0
IsAbout wish asked from rank request = (from ≡ by.Server asked) × (rank ≡ wish.rank) × (request ≡ wish.request)

-- what the actor says is this server's answer about the call
abbrev pub IsAnswer : Wish → Server → Actor → Message → Type 0
IsAnswer wish asked from (tells.AskGrant rank request note) = IsAbout wish asked from rank request
IsAnswer wish asked from (tells.AskNone rank request) = IsAbout wish asked from rank request
IsAnswer wish asked from _ = ⊥

-- the entry says that a unit of this server is granted to the rank, or that a call of the rank is over
abbrev pub EndsCall : Server → Rank → Entry → Type 0
EndsCall me rank (enters.Granted server to call id) = (server ≡ me) × (to ≡ rank)
EndsCall me rank (enters.Over from call end) = from ≡ rank
EndsCall me rank _ = ⊥

-- the law: the rank waits on, with the same wish and the same server unanswered, whatever comes but for that server's answer
abbrev pub AskedWaitOn : Type 0
AskedWaitOn =
    (s : ServerModel) (from : Actor) (letter : Letter) (x : Served) (wish : Wish) (asked : Server) → serve s from letter ≡ Some x
    → IsAsked s wish asked → ¬ IsAnswer wish asked from letter.message → IsAsked x.state wish asked

-- the law: and where its home is here, and the letter is not its own, no entry ends its call
abbrev pub AskedAreLeft : Type 0
AskedAreLeft =
    (s : ServerModel) (from : Actor) (letter : Letter) (x : Served) (wish : Wish) (asked : Server) → serve s from letter ≡ Some x
    → WaitOnce s → IsHome s wish.rank → IsAsked s wish asked → ¬ IsAnswer wish asked from letter.message
    → from ≢ by.Rank wish.rank → All (λ e. ¬ EndsCall s.me wish.rank e) x.entries
