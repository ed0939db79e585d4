-- What is known of each rank across its client, its home, its letters and the bag, at every moment of a run and between acts.
use Rattle.std.specs.Prelude.{◌≡◌, ◌<◌, true, false, All, Option, None, Some}
use Rattle.adlb_unit.specs.Targets.{home}
use Rattle.adlb_unit.specs.declared.actors.Actor.{Actor}
use Rattle.adlb_unit.specs.declared.actors.Actor.TheVariants as by
use Rattle.adlb_unit.specs.declared.letters.Letter.{Letter}
use Rattle.adlb_unit.specs.declared.messages.Message.{Message}
use Rattle.adlb_unit.specs.declared.messages.Message.TheVariants as tells
use Rattle.adlb_unit.specs.declared.names.Rank.{Rank}
use Rattle.adlb_unit.specs.declared.names.Server.{Server}
use Rattle.adlb_unit.specs.declared.notes.UnitNote.{UnitNote}
use Rattle.bag_ledger.specs.Bag.{Bag, has_due, start as empty_bag, unit_of}
use Rattle.bag_ledger.specs.Runs.{IsRunWhere, calls, note_of}
use Rattle.bag_ledger.specs.declared.states.Placed.{Placed}
use Rattle.rank_client.specs.declared.pendings.Pending.{Pending}
use Rattle.rank_client.specs.declared.pendings.Pending.TheVariants as waits_for
use Rattle.rank_client.specs.Agreement.{ClientAgrees, holds, said}
use Rattle.rank_client.specs.Expected.{IsAwaited}
use Rattle.rank_client.specs.Rules.{asked, looks_at}
use Rattle.rank_client.specs.State.{ClientModel}
use Rattle.server_law.specs.Agreement.{ServerAgrees}
use Rattle.server_components.specs.declared.waits.Waiting.{Waiting}
use Rattle.core_run.specs.World.{World, client_of, pool_of}
use Rattle.core_law.specs.Letters.{is_request}
use Rattle.core_law.specs.OnLinks.{Each, OnLinks}
use Rattle.core_law.specs.Found.{found_in}
use Rattle.core_law.specs.Pushed.{IsPushed}

-- Letters of a call.

-- this letter to this server is the one that the call has sent last
abbrev pub IsAsked : ClientModel → Pending → Server → Message → Type 0
IsAsked s waits_for.Nothing to m = ⊥
IsAsked s (waits_for.Put unit first tried) to m = (m ≡ tells.Put unit) × (to ≡ asked s first tried)
IsAsked s (waits_for.Reserve request types) to m = (m ≡ tells.Reserve request types) × (to ≡ home s.config s.me)
IsAsked s (waits_for.Try request types tried) to m = (m ≡ tells.Try request types) × (to ≡ looks_at s tried)
IsAsked s (waits_for.Fetch request note) to m = (m ≡ tells.Fetch request note.id) × (to ≡ note.server)
IsAsked s (waits_for.Common request note common own) to m = (m ≡ tells.FetchCommon request common.batch) × (to ≡ common.server)
IsAsked s (waits_for.Keep request common first tried) to m = (m ≡ tells.KeepCommon request common) × (to ≡ asked s first tried)
IsAsked s (waits_for.Close request batch) to m = (m ≡ tells.CloseBatch request batch.batch s.accepted) × (to ≡ batch.server)
IsAsked s (waits_for.Count request kind) to m = (m ≡ tells.Count request kind) × (to ≡ home s.config s.me)
IsAsked s (waits_for.SetDone request tried) to m = (m ≡ tells.Done request) × (to ≡ looks_at s tried)

-- Between servers, the home's request for the rank is of its pending call, where nothing is decided. An answer that there is a unit
-- is what was decided, and the home's word of it is awaited. An answer that there is no unit decides nothing.
abbrev pub IsOfRemote : ClientModel → Option Message → Message → Type 0
IsOfRemote s coming (tells.Ask rank request types) = rank ≡ s.me → (coming ≡ None) × (s.pending ≡ waits_for.Reserve request types)
IsOfRemote s coming (tells.AskGrant rank request note) =
    rank ≡ s.me → (coming ≡ Some (tells.Grant request note)) × IsAwaited s s.pending (home s.config s.me) (tells.Grant request note)
IsOfRemote s coming (tells.AskNone rank request) = rank ≡ s.me → coming ≡ None
IsOfRemote s coming _ = Unit {0}

-- a request of the rank is the last one of its pending call, where nothing is decided; an answer to it is what was decided, and is
-- awaited
abbrev pub IsOfCall : ClientModel → Option Message → Actor → Actor → Message → Type 0
IsOfCall s coming (by.Rank from) (by.Server to) m = from ≡ s.me → is_request m ≡ true → (coming ≡ None) × IsAsked s s.pending to m
IsOfCall s coming (by.Server from) (by.Rank to) m = to ≡ s.me → (coming ≡ Some m) × IsAwaited s s.pending from m
IsOfCall s coming (by.Rank from) (by.Rank to) m = Unit {0}
IsOfCall s coming (by.Server from) (by.Server to) m = IsOfRemote s coming m

-- the letter is of the rank's call
abbrev pub OfCall : ClientModel → Option Message → Actor → Actor → Letter → Type 0
OfCall s coming from to l = IsOfCall s coming from to l.message

-- where the rank waits, it is in that call; and nothing is decided while it is idle
abbrev pub IsWaiting : ClientModel → Option Message → Waiting → Type 0
IsWaiting s coming e = e.wish.rank ≡ s.me → (s.pending ≡ waits_for.Reserve e.wish.request e.wish.types) × (e.asked ≡ None → coming ≡ None)

-- the note tells its unit
abbrev pub IsFact : Bag → UnitNote → Type 0
IsFact b note = (u : Placed) × (unit_of b note.id ≡ Some u) × (note ≡ note_of note.server u.unit)

-- The seat of a rank: what is known of it. `coming` is what the ledger has decided of its call and the rank has not heard.
pub record IsSeat (w : World) (b : Bag) (me : Rank) (coming : Option Message) : Type 0 where
  pub named : (client_of w me).me ≡ me
  pub stands : ClientAgrees (client_of w me) coming b
  pub letters : OnLinks (OfCall (client_of w me) coming) w.config w.links
  pub waits : (t : Server) → t.0 < w.config.servers → Each (IsWaiting (client_of w me) coming) (pool_of w t).kept.parked.waiting
  pub said : said (client_of w me) (client_of w me).pending coming ≡ calls w.config w.ledger me
  pub facts : All (IsFact b) (holds (client_of w me) coming)

-- the ledger leads to this bag, which agrees with each rank, server and push
pub record IsLawful (w : World) (b : Bag) : Type 0 where
  pub run : IsRunWhere (found_in w.config) (empty_bag w.config) w.ledger b
  pub rests : has_due b ≡ false
  pub seats : (me : Rank) → me.0 < w.config.ranks → (coming : Option Message) × IsSeat w b me coming
  pub pools : (k : Server) → k.0 < w.config.servers → ServerAgrees b (pool_of w k)
  pub pushed : IsPushed w b
