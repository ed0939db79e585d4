-- What a step of a rank changes.
use Rattle.rank_client.specs.Agreement.{holds}
use Rattle.std.proofs.Common.{◌≡◌, ◌<◌, ℕ, ◌+◌, Bool, true, false, [], ◌∷◌, map, Some, None, refl, ap, ◌∙◌}
use Rattle.std.specs.Prelude.{All, Contains}
use Rattle.std.specs.List.{range_with_len}
use Rattle.adlb_unit.specs.declared.actors.Actor.{Actor}
use Rattle.adlb_unit.specs.declared.actors.Actor.TheVariants as by
use Rattle.adlb_unit.specs.declared.configs.Config.{Config}
use Rattle.adlb_unit.specs.declared.letters.Letter.{Letter}
use Rattle.adlb_unit.specs.declared.letters.Sending.{Sending}
use Rattle.adlb_unit.specs.declared.messages.Message.{Message}
use Rattle.adlb_unit.specs.declared.messages.Message.TheVariants as tells
use Rattle.adlb_unit.specs.declared.names.Rank.{Rank}
use Rattle.adlb_unit.specs.declared.names.Server.{Server}
use Rattle.bag_ledger.specs.declared.entries.Entry.{Entry}
use Rattle.bag_ledger.specs.declared.states.RankState.{RankState}
use Rattle.bag_ledger.specs.Bag.{Bag}
use Rattle.bag_ledger.specs.Steps.{after, with_rank}
use Rattle.rank_client.specs.declared.pendings.Pending.{Pending}
use Rattle.rank_client.specs.declared.pendings.Pending.TheVariants as waits_for
use Rattle.rank_client.specs.Rules.{ClientResponse, farewell, is_idle}
use Rattle.rank_client.specs.State.{ClientModel}
use Rattle.rank_client.specs.Step.{Made, made}
use Rattle.core_law.specs.Lawful.{IsAsked}
use Rattle.core_law.specs.OnLinks.{Each}
use Rattle.adlb_unit.specs.Kinds.{is_to_rank}
use Rattle.core_law.specs.Letters.{is_request, request_of}
use Rattle.core_law.specs.Measures.{weigh}
use Rattle.core_law.specs.Others.{teller}
use Rattle.core_law.specs.Own.{IsCall, IsClient}

-- What follows: the rank waits for nothing; it waits for the answer to a letter that it sends; or it leaves.

-- the step sends nothing
pub record Resting (s : ClientModel) (x : Made) : Type 0 where
  pub pending : x.state.pending ≡ waits_for.Nothing
  pub finished : x.state.finished ≡ false
  pub sends : x.sends ≡ []

-- the step asks one server
pub record Asking (s : ClientModel) (x : Made) : Type 0 where
  pub to : Server
  pub letter : Letter
  pub asked : IsAsked x.state x.state.pending to letter.message
  pub request : is_request letter.message ≡ true
  pub number : request_of letter.message + 1 ≡ x.state.next
  pub busy : is_idle x.state.pending ≡ false
  pub within : to.0 < s.config.servers
  pub finished : x.state.finished ≡ false
  pub sends : x.sends ≡ record { to = by.Server to; letter = letter } ∷ []

-- a Finish letter to a server of the run
pub record IsFarewell (run : Config) (y : Sending) : Type 0 where
  pub to : Server
  pub is : y.to ≡ by.Server to
  pub within : to.0 < run.servers
  pub message : y.letter.message ≡ tells.Finish

-- the step tells each server that the rank has finished
pub record Leaving (s : ClientModel) (x : Made) : Type 0 where
  pub pending : x.state.pending ≡ waits_for.Nothing
  pub finished : x.state.finished ≡ true
  pub weight : (f : Actor → Message → ℕ) → weigh (λ y. f y.to y.letter.message) x.sends ≡ weigh (λ y. f (by.Server y.to) y.message)
      (map farewell (range_with_len 0 s.config.servers))
  pub each : Each (IsFarewell s.config) x.sends

-- what a step of a rank has sent: one letter that asks a server, the letters of Finish, or nothing
pub data Then (s : ClientModel) (x : Made) : Type 0 where
  It_rests : (h : Resting s x) → Then s x
  It_asks : (h : Asking s x) → Then s x
  It_leaves : (h : Leaving s x) → Then s x

-- the step is what a rule says, which changes no count of letters; its stamp is past the last one
pub record IsMade (s : ClientModel) (x : Made) : Type 0 where
  pub rule : ClientResponse
  pub is : x ≡ made rule
  pub sent : rule.state.sent ≡ s.sent
  pub later : s.clock < rule.state.clock

-- the entry changes the state of this rank, and at most says beside that the problem is done
abbrev pub ChangesBag : Rank → Entry → Bag → Type 0
ChangesBag me e b =
    (f : RankState → RankState) × (is_done : Bool) × (after b e ≡ with_rank me f (record b { done = is_done }))
    × (b.done ≡ true → is_done ≡ true)

-- the entry is about this rank, and changes nothing else
abbrev pub ChangesRank : Rank → Entry → Type 0
ChangesRank me e = (teller e ≡ Some me) × ((b : Bag) → ChangesBag me e b)

-- what a rank does where it begins a call
pub record Began (run : Config) (me : Rank) (s : ClientModel) (x : Made) : Type 0 where
  pub free : s.pending ≡ waits_for.Nothing
  pub going : s.finished ≡ false
  pub config : s.config ≡ run
  pub next : x.state.next ≡ s.next + 1
  pub own : IsClient run me x.state
  pub entries : Each (ChangesRank s.me) x.entries
  pub notes : All (Contains s.handles) (holds x.state None)
  pub made : IsMade s x
  pub after : Then s x

-- what a rank does where it hears a letter
pub record Heard (run : Config) (me : Rank) (s : ClientModel) (m : Message) (x : Made) : Type 0 where
  pub kind : is_to_rank m ≡ true
  pub busy : is_idle s.pending ≡ false
  pub number : request_of m + 1 ≡ s.next
  pub going : s.finished ≡ false
  pub next : x.state.next ≡ s.next
  pub own : IsClient run me x.state
  pub entries : Each (ChangesRank s.me) x.entries
  pub notes : All (Contains (holds s (Some m))) (holds x.state None)
  pub made : IsMade s x
  pub after : Then s x
  pub stays : x.state.finished ≡ false

-- What is known of the letter that was sent.

-- what a pending call asks is a request
pub asked_request : (s : ClientModel) (p : Pending) (to : Server) (m : Message) → IsAsked s p to m → is_request m ≡ true
asked_request s waits_for.Nothing to m a = absurd a
asked_request s (waits_for.Put unit first tried) to m a = ap is_request a.0
asked_request s (waits_for.Reserve request types) to m a = ap is_request a.0
asked_request s (waits_for.Try request types tried) to m a = ap is_request a.0
asked_request s (waits_for.Fetch request note) to m a = ap is_request a.0
asked_request s (waits_for.Common request note common own) to m a = ap is_request a.0
asked_request s (waits_for.Keep request common first tried) to m a = ap is_request a.0
asked_request s (waits_for.Close request batch) to m a = ap is_request a.0
asked_request s (waits_for.Count request kind) to m a = ap is_request a.0
asked_request s (waits_for.SetDone request tried) to m a = ap is_request a.0

-- a rank that asks has a call pending
pub asked_busy : (s : ClientModel) (p : Pending) (to : Server) (m : Message) → IsAsked s p to m → is_idle p ≡ false
asked_busy s waits_for.Nothing to m a = absurd a
asked_busy s (waits_for.Put unit first tried) to m a = refl
asked_busy s (waits_for.Reserve request types) to m a = refl
asked_busy s (waits_for.Try request types tried) to m a = refl
asked_busy s (waits_for.Fetch request note) to m a = refl
asked_busy s (waits_for.Common request note common own) to m a = refl
asked_busy s (waits_for.Keep request common first tried) to m a = refl
asked_busy s (waits_for.Close request batch) to m a = refl
asked_busy s (waits_for.Count request kind) to m a = refl
asked_busy s (waits_for.SetDone request tried) to m a = refl

-- what a pending call asks has its number
pub asked_number : (s : ClientModel) (p : Pending) (to : Server) (m : Message) → IsCall s p → IsAsked s p to m → request_of m + 1 ≡ s.next
asked_number s waits_for.Nothing to m call a = absurd a
asked_number s (waits_for.Put unit first tried) to m call a = ap (λ k. request_of k + 1) a.0 ∙ call.0.call
asked_number s (waits_for.Reserve request types) to m call a = ap (λ k. request_of k + 1) a.0 ∙ call
asked_number s (waits_for.Try request types tried) to m call a = ap (λ k. request_of k + 1) a.0 ∙ call.0
asked_number s (waits_for.Fetch request note) to m call a = ap (λ k. request_of k + 1) a.0 ∙ call.0
asked_number s (waits_for.Common request note common own) to m call a = ap (λ k. request_of k + 1) a.0 ∙ call.0
asked_number s (waits_for.Keep request common first tried) to m call a = ap (λ k. request_of k + 1) a.0 ∙ call.0
asked_number s (waits_for.Close request batch) to m call a = ap (λ k. request_of k + 1) a.0 ∙ call.0
asked_number s (waits_for.Count request kind) to m call a = ap (λ k. request_of k + 1) a.0 ∙ call
asked_number s (waits_for.SetDone request tried) to m call a = ap (λ k. request_of k + 1) a.0 ∙ call.0
