-- Weights of letters and states, and their sums over a world.
use Rattle.std.specs.Prelude.{◌≡◌, ℕ, ◌+◌, ◌-◌, zero, suc, nat_lt, List, [], ◌∷◌, Option, None, Some, if◌then◌else◌}
use Rattle.adlb_unit.specs.declared.actors.Actor.{Actor}
use Rattle.adlb_unit.specs.declared.actors.Actor.TheVariants as by
use Rattle.adlb_unit.specs.declared.configs.Config.{Config}
use Rattle.adlb_unit.specs.declared.letters.Letter.{Letter}
use Rattle.adlb_unit.specs.declared.letters.Sending.{Sending}
use Rattle.adlb_unit.specs.declared.messages.Message.{Message}
use Rattle.adlb_unit.specs.declared.names.Server.{Server}
use Rattle.rank_client.specs.State.{ClientModel}
use Rattle.server_law.specs.Acts.{Act, Heard, ServerSaying, comes, does, goes, says, takes, debts, turns}
use Rattle.server_components.specs.declared.waits.Waiting.{Waiting}
use Rattle.server_components.specs.declared.standing.StandingPush.{StandingPush}
use Rattle.server_law.specs.State.{Debt, Kept, ServerModel}
use Rattle.core_run.specs.World.{Links, World, rank_named, server_named}

-- the sum of the weights of a list's elements
abbrev pub weigh : {X : Type 0} → (X → ℕ) → List X → ℕ
weigh f [] = 0
weigh f (x ∷ xs) = f x + weigh f xs

-- the sum of weights that depend on the place too
abbrev pub weigh_at : {X : Type 0} → (ℕ → X → ℕ) → List X → ℕ
weigh_at f [] = 0
weigh_at f (x ∷ xs) = f zero x + weigh_at (λ i. f (suc i)) xs

-- what letters under way and states hold on one side, and what states are owed on the other
pub record Weights : Type 0 where
  pub letter : Actor → Actor → Message → ℕ
  pub server : ℕ → Kept → ℕ
  pub rank : ℕ → ClientModel → ℕ
  pub server_due : ℕ → Kept → ℕ
  pub rank_due : ℕ → ClientModel → ℕ

-- the actor of this place among all
abbrev pub actor : Config → ℕ → Actor
actor config i = if nat_lt i config.ranks then by.Rank (rank_named i) else by.Server (server_named (i - config.ranks))

-- the weight of the letters on a link
abbrev pub link_weight : Config → Weights → ℕ → ℕ → List Letter → ℕ
link_weight config m from to letters = weigh (λ l. m.letter (actor config from) (actor config to) l.message) letters

-- the weight of the letters of a sender
abbrev pub row_weight : Config → Weights → ℕ → List (List Letter) → ℕ
row_weight config m from row = weigh_at (link_weight config m from) row

-- the weight of all letters
abbrev pub links_weight : Config → Weights → Links → ℕ
links_weight config m links = weigh_at (row_weight config m) links

-- the weight of all sendings of an actor
abbrev pub sends_weight : Weights → Actor → List Sending → ℕ
sends_weight m from sends = weigh (λ x. m.letter from x.to x.letter.message) sends

-- of what acts change of a server
abbrev pub server_weight : (ℕ → Kept → ℕ) → ℕ → ServerModel → ℕ
server_weight f place s = f place s.kept

-- the weight of letters and states
unfoldable pub measure : Weights → World → ℕ
measure m w = links_weight w.config m w.links + weigh_at (server_weight m.server) w.servers + weigh_at m.rank w.ranks

-- what it is to be by the states
unfoldable pub due : Weights → World → ℕ
due m w = weigh_at (server_weight m.server_due) w.servers + weigh_at m.rank_due w.ranks

-- the two sides are equal
pub record IsBalanced (m : Weights) (w : World) : Type 0 where
  pub same : measure m w ≡ due m w

-- What one act of a server takes and says.

-- the weight of letters that a server takes
abbrev pub heard_weight : (Actor → Actor → Message → ℕ) → Server → List Heard → ℕ
heard_weight f me heard = weigh (λ h. f h.from (by.Server me) h.message) heard

-- the weight of letters that a server says
abbrev pub said_weight : (Actor → Actor → Message → ℕ) → Server → List ServerSaying → ℕ
said_weight f me said = weigh (λ y. f (by.Server me) y.to y.message) said

-- the act keeps the two sides equal
abbrev pub ActKeeps : Weights → Act → ServerModel → Type 0
ActKeeps m a s =
    heard_weight m.letter s.me (takes a) + m.server s.me.0 s.kept + m.server_due s.me.0 (does a s).kept
    ≡ said_weight m.letter s.me (says a s) + m.server s.me.0 (does a s).kept + m.server_due s.me.0 s.kept

-- A balance of letters and of ranks that wait: of an act alone, with no list of a state.

-- weights of letters against weights of ranks and of those that wait
pub record Balance : Type 0 where
  pub letter : Actor → Actor → Message → ℕ
  pub waits : ℕ → Waiting → ℕ
  pub waits_due : ℕ → Waiting → ℕ
  pub rank : ℕ → ClientModel → ℕ
  pub rank_due : ℕ → ClientModel → ℕ

-- a balance as weights
abbrev pub weights : Balance → Weights
weights b = record {
  letter = b.letter;
  server = λ place k. weigh (b.waits place) k.parked.waiting;
  rank = b.rank;
  server_due = λ place k. weigh (b.waits_due place) k.parked.waiting;
  rank_due = b.rank_due;
}

-- what the act takes, who goes and who comes is even
abbrev pub IsEven : Balance → Act → ServerModel → Type 0
IsEven b a s =
    heard_weight b.letter s.me (takes a) + weigh (b.waits s.me.0) (goes a) + weigh (b.waits_due s.me.0) (comes a s)
    ≡ said_weight b.letter s.me (says a s) + weigh (b.waits s.me.0) (comes a s) + weigh (b.waits_due s.me.0) (goes a)

-- A balance of letters, of the push that stands and of the acknowledgement that is owed.

-- weights of letters and of what is owed against weights of pushes
pub record PushBalance : Type 0 where
  pub letter : Actor → Actor → Message → ℕ
  pub owed : ℕ → Debt → ℕ
  pub due : ℕ → StandingPush → ℕ

-- the weight of a value, if there is one
abbrev pub weight : {X : Type 0} → (X → ℕ) → Option X → ℕ
weight f None = 0
weight f (Some x) = f x

-- a balance of pushes as weights
abbrev pub push_weights : PushBalance → Weights
push_weights b = record {
  letter = b.letter;
  server = λ place k. weight (b.owed place) k.owed;
  rank = λ place s. 0;
  server_due = λ place k. weight (b.due place) k.pushing.push;
  rank_due = λ place s. 0;
}

-- as an act changes them: what was, and what is
abbrev pub before : {X : Type 0} → Option (Option X × Option X) → Option X
before None = None
before (Some change) = change.0

-- the value after a change
abbrev pub afterwards : {X : Type 0} → Option (Option X × Option X) → Option X
afterwards None = None
afterwards (Some change) = change.1

-- an act keeps the balance of pushes even
abbrev pub IsEvenPush : PushBalance → Act → ServerModel → Type 0
IsEvenPush b a s =
    heard_weight b.letter s.me (takes a) + weight (b.owed s.me.0) (before (debts a)) + weight (b.due s.me.0) (afterwards (turns a))
    ≡ said_weight b.letter s.me (says a s) + weight (b.owed s.me.0) (afterwards (debts a)) + weight (b.due s.me.0) (before (turns a))
