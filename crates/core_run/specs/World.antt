-- A world: every actor's state, the letters that are under way, and the ledger; and what happens in it.
use Rattle.std.specs.Prelude.{ℕ, ◌+◌, nat_lt, Bool, ◌&&◌, List, [], ◌∷◌, ◌++◌, map, replicate, slice_index_or, slice_set, Option, None}
use Rattle.std.specs.Prelude.{if◌then◌else◌}
use Rattle.std.specs.List.{list_all, range_with_len}
use Rattle.std.specs.Option.{option_map}
use Rattle.adlb_unit.specs.Links.{is_within, place_of}
use Rattle.adlb_unit.specs.declared.actors.Actor.{Actor}
use Rattle.adlb_unit.specs.declared.actors.Actor.TheVariants as by
use Rattle.adlb_unit.specs.declared.configs.Config.{Config}
use Rattle.adlb_unit.specs.declared.letters.Letter.{Letter}
use Rattle.adlb_unit.specs.declared.letters.Sending.{Sending}
use Rattle.adlb_unit.specs.declared.names.Rank.{Rank}
use Rattle.adlb_unit.specs.declared.names.Server.{Server}
use Rattle.bag_ledger.specs.declared.entries.Entry.{Entry}
use Rattle.rank_client.specs.State.{ClientModel, start as new_client}
use Rattle.rank_client.specs.Step.{Made, begin, hear}
use Rattle.server_law.specs.State.{ServerModel, start as new_pool}
use Rattle.server_law.specs.Carried.{Served}
use Rattle.server_law.specs.Step.{serve}
use Rattle.core_run.specs.declared.events.Event.{Event}
use Rattle.core_run.specs.declared.events.Event.TheVariants as occurs

-- from each actor to each actor a list of letters: the row of the sender's place, the column of the receiver's
abbrev pub Links : Type 0
Links = List (List (List Letter))

-- the state of all actors at one moment
pub record World : Type 0 where
  pub config : Config
  -- the ranks and the servers by number
  pub ranks : List ClientModel
  pub servers : List ServerModel
  -- the letters that were sent and not handled, in order
  pub links : Links
  -- the entries, in the order of events
  pub ledger : List Entry

-- the rank with this number
abbrev pub rank_named : ℕ → Rank
rank_named number = record { 0 = number }

-- the server with this number
abbrev pub server_named : ℕ → Server
server_named number = record { 0 = number }

-- how many actors there are
abbrev pub actors : Config → ℕ
actors config = config.ranks + config.servers

-- at the start each actor is as at its start, and no letter is under way
abbrev pub start : Config → World
start config = record {
  config = config;
  ranks = map (λ n. new_client config (rank_named n)) (range_with_len 0 config.ranks);
  servers = map (λ n. new_pool config (server_named n)) (range_with_len 0 config.servers);
  links = replicate (actors config) (replicate (actors config) []);
  ledger = [];
}

-- What is found in a world.

-- the client of a rank
abbrev pub client_of : World → Rank → ClientModel
client_of w rank = slice_index_or w.ranks rank.0 (new_client w.config rank)

-- the state of a server
abbrev pub pool_of : World → Server → ServerModel
pool_of w server = slice_index_or w.servers server.0 (new_pool w.config server)

-- the links of a sender
abbrev pub row : Links → ℕ → List (List Letter)
row links from = slice_index_or links from []

-- the letters from the actor of one place to that of another
abbrev pub link : Links → ℕ → ℕ → List Letter
link links from to = slice_index_or (row links from) to []

-- the links with one replaced
abbrev pub put_link : Links → ℕ → ℕ → List Letter → Links
put_link links from to letters = slice_set links from (slice_set (row links from) to letters)

-- the letters that the actor of this place sends are appended to their lists, in order
unfoldable pub post : Config → Links → ℕ → List Sending → Links
post config links from [] = links
post config links from (x ∷ sends) =
    post config (put_link links from (place_of config x.to) (link links from (place_of config x.to) ++ x.letter ∷ [])) from sends

-- a server has ended where it is shut and has handled the Finish letter of each rank
abbrev pub has_ended : ServerModel → Bool
has_ended s = s.kept.shut && list_all (λ finished. finished) s.kept.finished

-- What happens.

-- the world after a step of a rank, and after one of a server; with these links before its letters are sent
abbrev pub after_rank : World → Rank → Links → Made → World
after_rank w rank links x = record w {
  ranks = slice_set w.ranks rank.0 x.state;
  links = post w.config links (place_of w.config (by.Rank rank)) x.sends;
  ledger = w.ledger ++ x.entries;
}

-- the world after a server's step
abbrev pub after_server : World → Server → Links → Served → World
after_server w server links x = record w {
  servers = slice_set w.servers server.0 x.state;
  links = post w.config links (place_of w.config (by.Server server)) x.sends;
  ledger = w.ledger ++ x.entries;
}

-- the links without the front letter of this list, of which the rest is left
abbrev pub taken : World → Actor → Actor → List Letter → Links
taken w from to rest = put_link w.links (place_of w.config from) (place_of w.config to) rest

-- the actor handles the front letter of this list; nothing if there is no letter, if the actor has ended, or if the letter is not
-- expected
abbrev pub handle : World → Actor → Actor → List Letter → Option World
handle w from to [] = None
handle w (by.Rank from) (by.Rank to) (letter ∷ rest) = None
handle w (by.Server from) (by.Rank to) (letter ∷ rest) =
    option_map (after_rank w to (taken w (by.Server from) (by.Rank to) rest)) (hear (client_of w to) from letter)
handle w from (by.Server to) (letter ∷ rest) =
    if has_ended (pool_of w to) then None
    else option_map (after_server w to (taken w from (by.Server to) rest)) (serve (pool_of w to) from letter)

-- the world after the event; nothing where there is no such event, also where the rank is not ready for the call
abbrev pub happens : World → Event → Option World
happens w (occurs.Call rank call) =
    if nat_lt rank.0 w.config.ranks then option_map (after_rank w rank w.links) (begin (client_of w rank) call) else None
happens w (occurs.Deliver from to) =
    if is_within w.config from && is_within w.config to
    then handle w from to (link w.links (place_of w.config from) (place_of w.config to)) else None
