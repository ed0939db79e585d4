-- One act of a server in a world, and acts one after the other: the worlds between the beginning of a server's event and its end.
use Rattle.std.specs.Prelude.{◌≡◌, ◌<◌, Bool, true, ℕ, List, [], ◌∷◌, ◌++◌, slice_set}
use Rattle.adlb_unit.specs.Links.{is_within, place_of}
use Rattle.adlb_unit.specs.declared.actors.Actor.TheVariants as by
use Rattle.adlb_unit.specs.declared.configs.Config.{Config}
use Rattle.adlb_unit.specs.declared.letters.Letter.{Letter}
use Rattle.adlb_unit.specs.declared.names.Server.{Server}
use Rattle.core_run.specs.World.{Links, World, link, pool_of, post, put_link}
use Rattle.server_law.specs.Acts.{Act, Heard, Hints, ServerSaying, entries, says, takes}
use Rattle.server_law.specs.Carried.{done, sends}
use Rattle.server_law.specs.Step.{ticked}
use Rattle.server_law.specs.Sure.{SitsIn, Sure}
use Rattle.core_law.specs.Own.{IsWish}

-- the letters after the front one
abbrev pub behind_front : List Letter → List Letter
behind_front [] = []
behind_front (l ∷ rest) = rest

-- the front letters of these links go off
abbrev pub taken_off : Config → Server → Links → List Heard → Links
taken_off config me links [] = links
taken_off config me links (h ∷ more) =
    taken_off config me
    (put_link links (place_of config h.from) (place_of config (by.Server me))
    (behind_front (link links (place_of config h.from) (place_of config (by.Server me))))) more

-- the act takes its letter off, if it takes one, and the server carries it out
abbrev pub acted : World → Server → Act → World
acted w me a = record w {
  servers = slice_set w.servers me.0 (done a (pool_of w me));
  links = post w.config (taken_off w.config me w.links (takes a)) (place_of w.config (by.Server me)) (sends a (pool_of w me));
  ledger = w.ledger ++ entries a (pool_of w me);
}

-- one after the other
abbrev pub acted_all : World → Server → List Act → World
acted_all w me [] = w
acted_all w me (a ∷ more) = acted_all (acted w me a) me more

-- the event has its stamp, and raises the activity or does not
abbrev pub ticks : World → Server → ℕ → Bool → World
ticks w me stamp up = record w { servers = slice_set w.servers me.0 (ticked (pool_of w me) stamp up) }

-- the letters that are taken are at the front of their links
abbrev pub AreFront : Config → Server → Links → List Heard → Type 0
AreFront config me links [] = Unit {0}
AreFront config me links (h ∷ more) =
    (l : Letter) × (rest : List Letter) × (is_within config h.from ≡ true)
    × (link links (place_of config h.from) (place_of config (by.Server me)) ≡ l ∷ rest) × (l.message ≡ h.message)
    × AreFront config me (put_link links (place_of config h.from) (place_of config (by.Server me)) rest) more

-- if the act is a hint, it is to another server, about a rank of the run
abbrev pub HintsAway : Config → Server → Act → Type 0
HintsAway config me (Hints wish) = IsWish config me wish
HintsAway config me _ = Unit {0}

-- the act is one of this server in this world
pub record IsAct (w : World) (me : Server) (a : Act) : Type 0 where
  pub here : me.0 < w.config.servers
  pub front : AreFront w.config me w.links (takes a)
  pub sits : SitsIn a (pool_of w me)
  pub sure : Sure a (pool_of w me)
  pub hints : HintsAway w.config me a

-- these are, one after the other
abbrev pub AreActs : World → Server → List Act → Type 0
AreActs w me [] = Unit {0}
AreActs w me (a ∷ more) = IsAct w me a × AreActs (acted w me a) me more

-- the sayings are to actors of the run
abbrev pub AreSaid : Config → List ServerSaying → Type 0
AreSaid config [] = Unit {0}
AreSaid config (y ∷ ys) = (is_within config y.to ≡ true) × AreSaid config ys

-- the server has its name, and writes to actors of the run
pub record IsOwn (w : World) (me : Server) (a : Act) : Type 0 where
  pub config : (pool_of w me).config ≡ w.config
  pub named : (pool_of w me).me ≡ me
  pub said : AreSaid w.config (says a (pool_of w me))
