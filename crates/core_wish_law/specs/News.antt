-- News: what is under way, or can begin, that brings a run on. And what servers know of each other where there is no news.
use Rattle.std.specs.Prelude.{◌≡◌, ◌≢◌, ◌<◌, ◌⊎◌, ℕ, true, None}
use Rattle.adlb_unit.specs.declared.messages.Message.{Message}
use Rattle.adlb_unit.specs.declared.messages.Message.TheVariants as tells
use Rattle.adlb_unit.specs.declared.names.Server.{Server}
use Rattle.rank_client.specs.Rules.{is_free}
use Rattle.rank_client.specs.State.{ClientModel}
use Rattle.server_components.specs.declared.waits.Waiting.{Waiting}
use Rattle.work_queue.specs.Best.{offered}
use Rattle.work_queue.specs.declared.placing.Placed.{Placed}
use Rattle.core_run.specs.World.{World, pool_of}
use Rattle.core_law.specs.Letters.{no_rank, no_server, one}
use Rattle.core_law.specs.Measures.{Weights, measure}
use Rattle.core_check_law.specs.Settling.{Has}

-- a letter after which more follows, whatever it finds: all but a token, a test that failed, and the word that a server may end
abbrev pub is_news : Message → ℕ
is_news (tells.Token t) = 0
is_news (tells.Failed t why) = 0
is_news tells.Shutdown = 0
is_news _ = 1

-- how many such letters are under way, and how many ranks can begin a call
abbrev pub news : Weights
news = record {
  letter = λ from to m. is_news m;
  server = no_server;
  rank = λ place (s : ClientModel). one (is_free s);
  server_due = no_server;
  rank_due = no_rank;
}

-- where there is no news, all servers know that the problem is done, or none does
abbrev pub IsAgreed : World → Type 0
IsAgreed w =
    (h t : Server) → h.0 < w.config.servers → t.0 < w.config.servers → measure news w ≡ 0 → (pool_of w t).kept.done ≡ true
    → (pool_of w h).kept.done ≡ true

-- where there is no news, and a rank is idle at its home, each other server keeps its wish, or is still to be asked for it
abbrev pub IsCovered : World → Type 0
IsCovered w =
    (h t : Server) (e : Waiting) → h.0 < w.config.servers → t.0 < w.config.servers → t.0 ≢ h.0 → Has (pool_of w h).kept.parked.waiting e
    → e.asked ≡ None → measure news w ≡ 0 → Has (pool_of w t).kept.parked.wishes e.wish ⊎ Has e.to_ask t

-- while a rank waits and is idle, and a free unit at another server is permitted to it, there is news
abbrev pub AreForeseen : World → Type 0
AreForeseen w =
    (h t : Server) (e : Waiting) (p : Placed) → h.0 < w.config.servers → t.0 < w.config.servers → t.0 ≢ h.0
    → Has (pool_of w h).kept.parked.waiting e → e.asked ≡ None → Has (pool_of w t).kept.queue.units p
    → offered e.wish.rank e.wish.types p ≡ true → 0 < measure news w
