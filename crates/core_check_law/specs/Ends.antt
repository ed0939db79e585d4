-- The letters that say that an end was found: what server 0 has found reached each other server, or is on its way there.
use Rattle.std.specs.Prelude.{◌≡◌, ℕ, ◌+◌, ◌==◌, Bool, true, false, ◌&&◌, if◌then◌else◌}
use Rattle.adlb_unit.specs.declared.actors.Actor.{Actor}
use Rattle.adlb_unit.specs.declared.actors.Actor.TheVariants as by
use Rattle.adlb_unit.specs.declared.messages.Message.{Message}
use Rattle.adlb_unit.specs.declared.messages.Message.TheVariants as tells
use Rattle.adlb_unit.specs.declared.names.Server.{Server}
use Rattle.server_law.specs.Acts.{zeroth}
use Rattle.server_law.specs.State.{Kept}
use Rattle.core_law.specs.Letters.{no_rank, one}
use Rattle.core_law.specs.Measures.{Weights, links_weight}
use Rattle.core_law.specs.Pushed.{letters_of}
use Rattle.core_run.specs.World.{World, pool_of}

-- the letter says that all work is used up
abbrev pub is_exhaust : Message → Bool
is_exhaust tells.Exhaust = true
is_exhaust _ = false

-- the letter says that the servers end
abbrev pub is_shutdown : Message → Bool
is_shutdown tells.Shutdown = true
is_shutdown _ = false

-- a letter of this kind to the server
abbrev pub end_letter : (Message → Bool) → Server → Actor → Actor → Message → ℕ
end_letter is t (by.Server from) (by.Server to) m = one (is m && (to.0 == t.0))
end_letter is t (by.Server from) (by.Rank to) m = 0
end_letter is t (by.Rank from) to m = 0

-- what the server of this place knows
abbrev pub flag_at : (Kept → Bool) → ℕ → ℕ → Kept → ℕ
flag_at flag t place k = if place == t then one (flag k) else 0

-- the server knows that all work is used up
abbrev pub is_exhausted : Kept → Bool
is_exhausted k = k.exhausted

-- the server knows that the servers end
abbrev pub is_shut : Kept → Bool
is_shut k = k.shut

-- letters of the end to the server, and that it knows, on one side; that server 0 knows on the other
abbrev pub ends : (Message → Bool) → (Kept → Bool) → Server → Weights
ends is flag t = record {
  letter = end_letter is t;
  server = flag_at flag t.0;
  rank = no_rank;
  server_due = flag_at flag 0;
  rank_due = no_rank;
}

-- whether a server knows that all work is used up, or will hear it
abbrev pub exhausts : Server → Weights
exhausts t = ends is_exhaust is_exhausted t

-- whether a server knows that the servers end, or will hear it
abbrev pub shuts : Server → Weights
shuts t = ends is_shutdown is_shut t

-- as often as server 0 knows of the end, this server does, or one letter that tells it of that is under way
abbrev pub IsToldOnce : (Message → Bool) → (Kept → Bool) → World → Server → Type 0
IsToldOnce is flag w t =
    links_weight w.config (letters_of (end_letter is t)) w.links + one (flag (pool_of w t).kept) ≡ one (flag (pool_of w zeroth).kept)
