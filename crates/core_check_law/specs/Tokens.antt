-- Tokens under way: one, or that a test failed, while a check runs at server 0, and otherwise none.
use Rattle.std.specs.Prelude.{ℕ, ◌==◌, if◌then◌else◌}
use Rattle.adlb_unit.specs.declared.actors.Actor.{Actor}
use Rattle.adlb_unit.specs.declared.actors.Actor.TheVariants as by
use Rattle.adlb_unit.specs.declared.messages.Message.{Message}
use Rattle.adlb_unit.specs.declared.messages.Message.TheVariants as tells
use Rattle.server_law.specs.State.{Kept}
use Rattle.core_law.specs.Letters.{no_rank, no_server, one}
use Rattle.core_law.specs.Measures.{Weights}

-- 1 for a token, and for the news that a test failed
abbrev pub is_token : Message → ℕ
is_token (tells.Token t) = 1
is_token (tells.Failed t why) = 1
is_token _ = 0

-- tokens on links between servers
abbrev pub token_letter : Actor → Actor → Message → ℕ
token_letter (by.Server from) (by.Server to) m = is_token m
token_letter (by.Server from) (by.Rank to) m = 0
token_letter (by.Rank from) to m = 0

-- 1 if a check runs at server 0
abbrev pub runs_at : ℕ → Kept → ℕ
runs_at place k = if place == 0 then one k.ring.runs else 0

-- tokens under way, against the check that runs
abbrev pub tokens : Weights
tokens = record { letter = token_letter; server = no_server; rank = no_rank; server_due = runs_at; rank_due = no_rank }
