-- What the contracts of a rank's program cite, besides `Stays` and `GoesOn`.
use Rattle.std.specs.Prelude.{◌≡◌, false}
use Rattle.rank_client.specs.Calls.{has_finished}
use Rattle.rank_client.specs.Link.{LinkModel}

-- the rank has not finished
abbrev pub IsRunning : LinkModel → Type 0
IsRunning m = has_finished m.said ≡ false
