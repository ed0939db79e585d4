-- What contracts see of the transcript that a client keeps.
use Rattle.std.specs.Prelude.{ℕ, List}
use Rattle.bag_ledger.specs.declared.entries.Said.{Said}

-- the calls with their answers, and for how many more ids there is room
pub record TranscriptModel : Type 0 where
  pub items : List Said
  pub ids : ℕ
