-- How the writing of a made text ends: what was written, and why it stopped.
use Rattle.std.specs.Prelude.{◌≡◌, ℕ, Bool, true, List, Option, Result, Ok, Err}
use Rattle.adlb_io.specs.Outside.{Rises, Takes}
use Rattle.adlb_io.specs.Whole.{TakesPrefix}
use Rattle.made_jobs.specs.declared.faults.MadeFault.{MadeFault}
use Rattle.made_jobs.specs.declared.faults.MadeFault.TheVariants.{Memory, Write}

-- What is seen of a sink: what was taken, its count of faults, and that all is flushed.
pub record SinkSeen : Type 0 where
  pub taken : Option (List ℕ)
  pub writes : ℕ
  pub flushed : Bool

-- what is seen of a sink
abbrev pub sink_seen : Option (List ℕ) → ℕ → Bool → SinkSeen
sink_seen taken writes flushed = record { taken = taken; writes = writes; flushed = flushed }

-- the ends of the writing of a text: the whole was taken and flushed; the sink failed, or memory did, and a part of the
-- text's front was taken
abbrev pub MakesTo : List ℕ → SinkSeen → SinkSeen → Result (Unit {0}) MadeFault → Type 0
MakesTo text before after (Ok done) = Takes before.taken after.taken text × (after.flushed ≡ true)
MakesTo text before after (Err Write) = Rises before.writes after.writes × TakesPrefix before.taken after.taken text
MakesTo text before after (Err Memory) = TakesPrefix before.taken after.taken text
