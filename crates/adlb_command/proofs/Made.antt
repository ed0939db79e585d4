-- How `make` ends.
use Rattle.std.proofs.Common.{◌≡◌, ◌⊎◌, ℕ, List, Option, Some, None, Result, Ok, Err, refl, sym, ap, ◌∙◌, inl, inr, arith, append-nil}
use Rattle.run_command.specs.Ends.{Scene}
use Rattle.adlb_io.specs.Outside.{Rises}
use Rattle.adlb_io.specs.Whole.{TakesPrefix}
use Rattle.made_jobs.specs.Ends.{MakesTo, SinkSeen, sink_seen}
use Rattle.made_jobs.specs.Made.{made_text}
use Rattle.made_jobs.specs.declared.faults.MadeFault.{MadeFault}
use Rattle.made_jobs.specs.declared.faults.MadeFault.TheVariants as makes
use Rattle.command_ends.specs.Ends.{fault_made}
use Rattle.adlb_command.specs.Top.{EndsAsMade}
use Rattle.command_ends.specs.declared.ends.AnyKept.{AnyKept}
use Rattle.command_ends.specs.declared.faults.RunFault.{RunFault}
use Rattle.command_ends.specs.declared.faults.RunFault.TheVariants.{Memory}

-- nothing of a text was taken
pub none_taken : (before after : Option (List ℕ)) (text : List ℕ) → after ≡ before → TakesPrefix before after text
none_taken None after text same = same
none_taken (Some bytes) after text same = (0, omega arith, same ∙ ap Some (sym (append-nil bytes)))

-- the whole text was written, unless a write or memory failed
fine_or : (text : List ℕ) (before after : SinkSeen) (made : Result (Unit {0}) MadeFault) → MakesTo text before after made →
    (Rises before.writes after.writes → ⊥) → (fault_made made ≡ None) ⊎ (fault_made made ≡ Some Memory)
fine_or text before after (Ok done) ends no_write = inl refl
fine_or text before after (Err makes.Write) ends no_write = absurd (no_write ends.0)
fine_or text before after (Err makes.Memory) ends no_write = inr refl

either_is : (fault told : Option RunFault) → fault ≡ told → (told ≡ None) ⊎ (told ≡ Some Memory) → (fault ≡ None) ⊎ (fault ≡ Some Memory)
either_is fault told same (inl e) = inl (same ∙ e)
either_is fault told same (inr e) = inr (same ∙ e)

-- a `make` of which no write fails ends well or for want of memory
pub made_whole : (count seed : ℕ) (before after : Scene) (fault : Option RunFault) (kept : Option AnyKept) →
    EndsAsMade count seed before after fault kept → (Rises before.writes after.writes → ⊥) → (fault ≡ None) ⊎ (fault ≡ Some Memory)
made_whole count seed before after fault kept ends no_write =
    either_is fault (fault_made ends.made) ends.fault_is
    (fine_or (made_text count seed) (sink_seen before.taken before.writes before.flushed)
    (sink_seen after.taken after.writes after.flushed) ends.made ends.ends no_write)
