-- Why a run over what an input asks has no answer.
use Rattle.std.proofs.Common.{◌≡◌, ℕ, List, Option, Some, Result, Err, Ok, IfErr, refl, sym, subst}
use Rattle.adlb_io.specs.Outside.{Rises}
use Rattle.adlb_threads.specs.declared.faults.RanFault.{RanFault}
use Rattle.adlb_threads.specs.declared.faults.RanFault.TheVariants as runs
use Rattle.adlb_unit.specs.declared.notes.Trouble.{Trouble}
use Rattle.adlb_unit.specs.declared.notes.Trouble.TheVariants as troubles
use Rattle.run_command.specs.Ends.{Asks, HasAsked}
use Rattle.run_command.specs.inside.{IsStopOf, IsTroubleOf, Stops, fault_by, fault_ran}
use Rattle.run_command.specs.declared.faults.Fault.{Fault}
use Rattle.run_command.specs.declared.faults.Fault.TheVariants.{Input, Read, Write, NoThread, Memory, TooLong, TooLarge}

module _ {A W : Type 0} (asks : List ℕ → A → Type 0) (refuses : List ℕ → ℕ → W → Type 0) (left left' : Option (List ℕ))
    (reads reads' refused refused' : ℕ)
  where
    -- why there is no answer, if what is asked may be so long in a wider sense
    pub stops_wider : (long wider : A → Type 0) → ((asked : A) → long asked → wider asked) → (fault : Fault W) →
        Stops asks refuses long left left' reads reads' refused refused' fault →
        Stops asks refuses wider left left' reads reads' refused refused' fault
    stops_wider long wider each (TooLong stamp) is = (
      is.0,
      λ bytes told.
          let a = is.1 bytes told in
          (a.0, record { short = a.1.short; asked_is = (a.1.asked_is.0, each a.0 a.1.asked_is.1) }),
    )
    stops_wider long wider each (Input line why) is = is
    stops_wider long wider each Read is = is
    stops_wider long wider each Write is = is
    stops_wider long wider each NoThread is = is
    stops_wider long wider each Memory is = is
    stops_wider long wider each (TooLarge taken) is = is

    module _ (long : A → Type 0) (asked : A) (read : (bytes : List ℕ) → left ≡ Some bytes → Asks asks bytes asked) where
      -- a source of which it is known what it asks asks something
      told_asked : HasAsked asks left
      told_asked bytes told = (asked, read bytes told)

      told_long : long asked → HasAsked (λ bytes a. asks bytes a × long a) left
      told_long is bytes told =
          let r = read bytes told in (asked, record { short = r.short; asked_is = (r.asked_is, is) })

      -- why a run in line has no report is why the input has no answer
      pub trouble_stops : (trouble : Trouble) → IsTroubleOf (long asked) trouble →
          Stops asks refuses long left left' reads reads' refused refused' (fault_by trouble)
      trouble_stops troubles.Memory is = tt
      trouble_stops (troubles.TooLong stamp) is = (is.0, told_long is.1)

      -- and so with threads
      pub ran_stops : (met : RanFault) → IsStopOf (long asked) met → (met ≡ runs.NoThread → Rises refused refused') →
          Stops asks refuses long left left' reads reads' refused refused' (fault_ran met)
      ran_stops runs.NoThread is rises = (rises refl, told_asked)
      ran_stops runs.Memory is rises = tt
      ran_stops (runs.TooLong stamp) is rises = (is.0, told_long is.1)

-- that memory failed is why an input has no answer
pub memory_stops : {A W X : Type 0} (asks : List ℕ → A → Type 0) (refuses : List ℕ → ℕ → W → Type 0) (long : A → Type 0)
    (left left' : Option (List ℕ)) (reads reads' refused refused' : ℕ) (result : Result X (Fault W)) →
    IfErr result (λ fault. fault ≡ Memory) → IfErr result (Stops asks refuses long left left' reads reads' refused refused')
memory_stops asks refuses long left left' reads reads' refused refused' (Ok x) is = tt
memory_stops asks refuses long left left' reads reads' refused refused' (Err fault) is =
    subst (λ f. Stops asks refuses long left left' reads reads' refused refused' f) (sym is) tt
