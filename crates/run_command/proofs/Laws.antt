-- What follows from how a run ended, where no read failed.
use Rattle.std.proofs.Common.{◌≡◌, ◌⊎◌, ◌<◌, ◌≤◌, ◌+◌, ℕ, List, length, Option, Some, None, refl, ap, inl, inr, arith}
use Rattle.adlb_io.specs.Outside.{Rises}
use Rattle.run_command.specs.Ends.{Asks, EndsBy, IsFine, Keeps, Scene, input_limit}
use Rattle.run_command.specs.declared.faults.Fault.{Fault}
use Rattle.run_command.specs.declared.faults.Fault.TheVariants.{Input, Read, Write, NoThread, Memory, TooLong, TooLarge}

-- If the run of an input cannot be so long, and nothing outside fails, nothing but memory does.
module _ {A W K : Type 0} (asks : List ℕ → A → Type 0) (refuses : List ℕ → ℕ → W → Type 0) (keeps : A → K → Type 0)
    (tells : A → K → List ℕ → Type 0) (long : A → Type 0) (before after : Scene) (kept : Option K) (bytes : List ℕ)
    (told : before.left ≡ Some bytes) (short : (asked : A) → asks bytes asked → long asked → ⊥)
  where
    -- a run that ended well, and whose stamps cannot run out, ended without a fault or without memory
    pub short_fine : (fault : Option (Fault W)) → EndsBy asks refuses keeps tells long before after fault kept → IsFine fault →
        (fault ≡ None) ⊎ (fault ≡ Some Memory)
    short_fine None ends fine = inl refl
    short_fine (Some Memory) ends fine = inr refl
    short_fine (Some (TooLong stamp)) ends fine =
        let is = ends.1 bytes told in absurd (short is.0 is.1.asked_is.0 is.1.asked_is.1)
    short_fine (Some (Input line why)) ends fine = absurd fine
    short_fine (Some Read) ends fine = absurd fine
    short_fine (Some Write) ends fine = absurd fine
    short_fine (Some NoThread) ends fine = absurd fine
    short_fine (Some (TooLarge taken)) ends fine = absurd fine

module _ {A W K : Type 0} (asks : List ℕ → A → Type 0) (refuses : List ℕ → ℕ → W → Type 0) (keeps : A → K → Type 0)
    (tells : A → K → List ℕ → Type 0) (long : A → Type 0) (before after : Scene) (kept : Option K) (bytes : List ℕ)
    (told : before.left ≡ Some bytes) (no_read : Rises before.reads after.reads → ⊥)
  where
    -- where something is kept the input asks something
    kept_asks : (IsWritten : List ℕ → Type 0) (k : Option K) → Keeps asks refuses keeps tells before.left IsWritten k →
        (asked : A) × Asks asks bytes asked
    kept_asks IsWritten None keeps_it = absurd keeps_it
    kept_asks IsWritten (Some k) keeps_it = (keeps_it.1.asked, keeps_it.1.read bytes told)

    -- an input that asks something, and of which no line is refused, is answered
    pub asked_fine : ((line : ℕ) (why : W) → refuses bytes line why → ⊥) → length bytes ≤ input_limit →
        (Rises before.writes after.writes → ⊥) → (Rises before.refused after.refused → ⊥) → (fault : Option (Fault W)) →
        EndsBy asks refuses keeps tells long before after fault kept → IsFine fault
    asked_fine apart short no_write no_refusal None ends = tt
    asked_fine apart short no_write no_refusal (Some (Input line why)) ends = absurd (apart line why (ends.0 bytes told).1)
    asked_fine apart short no_write no_refusal (Some Read) ends = absurd (no_read ends.0)
    asked_fine apart short no_write no_refusal (Some Write) ends = absurd (no_write ends.0)
    asked_fine apart short no_write no_refusal (Some NoThread) ends = absurd (no_refusal ends.0)
    asked_fine apart short no_write no_refusal (Some Memory) ends = tt
    asked_fine apart short no_write no_refusal (Some (TooLong stamp)) ends = tt
    asked_fine apart short no_write no_refusal (Some (TooLarge taken)) ends = absurd (omega (arith, ends.1 bytes told, short))

    -- one of which a line is refused, and which so asks nothing, is refused at its first such line
    pub refused_there : ((asked : A) → asks bytes asked → ⊥) → length bytes ≤ input_limit → (line : ℕ) (why : W) →
        ((l : ℕ) (w : W) → refuses bytes l w → Some (Input l w) ≡ Some (Input line why)) → (fault : Option (Fault W)) →
        EndsBy asks refuses keeps tells long before after fault kept → (fault ≡ Some (Input line why)) ⊎ (fault ≡ Some Memory)
    refused_there none short line why one None ends =
        let is = kept_asks _ kept ends.1 in absurd (none is.0 is.1.asked_is)
    refused_there none short line why one (Some (Input l w)) ends = inl (one l w (ends.0 bytes told).1)
    refused_there none short line why one (Some Read) ends = absurd (no_read ends.0)
    refused_there none short line why one (Some Write) ends =
        let is = kept_asks _ kept ends.1 in absurd (none is.0 is.1.asked_is)
    refused_there none short line why one (Some NoThread) ends = let is = ends.1 bytes told in absurd (none is.0 is.1.asked_is)
    refused_there none short line why one (Some Memory) ends = inr refl
    refused_there none short line why one (Some (TooLong stamp)) ends = let is = ends.1 bytes told in absurd (none is.0 is.1.asked_is.0)
    refused_there none short line why one (Some (TooLarge taken)) ends = absurd (omega (arith, ends.1 bytes told, short))

    -- one that is too long is told as such
    pub overlong_told : input_limit < length bytes → (fault : Option (Fault W)) →
        EndsBy asks refuses keeps tells long before after fault kept → (fault ≡ Some (TooLarge (input_limit + 1))) ⊎ (fault ≡ Some Memory)
    overlong_told past None ends = let is = kept_asks _ kept ends.1 in absurd (omega (arith, past, is.1.short))
    overlong_told past (Some (Input line why)) ends = absurd (omega (arith, past, (ends.0 bytes told).0))
    overlong_told past (Some Read) ends = absurd (no_read ends.0)
    overlong_told past (Some Write) ends = let is = kept_asks _ kept ends.1 in absurd (omega (arith, past, is.1.short))
    overlong_told past (Some NoThread) ends = let is = ends.1 bytes told in absurd (omega (arith, past, is.1.short))
    overlong_told past (Some Memory) ends = inr refl
    overlong_told past (Some (TooLong stamp)) ends = let is = ends.1 bytes told in absurd (omega (arith, past, is.1.short))
    overlong_told past (Some (TooLarge taken)) ends = inl (ap (λ n. Some (TooLarge n)) ends.0)
