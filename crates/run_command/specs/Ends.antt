-- How a command that runs a rank program over an input ends. The command's own are what its input asks (`asks`), which line is refused and
-- why (`refuses`), what is kept of a run (`keeps`), and what is written of it (`tells`).
use Rattle.std.specs.Prelude.{◌≡◌, ◌↔◌, ◌<◌, ◌≤◌, ◌+◌, ◌^◌, ℕ, Bool, true, List, length, Option, Some, None, IsSome}
use Rattle.adlb_io.specs.Inputs.{HasMore, IsAtEnd}
use Rattle.adlb_io.specs.Outside.{Rises, Takes}
use Rattle.adlb_io.specs.Whole.{Reads, TakesPrefix}
use Rattle.run_command.specs.declared.faults.Fault.{Fault}
use Rattle.run_command.specs.declared.faults.Fault.TheVariants.{Input, Read, Write, NoThread, Memory, TooLong, TooLarge}

-- the most bytes of an input
abbrev pub input_limit : ℕ
input_limit = 2 ^ 24

-- What is seen of the outside: what the source has left and the sink took, their counts of faults, and that all is flushed. Also how many
-- starts of threads were refused and how many were not.
pub record Scene : Type 0 where
  pub left : Option (List ℕ)
  pub reads : ℕ
  pub taken : Option (List ℕ)
  pub writes : ℕ
  pub flushed : Bool
  pub refused : ℕ
  pub started : ℕ

-- what is seen of the outside
abbrev pub scene : Option (List ℕ) → ℕ → Option (List ℕ) → ℕ → Bool → ℕ → ℕ → Scene
scene left reads taken writes flushed refused started =
    record { left = left; reads = reads; taken = taken; writes = writes; flushed = flushed; refused = refused; started = started }

-- the source is left as it was; no thread was started, and no start was refused
pub record ReadsNothing (before after : Scene) : Type 0 where
  pub left : after.left ≡ before.left
  pub reads : after.reads ≡ before.reads

-- no thread was started or refused
pub record StartsNone (before after : Scene) : Type 0 where
  pub refused : after.refused ≡ before.refused
  pub started : after.started ≡ before.started

-- where the sink tells what it took, something is kept exactly if it took a byte
abbrev pub IsKeptWhereBegun : {K : Type 0} → Option (List ℕ) → Option (List ℕ) → Option K → Type 0
IsKeptWhereBegun taken after kept =
    (before now : List ℕ) → taken ≡ Some before → after ≡ Some now → IsSome kept ↔ (length before < length now)

-- nothing was written, and nothing is kept
pub record IsSilent {K : Type 0} (before after : Scene) (kept : Option K) : Type 0 where
  pub nothing : after.taken ≡ before.taken
  pub none_kept : kept ≡ None

-- there is no fault, or one that neither the outside nor the input brings about
abbrev pub IsFine : {W : Type 0} → Option (Fault W) → Type 0
IsFine None = Unit {0}
IsFine (Some Memory) = Unit {0}
IsFine (Some (TooLong stamp)) = Unit {0}
IsFine fault = ⊥

-- an input that asks something is short enough
pub record Asks {A : Type 0} (asks : List ℕ → A → Type 0) (bytes : List ℕ) (asked : A) : Type 0 where
  pub short : length bytes ≤ input_limit
  pub asked_is : asks bytes asked

-- a source that tells what is left asks something; it has an input that is short enough, whose first refused line is this one
abbrev pub HasAsked : {A : Type 0} → (List ℕ → A → Type 0) → Option (List ℕ) → Type 0
HasAsked {A} asks left = (bytes : List ℕ) → left ≡ Some bytes → (asked : A) × Asks asks bytes asked

-- if the bytes are told, their line is refused with this reason
abbrev pub IsRefusedAt : {W : Type 0} → (List ℕ → ℕ → W → Type 0) → Option (List ℕ) → ℕ → W → Type 0
IsRefusedAt refuses left line why = (bytes : List ℕ) → left ≡ Some bytes → (length bytes ≤ input_limit) × refuses bytes line why

-- `asks`: these bytes ask this; `refuses`: this is the first line of them that is refused, and why; `keeps`: this is kept of a run over
-- what is asked; `tells`: this is said of it. A is what is asked, W why a line is refused, K what is kept
module _ {A W K : Type 0} (asks : List ℕ → A → Type 0) (refuses : List ℕ → ℕ → W → Type 0) (keeps : A → K → Type 0)
    (tells : A → K → List ℕ → Type 0)
  where
    -- what the input asks was run: this is kept, and this is told
    pub record IsAnswered (left : Option (List ℕ)) (k : K) (told : List ℕ) : Type 0 where
      pub asked : A
      pub read : (bytes : List ℕ) → left ≡ Some bytes → Asks asks bytes asked
      pub kept : keeps asked k
      pub text : tells asked k told

    -- something is kept, and its text was written so
    abbrev pub Keeps : Option (List ℕ) → (List ℕ → Type 0) → Option K → Type 0
    Keeps left IsWritten None = ⊥
    Keeps left IsWritten (Some k) = (told : List ℕ) × IsAnswered left k told × IsWritten told

    -- an allocation failed: nothing is kept and nothing was written, or something is, and a part of the front of its text was
    pub record IsCutOff (before after : Scene) (kept : Option K) : Type 0 where
      pub nothing : kept ≡ None → after.taken ≡ before.taken
      pub front : IsSome kept → Keeps before.left (λ text. TakesPrefix before.taken after.taken text) kept
      pub begun : IsKeptWhereBegun before.taken after.taken kept

    -- the ends of a run, by its fault; one whose stamps ran out is over what may be so long
    abbrev pub EndsBy : (A → Type 0) → Scene → Scene → Option (Fault W) → Option K → Type 0
    EndsBy long before after None kept =
        IsAtEnd after.left × Keeps before.left (λ text. Takes before.taken after.taken text) kept × (after.flushed ≡ true)
    EndsBy long before after (Some (Input line why)) kept =
        IsRefusedAt refuses before.left line why × IsAtEnd after.left × (after.reads ≡ before.reads) × IsSilent before after kept
    EndsBy long before after (Some Read) kept = Rises before.reads after.reads × IsSilent before after kept
    EndsBy long before after (Some Write) kept =
        Rises before.writes after.writes × Keeps before.left (λ text. TakesPrefix before.taken after.taken text) kept
    EndsBy long before after (Some NoThread) kept =
        Rises before.refused after.refused × HasAsked asks before.left × IsSilent before after kept
    EndsBy long before after (Some Memory) kept = IsCutOff before after kept
    EndsBy long before after (Some (TooLong stamp)) kept =
        (2 ^ 48 ≤ stamp) × HasAsked (λ bytes asked. asks bytes asked × long asked) before.left × IsSilent before after kept
    EndsBy long before after (Some (TooLarge taken)) kept =
        (taken ≡ input_limit + 1) × HasMore input_limit before.left × ((read : List ℕ) × Reads before.left after.left taken read)
        × (after.reads ≡ before.reads) × IsSilent before after kept
