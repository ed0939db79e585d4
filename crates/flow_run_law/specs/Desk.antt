-- The desk of a rank that runs a flow: which call it makes next, and what the answer leaves.
use Rattle.std.specs.Prelude.{◌≡◌, ◌⊎◌, ◌==◌, ℕ, Bool, true, false, List, [], ◌∷◌, ◌++◌, Contains, Option, Some, None, if◌then◌else◌}
use Rattle.std.specs.List.{list_any}
use Rattle.adlb_unit.specs.declared.notes.End as told_end
use Rattle.adlb_unit.specs.declared.notes.UnitNote.{UnitNote}
use Rattle.bag_ledger.specs.declared.entries.Answer.TheVariants as answers
use Rattle.bag_ledger.specs.declared.entries.Call.TheVariants as calls_to
use Rattle.bag_ledger.specs.declared.entries.Said.{Said}
use Rattle.flow_law.specs.Flows.{Name, apply}
use Rattle.flow_law.specs.declared.Definition.{Definition}
use Rattle.flow_law.specs.declared.Definition.TheVariants as defines
use Rattle.flow_law.specs.declared.Op.{Op}
use Rattle.work_law.specs.Work.{fetched_unit, put_of}
use Rattle.work_law.specs.Books.{said_of}
use Rattle.flow_run_law.specs.Units.{Answer, FlowUnit, Forms, IsRule, Rule, flows}

-- The values of rules that rank 0 stored, and the rules that it put. The answers of fetched units that are still to be put, and those that
-- no server took, the oldest first. Whether the oldest was put once more since the last reserve. The unit that was granted and is to be
-- fetched; and whether an end was told.
pub record Desk : Type 0 where
  pub stored : List (ℕ × ℕ)
  pub put : List ℕ
  pub owed : List (ℕ × ℕ)
  pub kept : List (ℕ × ℕ)
  pub tried : Bool
  pub held : Option UnitNote
  pub ended : Bool

-- the desk before the first call
abbrev pub at_start : Desk
at_start = record { stored = []; put = []; owed = []; kept = []; tried = false; held = None; ended = false }

-- the first value of a rule stays
abbrev pub add : ℕ × ℕ → List (ℕ × ℕ) → List (ℕ × ℕ)
add x stored = if list_any (λ y. y.0 == x.0) stored then stored else stored ++ x ∷ []

-- what rank 0 knows of a name: its `let`, or the stored value of its rule
pub data Knows (flow : List Definition) (stored : List (ℕ × ℕ)) : Name → ℕ → Type 0 where
  given : (name : Name) (v : ℕ) → Contains flow (defines.Let name v) → Knows flow stored name v
  stored_is : (name : Name) (v i : ℕ) (op : Op) (left right : Name) → IsRule flow i name op left right → Contains stored (i, v) →
      Knows flow stored name v

-- a rule whose inputs are known, with their values
pub record IsReady (flow : List Definition) (stored : List (ℕ × ℕ)) (i : ℕ) (op : Op) (a b : ℕ) : Type 0 where
  pub name : Name
  pub left : Name
  pub right : Name
  pub is : IsRule flow i name op left right
  pub of_left : Knows flow stored left a
  pub of_right : Knows flow stored right b

-- the rank is free to make its next call
pub record IsFree (d : Desk) : Type 0 where
  pub none_owed : d.owed ≡ []
  pub none_held : d.held ≡ None
  pub live : d.ended ≡ false

-- it may reserve: rank 0 once each rule that is ready was put, another rank once it has put the oldest answer that it keeps once more
abbrev pub MayReserve : Option (List Definition) → Desk → Type 0
MayReserve (Some flow) d = (i : ℕ) (op : Op) (a b : ℕ) → IsReady flow d.stored i op a b → Contains d.put i
MayReserve None d = (d.kept ≡ []) ⊎ (d.tried ≡ true)

-- an answer that no server took: rank 0 stores it, another rank keeps it
abbrev pub refused : Option (List Definition) → ℕ × ℕ → Desk → Desk
refused (Some flow) x d = record d { stored = add x d.stored }
refused None x d = record d { kept = d.kept ++ x ∷ [] }

-- what a fetch brings
abbrev pub brought : Option (List Definition) → Option FlowUnit → Desk → Desk
brought flow None d = d
brought flow (Some (Rule i op a b)) d = record d { owed = (i, apply op a b) ∷ [] }
brought (Some flow) (Some (Answer i v)) d = record d { stored = add (i, v) d.stored }
brought None (Some (Answer i v)) d = d

-- the unit of an answer
abbrev pub unit_of : ℕ × ℕ → FlowUnit
unit_of x = Answer x.0 x.1

-- the next call of a rank, with its answer
pub data Moves (F : Forms) (flow : Option (List Definition)) (d : Desk) (s : Said) (next : Desk) : Type 0 where
  -- rank 0 puts a rule that is ready and that it did not put before, and a server takes it
  rule_taken : (f : List Definition) (i : ℕ) (op : Op) (a b : ℕ) → flow ≡ Some f → IsFree d → IsReady f d.stored i op a b →
      (Contains d.put i → ⊥) → F.fits (Rule i op a b) ≡ true → s ≡ said_of (put_of (flows F) (Rule i op a b)) answers.Fine →
      next ≡ record d { put = d.put ++ i ∷ [] } → Moves F flow d s next
  -- none does: it works the rule itself and stores the value
  rule_refused : (f : List Definition) (i : ℕ) (op : Op) (a b : ℕ) → flow ≡ Some f → IsFree d → IsReady f d.stored i op a b →
      (Contains d.put i → ⊥) → F.fits (Rule i op a b) ≡ true → s ≡ said_of (put_of (flows F) (Rule i op a b)) answers.Rejected →
      next ≡ record d { put = d.put ++ i ∷ []; stored = add (i, apply op a b) d.stored } → Moves F flow d s next
  rule_stopped : (f : List Definition) (i : ℕ) (op : Op) (a b : ℕ) (end : told_end.End) → flow ≡ Some f → IsFree d →
      IsReady f d.stored i op a b → (Contains d.put i → ⊥) → F.fits (Rule i op a b) ≡ true →
      s ≡ said_of (put_of (flows F) (Rule i op a b)) (answers.Ended end) → next ≡ record d { ended = true } → Moves F flow d s next
  -- it puts an answer that it owes
  answer_taken : (x : ℕ × ℕ) (rest : List (ℕ × ℕ)) → d.owed ≡ x ∷ rest → d.held ≡ None → d.ended ≡ false → F.fits (unit_of x) ≡ true →
      s ≡ said_of (put_of (flows F) (unit_of x)) answers.Fine → next ≡ record d { owed = rest } → Moves F flow d s next
  answer_refused : (x : ℕ × ℕ) (rest : List (ℕ × ℕ)) → d.owed ≡ x ∷ rest → d.held ≡ None → d.ended ≡ false → F.fits (unit_of x) ≡ true →
      s ≡ said_of (put_of (flows F) (unit_of x)) answers.Rejected → next ≡ refused flow x (record d { owed = rest }) → Moves F flow d s next
  answer_stopped : (x : ℕ × ℕ) (rest : List (ℕ × ℕ)) (end : told_end.End) → d.owed ≡ x ∷ rest → d.held ≡ None → d.ended ≡ false →
      F.fits (unit_of x) ≡ true → s ≡ said_of (put_of (flows F) (unit_of x)) (answers.Ended end) →
      next ≡ record d { owed = rest; kept = d.kept ++ x ∷ []; ended = true } → Moves F flow d s next
  -- it puts the oldest answer that it keeps once more
  again_taken : (x : ℕ × ℕ) (rest : List (ℕ × ℕ)) → flow ≡ None → IsFree d → d.kept ≡ x ∷ rest → d.tried ≡ false →
      F.fits (unit_of x) ≡ true →
      s ≡ said_of (put_of (flows F) (unit_of x)) answers.Fine → next ≡ record d { kept = rest; tried = true } → Moves F flow d s next
  again_refused : (x : ℕ × ℕ) (rest : List (ℕ × ℕ)) → flow ≡ None → IsFree d → d.kept ≡ x ∷ rest → d.tried ≡ false →
      F.fits (unit_of x) ≡ true → s ≡ said_of (put_of (flows F) (unit_of x)) answers.Rejected → next ≡ record d { tried = true } →
      Moves F flow d s next
  again_stopped : (x : ℕ × ℕ) (rest : List (ℕ × ℕ)) (end : told_end.End) → flow ≡ None → IsFree d → d.kept ≡ x ∷ rest → d.tried ≡ false →
      F.fits (unit_of x) ≡ true → s ≡ said_of (put_of (flows F) (unit_of x)) (answers.Ended end) → next ≡ record d { ended = true } →
      Moves F flow d s next
  -- it reserves a unit of any type, and one is granted, or an end is told
  granted : (note : UnitNote) → IsFree d → MayReserve flow d → s ≡ said_of (calls_to.Reserve None) (answers.Granted note) →
      next ≡ record d { held = Some note; tried = false } → Moves F flow d s next
  told : (end : told_end.End) → IsFree d → MayReserve flow d → s ≡ said_of (calls_to.Reserve None) (answers.Ended end) →
      next ≡ record d { ended = true } → Moves F flow d s next
  -- it fetches the unit that was granted
  fetched : (note : UnitNote) (bytes : List ℕ) → d.held ≡ Some note → d.owed ≡ [] → d.ended ≡ false →
      s ≡ said_of (calls_to.Fetch note.id) (answers.Body bytes) →
      next ≡ brought flow (fetched_unit (flows F) note bytes) (record d { held = None }) → Moves F flow d s next

-- the calls lead from this desk to that
abbrev pub Goes : Forms → Option (List Definition) → Desk → List Said → Desk → Type 0
Goes F flow d [] last = d ≡ last
Goes F flow d (s ∷ said) last = (next : Desk) × Moves F flow d s next × Goes F flow next said last
