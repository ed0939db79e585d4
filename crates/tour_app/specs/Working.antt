-- A rank while it works: its calls so far and its desk agree.
use Rattle.std.specs.Prelude.{◌≡◌, ◌<◌, ◌≤◌, ℕ, Bool, List, [], ◌∷◌, ◌++◌, length, Option, Some, None, Result, Err, MatchBool, IfOk, OnOk}
use Rattle.adlb_unit.specs.declared.notes.Trouble.{Trouble}
use Rattle.adlb_unit.specs.declared.notes.Trouble.TheVariants.{TooLong}
use Rattle.bag_ledger.specs.declared.entries.Said.{Said}
use Rattle.rank_client.specs.Calls.{unanswered}
use Rattle.rank_client.specs.Link.{LinkModel}
use Rattle.work_law.specs.Books.{Goes, Task, Put, bytes_on, going, put_all, shut}
use Rattle.work_law.specs.Work.{Arrival}
use Rattle.tour_app.specs.Follows.{IsUnderWay, begins}
use Rattle.tour_app.specs.Works.{found, known, left_over, tours}
use Rattle.tour_app.specs.declared.desk.Desk.{Desk}
use Rattle.tour_app.specs.declared.program.TourProgram.{TourProgram}
use Rattle.tour_app.specs.declared.units.TourUnit.{TourUnit}

-- the calls lead to what waits on the desk and then the rest of the tasks, and nothing is to be fetched
pub record IsGoing (p : TourProgram) (said : List Said) (d : Desk) (rest : List (Task TourUnit)) (on : Option (List ℕ)) : Type 0 where
  pub came : List (Arrival TourUnit)
  pub goes : Goes tours (begins p) said (going (put_all d.waiting.items ++ rest) on came)
  pub stay : d.found.items ≡ known p.start ++ found came
  pub bare : left_over rest ≡ []

-- as well, and nothing waits
pub record HasPut (p : TourProgram) (said : List Said) (d : Desk) (rest : List (Task TourUnit)) (on : Option (List ℕ)) : Type 0 where
  pub going : IsGoing p said d rest on
  pub none : d.waiting.items ≡ []

-- an end was told: what waits, and then the rest of the tasks, is left
pub record IsStopped (p : TourProgram) (said : List Said) (d : Desk) (on : Option (List ℕ)) : Type 0 where
  pub rest : List (Task TourUnit)
  pub came : List (Arrival TourUnit)
  pub goes : Goes tours (begins p) said (shut (put_all d.waiting.items ++ rest) on came)
  pub stay : d.found.items ≡ known p.start ++ found came
  pub bare : left_over rest ≡ []

-- all before the rest was done, or an end was told
abbrev pub Passes : TourProgram → List Said → Desk → List (Task TourUnit) → Option (List ℕ) → Bool → Type 0
Passes p said d rest on all = MatchBool all (HasPut p said d rest on) (IsStopped p said d on)

-- these tasks are the next, in a batch with these common bytes, if in one
abbrev pub CanDo : TourProgram → List Said → Desk → List ℕ → Type 0
CanDo p said d common = (rest : List (Task TourUnit)) × (on : Option (List ℕ)) × (bytes_on on ≡ common) × IsGoing p said d rest on

-- What work makes of a link and a desk.

-- a rank can work over this link: it has not failed, and there is a rank to which answers go
pub record IsReady (m : LinkModel) : Type 0 where
  pub whole : m.failed ≡ None
  pub ranks : 0 < m.seat.ranks

-- the calls are those of the program, with what is begun after them
abbrev pub IsOnWay : TourProgram → LinkModel → Type 0
IsOnWay p m = IsUnderWay p m.said (unanswered m.failed m.begun)

-- whom the link serves stays; at `Ok` it has not failed, and a batch goes on or not, as `on` says; it failed with the stamp that is told
pub record Keeps {X : Type 0} (old new : LinkModel) (on : Bool) (r : Result X Trouble) : Type 0 where
  pub seat : new.seat ≡ old.seat
  pub whole : OnOk r (new.failed ≡ None)
  pub batch : OnOk r (new.batch ≡ on)
  pub too_long : (stamp : ℕ) → r ≡ Err (TooLong stamp) → new.failed ≡ Some (TooLong stamp)

-- where what waits, and then the rest, was to be done, the rest is left, or an end was told
abbrev pub Does : TourProgram → LinkModel → Desk → Option (List ℕ) → LinkModel → Desk → Option (List ℕ) → Result Bool Trouble → Type 0
Does p old before on new after on' r =
    (rest : List (Task TourUnit)) → IsGoing p old.said before rest on → IfOk r (λ all. Passes p new.said after rest on' all)
