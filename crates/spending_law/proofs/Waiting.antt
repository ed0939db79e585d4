-- The puts of a rank, what a fetch brings, and the units that wait to be put.
use Rattle.std.proofs.Common.{◌≡◌, ℕ, false, List, [], ◌∷◌, ◌++◌, map, Option, Some, None, refl, sym, ap, ◌∙◌}
use Rattle.std.specs.Prelude.{ℤ, pos}
use Rattle.std.proofs.lemmas.List.{map-append, take-append-drop}
use Rattle.adlb_unit.specs.declared.names.CommonRef.{CommonRef}
use Rattle.adlb_unit.specs.declared.names.Rank.{Rank}
use Rattle.adlb_unit.specs.declared.names.Target.{Target}
use Rattle.adlb_unit.specs.declared.names.Target.TheVariants.{Any, Only}
use Rattle.adlb_unit.specs.declared.names.WorkType.{WorkType}
use Rattle.bag_ledger.specs.declared.entries.Answer.{Answer}
use Rattle.bag_ledger.specs.declared.entries.Call.{Call}
use Rattle.bag_ledger.specs.declared.entries.Call.TheVariants as calls_to
use Rattle.bag_ledger.specs.Bodies.{bytes_of}
use Rattle.balance_law.specs.Parcels.{batch_after, common_of, own_of}
use Rattle.sudoku_law.specs.Grid.{Cells}
use Rattle.job_units.specs.Bodies.{answer_body, board_body, job_body, solution_body}
use Rattle.job_units.specs.Puts.{answer_rank, filled, put_of}
use Rattle.job_units.specs.Works.{child_of, solution_at, walk_of}
use Rattle.job_units.specs.declared.jobs.Job.{Job}
use Rattle.job_units.specs.declared.units.Made.{Made}
use Rattle.job_units.specs.declared.units.Made.TheVariants as made
use Rattle.puzzle_app.specs.Arrivals.{Arrival, arrival, bytes_on, makes}
use Rattle.puzzle_app.specs.Books.{Books, brought}
use Rattle.puzzle_app.specs.Tasks.{Task, Begin, End, as_units, put_all}
use Rattle.puzzle_law.proofs.Pieces.{over, pieces, waits}

-- what holds of each put holds of the put of a unit
pub of_put : (P : Call → Type 0) →
    ((kind : WorkType) (prio : ℤ) (target : Target) (answer : Option Rank) (body : List ℕ) →
    P (calls_to.Put kind prio target answer body)) → (unit : Made) → P (put_of unit)
of_put P is (made.Board b) = is (record { 0 = 0 }) (pos (filled b.grid)) Any (Some answer_rank) (board_body b)
of_put P is (made.Solution s) = is (record { 0 = 1 }) (pos 100) (Only answer_rank) None (solution_body s)
of_put P is (made.Job j) = is (record { 0 = 2 }) (pos 50) Any (Some answer_rank) (job_body j)
of_put P is (made.Answer a) = is (record { 0 = 3 }) (pos 100) (Only answer_rank) None (answer_body a)

-- a put begins no batch and ends none
pub put_begins_none : (unit : Made) (batch : Option (List ℕ)) (said : Answer) → batch_after batch (put_of unit) said ≡ batch
put_begins_none unit batch said =
    of_put (λ call. batch_after batch call said ≡ batch) (λ kind prio target answer body. refl) unit

-- what a fetch brings
pub record IsOn (next : Books) : Type 0 where
  pub lives : next.ended ≡ false
  pub holds : next.held ≡ None
  pub stays : next.on ≡ None

-- once a unit was brought no end was told, nothing is held and no batch goes on
pub brought_on : (grain : ℕ) (common : List ℕ) (o : Option Made) (came : List Arrival) → IsOn (brought grain common o came)
brought_on grain common None came = record { lives = refl; holds = refl; stays = refl }
brought_on grain common (Some unit) came = record { lives = refl; holds = refl; stays = refl }

-- the bytes of a unit are the common ones of its batch, if it has one, and its own
pub bytes_together : (on : Option (List ℕ)) (own : List ℕ) → bytes_of on own ≡ bytes_on on ++ own
bytes_together None own = refl
bytes_together (Some common) own = refl

-- a body is its common part and its own bytes
pub parts_of_body : (common : Option CommonRef) (bytes : List ℕ) → bytes_of (common_of common bytes) (own_of common bytes) ≡ bytes
parts_of_body None bytes = refl
parts_of_body (Some c) bytes = take-append-drop c.length bytes

-- What waits.

any_bytes : (X : Type 0) (into : X → Made) (common : List ℕ) → ((x : X) → arrival common (into x) ≡ arrival [] (into x)) → (xs : List X) →
    map (arrival common) (map into xs) ≡ pieces (map into xs)
any_bytes X into common same [] = refl
any_bytes X into common same (x ∷ xs) =
    ap (λ a. a ∷ map (arrival common) (map into xs)) (same x) ∙ ap (λ l. arrival [] (into x) ∷ l) (any_bytes X into common same xs)

-- work makes no jobs
pub makes_pieces : (grain : ℕ) (common its : List ℕ) (unit : Made) →
    map (arrival common) (makes grain (over its unit)) ≡ pieces (makes grain (over its unit))
makes_pieces grain common its (made.Board b) =
    let boards : List Made = map (child_of b.puzzle) (walk_of grain b).children in
    let found : List Made = map (solution_at b.puzzle) (walk_of grain b).solutions in
    map-append (arrival common) boards found
    ∙ ap (λ l. l ++ map (arrival common) found) (any_bytes (ℕ × Cells) (child_of b.puzzle) common (λ c. refl) (walk_of grain b).children)
    ∙ ap (λ l. pieces boards ++ l) (any_bytes Cells (solution_at b.puzzle) common (λ g. refl) (walk_of grain b).solutions)
    ∙ sym (map-append (arrival []) boards found)
makes_pieces grain common its (made.Solution s) = refl
makes_pieces grain common its (made.Job j) = refl
makes_pieces grain common its (made.Answer a) = refl

-- units that are put one after the other
pub waits-put_all : (on : Option (List ℕ)) (units : List Made) (tasks : List Task) →
    waits on (put_all units ++ tasks) ≡ map (arrival (bytes_on on)) units ++ waits on tasks
unfolding waits
waits-put_all on [] tasks = refl
waits-put_all on (unit ∷ units) tasks = ap (λ l. arrival (bytes_on on) unit ∷ l) (waits-put_all on units tasks)

-- a batch that is begun, and ended after its jobs
pub batch_waits : (common : List ℕ) (jobs : List Job) (tasks : List Task) →
    waits None (Begin common jobs ∷ tasks) ≡ map (arrival common) (as_units jobs) ++ waits None tasks
unfolding waits
batch_waits common jobs tasks = refl

-- the end of a batch puts nothing
pub end_waits : (on : Option (List ℕ)) (tasks : List Task) → waits on (End ∷ tasks) ≡ waits None tasks
unfolding waits
end_waits on tasks = refl

-- without tasks nothing is to be put
pub none_waits : (on : Option (List ℕ)) → waits on [] ≡ []
unfolding waits
none_waits on = refl
