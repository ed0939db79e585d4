-- A fetch is read as the unit that it is of, or as none if it is of none.
use Rattle.std.proofs.Common.{◌≡◌, ◌↔◌, ℕ, ℤ, ◌==◌, ◌&&◌, Bool, true, false, cond, List, Option, Some, None, refl, sym, ap, ◌∙◌, subst}
use Rattle.std.specs.Prelude.{is_none, option_map, pos}
use Rattle.std.proofs.lemmas.Bool.{and_parts, eqb-true}
use Rattle.adlb_unit.specs.declared.names.Rank.{Rank}
use Rattle.adlb_unit.specs.declared.names.Target.{Target}
use Rattle.adlb_unit.specs.declared.names.Target.TheVariants.{Any, Only}
use Rattle.adlb_unit.specs.declared.names.WorkType.{WorkType}
use Rattle.adlb_unit.specs.declared.notes.UnitNote.{UnitNote}
use Rattle.bag_ledger.specs.declared.entries.Answer.TheVariants.{Body}
use Rattle.bag_ledger.specs.declared.entries.Call.TheVariants as calls_to
use Rattle.job_units.specs.Bodies.{answer_body, board_body, body_of, job_body, solution_body}
use Rattle.job_units.specs.Puts.{answer_rank, filled, kind_of, put_of}
use Rattle.job_units.specs.Reading.{answer_of_body, board_of_body, common_bytes, fetched as unit_fetched, is_answer_rank, job_of_body}
use Rattle.job_units.specs.Reading.{own_bytes, solution_of_body, unit_of}
use Rattle.job_units.specs.declared.answers.Answer.{Answer}
use Rattle.job_units.specs.declared.boards.Board.{Board}
use Rattle.job_units.specs.declared.jobs.Job.{Job}
use Rattle.job_units.specs.declared.solutions.Solution.{Solution}
use Rattle.job_units.specs.declared.units.Made.{Made}
use Rattle.job_units.specs.declared.units.Made.TheVariants as made
use Rattle.job_units.proofs.AnswerBodies.{answer_fits, answer_law}
use Rattle.job_units.proofs.BoardBodies.{board_fits, board_law}
use Rattle.job_units.proofs.FetchedUnits.{fetched_fits}
use Rattle.job_units.proofs.JobBodies.{job_fits, job_law}
use Rattle.job_units.proofs.ReadBack.{put_parts, rank_for, read_back}
use Rattle.job_units.proofs.SolutionBodies.{solution_fits, solution_law}
use Rattle.puzzle_app.specs.Arrivals.{Arrival}
use Rattle.puzzle_app.specs.Books.{Books, IsFetchOf, Moves, brought, fetched, holding, said_of}

-- a work type, an answer rank and a body are those of a put of this unit
pub record AreOf (kind : WorkType) (answer : Option Rank) (body : List ℕ) (unit : Made) : Type 0 where
  pub kind_is : kind.0 ≡ kind_of unit
  pub answer_is : answer ≡ rank_for unit
  pub body_is : body ≡ body_of unit

put_same : (number : ℕ) (prio : ℤ) (target : Target) (rank : Option Rank) (own : List ℕ) (kind : WorkType) (answer : Option Rank)
    (body : List ℕ) → kind.0 ≡ number → answer ≡ rank → body ≡ own →
    calls_to.Put (record { 0 = number }) prio target rank own ≡ calls_to.Put kind prio target answer body
put_same number prio target rank own kind answer body kind_is answer_is body_is =
    ap (λ (n : ℕ). calls_to.Put (record { 0 = n }) prio target rank own) (sym kind_is)
    ∙ ap (λ (r : Option Rank). calls_to.Put kind prio target r own) (sym answer_is)
    ∙ ap (λ (b : List ℕ). calls_to.Put kind prio target answer b) (sym body_is)

-- so there is such a put
put_with : (kind : WorkType) (answer : Option Rank) (body : List ℕ) (unit : Made) → AreOf kind answer body unit →
    (prio : ℤ) × (target : Target) × (put_of unit ≡ calls_to.Put kind prio target answer body)
put_with kind answer body (made.Board b) are = (
  pos (filled b.grid),
  Any,
  put_same 0 (pos (filled b.grid)) Any (Some answer_rank) (board_body b) kind answer body are.kind_is are.answer_is are.body_is,
)
put_with kind answer body (made.Solution s) are = (
  pos 100,
  Only answer_rank,
  put_same 1 (pos 100) (Only answer_rank) None (solution_body s) kind answer body are.kind_is are.answer_is are.body_is,
)
put_with kind answer body (made.Job j) are = (
  pos 50,
  Any,
  put_same 2 (pos 50) Any (Some answer_rank) (job_body j) kind answer body are.kind_is are.answer_is are.body_is,
)
put_with kind answer body (made.Answer a) are = (
  pos 100,
  Only answer_rank,
  put_same 3 (pos 100) (Only answer_rank) None (answer_body a) kind answer body are.kind_is are.answer_is are.body_is,
)

-- What is read has these parts.

abbrev IsRead : WorkType → Option Rank → List ℕ → Option Made → Type 0
IsRead kind answer body None = Unit {0}
IsRead kind answer body (Some unit) = AreOf kind answer body unit

pick : (Q : Option Made → Type 0) (a b c d : Bool) (w x y z : Option Made) → (a ≡ true → Q w) → (b ≡ true → Q x) → (c ≡ true → Q y) →
    (d ≡ true → Q z) → Q None → Q (cond a w (cond b x (cond c y (cond d z None))))
pick Q true b c d w x y z of_w of_x of_y of_z none = of_w refl
pick Q false true c d w x y z of_w of_x of_y of_z none = of_x refl
pick Q false false true d w x y z of_w of_x of_y of_z none = of_y refl
pick Q false false false true w x y z of_w of_x of_y of_z none = of_z refl
pick Q false false false false w x y z of_w of_x of_y of_z none = none

mapped : (Q : Option Made → Type 0) (X : Type 0) (into : X → Made) (o : Option X) → Q None → ((x : X) → o ≡ Some x → Q (Some (into x))) →
    Q (option_map into o)
mapped Q X into None none some = none
mapped Q X into (Some x) none some = some x refl

for_answers : (answer : Option Rank) → is_answer_rank answer ≡ true → answer ≡ Some answer_rank
for_answers None e = absurd (cc)
for_answers (Some rank) e = ap (λ n. let r : Rank = record { 0 = n } in Some r) (eqb-true rank.0 0 e)

for_none : (answer : Option Rank) → is_none answer ≡ true → answer ≡ None
for_none None e = refl
for_none (Some rank) e = absurd (cc)

module _ (kind : WorkType) (answer : Option Rank) (body : List ℕ) where
  read_is : IsRead kind answer body (unit_of kind.0 answer body)
  read_is =
      let Q : Option Made → Type 0 = λ o. IsRead kind answer body o in
      pick Q ((kind.0 == 0) && is_answer_rank answer) ((kind.0 == 1) && is_none answer) ((kind.0 == 2) && is_answer_rank answer)
      ((kind.0 == 3) && is_none answer) (option_map made.Board (board_of_body body)) (option_map made.Solution (solution_of_body body))
      (option_map made.Job (job_of_body body)) (option_map made.Answer (answer_of_body body))
      (λ test. mapped Q Board made.Board (board_of_body body) tt (λ b e. record {
        kind_is = eqb-true kind.0 0 (and_parts (kind.0 == 0) (is_answer_rank answer) test).0;
        answer_is = for_answers answer (and_parts (kind.0 == 0) (is_answer_rank answer) test).1;
        body_is = (board_law body b (board_fits body b e)).0 e;
      }))
      (λ test. mapped Q Solution made.Solution (solution_of_body body) tt (λ s e. record {
        kind_is = eqb-true kind.0 1 (and_parts (kind.0 == 1) (is_none answer) test).0;
        answer_is = for_none answer (and_parts (kind.0 == 1) (is_none answer) test).1;
        body_is = (solution_law body s (solution_fits body s e)).0 e;
      }))
      (λ test. mapped Q Job made.Job (job_of_body body) tt (λ j e. record {
        kind_is = eqb-true kind.0 2 (and_parts (kind.0 == 2) (is_answer_rank answer) test).0;
        answer_is = for_answers answer (and_parts (kind.0 == 2) (is_answer_rank answer) test).1;
        body_is = (job_law body j (job_fits body j e)).0 e;
      }))
      (λ test. mapped Q Answer made.Answer (answer_of_body body) tt (λ a e. record {
        kind_is = eqb-true kind.0 3 (and_parts (kind.0 == 3) (is_none answer) test).0;
        answer_is = for_none answer (and_parts (kind.0 == 3) (is_none answer) test).1;
        body_is = (answer_law body a (answer_fits body a e)).0 e;
      }))
      tt

-- What is read of a fetch is the unit that it is of.

module _ (note : UnitNote) (bytes : List ℕ) where
  abbrev own : List ℕ
  own = own_bytes note.length bytes

  -- the bytes are read as a unit exactly if they are a fetch of it
  pub reads_is : (x : Made) → (unit_fetched note bytes ≡ Some x) ↔ IsFetchOf note bytes x
  reads_is x = (
    λ e.
        let parts : AreOf note.kind note.answer own x =
        subst (λ o. IsRead note.kind note.answer own o) e (read_is note.kind note.answer own) in
        let put = put_with note.kind note.answer own x parts in
        record { form = fetched_fits note bytes x e; prio = put.0; target = put.1; put_is = put.2 },
    λ is.
        let parts = put_parts x note.kind is.prio is.target note.answer own is.put_is in
        ap (λ k. unit_of k note.answer own) parts.0 ∙ ap (λ r. unit_of (kind_of x) r own) parts.1
        ∙ ap (λ b. unit_of (kind_of x) (rank_for x) b) parts.2 ∙ read_back x is.form,
  )

same_option : {X : Type 0} (a b : Option X) → ((x : X) → a ≡ Some x → b ≡ Some x) → ((x : X) → b ≡ Some x → a ≡ Some x) → a ≡ b
same_option (Some x) b there back = sym (there x refl)
same_option None (Some y) there back = back y refl
same_option None None there back = refl

-- what agrees with each fetch is what is read
pub fetched_is : (note : UnitNote) (bytes : List ℕ) (unit : Option Made) → ((x : Made) → (unit ≡ Some x) ↔ IsFetchOf note bytes x) →
    unit ≡ unit_fetched note bytes
fetched_is note bytes unit is =
    same_option unit (unit_fetched note bytes) (λ x e. (reads_is note bytes x).1 ((is x).0 e))
    (λ x e. (is x).1 ((reads_is note bytes x).0 e))

-- so a fetch is the next call
pub fetch_moves : (grain : ℕ) (came : List Arrival) (note : UnitNote) (bytes : List ℕ) (next : Books) →
    next ≡ brought grain (common_bytes note.length bytes) (unit_fetched note bytes) came →
    Moves grain (holding note came) (said_of (calls_to.Fetch note.id) (Body bytes)) next
fetch_moves grain came note bytes next is = fetched came note bytes (unit_fetched note bytes) (reads_is note bytes) refl refl is
