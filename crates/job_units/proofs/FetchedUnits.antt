-- The unit of a fetch: its own bytes are the last, and what is read has the form of a unit.
use Rattle.std.proofs.Common.{◌≡◌, ℕ, ◌-◌, ◌&&◌, ◌==◌, Bool, true, false, cond, List, ◌++◌, length, take, drop, Option, Some, None, refl}
use Rattle.std.proofs.Common.{ap, ◌∙◌, subst, arith, length-append}
use Rattle.std.specs.Prelude.{ℤ, is_none, option_map}
use Rattle.std.proofs.Math.Seq.{drop-append_seam, take-append_seam}
use Rattle.adlb_unit.specs.declared.names.Rank.{Rank}
use Rattle.adlb_unit.specs.declared.names.Target.{Target}
use Rattle.adlb_unit.specs.declared.names.WorkType.{WorkType}
use Rattle.adlb_unit.specs.declared.notes.UnitNote.{UnitNote}
use Rattle.bag_ledger.specs.declared.entries.Call.TheVariants.{Put}
use Rattle.job_units.specs.Forms.{IsUnit}
use Rattle.job_units.specs.Puts.{kind_of, put_of}
use Rattle.job_units.specs.Reading.{answer_of_body, board_of_body, common_bytes, fetched, is_answer_rank, job_of_body, own_bytes}
use Rattle.job_units.specs.Reading.{solution_of_body, unit_of}
use Rattle.job_units.specs.declared.answers.Answer.{Answer}
use Rattle.job_units.specs.declared.boards.Board.{Board}
use Rattle.job_units.specs.declared.jobs.Job.{Job}
use Rattle.job_units.specs.declared.solutions.Solution.{Solution}
use Rattle.job_units.specs.declared.units.Made.{Made}
use Rattle.job_units.specs.declared.units.Made.TheVariants as made
use Rattle.job_units.proofs.AnswerBodies.{answer_fits}
use Rattle.job_units.proofs.BoardBodies.{board_fits}
use Rattle.job_units.proofs.JobBodies.{job_fits}
use Rattle.job_units.proofs.ReadBack.{put_parts, rank_for, read_back}
use Rattle.job_units.proofs.SolutionBodies.{solution_fits}

seam : (common body : List ℕ) (long : ℕ) → long ≡ length body → length (common ++ body) - long ≡ length common
seam common body long is = omega (arith, length-append common body)

-- the common bytes and the own bytes of a fetch
pub own_behind : (common body : List ℕ) (long : ℕ) → long ≡ length body → own_bytes long (common ++ body) ≡ body
own_behind common body long is = ap (λ n. drop n (common ++ body)) (seam common body long is) ∙ drop-append_seam common body

-- the bytes before a body of the given length are the common part
pub common_before : (common body : List ℕ) (long : ℕ) → long ≡ length body → common_bytes long (common ++ body) ≡ common
common_before common body long is = ap (λ n. take n (common ++ body)) (seam common body long is) ∙ take-append_seam common body

-- a unit that was put is read back from these parts of the put and its fetch
pub put_back : (unit : Made) (kind : WorkType) (prio : ℤ) (target : Target) (answer : Option Rank) (body common : List ℕ) (long : ℕ)
    → IsUnit unit → put_of unit ≡ Put kind prio target answer body → long ≡ length body
    → unit_of kind.0 answer (own_bytes long (common ++ body)) ≡ Some unit
put_back unit kind prio target answer body common long fits put is =
    let parts = put_parts unit kind prio target answer body put in
    ap (λ b. unit_of kind.0 answer b) (own_behind common body long is)
    ∙ ap (λ k. unit_of k answer body) parts.0
    ∙ ap (λ r. unit_of (kind_of unit) r body) parts.1
    ∙ ap (λ b. unit_of (kind_of unit) (rank_for unit) b) parts.2
    ∙ read_back unit fits

-- a unit that was put is read back from its fetch
pub fetch_back : (unit : Made) (note : UnitNote) (target : Target) (body common : List ℕ) → IsUnit unit
    → put_of unit ≡ Put note.kind note.prio target note.answer body → note.length ≡ length body → fetched note (common ++ body) ≡ Some unit
fetch_back unit note target body common fits put long =
    put_back unit note.kind note.prio target note.answer body common note.length fits put long

-- what is read, if anything, has the form of a unit
abbrev IsUnitIf : Option Made → Type 0
IsUnitIf None = Unit {0}
IsUnitIf (Some unit) = IsUnit unit

if_mapped : (X : Type 0) (into : X → Made) (o : Option X) → ((x : X) → o ≡ Some x → IsUnit (into x)) → IsUnitIf (option_map into o)
if_mapped X into None fits = tt
if_mapped X into (Some x) fits = fits x refl

by_kind : (a b c d : Bool) (w x y z : Option Made) → IsUnitIf w → IsUnitIf x → IsUnitIf y → IsUnitIf z
    → IsUnitIf (cond a w (cond b x (cond c y (cond d z None))))
by_kind true b c d w x y z of_w of_x of_y of_z = of_w
by_kind false true c d w x y z of_w of_x of_y of_z = of_x
by_kind false false true d w x y z of_w of_x of_y of_z = of_y
by_kind false false false true w x y z of_w of_x of_y of_z = of_z
by_kind false false false false w x y z of_w of_x of_y of_z = tt

read_fits : (note : UnitNote) (bytes : List ℕ) → IsUnitIf (fetched note bytes)
read_fits note bytes =
    let kind : ℕ = note.kind.0 in
    let own : List ℕ = own_bytes note.length bytes in
    by_kind ((kind == 0) && is_answer_rank note.answer) ((kind == 1) && is_none note.answer)
    ((kind == 2) && is_answer_rank note.answer) ((kind == 3) && is_none note.answer)
    (option_map made.Board (board_of_body own)) (option_map made.Solution (solution_of_body own))
    (option_map made.Job (job_of_body own)) (option_map made.Answer (answer_of_body own))
    (if_mapped Board made.Board (board_of_body own) (board_fits own))
    (if_mapped Solution made.Solution (solution_of_body own) (solution_fits own))
    (if_mapped Job made.Job (job_of_body own) (job_fits own)) (if_mapped Answer made.Answer (answer_of_body own) (answer_fits own))

-- what is read from a fetch has the form of a unit
pub fetched_fits : (note : UnitNote) (bytes : List ℕ) (unit : Made) → fetched note bytes ≡ Some unit → IsUnit unit
fetched_fits note bytes unit e = subst IsUnitIf e (read_fits note bytes)
