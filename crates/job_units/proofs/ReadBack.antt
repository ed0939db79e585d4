-- A unit is read back from its work type, answer rank and body, so these tell it.
use Rattle.std.proofs.Common.{◌≡◌, ℕ, List, Option, Some, None, refl, sym, ap, ◌∙◌}
use Rattle.std.specs.Prelude.{ℤ, option_map}
use Rattle.adlb_unit.specs.declared.names.Rank.{Rank}
use Rattle.adlb_unit.specs.declared.names.Target.{Target}
use Rattle.adlb_unit.specs.declared.names.WorkType.{WorkType}
use Rattle.bag_ledger.specs.declared.entries.Call.TheVariants.{Put}
use Rattle.job_units.specs.Bodies.{body_of, board_body, solution_body, job_body, answer_body}
use Rattle.job_units.specs.Forms.{IsUnit}
use Rattle.job_units.specs.Puts.{answer_rank, kind_of, put_of}
use Rattle.job_units.specs.Reading.{unit_of}
use Rattle.job_units.specs.declared.units.Made.{Made}
use Rattle.job_units.specs.declared.units.Made.TheVariants as made
use Rattle.job_units.proofs.AnswerBodies.{answer_law}
use Rattle.job_units.proofs.BoardBodies.{board_law}
use Rattle.job_units.proofs.JobBodies.{job_law}
use Rattle.job_units.proofs.SolutionBodies.{solution_law}

-- the answer rank with which a unit is put
abbrev pub rank_for : Made → Option Rank
rank_for (made.Board b) = Some answer_rank
rank_for (made.Solution s) = None
rank_for (made.Job j) = Some answer_rank
rank_for (made.Answer a) = None

-- a put has the work type, the answer rank and the body of its unit
pub put_parts : (unit : Made) (kind : WorkType) (prio : ℤ) (target : Target) (answer : Option Rank) (body : List ℕ)
    → put_of unit ≡ Put kind prio target answer body → (kind.0 ≡ kind_of unit) × (answer ≡ rank_for unit) × (body ≡ body_of unit)
put_parts (made.Board b) kind prio target answer body e =
    let type : WorkType = record { 0 = 0 } in
    let same : type ≡ kind = cc in (ap (λ (k : WorkType). k.0) (sym same), cc, cc)
put_parts (made.Solution s) kind prio target answer body e =
    let type : WorkType = record { 0 = 1 } in
    let same : type ≡ kind = cc in (ap (λ (k : WorkType). k.0) (sym same), cc, cc)
put_parts (made.Job j) kind prio target answer body e =
    let type : WorkType = record { 0 = 2 } in
    let same : type ≡ kind = cc in (ap (λ (k : WorkType). k.0) (sym same), cc, cc)
put_parts (made.Answer a) kind prio target answer body e =
    let type : WorkType = record { 0 = 3 } in
    let same : type ≡ kind = cc in (ap (λ (k : WorkType). k.0) (sym same), cc, cc)

-- a unit is read back
pub read_back : (unit : Made) → IsUnit unit → unit_of (kind_of unit) (rank_for unit) (body_of unit) ≡ Some unit
read_back (made.Board b) fits = ap (λ o. option_map made.Board o) ((board_law (board_body b) b fits).1 refl)
read_back (made.Solution s) fits = ap (λ o. option_map made.Solution o) ((solution_law (solution_body s) s fits).1 refl)
read_back (made.Job j) fits = ap (λ o. option_map made.Job o) ((job_law (job_body j) j fits).1 refl)
read_back (made.Answer a) fits = ap (λ o. option_map made.Answer o) ((answer_law (answer_body a) a fits).1 refl)

-- units with one work type have one answer rank
rank_by_kind : (x y : Made) → kind_of x ≡ kind_of y → rank_for x ≡ rank_for y
rank_by_kind (made.Board b) (made.Board y) e = refl
rank_by_kind (made.Board b) (made.Solution y) e = absurd (cc)
rank_by_kind (made.Board b) (made.Job y) e = refl
rank_by_kind (made.Board b) (made.Answer y) e = absurd (cc)
rank_by_kind (made.Solution s) (made.Board y) e = absurd (cc)
rank_by_kind (made.Solution s) (made.Solution y) e = refl
rank_by_kind (made.Solution s) (made.Job y) e = absurd (cc)
rank_by_kind (made.Solution s) (made.Answer y) e = refl
rank_by_kind (made.Job j) (made.Board y) e = refl
rank_by_kind (made.Job j) (made.Solution y) e = absurd (cc)
rank_by_kind (made.Job j) (made.Job y) e = refl
rank_by_kind (made.Job j) (made.Answer y) e = absurd (cc)
rank_by_kind (made.Answer a) (made.Board y) e = absurd (cc)
rank_by_kind (made.Answer a) (made.Solution y) e = refl
rank_by_kind (made.Answer a) (made.Job y) e = absurd (cc)
rank_by_kind (made.Answer a) (made.Answer y) e = refl

-- a work type and a body are of one unit
pub body_tells_unit : (x y : Made) → IsUnit x → IsUnit y → kind_of x ≡ kind_of y → body_of x ≡ body_of y → x ≡ y
body_tells_unit x y of_x of_y kind body =
    let here : Some x ≡ Some y =
    sym (read_back x of_x)
    ∙ ap (λ k. unit_of k (rank_for x) (body_of x)) kind
    ∙ ap (λ r. unit_of (kind_of y) r (body_of x)) (rank_by_kind x y kind)
    ∙ ap (λ b. unit_of (kind_of y) (rank_for y) b) body
    ∙ read_back y of_y in
    cc
