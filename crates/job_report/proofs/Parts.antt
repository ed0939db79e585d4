-- The report, job by job.
use Rattle.std.proofs.Common.{◌≡◌, ℕ, ◌+◌, ◌<◌, ◌≤◌, List, [], ◌∷◌, ◌++◌, length, drop, get_or}
use Rattle.std.proofs.Common.{refl, sym, ap, ◌∙◌, subst, append_assoc, append-nil}
use Rattle.std.proofs.lemmas.List.{drop_all, drop_more}
use Rattle.sudoku_law.specs.Grid.{Cells}
use Rattle.job_text.specs.declared.items.Item.{Item}
use Rattle.job_text.specs.declared.jobs.Job.{Job}
use Rattle.job_text.specs.declared.jobs.Job.TheVariants.{Puzzle, Batch}
use Rattle.job_report.specs.inside.{batch_head, batch_told, grids_at, is_over_at}
use Rattle.job_report.specs.Jobs.{all_boards, all_items, all_solutions}
use Rattle.job_report.specs.Report.{AreParts, IsPuzzlePart, IsReport, batch_part, totals}
use Rattle.job_report.specs.Whole.{AreHeld, AreWhole, IsHeld, found, made_in, told_over}
use Rattle.job_report.specs.declared.answers.Answers.{Answers}
use Rattle.job_report.specs.declared.found.Found.{Found}
use Rattle.job_report.specs.declared.outcomes.Outcome.{Outcome}
use Rattle.job_report.proofs.Told.{IsLookUp, lines_are}

-- what is known of the text before the jobs that are left
abbrev pub IsBefore : List Job → ℕ → ℕ → List Job → List Outcome → List ℕ → Type 0
IsBefore all p b left outcomes text =
    (budget : ℕ) → AreHeld budget 1 1 all outcomes →
    AreHeld budget p b left outcomes × ((more : List ℕ) → AreParts budget p b left more → AreParts budget 1 1 all (text ++ more))

-- what is known before the jobs, at equal numbers and texts
pub before_at : (all : List Job) (p q b d : ℕ) (left : List Job) (outcomes : List Outcome) (text next : List ℕ) → p ≡ q → b ≡ d →
    text ≡ next → IsBefore all q d left outcomes next → IsBefore all p b left outcomes text
before_at all p q b d left outcomes text next e1 e2 e3 before =
    subst (λ n. IsBefore all n b left outcomes text) (sym e1)
    (subst (λ n. IsBefore all q n left outcomes text) (sym e2) (subst (λ t. IsBefore all q d left outcomes t) (sym e3) before))

-- the part of a puzzle that was appended
abbrev pub AddsPuzzle : ℕ → List Outcome → List ℕ → List ℕ → Type 0
AddsPuzzle p outcomes text next =
    (part : List ℕ) × (next ≡ text ++ part) × ((budget : ℕ) (g : Cells) → IsHeld budget p g outcomes → IsPuzzlePart budget p g part)

-- it was made of what all outcomes have of the puzzle
pub adds_puzzle : (p : ℕ) (f : Found) (outcomes : List Outcome) (text next : List ℕ) →
    ((part : List ℕ) × (next ≡ text ++ part) × ((all : List Outcome) (budget : ℕ) (g : Cells) → grids_at f p ≡ found p all →
    is_over_at f p ≡ told_over p all → IsHeld budget p g all → IsPuzzlePart budget p g part)) →
    grids_at f p ≡ found p outcomes → is_over_at f p ≡ told_over p outcomes → AddsPuzzle p outcomes text next
adds_puzzle p f outcomes text next (part, is, law) grids over = (part, is, λ budget g held. law outcomes budget g grids over held)

-- one more puzzle
pub puzzle_before : (all : List Job) (p b : ℕ) (g : Cells) (left : List Job) (outcomes : List Outcome) (text next : List ℕ) →
    AddsPuzzle p outcomes text next → IsBefore all p b (Puzzle g ∷ left) outcomes text → IsBefore all (p + 1) b left outcomes next
puzzle_before all p b g left outcomes text next (part, is, law) so_far budget held =
    let before = so_far budget held in (
      before.0.1,
      λ more parts.
          let whole : AreParts budget 1 1 all (text ++ (part ++ more)) =
          before.1 (part ++ more) (part, more, law budget g before.0.0, parts, refl) in
          subst (λ t. AreParts budget 1 1 all t) (sym (ap (λ t. t ++ more) is ∙ append_assoc text part more)) whole,
    )

-- one more batch
pub batch_before : (all : List Job) (p b : ℕ) (common : List ℕ) (items : List Item) (left : List Job) (answers : Answers)
    (outcomes : List Outcome) (text next : List ℕ) → IsLookUp answers outcomes →
    next ≡ text ++ batch_told answers b (length common) items → IsBefore all p b (Batch common items ∷ left) outcomes text →
    IsBefore all p (b + 1) left outcomes next
batch_before all p b common items left answers outcomes text next looked added so_far budget held =
    let before = so_far budget held in
    let part : List ℕ = batch_part b common items in
    let head : List ℕ = batch_head b (length common) (length items) in
    let is : next ≡ text ++ part =
    added ∙ ap (λ x. text ++ (head ++ x)) (lines_are answers outcomes b 1 common items looked before.0.0) in (
      before.0.1,
      λ more parts.
          let whole : AreParts budget 1 1 all (text ++ (part ++ more)) = before.1 (part ++ more) (more, parts, refl) in
          subst (λ t. AreParts budget 1 1 all t) (sym (ap (λ t. t ++ more) is ∙ append_assoc text part more)) whole,
    )

-- the jobs that are left begin with this one
pub begins : (i : ℕ) (jobs : List Job) (job same : Job) → i < length jobs → job ≡ get_or jobs i job → job ≡ same →
    drop i jobs ≡ same ∷ drop (i + 1) jobs
begins i jobs job same within is kind = drop_more jobs i job within ∙ ap (λ j. j ∷ drop (i + 1) jobs) (sym is ∙ kind)

-- a puzzle of the list
pub puzzle_more : (i p b : ℕ) (jobs : List Job) (job : Job) (g : Cells) (outcomes : List Outcome) (text next : List ℕ) →
    i < length jobs → job ≡ get_or jobs i job → job ≡ Puzzle g → AddsPuzzle p outcomes text next →
    IsBefore jobs p b (drop i jobs) outcomes text → IsBefore jobs (p + 1) b (drop (i + 1) jobs) outcomes next
puzzle_more i p b jobs job g outcomes text next within is kind added so_far =
    let here : IsBefore jobs p b (Puzzle g ∷ drop (i + 1) jobs) outcomes text =
    subst (λ left. IsBefore jobs p b left outcomes text) (begins i jobs job (Puzzle g) within is kind) so_far in
    puzzle_before jobs p b g (drop (i + 1) jobs) outcomes text next added here

-- a batch of the list
pub batch_more : (i p b : ℕ) (jobs : List Job) (job : Job) (common : List ℕ) (items : List Item) (bytes : ℕ) (listed : List Item)
    (answers : Answers) (outcomes : List Outcome) (text next : List ℕ) → i < length jobs → job ≡ get_or jobs i job →
    job ≡ Batch common items → bytes ≡ length common → listed ≡ items → IsLookUp answers outcomes →
    next ≡ text ++ batch_told answers b bytes listed → IsBefore jobs p b (drop i jobs) outcomes text →
    IsBefore jobs p (b + 1) (drop (i + 1) jobs) outcomes next
batch_more i p b jobs job common items bytes listed answers outcomes text next within is kind long same looked added so_far =
    let told : next ≡ text ++ batch_told answers b (length common) items =
    added ∙ ap (λ n. text ++ batch_told answers b n listed) long ∙ ap (λ l. text ++ batch_told answers b (length common) l) same in
    let here : IsBefore jobs p b (Batch common items ∷ drop (i + 1) jobs) outcomes text =
    subst (λ left. IsBefore jobs p b left outcomes text) (begins i jobs job (Batch common items) within is kind) so_far in
    batch_before jobs p b common items (drop (i + 1) jobs) answers outcomes text next looked told here

-- the totals after all parts
pub totals_are : (budget grain : ℕ) (jobs : List Job) (outcomes : List Outcome) → AreWhole budget grain jobs outcomes →
    totals (made_in 0 outcomes) (made_in 1 outcomes) (made_in 2 outcomes) (made_in 3 outcomes)
    ≡ totals (all_boards budget grain jobs) (all_solutions budget jobs) (all_items jobs) (all_items jobs)
totals_are budget grain jobs outcomes whole =
    ap (λ k. totals k (made_in 1 outcomes) (made_in 2 outcomes) (made_in 3 outcomes)) whole.boards_made
    ∙ ap (λ k. totals (all_boards budget grain jobs) k (made_in 2 outcomes) (made_in 3 outcomes)) whole.solutions_made
    ∙ ap (λ k. totals (all_boards budget grain jobs) (all_solutions budget jobs) k (made_in 3 outcomes)) whole.jobs_made
    ∙ ap (λ k. totals (all_boards budget grain jobs) (all_solutions budget jobs) (all_items jobs) k) whole.answers_made

-- after the last job stands the report
pub report_is : (i p b : ℕ) (jobs : List Job) (outcomes : List Outcome) (text bytes : List ℕ) → length jobs ≤ i →
    IsBefore jobs p b (drop i jobs) outcomes text →
    bytes ≡ text ++ totals (made_in 0 outcomes) (made_in 1 outcomes) (made_in 2 outcomes) (made_in 3 outcomes) → (budget grain : ℕ) →
    AreWhole budget grain jobs outcomes → IsReport budget grain jobs bytes
report_is i p b jobs outcomes text bytes past so_far added budget grain whole =
    let before = (subst (λ left. IsBefore jobs p b left outcomes text) (drop_all i jobs past) so_far) budget whole.held in
    let all : List ℕ = totals (all_boards budget grain jobs) (all_solutions budget jobs) (all_items jobs) (all_items jobs) in
    record {
      parts = text ++ [];
      job_parts = before.1 [] refl;
      whole = added ∙ ap (λ t. text ++ t) (totals_are budget grain jobs outcomes whole) ∙ ap (λ t. t ++ all) (sym (append-nil text));
    }
