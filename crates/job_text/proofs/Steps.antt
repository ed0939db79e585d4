-- An input that was read up to a line.
use Rattle.std.proofs.Common.{◌≡◌, ◌<◌, ◌≤◌, ◌^◌, ℕ, ◌+◌, Bool, List, [], ◌∷◌, length, map, refl, sym, ap, ◌∙◌, Some, None, arith}
use Rattle.job_text.specs.declared.faults.LineWhy.{LineWhy}
use Rattle.job_text.specs.declared.jobs.Job.{Job}
use Rattle.job_text.specs.declared.lines.Lines.{Lines}
use Rattle.job_text.specs.declared.reading.Reading.{Reading}
use Rattle.job_text.specs.Kinds.{Kind, skipped, puzzle, batch, item, bad, kind_of, short_kind}
use Rattle.job_text.specs.Jobs.{fault_of, goes_on, or_later, first_refused, input_jobs, input_refused}
use Rattle.job_text.specs.inside.Left.{lines_left, bytes_left, ends_left}
use Rattle.job_text.specs.inside.Read.{Extends, adds, count, is_open, jobs_with}

-- these lines were read, of this number, and those that are left go on from there
pub record IsReadTo (bytes : List ℕ) (r : Reading) (left : Lines) (number : ℕ) : Type 0 where
  pub jobs : input_jobs bytes ≡ jobs_with r (map kind_of (lines_left left))
  pub refused : input_refused bytes ≡ first_refused (is_open r) (number + 1) (map kind_of (lines_left left))
  pub few : count r + bytes_left left ≤ 2 ^ 24
  pub short : number + ends_left left ≤ 2 ^ 24 + 1

-- only lines that are not empty add to what was read
adds_few : (k : Kind) → adds k ≤ 1
adds_few skipped = omega arith
adds_few (puzzle g) = omega arith
adds_few (batch b) = omega arith
adds_few (item i) = omega arith
adds_few (bad why) = omega arith

adds_within : (line : List ℕ) → adds (kind_of line) ≤ length line
unfolding kind_of short_kind
adds_within [] = omega arith
adds_within (b ∷ line) = omega (arith, adds_few (kind_of (b ∷ line)))

refused_later : (on : Bool) (n : ℕ) (k : Kind) (kinds : List Kind) → fault_of on k ≡ None
    → first_refused on n (k ∷ kinds) ≡ first_refused (goes_on on k) (n + 1) kinds
unfolding first_refused
refused_later on n k kinds fine = ap (λ f. or_later f n (first_refused (goes_on on k) (n + 1) kinds)) fine

refused_here : (on : Bool) (n : ℕ) (k : Kind) (kinds : List Kind) (why : LineWhy) → fault_of on k ≡ Some why
    → first_refused on n (k ∷ kinds) ≡ Some (n, why)
unfolding first_refused
refused_here on n k kinds why fault = ap (λ f. or_later f n (first_refused (goes_on on k) (n + 1) kinds)) fault

none_refused : (on : Bool) (n : ℕ) → first_refused on n [] ≡ None
unfolding first_refused
none_refused on n = refl

-- one more line was read
pub more_read : (bytes : List ℕ) (old new : Reading) (left rest : Lines) (number : ℕ) (line : List ℕ) → IsReadTo bytes old left number
    → Extends old (kind_of line) new → lines_left left ≡ line ∷ lines_left rest → length line + bytes_left rest ≤ bytes_left left
    → ends_left rest < ends_left left → IsReadTo bytes new rest (number + 1)
more_read bytes old new left rest number line read extends next fewer ends =
    let kinds = map kind_of (lines_left rest) in
    record {
      jobs = read.jobs ∙ ap (λ l. jobs_with old (map kind_of l)) next ∙ extends.jobs kinds;
      refused =
          read.refused ∙ ap (λ l. first_refused (is_open old) (number + 1) (map kind_of l)) next
          ∙ refused_later (is_open old) (number + 1) (kind_of line) kinds extends.fine
          ∙ ap (λ on. first_refused on (number + 1 + 1) kinds) (sym extends.open_behind);
      few = let more = extends.few in let before = read.few in omega (arith, adds_within line);
      short = let before = read.short in omega arith;
    }

-- the next line is refused
pub refused_next : (bytes : List ℕ) (r : Reading) (left : Lines) (number n : ℕ) (line : List ℕ) (behind : List (List ℕ)) (why : LineWhy)
    → IsReadTo bytes r left number → lines_left left ≡ line ∷ behind → n ≡ number + 1 → fault_of (is_open r) (kind_of line) ≡ Some why
    → input_refused bytes ≡ Some (n, why)
refused_next bytes r left number n line behind why read next at fault =
    read.refused ∙ ap (λ l. first_refused (is_open r) (number + 1) (map kind_of l)) next
    ∙ refused_here (is_open r) (number + 1) (kind_of line) (map kind_of behind) why fault ∙ ap (λ k. Some (k, why)) (sym at)

-- all was read
pub all_read : (bytes : List ℕ) (r : Reading) (left : Lines) (number : ℕ) (jobs : List Job) → IsReadTo bytes r left number
    → lines_left left ≡ [] → jobs ≡ jobs_with r [] → (input_refused bytes ≡ None) × (jobs ≡ input_jobs bytes)
all_read bytes r left number jobs read none whole = (
  read.refused ∙ ap (λ l. first_refused (is_open r) (number + 1) (map kind_of l)) none ∙ none_refused (is_open r) (number + 1),
  whole ∙ sym (read.jobs ∙ ap (λ l. jobs_with r (map kind_of l)) none),
)
