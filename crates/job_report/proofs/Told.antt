-- Values of items as they are told, and the lines with them.
use Rattle.std.proofs.Common.{◌≡◌, ℕ, ◌+◌, ◌<◌, ◌≤◌, ◌==◌, ◌&&◌, Bool, true, false, cond, Option, Some, List, [], ◌∷◌, ◌++◌}
use Rattle.std.proofs.Common.{length, drop, get_or, refl, sym, ap, ◌∙◌, arith}
use Rattle.std.proofs.lemmas.Bool.Decides.{nat_tests}
use Rattle.std.proofs.lemmas.List.{drop_all, drop_more}
use Rattle.std.specs.BTreeMap.{get, is_at}
use Rattle.std.specs.Option.{unwrap_or}
use Rattle.std.specs.Prelude.{if◌then◌else◌}
use Rattle.job_text.specs.declared.items.Item.{Item}
use Rattle.job_units.specs.Items.{answer_to}
use Rattle.job_report.specs.Report.{item_lines}
use Rattle.job_report.specs.Whole.{AreAnswered, answers_in, answers_of}
use Rattle.job_report.specs.inside.{by_item, latest, lines_told, value_at, item_line}
use Rattle.job_report.specs.declared.answers.Answers.{Answers}
use Rattle.job_report.specs.declared.outcomes.Outcome.{Outcome}

-- two items are one in the map's order if their batches and their numbers are the same
pub at_item : (a b m n : ℕ) → is_at (by_item (a, b)) (m, n) ≡ ((a == m) && (b == n))
at_item a b m n = grind (arith, nat_tests)

-- values told one after the other
pub latest-append : (value : ℕ) (told more : List ℕ) → latest value (told ++ more) ≡ latest (latest value told) more
latest-append value [] more = refl
latest-append value (next ∷ told) more = latest-append next told more

-- a value is noted first, or comes before those that are told
noted_first : (hit : Bool) (told value : ℕ) (rest : List ℕ) →
    latest (if hit then told else value) rest ≡ latest value (if hit then told ∷ rest else rest)
noted_first true told value rest = refl
noted_first false told value rest = refl

-- a value that the map was given is found there
pub value_noted : (batch item value b n : ℕ) (old new : Answers) →
    get by_item new.held (b, n) ≡ cond (is_at (by_item (batch, item)) (b, n)) (Some value) (get by_item old.held (b, n)) →
    value_at new b n ≡ (if (batch == b) && (item == n) then value else value_at old b n)
value_noted batch item value b n old new found =
    ap (λ v. unwrap_or v 0) (found ∙ ap (λ hit. cond hit (Some value) (get by_item old.held (b, n))) (at_item batch item b n))
    ∙ either ((batch == b) && (item == n)) value (get by_item old.held (b, n))
  where
    either : (hit : Bool) (value : ℕ) (at : Option ℕ) → unwrap_or (cond hit (Some value) at) 0 ≡ (if hit then value else unwrap_or at 0)
    either true value at = refl
    either false value at = refl

-- one more answer is noted
pub answer_noted : (b n i : ℕ) (told : List (ℕ × ℕ × ℕ)) (a none : ℕ × ℕ × ℕ) (value next : ℕ) → i < length told →
    a ≡ get_or told i none → next ≡ (if (a.0 == b) && (a.1 == n) then a.2 else value) →
    latest next (answers_in b n (drop (i + 1) told)) ≡ latest value (answers_in b n (drop i told))
unfolding answers_in
answer_noted b n i told a none value next within is noted =
    let rest : List ℕ = answers_in b n (drop (i + 1) told) in
    let hit : Bool = (a.0 == b) && (a.1 == n) in
    let here : answers_in b n (drop i told) ≡ if hit then a.2 ∷ rest else rest =
    ap (answers_in b n) (drop_more told i none within ∙ ap (λ x. x ∷ drop (i + 1) told) (sym is)) in
    ap (λ v. latest v rest) noted ∙ noted_first hit a.2 value rest ∙ ap (latest value) (sym here)

-- all answers are noted
pub all_noted : (b n i : ℕ) (told : List (ℕ × ℕ × ℕ)) (value all : ℕ) → length told ≤ i →
    latest value (answers_in b n (drop i told)) ≡ all → value ≡ all
unfolding answers_in
all_noted b n i told value all past so_far = ap (λ l. latest value (answers_in b n l)) (sym (drop_all i told past)) ∙ so_far

-- the answers of one more outcome are noted
pub outcome_noted : (b n i : ℕ) (outcomes : List Outcome) (o : Outcome) (told : List (ℕ × ℕ × ℕ)) (value next : ℕ) →
    i < length outcomes → o ≡ get_or outcomes i o → told ≡ o.answers.items → next ≡ latest value (answers_in b n told) →
    latest next (answers_of b n (drop (i + 1) outcomes)) ≡ latest value (answers_of b n (drop i outcomes))
outcome_noted b n i outcomes o told value next within is its noted =
    let rest : List ℕ = answers_of b n (drop (i + 1) outcomes) in
    let here : answers_of b n (drop i outcomes) ≡ answers_in b n told ++ rest =
    ap (answers_of b n) (drop_more outcomes i o within ∙ ap (λ x. x ∷ drop (i + 1) outcomes) (sym is))
    ∙ ap (λ l. answers_in b n l ++ rest) (sym its) in
    ap (λ v. latest v rest) noted ∙ sym (latest-append value (answers_in b n told) rest) ∙ ap (latest value) (sym here)

-- the look-up has what all outcomes tell
abbrev pub IsLookUp : Answers → List Outcome → Type 0
IsLookUp answers outcomes = (b n : ℕ) → value_at answers b n ≡ latest 0 (answers_of b n outcomes)

-- the lines with values that were looked up have the answers
pub lines_are : (answers : Answers) (outcomes : List Outcome) (b n : ℕ) (common : List ℕ) (items : List Item) →
    IsLookUp answers outcomes → AreAnswered b n common items outcomes → lines_told answers b n items ≡ item_lines common items
lines_are answers outcomes b n common [] looked held = refl
lines_are answers outcomes b n common (item ∷ items) looked held =
    let value : value_at answers b n ≡ answer_to item common = looked b n ∙ ap (latest 0) held.0 in
    ap (λ v. item_line item v ++ lines_told answers b (n + 1) items) value
    ∙ ap (λ x. item_line item (answer_to item common) ++ x) (lines_are answers outcomes b (n + 1) common items looked held.1)
