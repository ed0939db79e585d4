-- How many calls the ranks of a run of flow programs can begin.
use Rattle.std.specs.Prelude.{ℕ, ◌+◌, ◌*◌, Bool, true, false, List, count_by}
use Rattle.flow_law.specs.declared.Definition.{Definition}
use Rattle.flow_law.specs.declared.Definition.TheVariants as defines

-- whether a definition is a rule
abbrev pub is_rule : Definition → Bool
is_rule (defines.Let name v) = false
is_rule (defines.Rule name op left right) = true

-- how many rules a flow has
abbrev pub rule_count : List Definition → ℕ
rule_count flow = count_by is_rule flow

-- each rule is put, reserved and fetched, and so is its answer; after each of the two reserves an answer may be put once more. Each rank
-- is told an end, and finishes
abbrev pub most_calls : ℕ → List Definition → ℕ
most_calls ranks flow = 8 * rule_count flow + 2 * ranks
