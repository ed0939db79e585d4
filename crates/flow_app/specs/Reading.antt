-- The flow of an input, or its first line that is refused.
use Rattle.std.specs.Prelude.{ℕ, ◌+◌, nat_le, List, [], ◌∷◌, ◌++◌, Option, Some, None, length, map, if◌then◌else◌}
use Rattle.std.specs.List.{list_any, slice_split}
use Rattle.std.specs.Str.{bytes_eq}
use Rattle.std.specs.Str.Lines.{strip_carriage_return}
use Rattle.flow_law.specs.Flows.{name_of}
use Rattle.flow_law.specs.declared.Definition.{Definition}
use Rattle.flow_app.specs.declared.faults.FlowWhy.{FlowWhy}
use Rattle.flow_app.specs.declared.faults.FlowWhy.TheVariants.{Twice, Many}
use Rattle.flow_app.specs.Kinds.{Kind, skipped, defines, bad, is_mark, kind_of}

-- The lines, each without the one carriage return at its end, if it has one. A line feed ends a line; what follows the last line feed is a
-- line too, which may be empty.
abbrev pub lines : List ℕ → List (List ℕ)
lines bytes = map strip_carriage_return (slice_split (is_mark 10) bytes)

-- the most definitions of a flow
abbrev pub definition_limit : ℕ
definition_limit = 100000

-- the definitions of a line: one or none
abbrev pub defined : Kind → List Definition
defined (defines d) = d ∷ []
defined kind = []

-- why a line is refused, if it is, after lines of these definitions
abbrev pub define_fault : List Definition → Definition → Option FlowWhy
define_fault before d =
    if list_any (λ e. bytes_eq (name_of e) (name_of d)) before then Some Twice
    else if nat_le definition_limit (length before) then Some Many
    else None

-- why a line is refused after these definitions, if it is
abbrev pub fault_of : List Definition → Kind → Option FlowWhy
fault_of before skipped = None
fault_of before (defines d) = define_fault before d
fault_of before (bad why) = Some why

-- the first of these lines that is refused, and why; the first of them has the number n
abbrev pub or_later : Option FlowWhy → ℕ → Option (ℕ × FlowWhy) → Option (ℕ × FlowWhy)
or_later (Some why) n later = Some (n, why)
or_later None n later = later

-- the first line that is refused, with its reason
unfoldable pub first_refused : List Definition → ℕ → List Kind → Option (ℕ × FlowWhy)
first_refused before n [] = None
first_refused before n (kind ∷ kinds) = or_later (fault_of before kind) n (first_refused (before ++ defined kind) (n + 1) kinds)

-- the definitions of lines
unfoldable pub all_defined : List Kind → List Definition
all_defined [] = []
all_defined (kind ∷ kinds) = defined kind ++ all_defined kinds

-- the kinds of an input's lines, its flow, and its first refused line, lines counted from 1
abbrev pub kinds : List ℕ → List Kind
kinds bytes = map kind_of (lines bytes)

-- the flow of an input
abbrev pub input_flow : List ℕ → List Definition
input_flow bytes = all_defined (kinds bytes)

-- the first line of an input that is refused
abbrev pub flow_refused : List ℕ → Option (ℕ × FlowWhy)
flow_refused bytes = first_refused [] 1 (kinds bytes)
