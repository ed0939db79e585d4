-- How the units of a flow are put, and what a body is: numbers have their most significant byte first.
use Rattle.std.specs.Prelude.{ℕ, ◌%◌, ◌^◌, ◌==◌, ◌&&◌, pos, nat_lt, Bool, false, is_none, List, [], ◌∷◌, ◌++◌, length, take, drop}
use Rattle.std.specs.Prelude.{slice_index, Option, Some, None, if◌then◌else◌}
use Rattle.std.specs.Int.{to_be_bytes, from_be_bytes, w32, w64}
use Rattle.adlb_unit.specs.declared.names.Rank.{Rank}
use Rattle.adlb_unit.specs.declared.names.Target.TheVariants.{Only, Soft}
use Rattle.adlb_unit.specs.declared.names.WorkType.{WorkType}
use Rattle.flow_law.specs.declared.Op.{Op}
use Rattle.flow_law.specs.declared.Op.TheVariants.{Add, Mul, Min, Max, Xor}
use Rattle.work_law.specs.Work.{Form}
use Rattle.flow_run_law.specs.Units.{Answer, FlowUnit, Forms, Rule}

-- the byte that stands for what a rule does
abbrev pub op_byte : Op → ℕ
op_byte Add = 1
op_byte Mul = 2
op_byte Min = 3
op_byte Max = 4
op_byte Xor = 5

-- the operation of a byte
abbrev pub op_in : ℕ → Option Op
op_in byte =
    if byte == 1 then Some Add
    else if byte == 2 then Some Mul
    else if byte == 3 then Some Min
    else if byte == 4 then Some Max
    else if byte == 5 then Some Xor
    else None

-- a rule: its number, what it does, and the values of its inputs: 21 bytes
abbrev pub rule_body : ℕ → Op → ℕ → ℕ → List ℕ
rule_body i op a b = to_be_bytes w32 i ++ op_byte op ∷ [] ++ to_be_bytes w64 a ++ to_be_bytes w64 b

-- an answer: the number of its rule, and the value: 12 bytes
abbrev pub answer_body : ℕ → ℕ → List ℕ
answer_body i v = to_be_bytes w32 i ++ to_be_bytes w64 v

-- what is in a body
abbrev pub rule_with : ℕ → Option Op → ℕ → ℕ → Option FlowUnit
rule_with i (Some op) a b = Some (Rule i op a b)
rule_with i None a b = None

-- the rule of a body
abbrev pub rule_in : List ℕ → Option FlowUnit
rule_in body =
    if length body == 21
    then rule_with (from_be_bytes w32 (take 4 body)) (op_in (slice_index body 4)) (from_be_bytes w64 (take 8 (drop 5 body)))
    (from_be_bytes w64 (take 8 (drop 13 body)))
    else None

-- the answer of a body
abbrev pub answer_in : List ℕ → Option FlowUnit
answer_in body =
    if length body == 12
    then Some (Answer (from_be_bytes w32 (take 4 body)) (from_be_bytes w64 (take 8 (drop 4 body))))
    else None

-- the answer rank is rank 0
abbrev pub is_rank_0 : Option Rank → Bool
is_rank_0 None = false
is_rank_0 (Some rank) = rank.0 == 0

-- the unit of a work type, an answer rank and a body, if they have the form of one
abbrev pub unit_in : WorkType → Option Rank → List ℕ → Option FlowUnit
unit_in kind answer body =
    if (kind.0 == 0) && is_rank_0 answer then rule_in body
    else if (kind.0 == 1) && is_none answer then answer_in body
    else None

-- the numbers of a unit fit its body
abbrev pub unit_fits : FlowUnit → Bool
unit_fits (Rule i op a b) = nat_lt i (2 ^ 32) && (nat_lt a (2 ^ 64) && nat_lt b (2 ^ 64))
unit_fits (Answer i v) = nat_lt i (2 ^ 32) && nat_lt v (2 ^ 64)

-- A rule is of type 0 and priority 0, for rank i mod R if another does not take it, with answers to rank 0. An answer is of type 1 and
-- priority 100, for rank 0 alone.
abbrev pub form_of : ℕ → FlowUnit → Form
form_of ranks (Rule i op a b) = record {
  kind = record { 0 = 0 };
  prio = pos 0;
  target = Soft (record { 0 = i % ranks });
  answer = Some (record { 0 = 0 });
  body = rule_body i op a b;
}
form_of ranks (Answer i v) = record {
  kind = record { 0 = 1 };
  prio = pos 100;
  target = Only (record { 0 = 0 });
  answer = None;
  body = answer_body i v;
}

-- the units of a flow, as they are put and read
abbrev pub forms : ℕ → Forms
forms ranks = record { form = form_of ranks; fits = unit_fits; read = unit_in }
