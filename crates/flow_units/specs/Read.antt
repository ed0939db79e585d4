-- What code reads of a body, as a unit.
use Rattle.std.specs.Prelude.{Option, Some, None}
use Rattle.flow_run_law.specs.Units.{Answer, FlowUnit, Rule}
use Rattle.flow_units.specs.declared.answers.AnswerUnit.{AnswerUnit}
use Rattle.flow_units.specs.declared.rules.RuleUnit.{RuleUnit}

-- the rule that was read, as a unit
abbrev pub rule_read : Option RuleUnit → Option FlowUnit
rule_read None = None
rule_read (Some r) = Some (Rule r.number r.op r.left r.right)

-- the answer that was read, as a unit
abbrev pub answer_read : Option AnswerUnit → Option FlowUnit
answer_read None = None
answer_read (Some a) = Some (Answer a.number a.value)
