-- The note of a unit: what a rank is told.
use Rattle.std.specs.Prelude.{length}
use Rattle.work_queue.specs.declared.placing.Placed.{Placed}
use Rattle.work_queue.specs.declared.placing.UnitFacts.{UnitFacts}

-- all but the target and the body, of which its length is told
abbrev pub facts_of : Placed → UnitFacts
facts_of p =
    record {
      id = p.unit.id;
      kind = p.unit.kind;
      prio = p.unit.prio;
      answer = p.unit.answer;
      common = p.unit.common;
      length = length p.unit.body;
    }
