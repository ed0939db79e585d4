use Rattle.std.proofs.Common.{arith, List, subst, sym}
use Rattle.flow_work.specs.declared.program.FlowProgram.{FlowProgram}
use Rattle.flow_command.proofs.Programs.{more_programs}
use Rattle.flow_command.specs.Flows.{ArePrograms}
use Rattle.flow_command.proofs.flows.fill.Goals as goal

pub loop-rank-preserved : goal.loop-rank-preserved
loop-rank-preserved c =
    let old = c.loop-rank.invariant in
    let pushed = c.push_reserved-in-loop-rank.ensures in
    record {
      many = omega (arith, old.many, pushed.len);
      room = omega (arith, old.room, pushed.capacity);
      are = subst (λ (programs : List FlowProgram). ArePrograms c.args.ranks c.args.asked.now programs) (sym pushed.items)
          (more_programs c.args.ranks c.args.asked.now c.loop-rank.programs.items c.new-in-loop-rank.result
          (omega (arith, old.many, c.loop-rank.auto._rank)) c.new-in-loop-rank.ensures.ranks c.new-in-loop-rank.ensures.flow old.are);
    }
