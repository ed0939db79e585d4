use Rattle.flow_work.specs.declared.program.FlowProgram.{FlowProgram}
use Rattle.flow_command.proofs.Programs.{all_fit}
use Rattle.flow_command.proofs.flows.FlowsCommand.fill.Goals as goal

pub returns-clause-fits : goal.returns-clause-fits
returns-clause-fits c =
    all_fit (λ (done : Unit {0}). c.fill.new.programs.items) c.args.ranks c.args.asked.now c.fill.result c.fill.ensures.programs
