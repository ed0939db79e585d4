use Rattle.flow_app.proofs.Finished.{started_whole}
use Rattle.flow_app.proofs.finishing.start.Goals as goal

pub returns : goal.returns
returns c = started_whole c.new.result c.args.flow.now c.new.ensures.out c.new.ensures.alone c.new.ensures.first
