use Rattle.flow_app.proofs.Finished.{kept_on}
use Rattle.flow_app.proofs.finishing.keep.Goals as goal

pub returns : goal.returns
returns c =
    kept_on c.keep.result c.args.flow.now c.args.store.now c.keep.new.self c.args.number c.args.value c.requires.stored c.requires.right
    c.keep.ensures.out c.keep.ensures.values c.keep.ensures.next c.keep.ensures.grows
