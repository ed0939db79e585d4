use Rattle.ledger_picture.proofs.Names.{no_lanes, one_more}
use Rattle.ledger_picture.proofs.front.put_names.Goals as goal

pub loop-k-init : goal.loop-k-init
loop-k-init c = no_lanes c.args.text.now.items c.args.word.now c.args.top c.args.height

pub loop-k-preserved : goal.loop-k-preserved
loop-k-preserved c =
    one_more c.args.text.now.items c.loop-k.text.items c.put_name.new.text.items c.args.word.now c.args.top c.args.height c.loop-k.k
    c.loop-k.invariant c.in_ok-put_name.ensures
