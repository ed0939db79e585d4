use Rattle.ledger_picture.proofs.Names.{four}
use Rattle.ledger_picture.specs.Front.{front_of, lanes_of}
use Rattle.ledger_picture.proofs.front.whole.Goals as goal

pub returns : goal.returns
returns c = record {
  size = c.args.size.now;
  rest = c.args.rest.now;
  whole = four c.new-text.result.items c.put_front.new.text.items c.put.new.text.items c.put_lanes.new.text.items
      c.put-2.new.text.items (front_of c.args.numbers) c.args.size.now (lanes_of c.args.numbers) c.args.rest.now c.new-text.ensures.items
      c.in_ok-put_front.ensures c.in_ok-put.ensures c.in_ok-put_lanes.ensures c.in_ok-put-2.ensures;
}
