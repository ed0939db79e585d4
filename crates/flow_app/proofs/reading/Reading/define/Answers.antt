use Rattle.std.proofs.Common.{arith}
use Rattle.flow_app.proofs.Defining.{extended}
use Rattle.flow_app.proofs.reading.Reading.define.Goals as goal

pub returns : goal.returns
returns c =
    let items = rw c.in_ok-or_no_memory.ensures at c.push.ensures.items in
    extended c.args.self.now (record { definitions = c.push.new.self; numbers = c.note.new.self }) c.args.named.definition
    c.args.named.name.now
    c.len-number.result c.requires.read c.requires.new c.requires.name (omega arith) items c.in_ok-note.ensures
