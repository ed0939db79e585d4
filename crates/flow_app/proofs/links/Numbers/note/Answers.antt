use Rattle.std.proofs.Common.{Some}
use Rattle.std.proofs.lemmas.Map.Text.{btree_map_updates_str}
use Rattle.flow_app.proofs.links.Numbers.note.Goals as goal

pub returns : goal.returns
returns c = λ other.
    let updates = rw c.in_ok-or_no_memory.ensures at c.insert.ensures.updates in
    btree_map_updates_str c.args.name.now c.args.self.now.held c.insert.new.self (Some c.args.number) updates other
