use Rattle.std.proofs.lemmas.Result.{on_ok_weaker}
use Rattle.ledger_file.specs.inside.Given.{fields_of}
use Rattle.ledger_file.proofs.Written.{line_written}
use Rattle.ledger_file.proofs.writing.append_line.Goals as goal

pub returns : goal.returns
returns c = on_ok_weaker c.append-2.result (λ e.
    line_written c.args.bytes.now.items c.append.new.bytes.items c.append_fields.new.bytes.items c.append-2.new.bytes.items
    c.args.name.now (fields_of c.args.fields.now) c.in_ok-append.ensures c.in_ok-append_fields.ensures.written e) c.append-2.ensures
