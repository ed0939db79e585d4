use Rattle.std.proofs.Common.{◌∙◌}
use Rattle.std.proofs.lemmas.Result.{on_ok_weaker}
use Rattle.ledger_file.proofs.Written.{entry_within, entry_written}
use Rattle.ledger_file.proofs.writing.append_entry.Goals as goal

pub returns-clause-written : goal.returns-clause-written
returns-clause-written c = on_ok_weaker c.append-2.result (λ e.
    entry_written c.args.bytes.now.items c.append.new.bytes.items c.append_who.new.bytes.items c.append_what.new.bytes.items
    c.append-2.new.bytes.items c.word.result.now c.args.entry.now (c.word.ensures ∙ c.of_entry.ensures) c.in_ok-append.ensures
    c.in_ok-append_who.ensures.written c.in_ok-append_what.ensures.written e) c.append-2.ensures

pub returns-clause-within : goal.returns-clause-within
returns-clause-within c =
    on_ok_weaker c.append-2.result (λ e. entry_within c.args.entry.now c.in_ok-append_who.ensures.within c.in_ok-append_what.ensures.within)
    c.append-2.ensures
