use Rattle.std.proofs.Common.{refl}
use Rattle.std.proofs.lemmas.Result.{err_from_is_err_and}
use Rattle.ledger_file.specs.inside.Reading.{parts_of}
use Rattle.ledger_file.proofs.LinesRead.{config_found, no_sizes, none_is_config}
use Rattle.ledger_file.proofs.reading.config_of.Goals as goal

pub returns-in_err-ranks : goal.returns-in_err-ranks
returns-in_err-ranks c =
    let p = err_from_is_err_and c.from_residual.result c.from_residual.ensures.1 in
    rw (p.1, p.2) (λ bad config same. no_sizes c.in_err-ranks.field-0.0
    (parts_of 32 c.args.line.now) bad c.in_err-ranks.ensures config same)

pub returns-in-Ok : goal.returns-in-Ok
returns-in-Ok c =
    config_found c.in-Ok.config c.in_ok-ranks.ranks c.in_ok-ranks.servers c.in_ok-ranks.limit
    (parts_of 32 c.args.line.now) c.in_ok-ranks.ensures c.in-Ok.ensures.ranks c.in-Ok.ensures.servers c.in-Ok.ensures.limit

pub returns-in-Err : goal.returns-in-Err
returns-in-Err c = λ bad config same.
    none_is_config c.in-Err.field-0 c.in_ok-ranks.ranks c.in_ok-ranks.servers c.in_ok-ranks.limit
    (parts_of 32 c.args.line.now) c.in_ok-ranks.ensures ((c.in-Err.ensures.refused c.in-Err.field-0).0 refl) config same
