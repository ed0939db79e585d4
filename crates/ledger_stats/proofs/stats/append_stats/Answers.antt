use Rattle.std.proofs.lemmas.Result.{on_ok_weaker}
use Rattle.ledger_stats.specs.declared.stats.Statistic.TheVariants.{Accepted, Refused, Rejected, Granted, Pushed}
use Rattle.ledger_stats.proofs.Pieces.{stats_are}
use Rattle.ledger_stats.proofs.stats.append_stats.Goals as goal

pub returns : goal.returns
returns c =
    let told = c.in_ok-tally.ensures in
    on_ok_weaker c.append_count-6.result (stats_are c.args.ledger.now c.args.left _ _ _ _ _ _ _ _ _ _ _ _ _ (told Accepted) (told Refused)
    (told Rejected) (told Granted) (told Pushed) c.in_ok-append.ensures c.in_ok-append_count.ensures c.in_ok-append_count-2.ensures
    c.in_ok-append_count-3.ensures c.in_ok-append_count-4.ensures c.in_ok-append_count-5.ensures) c.append_count-6.ensures
