use Rattle.std.proofs.Common.{◌∙◌}
use Rattle.rank_client.proofs.LinkLaws.{not_begun}
use Rattle.run_command.proofs.Hearing.{one_same, repeated}
use Rattle.run_command.proofs.Keeping.{numbers_again, seat_numbers}
use Rattle.run_command.proofs.programs.work.Goals as goal

pub run-requires-clause-running : goal.run-requires-clause-running
run-requires-clause-running g c = not_begun _ c.requires.empty

pub returns-in-Err-clause-config : goal.returns-in-Err-clause-config
returns-in-Err-clause-config g c =
    numbers_again c.args.world.now.run.config c.run.new.link.run c.close.new.world.run
    (seat_numbers c.args.world.now.run c.run.new.link.run c.run.ensures.seat) c.close.ensures.config

pub returns-in-Ok-clause-heard : goal.returns-in-Ok-clause-heard
returns-in-Ok-clause-heard g c = record { said = _; begun = _; so = c.run.ensures.so_far; now = one_same _ }

pub returns-in-Err-clause-heard : goal.returns-in-Err-clause-heard
returns-in-Err-clause-heard g c = record { said = _; begun = _; so = c.run.ensures.so_far; now = c.close.ensures.one_more }

pub returns-in-Err-clause-too_long : goal.returns-in-Err-clause-too_long
returns-in-Err-clause-too_long g c = λ stamp is.
    repeated _ _ _ c.close.ensures.repeats (c.run.ensures.too_long stamp (c.in-Err.is ∙ is))
