use Rattle.bag_law.proofs.Sound.{run_calls_are_true, run_is_sound, step_keeps_sound}
use Rattle.bag_law.proofs.laws.every_run_is_sound.Goals as goal

pub returns-clause-step : goal.returns-clause-step
returns-clause-step c = step_keeps_sound

pub returns-clause-sound : goal.returns-clause-sound
returns-clause-sound c = run_is_sound

pub returns-clause-calls : goal.returns-clause-calls
returns-clause-calls c = run_calls_are_true
