use Rattle.std.proofs.Common.{◌≡◌, codes, subst}
use Rattle.std.specs.Prelude.{IfOk}
use Rattle.clap.specs.Words.{App, app_of, with_rule}
use Rattle.command_words.specs.Options.{flag_rule}
use Rattle.command_words.proofs.options.with_told_sizes.Goals as goal

pub returns : goal.returns
returns c =
    subst (λ (a : App). IfOk c.with_flag.result (λ r. app_of r ≡ with_rule a (flag_rule (codes "progress")))) c.in_ok-command.ensures
    c.with_flag.ensures
