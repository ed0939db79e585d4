use Rattle.std.proofs.Common.{◌+◌, None, Some}
use Rattle.flow_command.proofs.Ended as flows
use Rattle.run_command.specs.Ends.{input_limit}
use Rattle.run_command.specs.declared.faults.Fault.TheVariants as runs
use Rattle.solve_command.proofs.Drilled.{drilled_fine, drilled_short}
use Rattle.solve_command.proofs.Ended.{accepted_fine, overlong_told, refused_at_line, short_fine}
use Rattle.solve_report.specs.Told.{IsReported, behind}
use Rattle.tour_command.proofs.Ended as cities
use Rattle.command_ends.specs.Ends.{why_of, why_of_cities, why_of_flow}
use Rattle.adlb_command.specs.Words.{IsConfigOf, extras_of, ranks_of, settings_of}
use Rattle.adlb_command.proofs.Checked.{bad_checked, long_checked, text_checked}
use Rattle.adlb_command.proofs.Drawn.{bad_drawn, long_drawn, text_drawn}
use Rattle.adlb_command.proofs.Flowed.{kept_flow}
use Rattle.adlb_command.proofs.Ending.{usage_unsaid}
use Rattle.adlb_command.proofs.Made.{made_whole}
use Rattle.adlb_command.proofs.Solved.{either_told, fine_met, fine_told}
use Rattle.adlb_command.proofs.laws.end_laws.Goals as goal

pub returns-clause-usage : goal.returns-clause-usage
returns-clause-usage c = λ said before after kept ends. usage_unsaid said before after kept ends

pub returns-clause-unsaid : goal.returns-clause-unsaid
returns-clause-unsaid c = λ before after fault kept ends. ends.cause

pub returns-clause-complete : goal.returns-clause-complete
returns-clause-complete c = λ words before after fault kept bytes ends told no_read short fine no_write no_refusal.
    fine_told why_of fault ends.met ends.fault_is
    (accepted_fine (settings_of words.options) (ranks_of words.options.sizes words.options.inline)
    (IsReported (settings_of words.options) (behind (extras_of words))) before after ends.met ends.own bytes ends.ended.ends told no_read
    short fine no_write no_refusal)

pub returns-clause-refused : goal.returns-clause-refused
returns-clause-refused c = λ words before after fault kept bytes ends told no_read line why short is.
    either_told why_of fault ends.met ends.fault_is (Some (runs.Input line why)) (Some runs.Memory)
    (refused_at_line (settings_of words.options) (ranks_of words.options.sizes words.options.inline)
    (IsReported (settings_of words.options) (behind (extras_of words))) before after ends.met ends.own bytes ends.ended.ends told no_read
    line why short is)

pub returns-clause-overlong : goal.returns-clause-overlong
returns-clause-overlong c = λ words before after fault kept bytes ends told no_read long.
    either_told why_of fault ends.met ends.fault_is (Some (runs.TooLarge (input_limit + 1))) (Some runs.Memory)
    (overlong_told (settings_of words.options) (ranks_of words.options.sizes words.options.inline)
    (IsReported (settings_of words.options) (behind (extras_of words))) before after ends.met ends.own bytes ends.ended.ends
    told no_read long)

pub returns-clause-told : goal.returns-clause-told
returns-clause-told c = λ words told before after fault kept ends. ends

pub returns-clause-drill_told : goal.returns-clause-drill_told
returns-clause-drill_told c = λ count seed options told before after fault kept ends. ends

pub returns-clause-tour_complete : goal.returns-clause-tour_complete
returns-clause-tour_complete c = λ words before after fault kept bytes ends told no_read there short is no_write no_refusal.
    fine_told why_of_cities fault ends.met ends.fault_is
    (cities.accepted_fine before after ends.met ends.own bytes ends.ended.ends told no_read there short is no_write no_refusal)

pub returns-clause-tour_refused : goal.returns-clause-tour_refused
returns-clause-tour_refused c = λ words before after fault kept bytes ends told no_read line why short is.
    either_told why_of_cities fault ends.met ends.fault_is (Some (runs.Input line why)) (Some runs.Memory)
    (cities.refused_at_line before after ends.met ends.own bytes ends.ended.ends told no_read line why short is)

pub returns-clause-tour_overlong : goal.returns-clause-tour_overlong
returns-clause-tour_overlong c = λ words before after fault kept bytes ends told no_read long.
    either_told why_of_cities fault ends.met ends.fault_is (Some (runs.TooLarge (input_limit + 1))) (Some runs.Memory)
    (cities.overlong_told before after ends.met ends.own bytes ends.ended.ends told no_read long)

pub returns-clause-tour_told : goal.returns-clause-tour_told
returns-clause-tour_told c = λ words told before after fault kept ends. ends

pub returns-clause-flow_complete : goal.returns-clause-flow_complete
returns-clause-flow_complete c = λ words before after fault kept bytes ends told no_read short is no_write no_refusal.
    fine_told why_of_flow fault ends.met ends.fault_is
    (flows.accepted_fine words.sizes.ranks before after ends.met ends.own bytes ends.ended.ends told no_read short is no_write no_refusal)

pub returns-clause-flow_refused : goal.returns-clause-flow_refused
returns-clause-flow_refused c = λ words before after fault kept bytes ends told no_read line why short is.
    either_told why_of_flow fault ends.met ends.fault_is (Some (runs.Input line why)) (Some runs.Memory)
    (flows.refused_at_line words.sizes.ranks before after ends.met ends.own bytes ends.ended.ends told no_read line why short is)

pub returns-clause-flow_overlong : goal.returns-clause-flow_overlong
returns-clause-flow_overlong c = λ words before after fault kept bytes ends told no_read long.
    either_told why_of_flow fault ends.met ends.fault_is (Some (runs.TooLarge (input_limit + 1))) (Some runs.Memory)
    (flows.overlong_told words.sizes.ranks before after ends.met ends.own bytes ends.ended.ends told no_read long)

pub returns-clause-flow_kept : goal.returns-clause-flow_kept
returns-clause-flow_kept c = λ words before after fault k bytes ends told.
    kept_flow words.sizes.ranks before after k bytes told ends.met ends.own ends.kept_is ends.ended.ends

pub returns-clause-flow_told : goal.returns-clause-flow_told
returns-clause-flow_told c = λ words told before after fault kept ends. ends

pub returns-clause-checked : goal.returns-clause-checked
returns-clause-checked c = λ before after fault kept bytes ends told no_read config ledger short text no_write.
    text_checked before after fault kept bytes ends told no_read c.text_laws.ensures.no_text
    (λ a b l m. c.text_laws.ensures.no_text_of_two a b l m bytes) config ledger short text no_write

pub returns-clause-bad : goal.returns-clause-bad
returns-clause-bad c = λ before after fault kept bytes ends told no_read line short bad.
    bad_checked before after fault kept bytes ends told no_read c.text_laws.ensures.no_text (c.text_laws.ensures.one_line bytes) line
    short bad

pub returns-clause-long : goal.returns-clause-long
returns-clause-long c = λ before after fault kept bytes ends told no_read long.
    long_checked before after fault kept bytes ends told no_read long

pub returns-clause-drawn : goal.returns-clause-drawn
returns-clause-drawn c = λ before after fault kept bytes ends told no_read config ledger short text no_write.
    text_drawn before after fault kept bytes ends told no_read c.text_laws.ensures.no_text
    (λ a b l m. c.text_laws.ensures.no_text_of_two a b l m bytes) config ledger short text no_write

pub returns-clause-undrawn : goal.returns-clause-undrawn
returns-clause-undrawn c = λ before after fault kept bytes ends told no_read line short bad.
    bad_drawn before after fault kept bytes ends told no_read c.text_laws.ensures.no_text (c.text_laws.ensures.one_line bytes) line
    short bad

pub returns-clause-longer : goal.returns-clause-longer
returns-clause-longer c = λ before after fault kept bytes ends told no_read long.
    long_drawn before after fault kept bytes ends told no_read long

pub returns-clause-made : goal.returns-clause-made
returns-clause-made c = λ count seed before after fault kept ends no_write. made_whole count seed before after fault kept ends no_write

pub returns-clause-drilled : goal.returns-clause-drilled
returns-clause-drilled c = λ count seed options before after fault kept ends few no_write no_refusal.
    fine_told why_of fault ends.met ends.fault_is
    (drilled_fine count seed (settings_of options) (ranks_of options.sizes options.inline) (IsConfigOf options.sizes options.inline)
    options.inline before after ends.met ends.own ends.ended (c.made_laws.ensures.short count seed few)
    (c.made_is_accepted.ensures.accepted count seed) no_write no_refusal)

pub returns-clause-short : goal.returns-clause-short
returns-clause-short c = λ words before after fault kept bytes ends told few fine.
    either_told why_of fault ends.met ends.fault_is None (Some runs.Memory)
    (short_fine (settings_of words.options) (ranks_of words.options.sizes words.options.inline)
    (IsReported (settings_of words.options) (behind (extras_of words))) before after ends.met ends.own bytes ends.ended.ends told few
    (fine_met why_of fault ends.met ends.fault_is fine))

pub returns-clause-drilled_short : goal.returns-clause-drilled_short
returns-clause-drilled_short c = λ count seed options before after fault kept ends few fine.
    either_told why_of fault ends.met ends.fault_is None (Some runs.Memory)
    (drilled_short count seed (settings_of options) (ranks_of options.sizes options.inline) (IsConfigOf options.sizes options.inline)
    options.inline before after ends.met ends.own ends.ended few (fine_met why_of fault ends.met ends.fault_is fine))

pub returns-clause-flow_short : goal.returns-clause-flow_short
returns-clause-flow_short c = λ words before after fault kept bytes ends told few fine.
    either_told why_of_flow fault ends.met ends.fault_is None (Some runs.Memory)
    (flows.short_fine words.sizes.ranks before after ends.met ends.own bytes ends.ended.ends told few
    (fine_met why_of_flow fault ends.met ends.fault_is fine))
