use Rattle.std.proofs.Common.{ap, sym, ◌∙◌}
use Rattle.tour_app.specs.Output.{tour_text}
use Rattle.tour_command.proofs.Ended.{accepted_fine, overlong_told, refused_at_line}
use Rattle.tour_command.proofs.laws.city_laws.Goals as goal
use Rattle.tour_law.proofs.Orders.{least_is_one}
use Rattle.tour_law.specs.Tours.{cost}
use Rattle.tour_search.specs.Cities.{costs}

pub returns-clause-complete : goal.returns-clause-complete
returns-clause-complete c = λ before after fault kept bytes ends told no_read cities short is no_write no_refusal.
    accepted_fine before after fault kept bytes ends told no_read cities short is no_write no_refusal

pub returns-clause-refused : goal.returns-clause-refused
returns-clause-refused c = λ before after fault kept bytes ends told no_read line why short is.
    refused_at_line before after fault kept bytes ends told no_read line why short is

pub returns-clause-overlong : goal.returns-clause-overlong
returns-clause-overlong c = λ before after fault kept bytes ends told no_read long.
    overlong_told before after fault kept bytes ends told no_read long

pub returns-clause-one_text : goal.returns-clause-one_text
returns-clause-one_text c = λ cities one other a b.
    a.text
    ∙ ap (λ t. tour_text cities.count (cost (costs cities) t) t)
    (least_is_one cities.count (costs cities) a.tour b.tour a.least b.least)
    ∙ sym b.text
