use Rattle.std.proofs.Common.{List, get_or, Option, None, Some, ap, sym, ◌∙◌}
use Rattle.std.specs.Prelude.{if◌then◌else◌}
use Rattle.adlb_unit.specs.declared.names.Server.{Server}
use Rattle.server_components.proofs.Places.{IsAt, any_at, at_place, nobody, none_any, none_at, none_turned, set_turned, since_tells}
use Rattle.server_components.specs.Calls.{hears_of, is_since}
use Rattle.server_components.specs.Parked.{is_idle, with_waiting}
use Rattle.server_components.specs.declared.waits.Waiting.{Waiting}
use Rattle.server_components.proofs.parking.Parked.hint.Goals as goal

-- where the rank waits since the request
at : (c : goal.After-hear_of)
    → IsAt (is_since c.args.rank c.args.request) c.args.self.now.parked.waiting c.in-Some.place
    (get_or c.args.self.now.parked.waiting c.in-Some.place (nobody c.args.rank))
at c =
    at_place (is_since c.args.rank c.args.request) c.args.rank (since_tells c.args.rank c.args.request) c.args.self.now.parked.waiting
    c.place_since.ensures.sound.once c.in-Some.place (nobody c.args.rank) (sym c.place_since.ensures.place ∙ c.in-Some.is)

pub returns-in-Some-clause-ask : goal.returns-in-Some-clause-ask
returns-in-Some-clause-ask c =
    let waiting = c.args.self.now.parked.waiting in
    let test = is_since c.args.rank c.args.request in
    let e = get_or waiting c.in-Some.place (nobody c.args.rank) in
    c.hear_of.ensures.ask e (at c).here
    ∙ sym (ap (λ t. if t then Some c.args.from else None) (any_at test is_idle waiting c.in-Some.place e (at c)))

pub returns-in-Some-clause-parked : goal.returns-in-Some-clause-parked
returns-in-Some-clause-parked c =
    let m = c.args.self.now in
    let test = is_since c.args.rank c.args.request in
    let e = get_or m.parked.waiting c.in-Some.place (nobody c.args.rank) in
    c.hear_of.ensures.heard e (at c).here
    ∙ ap (λ (l : List Waiting). with_waiting m l)
    (set_turned test (hears_of m.config m.me c.args.from) m.parked.waiting c.in-Some.place e (at c))

-- it does not
pub returns-in-None-clause-ask : goal.returns-in-None-clause-ask
returns-in-None-clause-ask c =
    let test = is_since c.args.rank c.args.request in
    let waiting = c.args.self.now.parked.waiting in
    let fails = none_at test waiting (sym c.place_since.ensures.place ∙ c.in-None.is) in
    let answer : Option Server = Some c.args.from in
    sym (ap (λ t. if t then answer else None) (none_any test is_idle waiting fails))

pub returns-in-None-clause-parked : goal.returns-in-None-clause-parked
returns-in-None-clause-parked c =
    let m = c.args.self.now in
    let test = is_since c.args.rank c.args.request in
    let fails = none_at test m.parked.waiting (sym c.place_since.ensures.place ∙ c.in-None.is) in
    sym (ap (λ (l : List Waiting). with_waiting m l) (none_turned test (hears_of m.config m.me c.args.from) m.parked.waiting fails))
