use Rattle.std.proofs.Common.{◌≡◌, ◌<◌, ap, sym, subst, ◌∙◌, rules}
use Rattle.std.specs.Prelude.{slice_get}
use Rattle.std.proofs.lemmas.Bool.{false≢true}
use Rattle.adlb_unit.specs.Ring.{others}
use Rattle.server_components.proofs.Others.{all_others, alone, none_others}
use Rattle.server_components.proofs.Outcomes.{asks_first, first_of_none, idle_none, none_first}
use Rattle.server_components.proofs.Sound.{first_other, parks_waits}
use Rattle.server_components.specs.Calls.{asking, step_of}
use Rattle.server_components.specs.Parked.{IsWaiting, ParkedModel}
use Rattle.server_components.specs.declared.waits.Waiting.{Waiting}
use Rattle.server_components.specs.declared.wishes.Wish.{Wish}
use Rattle.server_components.proofs.parking.Parked.reserve.Goals as goal

pub park-requires-clause-each : goal.park-requires-clause-each
park-requires-clause-each c =
    let m = c.args.self.now in
    let w : Wish = record { rank = c.args.rank; request = c.args.request; types = c.args.types.now } in
    let there = subst (λ (n : ParkedModel). n.me.0 < n.config.servers) c.self.view_is c.self.invariant.sound.there in
    let waits = parks_waits m.config m.me w there c.requires.here in
    let is : c.asking-waits.result ≡ asking w (others m.config m.me) = search rules in
    subst (λ (e : Waiting). IsWaiting m.config m.me e) (sym is) waits

-- what the rank waits for is what is asked first
asks : (c : goal.After-park) → c.of-step.result ≡ step_of (slice_get (others c.args.self.now.config c.args.self.now.me) 0)
asks c =
    let is : c.asking-waits.result ≡ asking c.asking-waits.result.wish (others c.args.self.now.config c.args.self.now.me) = search rules in
    c.of-step.ensures ∙ ap (λ (e : Waiting). step_of e.asked) is

pub returns-in-None-clause-ask : goal.returns-in-None-clause-ask
returns-in-None-clause-ask c = λ s is.
    let m = c.args.self.now in
    let servers = others m.config m.me in
    let there = subst (λ (n : ParkedModel). n.me.0 < n.config.servers) c.self.view_is c.self.invariant.sound.there in
    first_other m.config m.me servers (all_others m.config m.me there) s (asks_first (slice_get servers 0) s (sym (asks c) ∙ is))

pub returns-in-None-clause-idle : goal.returns-in-None-clause-idle
returns-in-None-clause-idle c =
    let m = c.args.self.now in
    let servers = others m.config m.me in (
      λ is. (
        λ any. absurd (false≢true (c.in-None.ensures.some.1 any)),
        none_others m.config m.me (none_first servers (idle_none (slice_get servers 0) (sym (asks c) ∙ is))),
      ),
      λ both. asks c ∙ first_of_none servers (alone m.config m.me both.1),
    )
