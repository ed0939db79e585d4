-- One event more of a server.
use Rattle.std.proofs.Common.{◌≡◌, ◌<◌, ◌≤◌, ◌⊎◌, ◌↔◌, ℕ, Bool, true, false, ◌&&◌, cond, nat_lt, List, [], ◌∷◌, ◌++◌, Option, Some, None}
use Rattle.std.proofs.Common.{inl, inr, refl, sym, ap, ◌∙◌, append-nil, subst}
use Rattle.std.specs.Option.{option_map}
use Rattle.std.specs.Prelude.{IfOk, OnErr, Ok, Err, Result}
use Rattle.std.proofs.lemmas.Bool.{cases_lt}
use Rattle.adlb_unit.specs.Limits.{stamp_limit}
use Rattle.adlb_unit.specs.Links.{is_within, place_of}
use Rattle.adlb_unit.specs.declared.actors.Actor.{Actor}
use Rattle.adlb_unit.specs.declared.configs.Config.{Config}
use Rattle.adlb_unit.specs.declared.letters.Letter.{Letter}
use Rattle.adlb_unit.specs.declared.names.Server.{Server}
use Rattle.adlb_unit.specs.declared.notes.Trouble.{Trouble}
use Rattle.adlb_unit.specs.declared.notes.Trouble.TheVariants as troubles
use Rattle.rank_mail.specs.declared.posted.Posted.{Posted}
use Rattle.server_law.specs.Acts.{Act, ServerSaying, does, says}
use Rattle.server_law.specs.Carried.{Served, all_counted, all_done, carried, counted, done}
use Rattle.server_law.specs.State.{ServerModel, start}
use Rattle.server_law.specs.Step.{acts, at_event, next_stamp, serve}
use Rattle.server_law.proofs.Carrying.{carried_state}
use Rattle.server_core.specs.declared.steps.Step.{Step}
use Rattle.server_core.specs.Left.{left_of}
use Rattle.server_core.specs.declared.states.LeftUnit.{LeftUnit}
use Rattle.thread_actors.specs.World.{has_ended}
use Rattle.merge_history.specs.declared.causes.Cause.{Cause}
use Rattle.merge_history.specs.declared.causes.Cause.TheVariants.{Got}
use Rattle.merge_history.specs.Events.{Event}
use Rattle.merge_history.specs.Own.{PoolWalks, pool_step}
use Rattle.actor_desk.specs.Desks.{DeskModel, IsEntered, Tallies, received, with_room}
use Rattle.thread_actors.specs.inside.Serving.{Follows}
use Rattle.thread_actors.specs.ServerJobs.{IsServerRun, came}
use Rattle.thread_actors.proofs.ServerBegun.{came_more}

-- What a step leaves as it is.

-- two states of one server with equal clock and trouble
abbrev pub IsBeside : ServerModel → ServerModel → Type 0
IsBeside s t = (t.config ≡ s.config) × (t.me ≡ s.me) × (t.trouble ≡ s.trouble) × (t.clock ≡ s.clock)

counted_keeps : (s : ServerModel) (said : List ServerSaying) → IsBeside s (all_counted s said)
counted_keeps s [] = (refl, refl, refl, refl)
counted_keeps s (y ∷ said) = counted_keeps (counted s y.to) said

done_keeps : (list : List Act) (s : ServerModel) → IsBeside s (all_done list s)
done_keeps [] s = (refl, refl, refl, refl)
done_keeps (a ∷ list) s =
    let first = counted_keeps (does a s) (says a s) in
    let rest = done_keeps list (done a s) in (rest.0 ∙ first.0, rest.1 ∙ first.1, rest.2 ∙ first.2, rest.3 ∙ first.3)

-- all but the stamp, which is that of the event
pub serve_keeps : (s : ServerModel) (from : Actor) (letter : Letter) (x : Served) → serve s from letter ≡ Some x
    → IsBeside (at_event s letter) x.state
serve_keeps s from letter x serves = by_test (is_within s.config from && nat_lt letter.stamp stamp_limit) serves
  where
    t : ServerModel
    t = at_event s letter

    by_acts : (o : Option (List Act)) → option_map (λ list. carried list t) o ≡ Some x → IsBeside t x.state
    by_acts None e = absurd (cc)
    by_acts (Some list) e =
        let is : carried list t ≡ x = cc in
        let state : all_done list t ≡ x.state = sym (carried_state list t) ∙ ap (λ (y : Served). y.state) is in
        subst (IsBeside t) state (done_keeps list t)

    by_test : (b : Bool) → cond b (option_map (λ list. carried list t) (acts t from letter.message)) None ≡ Some x → IsBeside t x.state
    by_test true e = by_acts (acts t from letter.message) e
    by_test false e = absurd (cc)

-- Its journal with one event more.

-- a walk with one event more
pub pool_walks_more : (config : Config) (s t : ServerModel) (es : List Event) (e : Event) (x : Served) → PoolWalks config s es t
    → pool_step config t e.cause ≡ Some x → e.stamp ≡ x.state.clock → e.sends ≡ x.sends → e.entries ≡ x.entries
    → PoolWalks config s (es ++ e ∷ []) x.state
pool_walks_more config s t [] e x was step stamp sends entries =
    (x, ap (λ (k : ServerModel). pool_step config k e.cause) was ∙ step, stamp, sends, entries, refl)
pool_walks_more config s t (d ∷ es) e x was step stamp sends entries =
    (was.0, was.1, was.2, was.3, was.4, pool_walks_more config was.0.state t es e x was.5 step stamp sends entries)

-- a letter that is served is a step of the server
pub served_is_step : (config : Config) (s : ServerModel) (from : Actor) (letter : Letter) (cause : Cause) (o : Option Served)
    → cause ≡ Got from letter → is_within config from ≡ true → has_ended s ≡ false → serve s from letter ≡ o → pool_step config s cause ≡ o
served_is_step config s from letter cause o is within going serves =
    ap (λ (c : Cause). pool_step config s c) is ∙ rw (within, going) serves

-- The room of the journal matters to no tally.

with_any_room : (d : DeskModel) (more : List Posted) → Tallies d more → Tallies (with_room d 0) more
with_any_room d more t = record { sends = t.sends; receives = t.receives }

without_room : (d : DeskModel) (more : List Posted) → Tallies (with_room d 0) more → Tallies d more
without_room d more t = record { sends = t.sends; receives = t.receives }

same_tallies : (old mid : DeskModel) (more : List Posted) → with_room mid 0 ≡ with_room old 0 → Tallies old more → Tallies mid more
same_tallies old mid more same t =
    without_room mid more (subst (λ (d : DeskModel). Tallies d more) (sym same) (with_any_room old more t))

-- the journal is the server's own run after an event that was entered, too
pub follows_more : (old mid new : DeskModel) (s : ServerModel) (from : Actor) (letter : Letter) (e : Event) (x : Served)
    → with_room mid 0 ≡ with_room old 0 → e.cause ≡ Got from letter → serve s from letter ≡ Some x
    → next_stamp s letter < stamp_limit → e.stamp ≡ next_stamp s letter → e.sends ≡ x.sends → e.entries ≡ x.entries
    → is_within old.config from ≡ true → has_ended s ≡ false → IsEntered mid e new
    → (Tallies mid (received mid.config e.cause) → Tallies new [])
    → Follows old (record { from = place_of old.config from; letter = letter } ∷ []) s → Follows new [] x.state
follows_more old mid new s from letter e x same cause serves in_time stamp sends entries within going entered tallies was =
    let beside = serve_keeps s from letter x serves in
    let config : new.config ≡ old.config = entered.config ∙ ap (λ (d : DeskModel). d.config) same in
    let events : new.events ≡ old.events ++ e ∷ [] = entered.events ∙ ap (λ (d : DeskModel). d.events ++ e ∷ []) same in
    let got : received mid.config e.cause ≡ record { from = place_of old.config from; letter = letter } ∷ [] =
    ap (λ (c : Cause). received mid.config c) cause ∙ ap (λ (d : DeskModel). received d.config (Got from letter)) same in
    let before : Tallies mid (received mid.config e.cause) =
    subst (λ (more : List Posted). Tallies mid more) (sym got) (same_tallies old mid _ same was.tallies) in
    let walks : PoolWalks old.config (start old.config s.me) (old.events ++ e ∷ []) x.state =
    pool_walks_more old.config (start old.config s.me) s old.events e x was.walks
    (served_is_step old.config s from letter e.cause (Some x) cause within going serves) (stamp ∙ sym beside.3) sends entries in
    let mine : PoolWalks old.config (start old.config x.state.me) (old.events ++ e ∷ []) x.state =
    subst (λ (me : Server). PoolWalks old.config (start old.config me) (old.events ++ e ∷ []) x.state) (sym beside.1) walks in
    let there : PoolWalks old.config (start old.config x.state.me) new.events x.state =
    subst (λ (es : List Event). PoolWalks old.config (start old.config x.state.me) es x.state) (sym events) mine in
    record {
      whole = beside.2 ∙ was.whole;
      within = subst (λ (n : ℕ). n < stamp_limit) (sym beside.3) in_time;
      tallies = tallies before;
      walks = subst (λ (c : Config). PoolWalks c (start c x.state.me) new.events x.state) (sym config) there;
      got =
          entered.got ∙ ap (λ (d : DeskModel). d.got) same ∙ was.got
          ∙ ap (λ (c : Cause). came old ++ received old.config c) (sym cause)
          ∙ sym (append-nil (came new) ∙ came_more old new e config events);
    }

-- The server is the same one after a step.
pub step_keeps : (r : Result Step Trouble) (s t : ServerModel) (from : Actor) (letter : Letter) (config : Config) (me : Server)
    → IfOk r (λ step. serve s from letter ≡ Some (record { state = t; sends = step.sends.items; entries = step.entries.items }))
    → OnErr r (t.config ≡ s.config) → OnErr r (t.me ≡ s.me) → (s.config ≡ config) × (s.me ≡ me) → (t.config ≡ config) × (t.me ≡ me)
step_keeps (Ok step) s t from letter config me served config_is me_is was =
    let beside = serve_keeps s from letter _ served in (beside.0 ∙ was.0, beside.1 ∙ was.1)
step_keeps (Err trouble) s t from letter config me served config_is me_is was = (config_is ∙ was.0, me_is ∙ was.1)

-- what a step comes to that did not fail
abbrev stepped : Step → Result Step Trouble
stepped step = Ok step

-- one that came too late
abbrev too_late : ℕ → Result Step Trouble
too_late n = Err (troubles.TooLong n)

-- the stamp of a step that did not fail is one that is given
pub in_time : (step : Step) (stamp : ℕ)
    → ((n : ℕ) → (stepped step ≡ too_late n) ↔ ((stamp_limit ≤ stamp) × (n ≡ stamp))) → stamp < stamp_limit
in_time step stamp late = by_order (cases_lt stamp stamp_limit)
  where
    by_order : (stamp < stamp_limit) ⊎ (stamp_limit ≤ stamp) → stamp < stamp_limit
    by_order (inl low) = low
    by_order (inr high) = absurd (let no : stepped step ≡ too_late stamp = (late stamp).1 (high, refl) in cc)

-- When it has ended, its journal is its own run.
pub whole_run : (config : Config) (me : Server) (d : DeskModel) (s : ServerModel) (left : List LeftUnit) → d.config ≡ config
    → (s.config ≡ config) × (s.me ≡ me) → Follows d [] s → has_ended s ≡ true → left ≡ left_of s → IsServerRun config me d left
whole_run config me d s left at own was ended is =
    let walks : PoolWalks config (start config s.me) d.events s =
    subst (λ (c : Config). PoolWalks c (start c s.me) d.events s) at was.walks in
    record {
      last = s;
      walks = subst (λ (k : Server). PoolWalks config (start config k) d.events s) own.1 walks;
      ended = ended;
      left_is = is;
      tallies = was.tallies;
    }
