-- In a run of all actors, up to whatever moment, the next letter of each link is expected by its receiver.
use Rattle.adlb_unit.specs.Limits.{stamp_limit}
use Rattle.adlb_unit.specs.Links.{is_within, place_of}
use Rattle.adlb_unit.specs.declared.actors.Actor.{Actor}
use Rattle.adlb_unit.specs.declared.configs.Config.{Config}
use Rattle.adlb_unit.specs.declared.letters.Letter.{Letter}
use Rattle.core_bound_law.proofs.Bound.{few_events}
use Rattle.core_bound_law.proofs.Stamps.{front_up_to, stamps_up_to}
use Rattle.core_bound_law.specs.Bounds.{begun}
use Rattle.core_check_law.proofs.Expected.{none_is_ever_stuck}
use Rattle.core_law.proofs.EveryRun.{run_config}
use Rattle.core_law.proofs.Sums.{place_below}
use Rattle.core_run.specs.Runs.{is_over}
use Rattle.core_run.specs.World.{World, after_server, client_of, handle, happens, has_ended, link, pool_of, taken}
use Rattle.fallen_law.specs.Fallen.{Expects, GoesOn, IsNext, WouldBear, last_stamp}
use Rattle.merge_history.specs.Events.{Event, OfActor}
use Rattle.merge_history.specs.Merging.{journal_at}
use Rattle.merge_history.specs.Own.{Finals, IsCoreRun, got, occurrence}
use Rattle.rank_client.specs.State.{ClientModel}
use Rattle.rank_client.specs.Step.{hear}
use Rattle.server_law.specs.Carried.{Served}
use Rattle.server_law.specs.State.{ServerModel}
use Rattle.server_law.specs.Step.{serve}
use Rattle.std.proofs.Common.{Bool, List, None, Option, Some, ap, arith, cond, false, length, map, not, refl, subst, sym, true, ◌&&◌, ◌*◌}
use Rattle.std.proofs.Common.{inl, inr, ℕ, ◌+◌, ◌<◌, ◌^◌, ◌∙◌, ◌∷◌, ◌≡◌, ◌≤◌}
use Rattle.std.proofs.lemmas.Bool.{ltb-true}
use Rattle.std.proofs.lemmas.List.{append_cancel_left, length-map}
use Rattle.std.specs.Option.{option_map}
use Rattle.std.specs.Prelude.{is_some}
use Rattle.adlb_unit.specs.declared.actors.Actor.TheVariants as by
use Rattle.core_run.specs.declared.events.Event.TheVariants as occurs

mapped_some : {X Y : Type 0} (f : X → Y) (o : Option X) (y : Y) → option_map f o ≡ Some y → is_some o ≡ true
mapped_some f None y is = absurd (cc)
mapped_some f (Some x) y is = refl

module _ (config : Config) (finals : Finals) (journals : List OfActor) (events : List (Actor × Event))
    (run : IsCoreRun config finals journals events)
    (from to : Actor) (letter : Letter) (rest : List Letter) (f : is_within config from ≡ true) (t : is_within config to ≡ true)
    (next : IsNext config journals from to letter rest) where
  w : World
  w = run.last

  same : (run.last).config ≡ config
  same = run_config _ run.last _ run.runs

  front : link (run.last).links (place_of (run.last).config from) (place_of (run.last).config to) ≡ letter ∷ rest
  front =
      ap (λ (c : Config). link (run.last).links (place_of c from) (place_of c to)) same
      ∙ append_cancel_left (got config (place_of config from) (journal_at journals (place_of config to))) _ _
      (sym (run.links (place_of config from) (place_of config to) (place_below config from f) (place_below config to t)) ∙ next)

  f_last : is_within (run.last).config from ≡ true
  f_last = ap (λ (c : Config). is_within c from) same ∙ f

  t_last : is_within (run.last).config to ≡ true
  t_last = ap (λ (c : Config). is_within c to) same ∙ t

  still_on : GoesOn finals to → is_over (run.last) to ≡ false
  still_on on = by_actor to t on
    where
      by_actor : (a : Actor) → is_within config a ≡ true → GoesOn finals a → is_over (run.last) a ≡ false
      by_actor (by.Rank a) within on = refl
      by_actor (by.Server a) within on = ap has_ended (run.servers a (ltb-true a.0 config.servers within)) ∙ on

  happened : (next : World) → happens (run.last) (occurs.Deliver from to) ≡ Some next
      → handle (run.last) from to (letter ∷ rest) ≡ Some next
  happened next is =
      ap (handle (run.last) from to) (sym front)
      ∙ ap (λ (b : Bool). cond b
      (handle (run.last) from to (link (run.last).links (place_of (run.last).config from) (place_of (run.last).config to))) None)
      (sym (both_so (is_within (run.last).config from) (is_within (run.last).config to) f_last t_last))
      ∙ is
    where
      both_so : (a b : Bool) → a ≡ true → b ≡ true → (a && b) ≡ true
      both_so a b p q = rw (p, q) refl

  -- its receiver has a step for it
  pub expected : GoesOn finals to → letter.stamp < stamp_limit → Expects config finals from to letter
  expected on stamp =
      let next = none_is_ever_stuck config (map (λ (x : Actor × Event). occurrence x.0 x.1.cause) events)
      (run.last) run.runs from to letter rest f_last t_last
      front (still_on on) stamp in
      by_actors from to f t on next.0 (happened next.0 next.1)
    where
      by_actors : (a b : Actor) → is_within config a ≡ true → is_within config b ≡ true → GoesOn finals b → (next : World)
          → handle (run.last) a b (letter ∷ rest) ≡ Some next → Expects config finals a b letter
      by_actors (by.Rank a) (by.Rank b) la lb on next is = absurd (cc)
      by_actors (by.Server a) (by.Rank b) la lb on next is =
          let some = mapped_some _ (hear (client_of (run.last) b) a letter) next is in
          let final = subst (λ (s : ClientModel). is_some (hear s a letter) ≡ true) (run.ranks b (ltb-true b.0 config.ranks lb)) some in
          ap (λ (t : Bool). is_some (cond t (hear (finals.client b) a letter) None)) la ∙ final
      by_actors a (by.Server b) la lb on next is =
          let its = run.servers b (ltb-true b.0 config.servers lb) in
          let some = served a is in
          let final = subst (λ (s : ServerModel). is_some (serve s a letter) ≡ true) its some in
          ap (λ (t : Bool). is_some (cond (t && not (has_ended (finals.pool b))) (serve (finals.pool b) a letter) None)) la
          ∙ ap (λ (t : Bool). is_some (cond (not t) (serve (finals.pool b) a letter) None)) on
          ∙ final
        where
          unless : (a : Actor) (t : Bool) (o : Option Served)
              → cond t None (option_map (after_server (run.last) b (taken (run.last) a (by.Server b) rest)) o) ≡ Some next
              → is_some o ≡ true
          unless a true o is = absurd (cc)
          unless a false o is = mapped_some _ o next is

          served : (a : Actor) → handle (run.last) a (by.Server b) (letter ∷ rest) ≡ Some next
              → is_some (serve (pool_of (run.last) b) a letter) ≡ true
          served (by.Rank r) is = unless (by.Rank r) (has_ended (pool_of (run.last) b)) (serve (pool_of (run.last) b) (by.Rank r) letter) is
          served (by.Server s) is = unless (by.Server s) (has_ended (pool_of (run.last) b))
              (serve (pool_of (run.last) b) (by.Server s) letter) is

  -- its stamp is at most the number of events
  pub stamp_low : letter.stamp ≤ length events
  stamp_low =
      let low = front_up_to config (map (λ (x : Actor × Event). occurrence x.0 x.1.cause) events)
      (run.last) from to letter rest run.runs f_last t_last front in
      let long = length-map events (λ (x : Actor × Event). occurrence x.0 x.1.cause) in
      omega arith

-- the run has few events for its calls
pub few_happen : (config : Config) (finals : Finals) (journals : List OfActor) (events : List (Actor × Event))
    → IsCoreRun config finals journals events
    → length events ≤ 8192 * (begun (map (λ (x : Actor × Event). occurrence x.0 x.1.cause) events) + 1)
few_happen config finals journals events run =
    let few = few_events config (map (λ (x : Actor × Event). occurrence x.0 x.1.cause) events) (run.last) run.runs in
    let long = length-map events (λ (x : Actor × Event). occurrence x.0 x.1.cause) in
    omega arith

-- the stamp of each actor's last event is at most their number
clock_low : (config : Config) (finals : Finals) (journals : List OfActor) (events : List (Actor × Event)) (actor : Actor)
    → IsCoreRun config finals journals events → is_within config actor ≡ true → last_stamp finals actor ≤ length events
clock_low config finals journals events actor run within = by_actor actor within
  where
    by_actor : (a : Actor) → is_within config a ≡ true → last_stamp finals a ≤ length events
    by_actor (by.Rank a) within =
        let low = stamps_up_to config (map (λ (x : Actor × Event). occurrence x.0 x.1.cause) events) (run.last) (by.Rank a) run.runs in
        let same = ap (λ (s : ClientModel). s.clock) (run.ranks a (ltb-true a.0 config.ranks within)) in
        let long = length-map events (λ (x : Actor × Event). occurrence x.0 x.1.cause) in
        omega arith
    by_actor (by.Server a) within =
        let low = stamps_up_to config (map (λ (x : Actor × Event). occurrence x.0 x.1.cause) events) (run.last) (by.Server a) run.runs in
        let same = ap (λ (s : ServerModel). s.clock) (run.servers a (ltb-true a.0 config.servers within)) in
        let long = length-map events (λ (x : Actor × Event). occurrence x.0 x.1.cause) in
        omega arith

-- a stamp past the last one that is given comes only after very many calls
pub late_many : (config : Config) (finals : Finals) (journals : List OfActor) (events : List (Actor × Event)) (actor : Actor) (stamp : ℕ)
    → IsCoreRun config finals journals events → is_within config actor ≡ true → WouldBear config finals journals actor stamp
    → stamp_limit ≤ stamp → 2 ^ 34 ≤ begun (map (λ (x : Actor × Event). occurrence x.0 x.1.cause) events)
late_many config finals journals events actor stamp run within bears late =
    let clock = clock_low config finals journals events actor run within in
    let few = few_happen config finals journals events run in
    elim bears [
      | inl call ↦ omega (arith, call, clock, few)
      | inr came ↦
          let low = stamp_low config finals journals events run came.0 actor came.1 came.2 came.3 within came.4 in
          let is = came.5 in
          omega (arith, is, low, clock, few)
    ]
