-- What is so of a server stays so where only what waits and the queue's pins change.
use Rattle.std.proofs.Common.{◌≡◌, ◌≤◌, ◌<◌, ℕ, Bool, false, List, length, find, Option, None, Some, refl, sym, ap, ◌∙◌, subst}
use Rattle.adlb_unit.specs.declared.names.Rank.{Rank}
use Rattle.adlb_unit.specs.declared.names.Server.{Server}
use Rattle.adlb_unit.specs.declared.names.WorkType.{WorkType}
use Rattle.work_queue.specs.Queue.{Queue}
use Rattle.work_queue.specs.declared.placing.Placed.{Placed}
use Rattle.work_queue.proofs.Searched.{find_first}
use Rattle.server_components.specs.Calls.{after_ask, after_none, asks_next, forgotten_if, given, gone, gone_if, hears_of, hinted, is_since}
use Rattle.server_components.specs.Calls.{reserved}
use Rattle.server_components.specs.Grants.{best_for, pinned_to, with_grant}
use Rattle.server_components.specs.Parked.{IsAway, IsHere, IsOther, IsParked, IsWaiting, Parked, ParkedModel, is_of, is_parked}
use Rattle.server_components.specs.declared.waits.Waiting.{Waiting}
use Rattle.server_components.specs.declared.wishes.Wish.{Wish}
use Rattle.server_components.proofs.Sound.{forgotten_sound, gone_sound, heard_waits, heard_wish, next_waits, parked_sound, parks_waits}
use Rattle.server_components.proofs.Sound.{turned_sound, waiting_few, wished_sound, wishes_few}
use Rattle.server_components.proofs.Places.{nobody}
use Rattle.server_components.specs.Calls.{asking}
use Rattle.adlb_unit.specs.Ring.{others}
use Rattle.exhaust_ring.specs.Ring.{AreOfOne, RingModel}
use Rattle.server_law.specs.State.{ServerModel}
use Rattle.server_core.specs.inside.{IsInside, IsSound, bytes_in, parked_of, state_of}
use Rattle.server_core.specs.Waits.{with_parked}
use Rattle.server_core.specs.declared.states.ServerState.TheInside.{Inside}

-- What a call makes of what waits.

-- it is sound, at the server as before
pub record Stays (m n : ParkedModel) : Type 0 where
  pub sound : IsParked n
  pub config : n.config ≡ m.config
  pub me : n.me ≡ m.me

stays : (m : ParkedModel) (parked : Parked) → IsParked (record m { parked = parked }) → Stays m (record m { parked = parked })
stays m parked sound = record { sound = sound; config = refl; me = refl }

module _ {m : ParkedModel} (sound : IsParked m) where
  -- those that wait stay sound as they are
  pub same_stays : Stays m m
  same_stays = stays m m.parked sound

  -- those that wait stay sound without one rank
  pub gone_stays : (rank : Rank) → Stays m (gone m rank)
  gone_stays rank = stays m (gone m rank).parked (gone_sound m rank sound)

  -- those that wait stay sound without the one that was found, if any
  pub gone_if_stays : (o : Option Waiting) → Stays m (gone_if m o)
  gone_if_stays None = same_stays
  gone_if_stays (Some e) = gone_stays e.wish.rank

  -- those that wait stay sound after a wish is forgotten, if there is one
  pub forgotten_if_stays : (o : Option Wish) → Stays m (forgotten_if m o)
  forgotten_if_stays None = same_stays
  forgotten_if_stays (Some w) = stays m (forgotten_if m (Some w)).parked (forgotten_sound m w.rank sound)

  -- those that wait stay sound after a reserve
  pub reserved_stays : (wish : Wish) → IsHere m.config m.me wish.rank → is_parked m wish.rank ≡ false → (o : Option Placed)
      → Stays m (reserved m wish o)
  reserved_stays wish here new (Some p) = same_stays
  reserved_stays wish here new None =
      let waits = parks_waits m.config m.me wish sound.there here in
      stays m (reserved m wish None).parked (parked_sound m (asking wish (others m.config m.me)) waits new sound)

  -- those that wait stay sound after a rank was refused
  pub none_stays : (rank : Rank) (o : Option Placed) → Stays m (after_none m rank o)
  none_stays rank (Some p) = gone_stays rank
  none_stays rank None =
      stays m (after_none m rank None).parked
      (turned_sound m (is_of rank) asks_next sound (next_waits m.config m.me) (λ e. refl))

  -- those that wait stay sound after a hint
  pub hinted_stays : (rank : Rank) (request : ℕ) (from : Server) → IsOther m.config m.me from → Stays m (hinted m rank request from)
  hinted_stays rank request from other =
      stays m (hinted m rank request from).parked
      (turned_sound m (is_since rank request) (hears_of m.config m.me from) sound
      (heard_waits m.config m.me from sound.there other) (heard_wish m.config m.me from))

  -- those that wait stay sound after an ask
  pub ask_stays : (wish : Wish) → IsAway m.config m.me wish.rank → (o : Option Placed) → Stays m (after_ask m wish o)
  ask_stays wish away (Some p) = stays m (after_ask m wish (Some p)).parked (forgotten_sound m wish.rank sound)
  ask_stays wish away None = stays m (after_ask m wish None).parked (wished_sound m wish away sound)

-- who waits does so as it should
pub waits_as : (m : ParkedModel) → IsParked m → (test : Waiting → Bool) (e : Waiting) → find test m.parked.waiting ≡ Some e
    → IsWaiting m.config m.me e
waits_as m sound test e found =
    let first = find_first test m.parked.waiting e found in
    subst (IsWaiting m.config m.me) first.read (sound.each first.place e first.within)

-- a rank that waits is one of the run
pub waits_within : (m : ParkedModel) → IsParked m → (test : Waiting → Bool) (e : Waiting) → find test m.parked.waiting ≡ Some e
    → e.wish.rank.0 < m.config.ranks
waits_within m sound test e found = (waits_as m sound test e found).here.0

-- What it makes of the queue: no unit comes, and no bytes of parts.
pub record IsPinned (q r : Queue) : Type 0 where
  pub arrivals : r.arrivals ≡ q.arrivals
  pub common : r.common ≡ q.common

-- a queue has its own pins
pub same_pins : {q : Queue} → IsPinned q q
same_pins = record { arrivals = refl; common = refl }

pinned_pins : (q : Queue) (rank : Rank) (o : Option Placed) → IsPinned q (pinned_to rank o q)
pinned_pins q rank None = same_pins
pinned_pins q rank (Some p) = record { arrivals = refl; common = refl }

-- a queue after a grant differs by pins alone
pub given_pins : (o : Option Waiting) (p : Placed) (q : Queue) → IsPinned q (given o p q)
given_pins None p q = same_pins
given_pins (Some e) p q = pinned_pins q e.wish.rank (Some p)

-- The server.

module _ {i : Inside} (inside : IsInside i) where
  -- those that wait, as the server's state has them
  pub seen : i.parked ≡ parked_of (state_of i)
  seen =
      ap (λ config. let m : ParkedModel = record { config = config; me = i.parked.me; parked = i.parked.parked } in m) inside.config
      ∙ ap (λ me. let m : ParkedModel = record { config = i.config; me = me; parked = i.parked.parked } in m) inside.me

  -- what a call makes of what waits, at the server
  pub made_of : (f : ParkedModel → ParkedModel) {n : ParkedModel} → n ≡ f i.parked → n.parked ≡ (f (parked_of (state_of i))).parked
  made_of f is = ap (λ (m : ParkedModel). m.parked) is ∙ ap (λ m. (f m).parked) seen

  -- those that wait at a sound server are sound
  pub parked_is : IsParked i.parked
  parked_is = subst IsParked (sym seen) inside.sound.parked

  -- after the call
  pub closes : {n now : ParkedModel} {queue after : Queue} → n ≡ now → Stays i.parked now → queue ≡ after → IsPinned i.queue after
      → IsInside (record i { parked = n; queue = queue })
  closes {n} {now} {queue} {after} is stays pinned pins =
      let config = ap (λ (m : ParkedModel). m.config) is ∙ stays.config ∙ inside.config in
      let me = ap (λ (m : ParkedModel). m.me) is ∙ stays.me ∙ inside.me in
      let arrivals = ap (λ (q : Queue). q.arrivals) pinned ∙ pins.arrivals in
      let common = ap (λ (q : Queue). q.common) pinned ∙ pins.common in
      let same : n ≡ parked_of (with_parked (state_of i) queue n.parked) =
      ap (λ c. let m : ParkedModel = record { config = c; me = n.me; parked = n.parked } in m) config
      ∙ ap (λ k. let m : ParkedModel = record { config = i.config; me = k; parked = n.parked } in m) me in
      let sound : IsSound (with_parked (state_of i) queue n.parked) = record {
        finished = inside.sound.finished;
        actors = inside.sound.actors;
        parked = subst IsParked (sym is ∙ same) stays.sound;
        arrivals = subst (λ k. k ≤ i.clock) (sym arrivals) inside.sound.arrivals;
        charged = subst (λ k. bytes_in i.parts ≤ k) (sym common) inside.sound.charged;
        check = inside.sound.check;
        activity = inside.sound.activity;
        sent = inside.sound.sent;
        clock = inside.sound.clock;
      } in
      record {
        sound = sound;
        config = config;
        me = me;
        push_config = inside.push_config;
        push_me = inside.push_me;
        ring_config = inside.ring_config;
        ring_me = inside.ring_me;
      }

  -- where a unit is pinned, if there is one
  pub grants_inside : {n now : ParkedModel} {queue : Queue} (rank : Rank) (types : Option (List WorkType)) → n ≡ now → Stays i.parked now
      → queue ≡ with_grant i.queue rank types → IsInside (record i { parked = n; queue = queue })
  grants_inside rank types is stays pinned = closes is stays pinned (pinned_pins i.queue rank (best_for i.queue rank types))

  -- where what waits alone changes, and where the queue alone does
  pub parked_inside : {n now : ParkedModel} → n ≡ now → Stays i.parked now → IsInside (record i { parked = n })
  parked_inside is stays = closes {queue = i.queue} {after = i.queue} is stays refl same_pins

  -- a server is sound with a queue that differs by pins alone
  pub queue_inside : {queue after : Queue} → queue ≡ after → IsPinned i.queue after → IsInside (record i { queue = queue })
  queue_inside is pins = closes {n = i.parked} {now = i.parked} refl (same_stays parked_is) is pins

-- what is seen of the whole server
module _ {i : Inside} (inside : IsInside i) {s : ServerModel} (is : state_of i ≡ s) where
  -- those that wait, as an equal state has them
  pub parked_at : i.parked ≡ parked_of s
  parked_at = seen inside ∙ ap parked_of is

  -- those that wait are sound in an equal state
  pub sound_at : IsParked (parked_of s)
  sound_at = subst (λ u. IsParked (parked_of u)) is inside.sound.parked

  -- after a call
  pub seat_at : (q : ServerModel → Queue) (f : ServerModel → ParkedModel → ParkedModel) {n : ParkedModel} {queue : Queue}
      → n ≡ f (state_of i) i.parked → queue ≡ q (state_of i)
      → with_parked (state_of i) queue n.parked ≡ with_parked s (q s) (f s (parked_of s)).parked
  seat_at q f {n} {queue} left pinned =
      ap (λ k. with_parked (state_of i) k n.parked) pinned
      ∙ ap (λ m. with_parked (state_of i) (q (state_of i)) m) (made_of inside (f (state_of i)) left)
      ∙ ap (λ u. with_parked u (q u) (f u (parked_of u)).parked) is

-- the ring may change, at the server as before
pub ring_inside : {i : Inside} {n : RingModel} → IsInside i → AreOfOne i.ring n → n.ring.check ≤ i.clock → IsInside (record i { ring = n })
ring_inside inside same check = record {
  sound = record {
    finished = inside.sound.finished;
    actors = inside.sound.actors;
    parked = inside.sound.parked;
    arrivals = inside.sound.arrivals;
    charged = inside.sound.charged;
    check = check;
    activity = inside.sound.activity;
    sent = inside.sound.sent;
    clock = inside.sound.clock;
  };
  config = inside.config;
  me = inside.me;
  push_config = inside.push_config;
  push_me = inside.push_me;
  ring_config = same.1 ∙ inside.ring_config;
  ring_me = same.0 ∙ inside.ring_me;
}

-- a server is sound after a visit of a token
pub visited_inside : {i : Inside} {n : RingModel} → IsInside i → AreOfOne i.ring n → n.ring.check ≡ i.ring.ring.check
    → IsInside (record i { ring = n })
visited_inside {i} inside same is = ring_inside inside same (subst (λ k. k ≤ i.clock) (sym is) inside.sound.check)

-- no more wait and are wished for than there are ranks
pub counts_within : {i : Inside} → IsInside i
    → (length i.parked.parked.waiting ≤ i.config.ranks) × (length i.parked.parked.wishes ≤ i.config.ranks)
counts_within {i} inside =
    let sound = inside.sound.parked in
    let some = nobody (record { 0 = 0 }) in
    (waiting_few (parked_of (state_of i)) sound some, wishes_few (parked_of (state_of i)) sound some.wish)
