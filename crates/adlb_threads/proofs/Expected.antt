-- No rank and no server ends by a letter that it did not expect.
use Rattle.std.proofs.Common.{◌≡◌, ◌⊎◌, inl, inr, ◌<◌, ◌≤◌, ◌+◌, ◌-◌, ◌==◌, ℕ, Bool, true, false, List, [], ◌∷◌, ◌++◌, length, map, filter}
use Rattle.std.proofs.Common.{slice_get, Option, Some, None, cond, not, ◌&&◌, refl, ap, sym, ◌∙◌, subst, arith, lt-ltb}
use Rattle.std.proofs.Common.{length-append, append-nil}
use Rattle.std.specs.List.{AllByRecursion as Each}
use Rattle.std.specs.Prelude.{is_some, nat_lt}
use Rattle.std.proofs.lemmas.Bool.{cases_lt, eq-eqb, ltb-true}
use Rattle.std.proofs.lemmas.List.{length-map}
use Rattle.std.proofs.lemmas.Option.{slice_get_within}
use Rattle.adlb_unit.specs.Limits.{stamp_limit}
use Rattle.adlb_unit.specs.Links.{is_within, place_of}
use Rattle.adlb_unit.specs.declared.actors.Actor.{Actor}
use Rattle.adlb_unit.specs.declared.actors.Actor.TheVariants as by
use Rattle.adlb_unit.specs.declared.configs.Config.{Config}
use Rattle.adlb_unit.specs.declared.letters.Letter.{Letter}
use Rattle.adlb_unit.specs.declared.letters.Sending.{Sending}
use Rattle.adlb_unit.specs.declared.messages.Message.{Message}
use Rattle.adlb_unit.specs.declared.messages.Message.TheVariants as tells
use Rattle.adlb_unit.specs.declared.names.Rank.{Rank}
use Rattle.adlb_unit.specs.declared.names.Server.{Server}
use Rattle.actor_desk.proofs.Begun.{tallied_begins}
use Rattle.actor_desk.proofs.Letters.{letters_of_more, place_below}
use Rattle.actor_desk.specs.Desks.{DeskModel, IsNew, sent_at}
use Rattle.core_progress_law.proofs.StepResults.{on_some}
use Rattle.fallen_law.proofs.Expecting.{expected}
use Rattle.fallen_law.proofs.Nexts.{first_of_link}
use Rattle.journal_law.proofs.Compose.{each_append}
use Rattle.fallen_law.specs.Fallen.{Expects, GoesOn, IsNext, TellsAfter, last_stamp, tells_trouble}
use Rattle.merge_history.proofs.OneLedger.{a_history}
use Rattle.merge_history.specs.Events.{Event, OfActor}
use Rattle.merge_history.specs.Own.{ClientWalks, Compose, Finals, IsCoreRun, PoolWalks, Walks}
use Rattle.merge_history.specs.Own.{client_step, got, letters_to, pool_step, sent}
use Rattle.rank_client.specs.State.{ClientModel, start as new_client}
use Rattle.rank_client.specs.Step.{Made, hear, told_trouble}
use Rattle.rank_mail.proofs.Lists.{there}
use Rattle.rank_mail.specs.declared.posted.Posted.{Posted}
use Rattle.rank_mail.specs.Mailboxes.{letters_of}
use Rattle.server_law.specs.Carried.{Served as Handled}
use Rattle.server_law.specs.State.{ServerModel, start as new_pool}
use Rattle.server_law.specs.Step.{serve}
use Rattle.thread_actors.specs.RankJobs.{Ended, IsCutShort}
use Rattle.thread_actors.specs.declared.faults.ActorFault.TheVariants.{Unexpected}
use Rattle.thread_actors.proofs.ServerBegun.{comes_next}
use Rattle.thread_actors.specs.ServerJobs.{Ended as Served, IsBroken, IsUnexpected, came, trouble_told}
use Rattle.thread_actors.specs.World.{actors, has_ended, rank_named, server_named}
use Rattle.adlb_threads.proofs.Besides.{rank_tells, server_tells}
use Rattle.adlb_threads.proofs.Endings.{of_rank as rank_ended, of_server as server_ended}
use Rattle.adlb_threads.proofs.Journals.{can_merge, composed, events_at, of_both, of_map, under_map}
use Rattle.adlb_threads.proofs.Kept.{none_there}
use Rattle.adlb_threads.proofs.Late.{its_own}
use Rattle.adlb_threads.proofs.OwnRuns.{client_same, pool_same}
use Rattle.adlb_threads.proofs.Stamps.{IsTimely, client_timely, pool_timely}
use Rattle.adlb_threads.proofs.Walked.{AreRankDesks, AreServerDesks, RankDesk, ServerDesk, are_clear, caller_at, finals, in_first, own_runs}
use Rattle.adlb_threads.proofs.Walked.{rank_at, rank_walks, same_some, server_at, server_walks}
use Rattle.adlb_threads.specs.Ends.{AreExpecting, AreOfDesks, AreReceived, HaveEnded, IsCaller, desks_of_all, tells_absent}
use Rattle.adlb_threads.specs.inside.{AreClear, AreOwnRuns, AreRanksEnds, AreServersEnds, desks_of, journals_at}

-- Stamps of what was sent are at most that of the actor's last event.

-- what these events send has stamps of at most this one
abbrev pub SendLow : ℕ → List Event → Type 0
SendLow most events = Each (λ (e : Event). Each (λ (y : Sending). y.letter.stamp ≤ most) e.sends) events

bears_low : (stamp most : ℕ) (sends : List Sending) → stamp ≤ most → Each (λ (y : Sending). y.letter.stamp ≡ stamp) sends
    → Each (λ (y : Sending). y.letter.stamp ≤ most) sends
bears_low stamp most [] low bears = tt
bears_low stamp most (y ∷ sends) low bears =
    (let is = bears.0 in omega (arith, low, is), bears_low stamp most sends low bears.1)

one_low : (before stamp most : ℕ) (sends its : List Sending) (cause : _) → IsTimely before stamp cause sends → its ≡ sends → stamp ≤ most
    → (before ≤ most) × Each (λ (y : Sending). y.letter.stamp ≤ most) its
one_low before stamp most sends its cause timely same low = (
  let later = timely.later in omega (arith, later, low),
  subst (λ (l : List Sending). Each (λ (y : Sending). y.letter.stamp ≤ most) l) (sym same) (bears_low stamp most sends low timely.bears),
)

client_low : (config : Config) (s : ClientModel) (events : List Event) (last : ClientModel) → ClientWalks config s events last
    → (s.clock ≤ last.clock) × SendLow last.clock events
client_low config s [] last walks = (let same = ap (λ (t : ClientModel). t.clock) walks in omega (arith, same), tt)
client_low config s (e ∷ events) last walks =
    let x : Made = walks.0 in
    let rest = client_low config x.state events last walks.5 in
    let timely = on_some (λ (x : Made). IsTimely s.clock x.state.clock e.cause x.sends) (client_step config s e.cause) x
    (client_timely config s e.cause) walks.1 in
    let one = one_low s.clock x.state.clock last.clock x.sends e.sends e.cause timely walks.3 rest.0 in
    (one.0, (one.1, rest.1))

pool_low : (config : Config) (s : ServerModel) (events : List Event) (last : ServerModel) → PoolWalks config s events last
    → (s.clock ≤ last.clock) × SendLow last.clock events
pool_low config s [] last walks = (let same = ap (λ (t : ServerModel). t.clock) walks in omega (arith, same), tt)
pool_low config s (e ∷ events) last walks =
    let x : Handled = walks.0 in
    let rest = pool_low config x.state events last walks.5 in
    let timely = on_some (λ (x : Handled). IsTimely s.clock x.state.clock e.cause x.sends) (pool_step config s e.cause) x
    (pool_timely config s e.cause) walks.1 in
    let one = one_low s.clock x.state.clock last.clock x.sends e.sends e.cause timely walks.3 rest.0 in
    (one.0, (one.1, rest.1))

walks_low : (config : Config) (last : Finals) (me : Actor) (events : List Event) → Walks config last me events
    → SendLow (last_stamp last me) events
walks_low config last (by.Rank rank) events walks = (client_low config (new_client config rank) events (last.client rank) walks).1
walks_low config last (by.Server server) events walks = (pool_low config (new_pool config server) events (last.pool server) walks).1

abbrev Low : ℕ → List Letter → Type 0
Low most letters = Each (λ (l : Letter). l.stamp ≤ most) letters

low_to : (config : Config) (to most : ℕ) (sends : List Sending) → Each (λ (y : Sending). y.letter.stamp ≤ most) sends
    → Low most (letters_to config to sends)
low_to config to most [] all = tt
low_to config to most (y ∷ sends) all = by_test (place_of config y.to == to) (low_to config to most sends all.1)
  where
    others : List Sending
    others = filter (λ (z : Sending). place_of config z.to == to) sends

    by_test : (t : Bool) → Low most (map (λ (z : Sending). z.letter) others)
        → Low most (map (λ (z : Sending). z.letter) (cond t (y ∷ others) others))
    by_test true rest = (all.0, rest)
    by_test false rest = rest

sent_low : (config : Config) (to most : ℕ) (events : List Event) → SendLow most events → Low most (sent config to events)
sent_low config to most [] all = tt
sent_low config to most (e ∷ events) all =
    each_append (λ (l : Letter). l.stamp ≤ most) (letters_to config to e.sends) (sent config to events)
    (low_to config to most e.sends all.0)
    (sent_low config to most events all.1)

-- Lists.

within_list : {T : Type 0} (P : T → Type 0) (before after : List T) (x : T) → Each P (before ++ x ∷ after) → P x
within_list P [] after x all = all.0
within_list P (y ∷ before) after x all = within_list P before after x all.1

-- what is so of all of these, and of more, is so of one among them
among : (P : Letter → Type 0) (before after more : List Letter) (x : Letter) → Each P ((before ++ x ∷ after) ++ more) → P x
among P [] after more x all = all.0
among P (y ∷ before) after more x all = among P before after more x all.1

first_of_its : (x : Posted) (after : List Posted) → letters_of x.from (x ∷ after) ≡ x.letter ∷ letters_of x.from after
first_of_its x after =
    let others = filter (λ (p : Posted). p.from == x.from) after in
    ap (λ (t : Bool). map (λ (p : Posted). p.letter) (cond t (x ∷ others) others)) (eq-eqb x.from x.from refl)

-- Who refuses a letter.

none_expected : {X : Type 0} (t : Bool) (o : Option X) → o ≡ None → is_some (cond t o None) ≡ true → ⊥
none_expected true o none is = absurd (let no : false ≡ true = ap is_some (sym none) ∙ is in cc)
none_expected false o none is = absurd cc

rank_refuses : (config : Config) (last : Finals) (s : ClientModel) (to : Rank) (from : Actor) (letter : Letter) → s ≡ last.client to
    → ((server : Server) → is_within config (by.Server server) ≡ true → by.Server server ≡ from → hear s server letter ≡ None)
    → is_within config from ≡ true → Expects config last from (by.Rank to) letter → ⊥
rank_refuses config last s to (by.Rank from) letter same unheard within expects = absurd cc
rank_refuses config last s to (by.Server from) letter same unheard within expects =
    none_expected (nat_lt from.0 config.servers) (hear (last.client to) from letter)
    (ap (λ (t : ClientModel). hear t from letter) (sym same) ∙ unheard from within refl) expects

server_refuses : (config : Config) (last : Finals) (s : ServerModel) (to : Server) (from : Actor) (letter : Letter) → s ≡ last.pool to
    → serve s from letter ≡ None → Expects config last from (by.Server to) letter → ⊥
server_refuses config last s to from letter same unserved expects =
    none_expected (is_within config from && not (has_ended (last.pool to))) (serve (last.pool to) from letter)
    (ap (λ (t : ServerModel). serve t from letter) (sym same) ∙ unserved) expects

-- a letter that tells no trouble to a rank, or to a server, is not one that an actor that failed tells it
not_told_rank : (from : Actor) (to : Rank) (m : Message) → told_trouble m ≡ None → tells_trouble from (by.Rank to) m ≡ true → ⊥
not_told_rank (by.Rank from) to m none told = absurd cc
not_told_rank (by.Server from) to (tells.Broken trouble) none told = absurd cc
not_told_rank (by.Server from) to _ none told = absurd cc

not_told_server : (config : Config) (from : Actor) (to : Server) (m : Message) → trouble_told config (place_of config from) m ≡ None
    → tells_trouble from (by.Server to) m ≡ true → ⊥
not_told_server config (by.Rank from) to (tells.Gone trouble) none told = absurd cc
not_told_server config (by.Rank from) to _ none told = absurd cc
not_told_server config (by.Server from) to (tells.Abort trouble absent) none told =
    by_test (nat_lt (config.ranks + from.0) config.ranks) refl none
  where
    by_test : (t : Bool) → nat_lt (config.ranks + from.0) config.ranks ≡ t → cond t None (Some trouble) ≡ None → ⊥
    by_test true is none = absurd (let low = ltb-true (config.ranks + from.0) config.ranks is in omega (arith, low))
    by_test false is none = absurd cc
not_told_server config (by.Server from) to _ none told = absurd cc

-- nor is one by which the caller tells a server that ranks were not started
no_absence : (config : Config) (from to : ℕ) (m : Message) → config.ranks ≤ from → trouble_told config from m ≡ None
    → tells_absent config to m ≡ true → ⊥
no_absence config from to (tells.Abort trouble absent) high none told = by_test (nat_lt from config.ranks) refl none
  where
    by_test : (t : Bool) → nat_lt from config.ranks ≡ t → cond t None (Some trouble) ≡ None → ⊥
    by_test true is none = absurd (let low = ltb-true from config.ranks is in omega (arith, low, high))
    by_test false is none = absurd cc
no_absence config from to _ high none told = absurd cc

-- and it tells ranks nothing
rank_untold : (config : Config) (to : ℕ) (m : Message) → to < config.ranks → tells_absent config to m ≡ true → ⊥
rank_untold config to (tells.Abort trouble absent) low told =
    absurd (let no : false ≡ true = ap not (sym (lt-ltb to config.ranks low)) ∙ told in cc)
rank_untold config to _ low told = absurd cc

module _ (config : Config) (mine theirs : List DeskModel) (desk : DeskModel) (ranks : AreRankDesks config mine)
    (servers : AreServerDesks config theirs) (caller : IsCaller config desk)
    (telling : (from : Actor) (d : DeskModel) → is_within config from ≡ true
    → slice_get ((mine ++ theirs) ++ desk ∷ []) (place_of config from) ≡ Some d
    → (to : Actor) → is_within config to ≡ true → TellsAfter config d from to)
    (received : AreReceived ((mine ++ theirs) ++ desk ∷ [])) (senders : AreOfDesks ((mine ++ theirs) ++ desk ∷ [])) where
  abbrev desks : List DeskModel
  desks = (mine ++ theirs) ++ desk ∷ []

  abbrev journals : List OfActor
  journals = journals_at config desks

  abbrev last : Finals
  last = finals config mine theirs desk ranks servers caller.number_is

  clear : AreClear config desks
  clear = are_clear config mine theirs desk ranks servers caller.number_is

  own : AreOwnRuns config last journals
  own = own_runs config mine theirs desk ranks servers caller.number_is

  -- The journals are one run of all actors.

  history : (history : List (Actor × Event)) × IsCoreRun config last journals history
  history =
      let compose : Compose config last journals = composed config desks last clear received own in
      let one = a_history config journals (can_merge config desks clear) last compose in (one.0, one.2)

  -- Who sends.

  -- the desk of an actor of the run, to whose last state its journal leads, where stamps have not run out
  record IsSender (from : Actor) (d : DeskModel) : Type 0 where
    at : slice_get desks (place_of config from) ≡ Some d
    walks : Walks config last from d.events
    low : last_stamp last from < stamp_limit

  rank_sends : (k : ℕ) (d : DeskModel) → slice_get mine k ≡ Some d → IsSender (by.Rank (rank_named k)) d
  rank_sends k d at =
      let its = ranks.each k d at in
      let walks = rank_walks config mine theirs desk ranks servers caller.number_is k d at in
      let same = client_same config (new_client config (rank_named k)) d.events its.last (last.client (rank_named k)) its.walks walks in
      record {
        at = rank_at config mine theirs desk ranks servers caller.number_is k d at;
        walks = walks;
        low = subst (λ (s : ClientModel). s.clock < stamp_limit) same its.within;
      }

  server_sends : (k : ℕ) (d : DeskModel) → slice_get theirs k ≡ Some d → IsSender (by.Server (server_named k)) d
  server_sends k d at =
      let its = servers.each k d at in
      let walks = server_walks config mine theirs desk ranks servers caller.number_is k d at in
      let same = pool_same config (new_pool config (server_named k)) d.events its.last (last.pool (server_named k)) its.walks walks in
      record {
        at = server_at config mine theirs desk ranks servers caller.number_is k d at;
        walks = walks;
        low = subst (λ (s : ServerModel). s.clock < stamp_limit) same its.within;
      }

  sender : (from : Actor) → is_within config from ≡ true → (d : DeskModel) × IsSender from d
  sender (by.Rank from) within =
      let d = there mine from.0 (let low = ltb-true from.0 config.ranks within in omega (arith, low, ranks.all)) in
      (d.0, rank_sends from.0 d.0 d.1)
  sender (by.Server from) within =
      let d = there theirs from.0 (let low = ltb-true from.0 config.servers within in omega (arith, low, servers.all)) in
      (d.0, server_sends from.0 d.0 d.1)

  -- What a letter of it is that came after those of a journal.

  module _ (me : Actor) (me_within : is_within config me ≡ true) (going : GoesOn last me) (e : DeskModel)
      (here : slice_get desks (place_of config me) ≡ Some e) (walks : Walks config last me e.events) where
    -- it is expected, or tells of a failure
    of_actor : (from : Actor) → is_within config from ≡ true → (letter : Letter) (later : List Letter)
        → letters_of (place_of config from) e.got ≡ got config (place_of config from) e.events ++ letter ∷ later
        → Expects config last from me letter ⊎ (tells_trouble from me letter.message ≡ true)
    of_actor from within letter later came =
        let f : ℕ = place_of config from in
        let t : ℕ = place_of config me in
        let s = sender from within in
        let d : DeskModel = s.0 in
        elim (first_of_link config last me from me d e letter later (telling from d within s.1.at me me_within) walks came
        (received f t d e s.1.at here)) [
          | inl next ↦
              let is : IsNext config journals from me letter next.0 =
              ap (sent config t) (events_at config desks f d (place_below config from within) s.1.at) ∙ next.1
              ∙ ap (λ es. got config f es ++ letter ∷ next.0) (sym (events_at config desks t e (place_below config me me_within) here)) in
              let low = within_list (λ (l : Letter). l.stamp ≤ last_stamp last from) (got config f e.events) next.0 letter
              (subst (Low (last_stamp last from)) next.1
              (sent_low config t (last_stamp last from) d.events (walks_low config last from d.events s.1.walks))) in
              inl (expected config last journals history.0 history.1 from me letter next.0 within me_within is going
              (let limit = s.1.low in omega (arith, low, limit)))
          | inr told ↦ inr told
        ]

    -- a letter of the caller tells that ranks were not started
    of_caller : (x : Posted) (before after : List Posted) → e.got ≡ before ++ x ∷ after → x.from ≡ actors config
        → tells_absent config (place_of config me) x.letter.message ≡ true
    of_caller x before after is from =
        let t : ℕ = place_of config me in
        let split : letters_of x.from e.got ≡ letters_of x.from before ++ x.letter ∷ letters_of x.from after =
        ap (letters_of x.from) is ∙ letters_of_more x.from before (x ∷ after)
        ∙ ap (λ l. letters_of x.from before ++ l) (first_of_its x after) in
        let link = received (actors config) t desk e (caller_at config mine theirs desk ranks servers caller.number_is) here in
        among (λ (l : Letter). tells_absent config t l.message ≡ true) (letters_of x.from before) (letters_of x.from after) link.0 x.letter
        (subst (λ (l : List Letter). Each (λ (l : Letter). tells_absent config t l.message ≡ true) l)
        (sym link.1 ∙ ap (λ n. letters_of n e.got ++ link.0) (sym from) ∙ ap (λ l. l ++ link.0) split)
        (caller.tells t (place_below config me me_within)))

    -- so it is of an actor of the run, and expected or tells of a failure, or of the caller
    abbrev Heard : Posted → Type 0
    Heard x =
        ((from : Actor) × (is_within config from ≡ true) × (place_of config from ≡ x.from)
        × (Expects config last from me x.letter ⊎ (tells_trouble from me x.letter.message ≡ true)))
        ⊎ ((x.from ≡ actors config) × (tells_absent config (place_of config me) x.letter.message ≡ true))

    heard : (x : Posted) (before after : List Posted) → e.got ≡ before ++ x ∷ after
        → ((from : Actor) → is_within config from ≡ true → place_of config from ≡ x.from
        → (later : List Letter) × (letters_of x.from e.got ≡ got config x.from e.events ++ x.letter ∷ later)) → Heard x
    heard x before after is came =
        let low : x.from < length desks =
        within_list (λ (p : Posted). p.from < length desks) before after x
        (subst (λ (l : List Posted). Each (λ (p : Posted). p.from < length desks) l) is (senders (place_of config me) e here)) in
        elim (cases_lt x.from config.ranks) [
          | inl rank ↦ by_name (by.Rank (rank_named x.from)) (lt-ltb x.from config.ranks rank) refl
          | inr past ↦ elim (cases_lt x.from (actors config)) [
            | inl server ↦
                by_name (by.Server (server_named (x.from - config.ranks)))
                (lt-ltb (x.from - config.ranks) config.servers (omega (arith, past, server))) (omega (arith, past))
            | inr over ↦
                let one : x.from ≡ actors config = omega (arith, low, over, clear.all) in inr (one, of_caller x before after is one)
          ]
        ]
      where
        by_name : (from : Actor) → is_within config from ≡ true → place_of config from ≡ x.from → Heard x
        by_name from within place =
            let letters = came from within place in
            inl (
              from,
              within,
              place,
              of_actor from within x.letter letters.0
                  (subst (λ (n : ℕ). letters_of n e.got ≡ got config n e.events ++ x.letter ∷ letters.0) (sym place) letters.1),
            )

  -- A rank is not cut short.

  rank_expects : (k : ℕ) (d : DeskModel) (from : ℕ) → slice_get mine k ≡ Some d → IsCutShort config (rank_named k) d from → ⊥
  rank_expects k d from at cut =
      let s = rank_sends k d at in
      let below : k < config.ranks = let low = slice_get_within mine k d at in omega (arith, low, ranks.all) in
      let x : Posted = record { from = from; letter = cut.letter } in
      let same = client_same config (new_client config (rank_named k)) d.events cut.last (last.client (rank_named k)) cut.walks s.walks in
      elim (heard (by.Rank (rank_named k)) (lt-ltb k config.ranks below) tt d s.at s.walks x cut.before [] cut.received
      (λ a within place. (
        [],
        cut.receives from (subst (λ (n : ℕ). n < actors config) place (place_below config a within))
            ∙ ap (λ l. got config from d.events ++ l) (its_own from cut.letter),
      ))) [
        | inl h ↦ elim h.3 [
          | inl expects ↦
              rank_refuses config last cut.last (rank_named k) h.0 cut.letter same (λ server within name.
              cut.unexpected.unheard server (ltb-true server.0 config.servers within) (ap (place_of config) name ∙ h.2)) h.1 expects
          | inr told ↦ not_told_rank h.0 (rank_named k) (cut.letter).message cut.unexpected.untold told
        ]
        | inr absence ↦ rank_untold config k (cut.letter).message below absence.1
      ]

  -- A server is not broken so.

  server_expects : (k : ℕ) (d : DeskModel) (from : ℕ) (s : ServerModel) (itself : Bool) → slice_get theirs k ≡ Some d
      → PoolWalks config (new_pool config (server_named k)) d.events s
      → IsBroken (server_named k) d s (Unexpected from) itself → ⊥
  server_expects k d from s itself at walks was =
      let x : Posted = was.letter in
      let sends = server_sends k d at in
      let same = pool_same config (new_pool config (server_named k)) d.events s (last.pool (server_named k)) walks sends.walks in
      let below : k < config.servers = let low = slice_get_within theirs k d at in omega (arith, low, servers.all) in
      let config_is = (servers.each k d at).config_is in
      let strange = was.breaks.unexpected from refl in
      let comes : letters_of x.from d.got ≡ got config x.from d.events ++ x.letter ∷ letters_of x.from was.later =
      comes_next (server_named k) d s (Unexpected from) itself was
      ∙ ap (λ (c : Config). got c x.from d.events ++ x.letter ∷ letters_of x.from was.later) config_is in
      let untold : trouble_told config x.from x.letter.message ≡ None =
      ap (λ (c : Config). trouble_told c x.from x.letter.message) (sym config_is) ∙ strange.2 in
      elim (heard (by.Server (server_named k)) (lt-ltb k config.servers below) (ap has_ended (sym same) ∙ was.going) d sends.at
      sends.walks x (came d) was.later was.got (λ a within place. (letters_of x.from was.later, comes))) [
        | inl h ↦ elim h.3 [
          | inl expects ↦
              server_refuses config last s (server_named k) h.0 x.letter same
              (subst (λ (c : Config). IsUnexpected c s x.from x.letter) config_is strange.1 h.0 h.1 h.2) expects
          | inr told ↦
              not_told_server config h.0 (server_named k) (x.letter).message
              (ap (λ (n : ℕ). trouble_told config n (x.letter).message) h.2 ∙ untold) told
        ]
        | inr absence ↦
            no_absence config x.from (config.ranks + k) (x.letter).message (let from = absence.0 in omega (arith, from)) untold absence.1
      ]

-- By the ends of those that were started.

-- a desk as it was made is that of an actor that has not begun
new_rank : (config : Config) (rank : Rank) (d : DeskModel) → IsNew config rank.0 d → RankDesk config rank d
new_rank config rank d new = record {
  config_is = new.config_is;
  number = new.number_is;
  last = new_client config rank;
  walks = subst (λ (es : List Event). ClientWalks config (new_client config rank) es (new_client config rank)) (sym new.empty) refl;
  within = omega arith;
  begins = tallied_begins d [] new.tallies;
}

new_server : (config : Config) (server : Server) (d : DeskModel) → IsNew config (config.ranks + server.0) d → ServerDesk config server d
new_server config server d new = record {
  config_is = new.config_is;
  number = new.number_is;
  last = new_pool config server;
  walks = subst (λ (es : List Event). PoolWalks config (new_pool config server) es (new_pool config server)) (sym new.empty) refl;
  within = omega arith;
  begins = tallied_begins d [] new.tallies;
}

-- and it has told nothing
new_tells : (config : Config) (n : ℕ) (d : DeskModel) (from to : Actor) → IsNew config n d → is_within config to ≡ true
    → TellsAfter config d from to
new_tells config n d from to new within = (
  [],
  new.tallies.sends (place_of config to)
      (subst (λ (c : Config). place_of config to < actors c) (sym new.config_is) (place_below config to within))
      ∙ ap (λ (c : Config). sent c (place_of config to) d.events) new.config_is
      ∙ sym (append-nil (sent config (place_of config to) d.events)),
  tt,
)

-- as has the caller, if all threads were started
pub new_caller : (config : Config) (d : DeskModel) → IsNew config (config.ranks + config.servers) d → IsCaller config d
new_caller config d new = record {
  config_is = new.config_is;
  number_is = new.number_is;
  tells = λ to low.
      let nothing : sent_at d to ≡ [] =
      new.tallies.sends to (subst (λ (c : Config). to < actors c) (sym new.config_is) low) ∙ ap (sent d.config to) new.empty in
      subst (λ (l : List Letter). Each (λ (l : Letter). tells_absent config to l.message ≡ true) l) (sym nothing) tt;
}

module _ {O : Type 0} (config : Config) (ends : List (Ended O)) (absent : List DeskModel) (served : List Served) (missing : List DeskModel)
    (desk : DeskModel) (ended : HaveEnded config ends absent served missing desk)
    (received : AreReceived (desks_of_all ends absent served missing desk))
    (senders : AreOfDesks (desks_of_all ends absent served missing desk)) where
  abbrev started : List DeskModel
  started = map (λ (e : Ended O). e.desk) ends

  abbrev serving : List DeskModel
  serving = map (λ (e : Served). e.desk) served

  abbrev mine : List DeskModel
  mine = started ++ absent

  abbrev theirs : List DeskModel
  theirs = serving ++ missing

  -- Whose a desk is.

  data OfRank (k : ℕ) (d : DeskModel) : Type 0 where
    Ran : (e : Ended O) (at : slice_get ends k ≡ Some e) (is : d ≡ e.desk) → OfRank k d
    Unstarted : (new : IsNew config k d) → OfRank k d

  data OfServer (k : ℕ) (d : DeskModel) : Type 0 where
    Ran : (e : Served) (at : slice_get served k ≡ Some e) (is : d ≡ e.desk) → OfServer k d
    Unstarted : (new : IsNew config (config.ranks + k) d) → OfServer k d

  of_rank : (k : ℕ) (d : DeskModel) → slice_get mine k ≡ Some d → OfRank k d
  of_rank k d at = elim (of_both started absent k d at) [
    | inl early ↦ let e = of_map (λ (e : Ended O). e.desk) ends k d early in Ran e.0 e.1 e.2
    | inr late ↦
        Unstarted (subst (λ n. IsNew config n d) (ap (λ n. n + late.0) (sym (length-map ends (λ e. e.desk))) ∙ sym late.1)
        (ended.new_ranks late.0 d late.2))
  ]

  of_server : (k : ℕ) (d : DeskModel) → slice_get theirs k ≡ Some d → OfServer k d
  of_server k d at = elim (of_both serving missing k d at) [
    | inl early ↦ let e = of_map (λ (e : Served). e.desk) served k d early in Ran e.0 e.1 e.2
    | inr late ↦
        Unstarted (subst (λ n. IsNew config (config.ranks + n) d)
        (ap (λ n. n + late.0) (sym (length-map served (λ e. e.desk))) ∙ sym late.1)
        (ended.new_servers late.0 d late.2))
  ]

  rank_desk : (k : ℕ) (d : DeskModel) → OfRank k d → RankDesk config (rank_named k) d
  rank_desk k d (Ran e at is) =
      subst (RankDesk config (rank_named k)) (sym is) (rank_ended _ _ config (rank_named k) e (ended.ranks k e at))
  rank_desk k d (Unstarted new) = new_rank config (rank_named k) d new

  server_desk : (k : ℕ) (d : DeskModel) → OfServer k d → ServerDesk config (server_named k) d
  server_desk k d (Ran e at is) =
      subst (ServerDesk config (server_named k)) (sym is) (server_ended config (server_named k) e (ended.servers k e at))
  server_desk k d (Unstarted new) = new_server config (server_named k) d new

  ranks : AreRankDesks config mine
  ranks = record {
    all = length-append started absent ∙ ap (λ n. n + length absent) (length-map ends (λ e. e.desk)) ∙ ended.all_ranks;
    each = λ k d at. rank_desk k d (of_rank k d at);
  }

  servers : AreServerDesks config theirs
  servers = record {
    all = length-append serving missing ∙ ap (λ n. n + length missing) (length-map served (λ e. e.desk)) ∙ ended.all_servers;
    each = λ k d at. server_desk k d (of_server k d at);
  }

  -- What each tells besides its events.

  rank_told : (k : ℕ) (d : DeskModel) → OfRank k d → (to : Actor) → is_within config to ≡ true
      → TellsAfter config d (by.Rank (rank_named k)) to
  rank_told k d (Ran e at is) to within =
      subst (λ (x : DeskModel). TellsAfter config x (by.Rank (rank_named k)) to) (sym is)
      (rank_tells _ _ config (rank_named k) e (ended.ranks k e at) to within)
  rank_told k d (Unstarted new) to within = new_tells config k d (by.Rank (rank_named k)) to new within

  server_told : (k : ℕ) (d : DeskModel) → OfServer k d → (to : Actor) → is_within config to ≡ true
      → TellsAfter config d (by.Server (server_named k)) to
  server_told k d (Ran e at is) to within =
      subst (λ (x : DeskModel). TellsAfter config x (by.Server (server_named k)) to) (sym is)
      (server_tells config (server_named k) e (ended.servers k e at) to within)
  server_told k d (Unstarted new) to within = new_tells config (config.ranks + k) d (by.Server (server_named k)) to new within

  same_desk : (k : ℕ) (c d : DeskModel) → slice_get ((mine ++ theirs) ++ desk ∷ []) k ≡ Some c
      → slice_get ((mine ++ theirs) ++ desk ∷ []) k ≡ Some d → c ≡ d
  same_desk k c d one other = same_some c d (sym one ∙ other)

  tells_all : (from : Actor) (d : DeskModel) → is_within config from ≡ true
      → slice_get ((mine ++ theirs) ++ desk ∷ []) (place_of config from) ≡ Some d
      → (to : Actor) → is_within config to ≡ true → TellsAfter config d from to
  tells_all (by.Rank from) d within at to to_within =
      let c = there mine from.0 (let low = ltb-true from.0 config.ranks within in omega (arith, low, ranks.all)) in
      let here = rank_at config mine theirs desk ranks servers ended.caller.number_is from.0 c.0 c.1 in
      subst (λ (x : DeskModel). TellsAfter config x (by.Rank from) to) (same_desk from.0 c.0 d here at)
      (rank_told from.0 c.0 (of_rank from.0 c.0 c.1) to to_within)
  tells_all (by.Server from) d within at to to_within =
      let c = there theirs from.0 (let low = ltb-true from.0 config.servers within in omega (arith, low, servers.all)) in
      let here = server_at config mine theirs desk ranks servers ended.caller.number_is from.0 c.0 c.1 in
      subst (λ (x : DeskModel). TellsAfter config x (by.Server from) to) (same_desk (config.ranks + from.0) c.0 d here at)
      (server_told from.0 c.0 (of_server from.0 c.0 c.1) to to_within)

  -- No end is by a letter that was not expected.

  rank_end : (k : ℕ) (e : Ended O) (from : ℕ) → slice_get ends k ≡ Some e → e.fault ≡ Some (Unexpected from) → ⊥
  rank_end k e from at is =
      rank_expects config mine theirs desk ranks servers ended.caller tells_all received senders k e.desk from
      (in_first started absent k e.desk (under_map (λ (e : Ended O). e.desk) ends k e at)) ((ended.ranks k e at).cut from is)

  server_end : (k : ℕ) (e : Served) (from : ℕ) → slice_get served k ≡ Some e → e.fault ≡ Some (Unexpected from) → ⊥
  server_end k e from at is =
      let end = ended.servers k e at in
      elim (end.broken (Unexpected from) is) [
        | inl was ↦
            server_expects config mine theirs desk ranks servers ended.caller tells_all received senders k e.desk from end.begun.last e.own
            (in_first serving missing k e.desk (under_map (λ (e : Served). e.desk) served k e at)) end.begun.walks was
        | inr full ↦ absurd (let memory = full.1 in cc)
      ]

  pub are_expecting : AreExpecting ends served
  are_expecting = record { ranks = rank_end; servers = server_end }

-- where all were started
pub all_expecting : {O : Type 0} (config : Config) (ends : List (Ended O)) (served : List Served) (desk : DeskModel)
    → AreRanksEnds config ends → AreServersEnds config served → IsNew config (config.ranks + config.servers) desk
    → AreReceived (desks_of ends served desk) → AreOfDesks (desks_of ends served desk) → AreExpecting ends served
all_expecting {O} config ends served desk ranks servers new received senders =
    let mine = sym (append-nil (map (λ (e : Ended O). e.desk) ends)) in
    let theirs = sym (append-nil (map (λ (e : Served). e.desk) served)) in
    let same : desks_of ends served desk ≡ desks_of_all ends [] served [] desk = λ i. (mine i ++ theirs i) ++ desk ∷ [] in
    are_expecting config ends [] served [] desk (record {
      all_ranks = omega (arith, ranks.all);
      all_servers = omega (arith, servers.all);
      ranks = ranks.each;
      servers = servers.each;
      new_ranks = λ k d at. absurd (none_there [] k d refl at);
      new_servers = λ k d at. absurd (none_there [] k d refl at);
      caller = new_caller config desk new;
    }) (subst AreReceived same received) (subst AreOfDesks same senders)
