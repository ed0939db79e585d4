-- What holds of each world of one rank and one server to which a run leads: which letters are under way, and what an event does.
use Rattle.core_inline.proofs.Prelude.{Actor, Bool, Call, ClientModel, Config, Entry, Event, InLimit, InRanks, InServers, IsLone, Letter}
use Rattle.core_inline.proofs.Prelude.{Links, List, Made, Message, ServerModel, Some, World, [], after_rank, after_server, and_parts, ap}
use Rattle.core_inline.proofs.Prelude.{arith, asked, at_most, begin, by_rank, by_server, call_waits, client_of, event_answer, event_stamp}
use Rattle.core_inline.proofs.Prelude.{every_run_well, false, false_from_ne_true, first_server, front_answer, front_goes, front_stamp}
use Rattle.core_inline.proofs.Prelude.{handle, happens, has_ended, hear, inl, is_ended, is_finished, is_free, is_idle, is_request, length}
use Rattle.core_inline.proofs.Prelude.{letter_stamp, link, list_all, ltb-true, mapped, mapped_unless, misfit, next_reached, nil_from_length}
use Rattle.core_inline.proofs.Prelude.{not, one, option_and_then, option_map, pool_of, refl, remote_letter, row, sent_before}
use Rattle.core_inline.proofs.Prelude.{slice_index_or, some_there, stamp_limit, subst, suc, sym, taken, told, true, zero, zeroth, ℕ, ◌&&◌}
use Rattle.core_inline.proofs.Prelude.{◌+◌, ◌<◌, ◌==◌, ◌||◌, ◌∙◌, ◌∷◌, ◌≡◌, ◌≤◌}
use Rattle.adlb_unit.specs.Links.{is_within, place_of}
use Rattle.core_world.proofs.Clocks.{serve_stays}
use Rattle.core_world.proofs.Lists.{same_each}
use Rattle.core_law.proofs.Fifo.{post_other}
use Rattle.core_law.proofs.InLine.{every_run_in_line}
use Rattle.core_law.proofs.UnpushedUnits.{one_not}
use Rattle.core_law.proofs.OwedByRanks.{finishes_are, letters_are, no_kinds}
use Rattle.core_law.proofs.Steps.{happens_does, same_config}
use Rattle.core_law.specs.Letters.{is_finish}
use Rattle.core_law.specs.Measures.{measure, weigh}
use Rattle.core_law.specs.Own.{IsClient, IsPool}
use Rattle.core_law.specs.Well.{IsSquare}
use Rattle.core_world.proofs.Always.{always_ends}
use Rattle.core_world.specs.Ended.{IsEnded}
use Rattle.server_law.specs.Step.{next_stamp, serve}
use Rattle.adlb_unit.specs.declared.actors.Actor.TheVariants as by
use Rattle.core_run.specs.declared.events.Event.TheVariants as occurs
use Rattle.adlb_unit.specs.declared.messages.Message.TheVariants as tells

-- the server handles the rank's front letter
abbrev pub to_server : Event
to_server = occurs.Deliver by_rank by_server

-- the rank handles the server's front letter
abbrev pub to_rank : Event
to_rank = occurs.Deliver by_server by_rank

-- A world of one rank and one server.

abbrev lone_config : (limit : ℕ) → InRanks 1 → InServers 1 → InLimit limit → Config
lone_config limit a b d =
    record { ranks = 1; servers = 1; limit = limit; ranks_within = a; servers_within = b; limit_within = d }

abbrev lone : Config → ClientModel → ServerModel → List Letter → List Letter → List Letter → List Letter → List Entry → World
lone config c s rr rs sr ss ledger = record {
  config = config;
  ranks = c ∷ [];
  servers = s ∷ [];
  links = (rr ∷ rs ∷ []) ∷ (sr ∷ ss ∷ []) ∷ [];
  ledger = ledger;
}

-- what holds of each configuration with these numbers holds of this one
by_config : (P : Config → Type 0)
    → ((limit : ℕ) (a : InRanks 1) (b : InServers 1) (d : InLimit limit) → P (lone_config limit a b d))
    → (config : Config) → config.ranks ≡ 1 → config.servers ≡ 1 → P config
by_config P each config one_rank one_server =
    subst (λ (n : ℕ). (a : InRanks n) → P (record config { ranks = n; ranks_within = a })) (sym one_rank)
    (λ a. subst (λ (n : ℕ). (b : InServers n) → P (record config { ranks = 1; ranks_within = a; servers = n; servers_within = b }))
    (sym one_server) (λ b. each config.limit a b config.limit_within) config.servers_within) config.ranks_within

-- a list of length 1 has one element
pub one_of : {X : Type 0} (xs : List X) → length xs ≡ 1 → (x : X) × (xs ≡ x ∷ [])
one_of [] single = absurd (omega (arith, single))
one_of (x ∷ []) single = (x, refl)
one_of (x ∷ y ∷ xs) single = absurd (omega (arith, single))

two_of : {X : Type 0} (xs : List X) → length xs ≡ 2 → (x y : X) × (xs ≡ x ∷ y ∷ [])
two_of [] two = absurd (omega (arith, two))
two_of (x ∷ []) two = absurd (omega (arith, two))
two_of (x ∷ y ∷ []) two = (x, y, refl)
two_of (x ∷ y ∷ z ∷ xs) two = absurd (omega (arith, two))

-- so it is of worlds
by_world : (P : World → Type 0)
    → ((limit : ℕ) (a : InRanks 1) (b : InServers 1) (d : InLimit limit) (c : ClientModel) (s : ServerModel) (rr rs sr ss : List Letter)
    (ledger : List Entry) → P (lone (lone_config limit a b d) c s rr rs sr ss ledger))
    → (w : World) → IsLone w → P w
by_world P each w l =
    let shape = (every_run_well w.config l.reached.events w l.reached.run).shape in
    let square : IsSquare 2 w.links =
    subst (λ n. IsSquare n w.links) (omega (arith, l.one_rank, l.one_server)) shape.square in
    let ranks = one_of w.ranks (shape.ranks ∙ l.one_rank) in
    let servers = one_of w.servers (shape.servers ∙ l.one_server) in
    let rows = two_of w.links square.rows in
    let first = two_of rows.0 (ap (λ k. length (row k 0)) (sym rows.2) ∙ square.each 0 (omega arith)) in
    let second = two_of rows.1 (ap (λ k. length (row k 1)) (sym rows.2) ∙ square.each 1 (omega arith)) in
    let links = rows.2 ∙ ap (λ x. x ∷ rows.1 ∷ []) first.2 ∙ ap (λ y. (first.0 ∷ first.1 ∷ []) ∷ y ∷ []) second.2 in
    by_config (λ g. P (record w { config = g }))
    (λ limit a b d.
    let made : List ClientModel → List ServerModel → Links → World =
    λ x y z. record w { config = lone_config limit a b d; ranks = x; servers = y; links = z } in
    subst P (sym (ap (λ x. made x w.servers w.links) ranks.1 ∙ ap (λ y. made (ranks.0 ∷ []) y w.links) servers.1
    ∙ ap (made (ranks.0 ∷ []) (servers.0 ∷ [])) links))
    (each limit a b d ranks.0 servers.0 first.0 first.1 second.0 second.1 w.ledger)) w.config l.one_rank l.one_server

-- What its letters weigh.

-- each letter of a rank is a request, a Finish, or misplaced
one_kind : (m : Message) → one (is_request m && true) + one (is_finish m && true) + one (not (is_request m || is_finish m)) ≡ 1
one_kind tells.Finish = refl
one_kind _ = refl

each_kind : (config : Config) (letters : List Letter)
    → weigh (λ l. one (is_request l.message && true)) letters + weigh (λ l. one (is_finish l.message && true)) letters
    + weigh (λ l. misfit config by_rank by_server l.message) letters ≡ length letters
each_kind config [] = refl
each_kind config (l ∷ letters) = omega (arith, one_kind l.message, each_kind config letters)

-- a letter of the server to itself is misplaced, and is of a rank's call at most once
one_remote : (m : Message) → remote_letter zeroth m ≤ 1
one_remote (tells.Ask rank request types) = at_most (rank.0 == 0)
one_remote (tells.AskGrant rank request note) = at_most (rank.0 == 0)
one_remote (tells.AskNone rank request) = at_most (rank.0 == 0)
one_remote _ = omega arith

few_remote : (letters : List Letter) → weigh (λ l. remote_letter zeroth l.message) letters ≤ length letters
few_remote [] = omega arith
few_remote (l ∷ letters) = omega (arith, one_remote l.message, few_remote letters)

on_links : (rr rs sr ss : List Letter) → rr ≡ [] → rs ≡ [] → sr ≡ [] → ss ≡ [] → (i j : ℕ) → i < 2 → j < 2
    → link ((rr ∷ rs ∷ []) ∷ (sr ∷ ss ∷ []) ∷ []) i j ≡ []
on_links rr rs sr ss a b c d zero zero i j = a
on_links rr rs sr ss a b c d zero (suc zero) i j = b
on_links rr rs sr ss a b c d (suc zero) zero i j = c
on_links rr rs sr ss a b c d (suc zero) (suc zero) i j = d
on_links rr rs sr ss a b c d (suc (suc n)) m i j = absurd (omega (arith, i))
on_links rr rs sr ss a b c d n (suc (suc m)) i j = absurd (omega (arith, j))

-- What an event does.

-- the server has handled this letter, and none is under way to it any more
pub record IsServed (w : World) (letter : Letter) : Type 0 where
  pub next : World
  pub happened : happens w to_server ≡ Some next
  pub rank : client_of next zeroth ≡ client_of w zeroth
  pub clock : (pool_of next first_server).clock ≡ next_stamp (pool_of w first_server) letter
  pub unasked : asked next ≡ []
  pub sent : letter.stamp ≤ (client_of w zeroth).clock
  pub stamp : event_stamp w to_server ≡ next_stamp (pool_of w first_server) letter

-- the rank has heard this letter, and none is under way to it any more
pub record IsHeard (w : World) (letter : Letter) : Type 0 where
  pub next : World
  pub happened : happens w to_rank ≡ Some next
  pub x : Made
  pub does : hear (client_of w zeroth) first_server letter ≡ Some x
  pub rank : client_of next zeroth ≡ x.state
  pub pool : pool_of next first_server ≡ pool_of w first_server
  pub untold : told next ≡ []
  pub sent : letter.stamp ≤ (pool_of w first_server).clock
  pub stamp : event_stamp w to_rank ≡ letter_stamp (client_of w zeroth) letter
  pub answer : event_answer w to_rank ≡ x.answer

-- the rank has begun a call
pub record IsCalled (w : World) (call : Call) (x : Made) : Type 0 where
  pub next : World
  pub happened : happens w (occurs.Call zeroth call) ≡ Some next
  pub rank : client_of next zeroth ≡ x.state
  pub pool : pool_of next first_server ≡ pool_of w first_server

-- What holds of a world of one rank and one server to which a run leads.
pub record AreFacts (w : World) : Type 0 where
  -- one letter for a call that is pending, or the rank waits at the server; one of Finish until it is handled, and no others
  pub letters : length (asked w) + length (told w) + weigh (call_waits zeroth 0) (pool_of w first_server).kept.parked.waiting
      + one (is_finished (pool_of w first_server).kept zeroth)
      ≡ one (not (is_idle (client_of w zeroth).pending)) + one (client_of w zeroth).finished
  -- no actor writes to itself
  pub rests : asked w ≡ [] → told w ≡ [] → (i j : ℕ) → i < 2 → j < 2 → link w.links i j ≡ []
  -- what each event does
  pub begins : (call : Call) (x : Made) → begin (client_of w zeroth) call ≡ Some x → IsCalled w call x
  pub serves : (letter : Letter) → asked w ≡ letter ∷ [] → has_ended (pool_of w first_server) ≡ false → IsServed w letter
  pub hears : (letter : Letter) → told w ≡ letter ∷ [] → IsHeard w letter

-- what holds in each world of one rank and one server to which a run leads
pub facts : (w : World) → IsLone w → AreFacts w
unfolding measure
facts w l = by_world (λ v. IsLone v → AreFacts v) (λ limit a b d c s rr rs sr ss ledger at.
    let g = lone_config limit a b d in
    let v = lone g c s rr rs sr ss ledger in
    let well = every_run_well g at.reached.events v at.reached.run in
    let line = every_run_in_line g at.reached.events v at.reached.run in
    let requests = letters_are v zeroth (omega arith) (well.one zeroth) in
    let finishes = finishes_are v zeroth first_server (omega arith) (well.finish zeroth first_server (omega arith)) in
    let kinds = no_kinds v well.kind in
    record {
      letters =
          omega (arith, each_kind g rs, few_remote ss, same_each 1 sr, same_each 1 ss, same_each 0 rr, same_each 0 sr, same_each 0 ss);
      rests = λ none nothing.
          on_links rr rs sr ss (nil_from_length rr (omega (arith, kinds, same_each 1 rr))) none nothing
          (nil_from_length ss (omega (arith, kinds, same_each 1 ss)));
      begins = λ call x gave. record {
        next = after_rank v zeroth v.links x;
        happened = ap (option_map (after_rank v zeroth v.links)) gave;
        rank = refl;
        pool = refl;
      };
      serves = λ letter front going.
          let next = some_there (happens v to_server) (front_goes v by_rank by_server letter [] at.reached refl refl going front) in
          let went = mapped_unless (has_ended s) (after_server v first_server (taken v by_rank by_server []))
          (serve s by_rank letter) next.0 (sym (ap (handle v by_rank by_server) front) ∙ next.1) in
          record {
            next = next.0;
            happened = next.1;
            rank = ap (λ u. client_of u zeroth) went.2;
            clock = ap (λ u. (pool_of u first_server).clock) went.2 ∙ (serve_stays s by_rank letter went.0 went.1).1;
            unasked = ap asked went.2
                ∙ post_other g (taken v by_rank by_server []) 1 0 1 went.0.sends (λ e. absurd (omega (arith, e)));
            sent = sent_before rs [] letter c.clock (line by_rank by_server refl refl).stamps front;
            stamp = ap (front_stamp v by_server) front;
          };
      hears = λ letter front.
          let next = some_there (happens v to_rank) (front_goes v by_server by_rank letter [] at.reached refl refl refl front) in
          let went = mapped (after_rank v zeroth (taken v by_server by_rank [])) (hear c first_server letter) next.0
          (sym (ap (handle v by_server by_rank) front) ∙ next.1) in
          record {
            next = next.0;
            happened = next.1;
            x = went.0;
            does = went.1;
            rank = ap (λ u. client_of u zeroth) went.2;
            pool = ap (λ u. pool_of u first_server) went.2;
            untold = ap told went.2
                ∙ post_other g (taken v by_server by_rank []) 0 1 0 went.0.sends (λ e. absurd (omega (arith, e)));
            sent = sent_before sr [] letter s.clock (line by_server by_rank refl refl).stamps front;
            stamp = ap (front_stamp v by_rank) front;
            answer = ap (front_answer v by_server by_rank) front ∙ ap (option_and_then (λ (x : Made). x.answer)) went.1;
          };
    }) w l l

-- Along a run.

-- an event keeps the sizes of the run
pub config_next : (w next : World) (e : Event) → happens w e ≡ Some next → next.config ≡ w.config
config_next w next e happened = same_config w next (happens_does w next e happened)

-- the world after an event is such a world too
pub lone_next : (w next : World) (e : Event) → IsLone w → happens w e ≡ Some next → event_stamp w e < stamp_limit → IsLone next
lone_next w next e l happened early =
    let same = config_next w next e happened in
    record {
      one_rank = ap (λ (g : Config). g.ranks) same ∙ l.one_rank;
      one_server = ap (λ (g : Config). g.servers) same ∙ l.one_server;
      reached = next_reached w next e l.reached happened early;
    }

-- the numbers of each actor are those of the run
pub rank_own : (w : World) (l : IsLone w) → IsClient w.config zeroth (client_of w zeroth)
rank_own w l = (every_run_well w.config l.reached.events w l.reached.run).own.ranks zeroth (omega (arith, l.one_rank))

-- the only server is one of this run
pub server_own : (w : World) (l : IsLone w) → IsPool w.config first_server (pool_of w first_server)
server_own w l = (every_run_well w.config l.reached.events w l.reached.run).own.servers first_server (omega (arith, l.one_server))

-- Where it can go no further.

place_within : (w : World) → IsLone w → (a : Actor) → is_within w.config a ≡ true → place_of w.config a < 2
place_within w l (by.Rank r) at = let low = ltb-true r.0 w.config.ranks at in omega (arith, low, l.one_rank)
place_within w l (by.Server s) at = let low = ltb-true s.0 w.config.servers at in omega (arith, low, l.one_rank, l.one_server)

-- a run gets stuck nowhere: where no letter is under way and the rank can call nothing, the rank has finished and the server has ended
pub settles : (w : World) → IsLone w → is_free (client_of w zeroth) ≡ false → asked w ≡ [] → told w ≡ [] → IsEnded w
settles w l busy none untold = always_ends w.config l.reached.events w l.reached.run (record {
  letters = λ from to at there.
      let places = (facts w l).rests none untold (place_of w.config from) (place_of w.config to) in
      inl (places (place_within w l from at) (place_within w l to there));
  ranks = λ r below free.
      let here : r.0 ≡ 0 = omega (arith, below, l.one_rank) in
      let same = ap (λ n. is_free (client_of w (record { 0 = n }))) here in
      absurd (let no : false ≡ true = sym busy ∙ sym same ∙ free in cc);
})

-- a server that has ended is shut, and has handled the rank's Finish
first_passes : (shut : Bool) (xs : List Bool) → length xs ≡ 1 → (shut && list_all (λ finished. finished) xs) ≡ true
    → (shut && slice_index_or xs 0 false) ≡ true
first_passes shut [] long all = absurd (omega (arith, long))
first_passes shut (x ∷ xs) long all =
    let both = and_parts shut (list_all (λ finished. finished) (x ∷ xs)) all in
    rw both.0 (and_parts x (list_all (λ finished. finished) xs) both.1).0

-- if it has ended by the test, the server has
pub ended_is : (w : World) → IsLone w → has_ended (pool_of w first_server) ≡ true → is_ended (pool_of w first_server) ≡ true
ended_is w l = first_passes (pool_of w first_server).kept.shut (pool_of w first_server).kept.finished
    ((server_own w l).finished ∙ l.one_rank)

-- a server that has no Finish of its rank has not ended
pub not_ended : (s : ServerModel) → one (is_finished s.kept zeroth) ≡ 0 → is_ended s ≡ false
not_ended s none = by_test s.kept.shut
  where
    by_test : (t : Bool) → (t && is_finished s.kept zeroth) ≡ false
    by_test true = one_not (is_finished s.kept zeroth) none
    by_test false = refl

-- a server that has no Finish of its rank goes on
pub goes_on : (w : World) → IsLone w → one (is_finished (pool_of w first_server).kept zeroth) ≡ 0
    → has_ended (pool_of w first_server) ≡ false
goes_on w l none = false_from_ne_true (has_ended (pool_of w first_server))
    (λ ended. let both : true ≡ false = sym (ended_is w l ended) ∙ not_ended (pool_of w first_server) none in absurd (cc))
