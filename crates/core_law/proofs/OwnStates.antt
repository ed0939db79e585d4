-- A server's own state through an act, and that what the act takes and says is of a kind that goes there.
use Rattle.std.proofs.Common.{◌≡◌, ◌≢◌, ◌≤◌, ◌<◌, ◌+◌, ◌-◌, ℕ, ◌==◌, inl, inr, Bool, true, false, not, ◌&&◌, ◌||◌, List, [], ◌∷◌, ◌++◌}
use Rattle.std.proofs.Common.{length, map, refl, sym, ap, ◌∙◌, subst, arith}
use Rattle.std.specs.Prelude.{All, IfSome, Option, nat_lt}
use Rattle.std.proofs.lemmas.Bool.{and_from, and_parts, eq-eqb, eqb-true, false_from_ne_true, lt-ltb, ltb-true, not-true}
use Rattle.std.proofs.lemmas.List.{length-set}
use Rattle.std.proofs.lemmas.List.Elements.{All-cons, All-filter, All-head, All-nil, All-push, All-tail}
use Rattle.std.proofs.lemmas.Nat.{mod_below}
use Rattle.adlb_unit.specs.Links.{is_within, place_of}
use Rattle.adlb_unit.specs.Ring.{behind, others}
use Rattle.adlb_unit.specs.Targets.{home, home_of}
use Rattle.adlb_unit.specs.declared.actors.Actor.{Actor}
use Rattle.adlb_unit.specs.declared.actors.Actor.TheVariants as by
use Rattle.adlb_unit.specs.declared.configs.Config.{Config}
use Rattle.adlb_unit.specs.declared.letters.Letter.{Letter}
use Rattle.adlb_unit.specs.declared.messages.Message.{Message}
use Rattle.adlb_unit.specs.declared.messages.Message.TheVariants as tells
use Rattle.adlb_unit.specs.declared.messages.Why.{Why}
use Rattle.adlb_unit.specs.declared.names.Rank.{Rank}
use Rattle.adlb_unit.specs.declared.names.Server.{Server}
use Rattle.adlb_unit.specs.declared.names.UnitId.{UnitId}
use Rattle.adlb_unit.specs.declared.tokens.Token.{Token}
use Rattle.exhaust_ring.specs.Expected.{IsToJudge}
use Rattle.exhaust_ring.specs.Ring.{token}
use Rattle.server_components.specs.Pushes.{next_to}
use Rattle.server_components.specs.declared.standing.StandingPush.{StandingPush}
use Rattle.server_components.specs.Calls.{has_server}
use Rattle.server_components.specs.Parked.{IsOther, is_by}
use Rattle.server_components.specs.declared.wishes.Wish.{Wish}
use Rattle.server_components.proofs.Others.{all_others}
use Rattle.server_law.specs.Acts.{Accepts, Acks, Act, Answers, Arrives, Asks_on, Cancels, Closes, Counts, Declines, Ends_keep, Ends_push}
use Rattle.server_law.specs.Acts.{Ends_put, Ends_reserve, Ends_try, Fails, Fetches, Fetches_part, Finds, Gives, Grants, Grants_try, Heard}
use Rattle.server_law.specs.Acts.{Hears_done, Hears_shutdown, Hints, Is_hinted, Keeps, Looks, Marks, Notes_finish, Notices, Parks, Passes}
use Rattle.server_law.specs.Acts.{Passes_on, Promises, Queries, Refuses, Refuses_part, Refuses_push, Sends_unit, ServerSaying, Shuts}
use Rattle.server_law.specs.Acts.{Starts, Stops_push, Tells, Wakes, Withdraws, askers, comes, debts, does, finished_after, goes, onward}
use Rattle.server_law.specs.Acts.{ring_after, says, shut_after, takes, to_others, to_server, zeroth, turned, turns, unwished, waiting_after}
use Rattle.server_law.specs.Acts.{wishes_after}
use Rattle.server_law.specs.Carried.{all_counted, counted, done}
use Rattle.server_law.specs.State.{Debt, Kept, ServerModel, is_finished, is_home, is_waiting, ring_at, runs}
use Rattle.server_law.specs.Sure.{IsFailing, SitsIn, Sure}
use Rattle.core_run.specs.World.{Links, actors, link, put_link}
use Rattle.core_law.specs.Acting.{AreFront, AreSaid, HintsAway}
use Rattle.core_law.specs.OnLinks.{Each, OnLinks}
use Rattle.core_law.specs.Letters.{fits_between, fits_link, kinds, misfit, one}
use Rattle.core_law.specs.Measures.{ActKeeps, heard_weight, said_weight}
use Rattle.core_law.specs.Own.{IsEntry, IsPool, IsWish}
use Rattle.core_law.specs.Well.{IsSquare}
use Rattle.core_law.proofs.Acts.{counted_kept, counted_own}
use Rattle.core_law.proofs.Checking.{Elsewhere, alone_after, mark_after, noted_is, shut_is}
use Rattle.core_law.proofs.Pushing.{begins_push, each_at, next_other}
use Rattle.core_law.proofs.Sums.{place_below, square_put}
use Rattle.core_law.proofs.UnderWay.{at_front, taken_on}
use Rattle.core_law.proofs.Waits.{each_after, each_gone}

-- the same of each element
each_all : {X : Type 0} (P : X → Type 0) (xs : List X) → All P xs → Each P xs
each_all P [] all = tt
each_all P (x ∷ xs) all = (All-head P x xs all, each_all P xs (All-tail P x xs all))

-- what holds of each element holds of all
pub all_each : {X : Type 0} (P : X → Type 0) (xs : List X) → Each P xs → All P xs
all_each P [] each = All-nil P
all_each P (x ∷ xs) each = All-cons P x xs each.0 (all_each P xs each.1)

-- What is taken comes from actors of the run, and is of a kind that goes there.

-- what the server hears is of a kind that comes from there
abbrev pub FitsHeard : Config → Server → Heard → Type 0
FitsHeard config me h = (is_within config h.from ≡ true) × (fits_link config h.from (by.Server me) h.message ≡ true)

-- so it is of all that it hears
abbrev pub AreFit : Config → Server → List Heard → Type 0
AreFit config me heard = Each (FitsHeard config me) heard

-- no letter under way is of another kind
abbrev pub AllFit : Config → Links → Type 0
AllFit config links = OnLinks (λ from to (l : Letter). misfit config from to l.message ≡ 0) config links

-- a test passes if its failure counts 0
pub fits_is : (t : Bool) → one (not t) ≡ 0 → t ≡ true
fits_is true none = refl
fits_is false none = absurd (omega arith)

-- the front letter of a link is of a kind that goes there
pub front_fits : (config : Config) (links : Links) (from to : Actor) (l : Letter) (rest : List Letter) → AllFit config links
    → is_within config from ≡ true → is_within config to ≡ true → link links (place_of config from) (place_of config to) ≡ l ∷ rest
    → fits_link config from to l.message ≡ true
front_fits config links from to l rest on f t front =
    fits_is (fits_link config from to l.message)
    (at_front (λ a b (x : Letter). misfit config a b x.message ≡ 0) config links from to l rest on f t front)

-- what a server takes off links of such kinds is of such a kind
pub are_fit : (config : Config) (me : Server) (links : Links) (heard : List Heard) → me.0 < config.servers
    → IsSquare (actors config) links → AllFit config links → AreFront config me links heard → AreFit config me heard
are_fit config me links [] here sq on are = tt
are_fit config me links (h ∷ more) here sq on are =
    let t : is_within config (by.Server me) ≡ true = lt-ltb me.0 config.servers here in
    let fits = front_fits config links h.from (by.Server me) are.0 are.1 on are.2 t are.3 in
    let from = place_of config h.from in
    let to = place_of config (by.Server me) in
    let square = square_put (actors config) links from to are.1 (place_below config h.from are.2)
    (place_below config (by.Server me) t) sq in
    let less = taken_on (λ a b (x : Letter). misfit config a b x.message ≡ 0) config links h.from (by.Server me) are.0 are.1 sq on are.2 t
    are.3 in (
      (are.2, subst (λ (m : Message). fits_link config h.from (by.Server me) m ≡ true) are.4 fits),
      are_fit config me (put_link links from to are.1) more here square less are.5,
    )

-- The state.

-- the others in the ring, by what the server has of the run
ring_others : (config : Config) (me : Server) (s : ServerModel) → me.0 < config.servers → IsPool config me s
    → All (IsOther config me) (others s.config s.me)
ring_others config me s here own =
    let all = subst (λ (k : Server). All (IsOther config me) (others config k)) (sym own.me) (all_others config me here) in
    subst (λ (c : Config). All (IsOther config me) (others c s.me)) (sym own.config) all

gone_own : (config : Config) (me : Server) (a : Act) (s : ServerModel) → IsPool config me s → SitsIn a s → Each (IsEntry config me) (goes a)
gone_own config me a s own sits =
    each_gone (IsEntry config me) a s sits (each_all (IsEntry config me) s.kept.parked.waiting own.waiting)

comes_here : (config : Config) (me : Server) (a : Act) (s : ServerModel) → me.0 < config.servers → IsPool config me s
    → AreFit config me (takes a) → SitsIn a s → Sure a s → Each (IsEntry config me) (comes a s)
comes_here config me (Parks wish) s here own fit sits sure =
    let tests = and_parts (is_home s.config s.me wish.rank) (runs s.kept wish.rank) sure.0 in
    let at_home : is_home s.config s.me wish.rank ≡ true = tests.0 in (
      record {
        within = ltb-true wish.rank.0 config.ranks fit.0.0;
        here = rw (own.config, own.me) at at_home;
        asked = tt;
        to_ask = ring_others config me s here own;
      },
      tt,
    )
comes_here config me (Asks_on at wish to rest) s here own fit sits sure =
    let e = (gone_own config me (Asks_on at wish to rest) s own sits).0 in (
      record {
        within = e.within;
        here = e.here;
        asked = All-head (IsOther config me) to rest e.to_ask;
        to_ask = All-tail (IsOther config me) to rest e.to_ask;
      },
      tt,
    )
comes_here config me (Wakes at wish from rest) s here own fit sits sure =
    let e = (gone_own config me (Wakes at wish from rest) s own sits).0 in
    (record { within = e.within; here = e.here; asked = tt; to_ask = e.to_ask }, tt)
comes_here config me (Is_hinted at entry from) s here own fit sits sure =
    let e = (gone_own config me (Is_hinted at entry from) s own sits).0 in
    let all = All-filter (λ (t : Server). (t.0 == from.0) || has_server entry.to_ask t) (IsOther config me) (others s.config s.me)
    (ring_others config me s here own) in
    (record { within = e.within; here = e.here; asked = e.asked; to_ask = all }, tt)
comes_here config me _ s here own fit sits sure = tt

-- numbers that differ are told apart
told_apart : (a b : ℕ) → a ≢ b → not (a == b) ≡ true
told_apart a b differs = rw (false_from_ne_true (a == b) (λ same. differs (eqb-true a b same))) refl

other_way : (a b : ℕ) → not (a == b) ≡ true → b ≢ a
other_way a b apart same = let e = eq-eqb a b (sym same) in absurd (cc)

-- of a rank that another server asks for, its home is that server
asked_from_home : (config : Config) (me from : Server) (rank : Rank)
    → (not (from.0 == me.0) && (nat_lt rank.0 config.ranks && is_home config from rank)) ≡ true
    → (me.0 ≢ from.0) × (nat_lt rank.0 config.ranks ≡ true) × (is_home config from rank ≡ true)
asked_from_home config me from rank fits =
    let parts = and_parts (not (from.0 == me.0)) (nat_lt rank.0 config.ranks && is_home config from rank) fits in
    let both = and_parts (nat_lt rank.0 config.ranks) (is_home config from rank) parts.1 in
    (other_way from.0 me.0 parts.0, both.0, both.1)

away_from : (config : Config) (me from : Server) (rank : Rank) → me.0 ≢ from.0 → is_home config from rank ≡ true
    → is_home config me rank ≡ false
away_from config me from rank differs at_home =
    false_from_ne_true (is_home config me rank)
    (λ here. differs (sym (eqb-true (home_of config.servers rank) me.0 here) ∙ eqb-true (home_of config.servers rank) from.0 at_home))

wishes_here : (config : Config) (me : Server) (a : Act) (wishes : List Wish) → AreFit config me (takes a)
    → All (IsWish config me) wishes → All (IsWish config me) (wishes_after a wishes)
wishes_here config me (Answers from wish unit) wishes fit all = All-filter (λ w. not (is_by wish.rank w)) (IsWish config me) wishes all
wishes_here config me (Hints wish) wishes fit all = All-filter (λ w. not (is_by wish.rank w)) (IsWish config me) wishes all
wishes_here config me (Declines from wish) wishes fit all =
    let its = asked_from_home config me from wish.rank fit.0.1 in
    let new : IsWish config me wish = record {
      within = ltb-true wish.rank.0 config.ranks its.1;
      away = away_from config me from wish.rank its.0 its.2;
    } in
    All-push (IsWish config me) (unwished wish.rank wishes) wish
    (All-filter (λ w. not (is_by wish.rank w)) (IsWish config me) wishes all) new
wishes_here config me _ wishes fit all = all

same_count : (a : Act) (finished : List Bool) → length (finished_after a finished) ≡ length finished
same_count (Notes_finish rank) finished = length-set finished rank.0 true
same_count _ finished = refl

-- where a push goes, and an acknowledgement

abbrev PushesTo : Config → Server → Option StandingPush → Type 0
PushesTo config me o = IfSome o (λ (p : StandingPush). IsOther config me p.to)

abbrev OwesTo : Config → Server → Option Debt → Type 0
OwesTo config me o = IfSome o (λ (d : Debt). IsOther config me d.to)

query_other : (config : Config) (me : Server) (to : Server) (id : UnitId) (n : ℕ) (s : ServerModel) → me.0 < config.servers
    → IsPool config me s → Sure (Queries to id n) s → IsOther config me to
query_other config me to id n s here own sure =
    let begins = begins_push s.config s.me s.kept.pushing s.kept.queue (record { to = to; id = id; length = n }) sure in
    let C : Config → Type 0 = λ c. 1 < c.servers in
    let some = subst C own.config begins.some in
    let is : to ≡ next_to config me s.kept.pushing.pushes =
    begins.to ∙ ap (λ (c : Config). next_to c s.me s.kept.pushing.pushes) own.config
    ∙ ap (λ (k : Server). next_to config k s.kept.pushing.pushes) own.me in
    subst (IsOther config me) (sym is)
    (next_other config me s.kept.pushing.pushes here some (each_all (IsOther config me) (others config me) (all_others config me here)))

from_other : (config : Config) (me from : Server) → is_within config (by.Server from) ≡ true → (not (from.0 == me.0) && true) ≡ true
    → IsOther config me from
from_other config me from within apart =
    let parts = and_parts (not (from.0 == me.0)) true apart in
    (ltb-true from.0 config.servers within, λ same. other_way from.0 me.0 parts.0 (sym same))

pushing_here : (config : Config) (me : Server) (a : Act) (s : ServerModel) → me.0 < config.servers → IsPool config me s
    → AreFit config me (takes a) → Sure a s → PushesTo config me (turned (turns a) s.kept.pushing.push)
pushing_here config me (Queries to id n) s here own fit sure = query_other config me to id n s here own sure
pushing_here config me (Sends_unit to n unit) s here own fit sure = from_other config me to fit.0.0 fit.0.1
pushing_here config me (Cancels to id n) s here own fit sure = from_other config me to fit.0.0 fit.0.1
pushing_here config me (Stops_push to id n) s here own fit sure = tt
pushing_here config me (Ends_push to id n) s here own fit sure = tt
pushing_here config me _ s here own fit sure = own.pushing

owed_here : (config : Config) (me : Server) (a : Act) (s : ServerModel) → IsPool config me s → AreFit config me (takes a)
    → OwesTo config me (turned (debts a) s.kept.owed)
owed_here config me (Arrives from unit) s own fit = from_other config me from fit.0.0 fit.0.1
owed_here config me (Acks to id) s own fit = tt
owed_here config me _ s own fit = own.owed

-- The ring.

-- the server is one of the run, as it has the run
own_here : (config : Config) (me : Server) (s : ServerModel) → me.0 < config.servers → IsPool config me s → s.me.0 < s.config.servers
own_here config me s here own =
    let k = ap (λ (t : Server). t.0) own.me in let n = ap (λ (c : Config). c.servers) own.config in omega arith

-- a letter has come from another server, so this one is not alone
not_alone : (config : Config) (me from : Server) (fits : Bool) → me.0 < config.servers → is_within config (by.Server from) ≡ true
    → (not (from.0 == me.0) && fits) ≡ true → config.servers ≢ 1
not_alone config me from fits here within apart alone =
    let differs = other_way from.0 me.0 (and_parts (not (from.0 == me.0)) fits apart).0 in
    let there = ltb-true from.0 config.servers within in
    differs (omega arith)

takes_elsewhere : (config : Config) (me : Server) (a : Act) (s : ServerModel) → me.0 < config.servers → s.config ≡ config
    → AreFit config me (takes a) → Elsewhere a s
takes_elsewhere config me (Shuts from t) s here same fit =
    subst (λ (c : Config). c.servers ≢ 1) (sym same) (not_alone config me from _ here fit.0.0 fit.0.1)
takes_elsewhere config me (Hears_shutdown from) s here same fit =
    subst (λ (c : Config). c.servers ≢ 1) (sym same) (not_alone config me from _ here fit.0.0 fit.0.1)
takes_elsewhere config me _ s here same fit = tt

abbrev AllFinished : List Bool → Type 0
AllFinished finished = All (λ finished. finished ≡ true) finished

-- with one server it is server 0
pub alone_is : (config : Config) (me : Server) (s : ServerModel) → me.0 < config.servers → IsPool config me s → config.servers ≡ 1
    → (s.config.servers ≡ 1) × (s.me.0 ≡ 0)
alone_is config me s here own alone =
    let inside = own_here config me s here own in
    let same : s.config.servers ≡ 1 = ap (λ (c : Config). c.servers) own.config ∙ alone in
    (same, omega arith)

shut_alone : (config : Config) (me : Server) (a : Act) (s : ServerModel) → me.0 < config.servers → IsPool config me s
    → AreFit config me (takes a) → Sure a s → config.servers ≡ 1 → shut_after a s.kept.shut ≡ true
    → AllFinished (finished_after a s.kept.finished)
shut_alone config me a s here own fit sure alone now =
    let its = alone_is config me s here own alone in
    let long : length s.kept.finished ≡ s.config.ranks = own.finished ∙ ap (λ (c : Config). c.ranks) (sym own.config) in
    shut_is a s its.0 its.1 long (takes_elsewhere config me a s here own.config fit) sure (own.shut alone) now

-- at a server that is alone no check runs after an act
pub runs_alone : (config : Config) (me : Server) (a : Act) (s : ServerModel) → me.0 < config.servers → IsPool config me s → Sure a s
    → config.servers ≡ 1 → (ring_after a s).runs ≡ false
runs_alone config me a s here own sure alone =
    let its = alone_is config me s here own alone in alone_after a s its.0 its.1 sure (own.alone alone)

-- what an act says is counted, and changes no activity
pub counted_activity : (s : ServerModel) (ys : List ServerSaying) → (all_counted s ys).activity ≡ s.activity
counted_activity s [] = refl
counted_activity s (y ∷ ys) = counted_activity (counted s y.to) ys

-- each act keeps a server's own state
pub pool_kept : (config : Config) (me : Server) (a : Act) (s : ServerModel) → me.0 < config.servers → IsPool config me s
    → AreFit config me (takes a) → SitsIn a s → Sure a s → IsPool config me (done a s)
pool_kept config me a s here own fit sits sure =
    let set = counted_own (does a s) (says a s) in
    let kept = sym (counted_kept (does a s) (says a s)) in
    let active = sym (counted_activity (does a s) (says a s)) in
    let was = each_all (IsEntry config me) s.kept.parked.waiting own.waiting in
    let waiting = all_each (IsEntry config me) (waiting_after a s) (each_after (IsEntry config me) a s sits was
    (comes_here config me a s here own fit sits sure)) in
    record {
      config = set.0 ∙ own.config;
      me = set.1 ∙ own.me;
      finished = ap (λ (k : Kept). length k.finished) (sym kept) ∙ same_count a s.kept.finished ∙ own.finished;
      waiting = subst (λ (k : Kept). All (IsEntry config me) k.parked.waiting) kept waiting;
      wishes = subst (λ (k : Kept). All (IsWish config me) k.parked.wishes) kept
          (wishes_here config me a s.kept.parked.wishes fit own.wishes);
      pushing = subst (λ (k : Kept). PushesTo config me k.pushing.push) kept (pushing_here config me a s here own fit sure);
      owed = subst (λ (k : Kept). OwesTo config me k.owed) kept (owed_here config me a s own fit);
      noted = subst (λ n. IfSome (done a s).kept.noted (λ k. k ≤ n)) active
          (subst (λ (k : Kept). IfSome k.noted (λ n. n ≤ s.activity)) kept (noted_is a s own.noted));
      mark = subst (λ n. (done a s).kept.ring.mark ≤ n) active
          (subst (λ (k : Kept). k.ring.mark ≤ s.activity) kept (mark_after a s (own_here config me s here own) sure own.mark));
      shut = subst (λ (k : Kept). config.servers ≡ 1 → k.shut ≡ true → AllFinished k.finished) kept
          (shut_alone config me a s here own fit sure);
      alone = subst (λ (k : Kept). config.servers ≡ 1 → k.ring.runs ≡ false) kept (runs_alone config me a s here own sure);
    }

-- What it says goes to actors of the run, and is of a kind that goes there.

-- what the server says is of a kind that goes there
abbrev pub FitsSaid : Config → Server → ServerSaying → Type 0
FitsSaid config me y = (is_within config y.to ≡ true) × (fits_link config (by.Server me) y.to y.message ≡ true)

-- an answer about a rank goes to its home, which asked
answers_home : (config : Config) (me from : Server) (rank : Rank)
    → (not (from.0 == me.0) && (nat_lt rank.0 config.ranks && is_home config from rank)) ≡ true
    → (not (me.0 == from.0) && (nat_lt rank.0 config.ranks && is_home config from rank)) ≡ true
answers_home config me from rank fits =
    let its = asked_from_home config me from rank fits in
    and_from (not (me.0 == from.0)) (nat_lt rank.0 config.ranks && is_home config from rank) (told_apart me.0 from.0 its.0)
    (and_from (nat_lt rank.0 config.ranks) (is_home config from rank) its.1 its.2)

hint_fits : (config : Config) (me : Server) (wish : Wish) → IsWish config me wish
    → FitsSaid config me (to_server (home config wish.rank) (tells.Hint wish.rank wish.request))
hint_fits config me wish its =
    let at = home_of config.servers wish.rank in
    let below = mod_below wish.rank.0 config.servers config.servers_within.0 in
    let away : me.0 ≢ at = λ same. let e = eq-eqb at me.0 (sym same) in let no_home = its.away in absurd (cc) in (
      lt-ltb at config.servers below,
      and_from (not (me.0 == at)) (nat_lt wish.rank.0 config.ranks && (at == at)) (told_apart me.0 at away)
          (and_from (nat_lt wish.rank.0 config.ranks) (at == at) (lt-ltb wish.rank.0 config.ranks its.within) (eq-eqb at at refl)),
    )

-- a letter of a push goes to another server, and back
to_other : (config : Config) (me to : Server) → IsOther config me to
    → (is_within config (by.Server to) ≡ true) × ((not (me.0 == to.0) && true) ≡ true)
to_other config me to other =
    (lt-ltb to.0 config.servers other.0, and_from (not (me.0 == to.0)) true (told_apart me.0 to.0 (λ same. other.1 (sym same))) refl)

back_to : (me from : Server) → (not (from.0 == me.0) && true) ≡ true → (not (me.0 == from.0) && true) ≡ true
back_to me from apart =
    let parts = and_parts (not (from.0 == me.0)) true apart in
    and_from (not (me.0 == from.0)) true (told_apart me.0 from.0 (other_way from.0 me.0 parts.0)) refl

-- the token goes on to the next server, which is another where this one is not alone
onward_fits : (config : Config) (me : Server) (s : ServerModel) (t : Token) → me.0 < config.servers → IsPool config me s
    → config.servers ≢ 1 → FitsSaid config me (to_server (onward s) (tells.Token t))
onward_fits config me s t here own several =
    let P : Config → Type 0 = λ c. FitsSaid config me (to_server (behind c s.me 1) (tells.Token t)) in
    let Q : Server → Type 0 = λ k. FitsSaid config me (to_server (behind config k 1) (tells.Token t)) in
    let to = behind config me 1 in
    let other = each_at (IsOther config me) (behind config me) 1 (config.servers - 1) 0
    (each_all (IsOther config me) (others config me) (all_others config me here)) (omega arith) in
    subst P (sym own.config) (subst Q (sym own.me) (
      lt-ltb to.0 config.servers other.0,
      and_from (not (me.0 == to.0)) (to.0 == to.0) (told_apart me.0 to.0 (λ same. other.1 (sym same))) (eq-eqb to.0 to.0 refl),
    ))

-- and what goes to server 0 goes to another server
zeroth_fits : (config : Config) (me : Server) (s : ServerModel) (m : Message) → IsPool config me s → s.me.0 ≢ 0
    → fits_between config me zeroth m ≡ true → FitsSaid config me (to_server zeroth m)
zeroth_fits config me s m own differs fits = (
  lt-ltb 0 config.servers config.servers_within.0,
  and_from (not (me.0 == 0)) (fits_between config me zeroth m)
      (told_apart me.0 0 (λ same. differs (ap (λ (k : Server). k.0) own.me ∙ same))) fits,
)

-- a test that fails at another server than server 0
fails_other : (s : ServerModel) (t : Token) (why : Why) → IsFailing s t why → s.me.0 ≢ 0
fails_other s t why (inl marks) = marks.0.other
fails_other s t why (inr tests) = tests.0.other

-- the verdict of server 0 goes to each other server
others_fit : (config : Config) (me : Server) (s : ServerModel) (m : Message) → me.0 < config.servers → IsPool config me s
    → ((to : Server) → fits_between config me to m ≡ true) → Each (FitsSaid config me) (to_others s m)
others_fit config me s m here own fits = each_said (others s.config s.me) (ring_others config me s here own)
  where
    each_said : (ts : List Server) → All (IsOther config me) ts → Each (FitsSaid config me) (map (λ t. to_server t m) ts)
    each_said [] all = tt
    each_said (t ∷ ts) all =
        let other = All-head (IsOther config me) t ts all in
        let fit = and_from (not (me.0 == t.0)) (fits_between config me t m) (told_apart me.0 t.0 (λ same. other.1 (sym same))) (fits t) in
        ((lt-ltb t.0 config.servers other.0, fit), each_said ts (All-tail (IsOther config me) t ts all))

verdict_fits : (config : Config) (me : Server) (s : ServerModel) (t : Token) → IsPool config me s → IsToJudge (ring_at s) t
    → (me.0 == 0) ≡ true
verdict_fits config me s t own judges = eq-eqb me.0 0 (ap (λ (k : Server). k.0) (sym own.me) ∙ judges.running.zeroth)

-- what an act says is of a kind that goes there
pub said_fits : (config : Config) (me : Server) (a : Act) (s : ServerModel) → me.0 < config.servers → IsPool config me s
    → AreFit config me (takes a) → SitsIn a s → Sure a s → HintsAway config me a → Each (FitsSaid config me) (says a s)
said_fits config me (Accepts unit) s here own fit sits sure hints = ((fit.0.0, refl), tt)
said_fits config me (Refuses unit) s here own fit sits sure hints = ((fit.0.0, refl), tt)
said_fits config me (Ends_put unit end) s here own fit sits sure hints = ((fit.0.0, refl), tt)
said_fits config me (Grants wish unit) s here own fit sits sure hints = ((fit.0.0, refl), tt)
said_fits config me (Ends_reserve wish end) s here own fit sits sure hints = ((fit.0.0, refl), tt)
said_fits config me (Grants_try wish unit) s here own fit sits sure hints = ((fit.0.0, refl), tt)
said_fits config me (Ends_try wish end) s here own fit sits sure hints = ((fit.0.0, refl), tt)
said_fits config me (Looks wish) s here own fit sits sure hints = ((fit.0.0, refl), tt)
said_fits config me (Fetches rank request id unit) s here own fit sits sure hints = ((fit.0.0, refl), tt)
said_fits config me (Gives at wish rest unit) s here own fit sits sure hints =
    let e = (gone_own config me (Gives at wish rest unit) s own sits).0 in ((lt-ltb wish.rank.0 config.ranks e.within, refl), tt)
said_fits config me (Tells at wish rest end) s here own fit sits sure hints =
    let e = (gone_own config me (Tells at wish rest end) s own sits).0 in ((lt-ltb wish.rank.0 config.ranks e.within, refl), tt)
said_fits config me (Keeps rank request common) s here own fit sits sure hints = ((fit.0.0, refl), tt)
said_fits config me (Refuses_part rank request common) s here own fit sits sure hints = ((fit.0.0, refl), tt)
said_fits config me (Ends_keep rank request common end) s here own fit sits sure hints = ((fit.0.0, refl), tt)
said_fits config me (Closes request batch accepted part) s here own fit sits sure hints = ((fit.0.0, refl), tt)
said_fits config me (Fetches_part rank request batch part) s here own fit sits sure hints = ((fit.0.0, refl), tt)
said_fits config me (Counts rank request kind) s here own fit sits sure hints = ((fit.0.0, refl), tt)
said_fits config me (Asks_on at wish to rest) s here own fit sits sure hints =
    let e = (gone_own config me (Asks_on at wish to rest) s own sits).0 in
    let other = All-head (IsOther config me) to rest e.to_ask in
    let fits = and_from (not (me.0 == to.0)) (nat_lt wish.rank.0 config.ranks && is_home config me wish.rank)
    (told_apart me.0 to.0 (λ same. other.1 (sym same)))
    (and_from (nat_lt wish.rank.0 config.ranks) (is_home config me wish.rank) (lt-ltb wish.rank.0 config.ranks e.within) e.here) in
    ((lt-ltb to.0 config.servers other.0, fits), tt)
said_fits config me (Passes_on at wish from rest note) s here own fit sits sure hints =
    let e = (gone_own config me (Passes_on at wish from rest note) s own sits).0 in ((lt-ltb wish.rank.0 config.ranks e.within, refl), tt)
said_fits config me (Answers from wish unit) s here own fit sits sure hints =
    ((fit.0.0, answers_home config me from wish.rank fit.0.1), tt)
said_fits config me (Declines from wish) s here own fit sits sure hints =
    ((fit.0.0, answers_home config me from wish.rank fit.0.1), tt)
said_fits config me (Hints wish) s here own fit sits sure hints =
    let P : Config → Type 0 = λ c. FitsSaid config me (to_server (home c wish.rank) (tells.Hint wish.rank wish.request)) in
    (subst P (sym own.config) (hint_fits config me wish hints), tt)
said_fits config me (Queries to id n) s here own fit sits sure hints =
    (to_other config me to (query_other config me to id n s here own sure), tt)
said_fits config me (Promises from id n) s here own fit sits sure hints = ((fit.0.0, back_to me from fit.0.1), tt)
said_fits config me (Refuses_push from id n) s here own fit sits sure hints = ((fit.0.0, back_to me from fit.0.1), tt)
said_fits config me (Sends_unit to n unit) s here own fit sits sure hints = ((fit.0.0, back_to me to fit.0.1), tt)
said_fits config me (Cancels to id n) s here own fit sits sure hints = ((fit.0.0, back_to me to fit.0.1), tt)
said_fits config me (Acks to id) s here own fit sits sure hints =
    (to_other config me to (subst (OwesTo config me) sure own.owed), tt)
said_fits config me (Withdraws from id) s here own fit sits sure hints = ((fit.0.0, back_to me from fit.0.1), tt)
said_fits config me (Hears_done rank request) s here own fit sits sure hints = ((fit.0.0, refl), tt)
said_fits config me Notices s here own fit sits sure hints = (zeroth_fits config me s tells.Notice own sure.0 refl, tt)
said_fits config me Starts s here own fit sits sure hints =
    let several : config.servers ≢ 1 = λ alone. sure.1 (ap (λ (c : Config). c.servers) own.config ∙ alone) in
    (onward_fits config me s (token (s.kept.ring.check + 1) 1 (askers s.kept)) here own several, tt)
said_fits config me (Marks from t) s here own fit sits sure hints = (
  onward_fits config me s (token t.check t.wave (t.asked ++ askers s.kept)) here own (not_alone config me from _ here fit.0.0 fit.0.1),
  tt,
)
said_fits config me (Passes from t) s here own fit sits sure hints =
    (onward_fits config me s (token t.check 2 t.asked) here own (not_alone config me from _ here fit.0.0 fit.0.1), tt)
said_fits config me (Fails from t why) s here own fit sits sure hints =
    (zeroth_fits config me s (tells.Failed t why) own (fails_other s t why sure.1) refl, tt)
said_fits config me (Finds from t) s here own fit sits sure hints =
    others_fit config me s tells.Exhaust here own (λ to. verdict_fits config me s t own sure.0)
said_fits config me (Shuts from t) s here own fit sits sure hints =
    others_fit config me s tells.Shutdown here own (λ to. verdict_fits config me s t own sure.0)
said_fits config me _ s here own fit sits sure hints = tt

-- what an act says goes to actors of the run
pub said_within : (config : Config) (me : Server) (ys : List ServerSaying) → Each (FitsSaid config me) ys → AreSaid config ys
said_within config me [] each = tt
said_within config me (y ∷ ys) each = (each.0.0, said_within config me ys each.1)

-- So an act keeps the balance of kinds.

heard_none : (config : Config) (me : Server) (heard : List Heard) → AreFit config me heard → heard_weight (misfit config) me heard ≡ 0
heard_none config me [] each = refl
heard_none config me (h ∷ more) each =
    let here : misfit config h.from (by.Server me) h.message ≡ 0 = rw each.0.1 refl in
    let later = heard_none config me more each.1 in
    omega arith

said_none : (config : Config) (me : Server) (ys : List ServerSaying) → Each (FitsSaid config me) ys → said_weight (misfit config) me ys ≡ 0
said_none config me [] each = refl
said_none config me (y ∷ ys) each =
    let here : misfit config (by.Server me) y.to y.message ≡ 0 = rw each.0.1 refl in
    let later = said_none config me ys each.1 in
    omega arith

-- each act keeps that letters are of kinds that go there
pub kinds_act : (config : Config) (me : Server) (a : Act) (s : ServerModel) → me.0 < config.servers → IsPool config me s
    → AreFit config me (takes a) → SitsIn a s → Sure a s → HintsAway config me a → ActKeeps (kinds config) a s
kinds_act config me a s here own fit sits sure hints =
    let heard = heard_none config me (takes a) fit in
    let said = said_none config me (says a s) (said_fits config me a s here own fit sits sure hints) in
    subst (λ (k : Server). heard_weight (misfit config) k (takes a) + 0 + 0 ≡ said_weight (misfit config) k (says a s) + 0 + 0) (sym own.me)
    (omega arith)

-- The Finish letter of a rank that ran, as far as the server knew.

-- the rank whose Finish the act takes had not finished for this server
abbrev pub IsFirst : Config → Act → ServerModel → Type 0
IsFirst config (Notes_finish rank) s = (is_finished s.kept rank ≡ false) × (rank.0 < length s.kept.finished)
IsFirst config _ s = Unit {0}

-- so it is of each act that is sure
pub is_first : (config : Config) (me : Server) (a : Act) (s : ServerModel) → IsPool config me s → AreFit config me (takes a) → Sure a s
    → IsFirst config a s
is_first config me (Notes_finish rank) s own fit sure =
    let parts = and_parts (not (is_waiting s.kept rank)) (not (is_finished s.kept rank)) sure in
    (not-true (is_finished s.kept rank) parts.1, subst (λ n. rank.0 < n) (sym own.finished) (ltb-true rank.0 config.ranks fit.0.0))
is_first config me _ s own fit sure = tt
