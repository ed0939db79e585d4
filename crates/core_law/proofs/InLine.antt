-- In every run the letters on each link stand in line.
use Rattle.std.proofs.Common.{◌≡◌, ◌≢◌, ◌≤◌, ◌<◌, ℕ, ◌+◌, max, Bool, true, List, [], ◌∷◌, ◌++◌, length, get_or, replicate, refl, sym, ap}
use Rattle.std.proofs.Common.{◌∙◌, subst, arith}
use Rattle.std.proofs.lemmas.Bool.{lt-ltb, ltb-true}
use Rattle.std.proofs.lemmas.List.{get_or-replicate, length-replicate, length-set}
use Rattle.adlb_unit.specs.Links.{is_within, place_of}
use Rattle.adlb_unit.specs.declared.actors.Actor.{Actor}
use Rattle.adlb_unit.specs.declared.actors.Actor.TheVariants as by
use Rattle.adlb_unit.specs.declared.configs.Config.{Config}
use Rattle.adlb_unit.specs.declared.letters.Letter.{Letter}
use Rattle.adlb_unit.specs.declared.letters.Sending.{Sending}
use Rattle.adlb_unit.specs.declared.names.Rank.{Rank}
use Rattle.adlb_unit.specs.declared.names.Server.{Server}
use Rattle.rank_client.specs.State.{ClientModel}
use Rattle.rank_client.specs.Step.{Made}
use Rattle.server_law.specs.Acts.{Act, ServerSaying, does, entries, says, takes}
use Rattle.server_law.specs.Carried.{Served, all_counted, counted, done, sends}
use Rattle.server_law.specs.State.{ServerModel}
use Rattle.server_law.specs.Step.{next_stamp, raises, ticked}
use Rattle.core_run.specs.declared.events.Event.{Event}
use Rattle.core_run.specs.Runs.{Runs}
use Rattle.core_run.specs.World.{Links, World, actors, after_rank, after_server, client_of, link, pool_of, post, start, taken}
use Rattle.core_law.specs.Acting.{AreSaid, IsAct, acted, taken_off, ticks}
use Rattle.core_law.specs.Lines.{AreConsecutive, AreStamped, IsInLine, clock_of, rank_sent, sent_by, server_sent}
use Rattle.core_law.specs.Well.{IsSquare, IsWell}
use Rattle.core_law.proofs.Actors.{client_beside, client_there, every_client, every_pool, pool_beside, pool_there}
use Rattle.core_law.proofs.Acts.{acts_keep, sent_within, taken_off_links, taken_square}
use Rattle.core_law.proofs.Chains.{pool_is}
use Rattle.core_law.proofs.Events.{event_chain}
use Rattle.core_law.proofs.EveryRun.{answer_heard, answer_within, begins_well, call_began, call_within, client_at, inside_ranks, pool_at}
use Rattle.core_law.proofs.EveryRun.{same_always, well_kept}
use Rattle.core_law.proofs.Fifo.{letters_for}
use Rattle.core_law.proofs.Posting.{IsPosted, joined_places, joined_stamps, none_posted, sayings_posted}
use Rattle.core_law.proofs.Stamping.{RankPosts, made_posts}
use Rattle.core_law.proofs.Steps.{A_call, A_request, An_answer, Does, Serves, happens_does, taken_shaped}
use Rattle.core_law.proofs.Sums.{AreWithin, place_below}
use Rattle.core_law.proofs.UnderWay.{AllLinks, posted_links, taken_links}
use Rattle.core_law.proofs.LettersAndActors.{act_well, inside_servers, own_of, tick_well}

-- Lines.

-- this number of letters was sent so far, the last with this stamp at most
record Line (letters : List Letter) (sent clock : ℕ) : Type 0 where
  first : ℕ
  places : AreConsecutive first letters sent
  stamps : AreStamped 0 letters clock

lower_stamps : (low high last : ℕ) (xs : List Letter) → low ≤ high → AreStamped high xs last → AreStamped low xs last
lower_stamps low high last [] few a = omega arith
lower_stamps low high last (x ∷ xs) few a = (a.0, omega (arith, a.1), a.2)

line_goes : (l : Letter) (rest : List Letter) (sent clock : ℕ) → Line (l ∷ rest) sent clock → Line rest sent clock
line_goes l rest sent clock line = record {
  first = line.first + 1;
  places = line.places.1;
  stamps = lower_stamps 0 l.stamp clock rest (omega arith) line.stamps.2;
}

line_comes : (config : Config) (to : Actor) (ls : List Letter) (sends : List Sending) (before now : Actor → ℕ) (clock stamp : ℕ)
    → is_within config to ≡ true → clock ≤ stamp → 0 < stamp → IsPosted config sends before now stamp → Line ls (before to) clock
    → Line (ls ++ letters_for config (place_of config to) sends) (now to) stamp
line_comes config to ls sends before now clock stamp within later some p line = record {
  first = line.first;
  places = joined_places line.first (before to) (now to) ls (letters_for config (place_of config to) sends) line.places
      (p.places to within);
  stamps = joined_stamps 0 clock stamp ls (letters_for config (place_of config to) sends) later some line.stamps (p.stamps to);
}

-- by the counts and the clocks of a world
abbrev LineIn : World → Actor → Actor → List Letter → Type 0
LineIn w from to letters = Line letters (sent_by w from to) (clock_of w from)

-- each actor counts for each actor of the run
record AreCounted (w : World) : Type 0 where
  ranks : (me : Rank) → me.0 < w.config.ranks → length (client_of w me).sent ≡ w.config.servers
  servers : (me : Server) → me.0 < w.config.servers → length (pool_of w me).sent ≡ actors w.config

record AreInLine (w : World) : Type 0 where
  lines : AllLinks (LineIn w) w.config w.links
  counted : AreCounted w

-- A step of one actor: the counts and the clocks of the others stay.

lines_posted : (w : World) (links : Links) (me : Actor) (sends : List Sending) (sent : Actor → Actor → ℕ) (clock : Actor → ℕ)
    → IsSquare (actors w.config) links → is_within w.config me ≡ true → AreWithin w.config sends
    → IsPosted w.config sends (sent_by w me) (sent me) (clock me) → clock_of w me ≤ clock me → 0 < clock me
    → ((from : Actor) → place_of w.config from ≢ place_of w.config me → ((to : Actor) → sent from to ≡ sent_by w from to)
    × (clock from ≡ clock_of w from))
    → AllLinks (LineIn w) w.config links
    → AllLinks (λ from to ls. Line ls (sent from to) (clock from)) w.config (post w.config links (place_of w.config me) sends)
lines_posted w links me sends sent clock sq i are p later some stays lines =
    posted_links (LineIn w) (λ from to ls. Line ls (sent from to) (clock from)) w.config links me sends sq i are
    (λ to ls within line. line_comes w.config to ls sends (sent_by w me) (sent me) (clock_of w me) (clock me) within later some p line)
    (λ from to ls differs line. let s = stays from differs in
    subst (λ n. Line ls n (clock from)) (sym (s.0 to)) (subst (Line ls (sent_by w from to)) (sym s.1) line))
    lines

-- A step of a rank.

rank_lines : (w : World) (me : Rank) (links : Links) (x : Made) → IsWell w → me.0 < w.config.ranks → IsSquare (actors w.config) links
    → AreWithin w.config x.sends → AreCounted w → RankPosts w.config (client_of w me) x → AllLinks (LineIn w) w.config links
    → AreInLine (after_rank w me links x)
rank_lines w me links x well here sq are counted p lines = record {
  lines = lines_posted w links (by.Rank me) x.sends (sent_by v) (clock_of v) sq (lt-ltb me.0 w.config.ranks here) are posted
      (let l = p.later in let c = clock in omega arith) (let l = p.later in let c = clock in omega arith) stays lines;
  counted = record {
    ranks = every_client (λ k s. length s.sent ≡ w.config.servers) w me x.state inside p.counts
        (λ other there differs. counted.ranks other there);
    servers = counted.servers;
  };
}
  where
    v : World
    v = after_rank w me links x

    inside : me.0 < length w.ranks
    inside = inside_ranks w me well here

    there : client_of v me ≡ x.state
    there = client_there w me x.state inside

    clock : clock_of v (by.Rank me) ≡ x.state.clock
    clock = ap (λ (s : ClientModel). s.clock) there

    posted : IsPosted w.config x.sends (sent_by w (by.Rank me)) (sent_by v (by.Rank me)) (clock_of v (by.Rank me))
    posted = subst (λ (s : ClientModel). IsPosted w.config x.sends (rank_sent (client_of w me)) (rank_sent s) s.clock) (sym there) p.posted

    stays : (from : Actor) → place_of w.config from ≢ place_of w.config (by.Rank me)
        → ((to : Actor) → sent_by v from to ≡ sent_by w from to) × (clock_of v from ≡ clock_of w from)
    stays (by.Rank k) differs =
        let same = client_beside w me k x.state differs in
        (λ to. ap (λ (s : ClientModel). rank_sent s to) same, ap (λ (s : ClientModel). s.clock) same)
    stays (by.Server k) differs = (λ to. refl, refl)

call_in_line : (w : World) (me : Rank) (x : Made) → IsWell w → me.0 < w.config.ranks → AreWithin w.config x.sends
    → RankPosts w.config (client_of w me) x → AreInLine w → AreInLine (after_rank w me w.links x)
call_in_line w me x well here are p line = rank_lines w me w.links x well here (well.shape).square are line.counted p line.lines

answer_in_line : (w : World) (from : Server) (me : Rank) (letter : Letter) (rest : List Letter) (x : Made) → IsWell w
    → me.0 < w.config.ranks → from.0 < w.config.servers
    → link w.links (place_of w.config (by.Server from)) (place_of w.config (by.Rank me)) ≡ letter ∷ rest → AreWithin w.config x.sends
    → RankPosts w.config (client_of w me) x → AreInLine w → AreInLine (after_rank w me (taken w (by.Server from) (by.Rank me) rest) x)
answer_in_line w from me letter rest x well here there front are p line =
    let f : is_within w.config (by.Server from) ≡ true = lt-ltb from.0 w.config.servers there in
    let t : is_within w.config (by.Rank me) ≡ true = lt-ltb me.0 w.config.ranks here in
    let square = (taken_shaped w (by.Server from) (by.Rank me) rest well.shape f t).square in
    let off = taken_links (LineIn w) w.config w.links (by.Server from) (by.Rank me) letter rest (well.shape).square f t front
    (line_goes letter rest (sent_by w (by.Server from) (by.Rank me)) (clock_of w (by.Server from))) line.lines in
    rank_lines w me (taken w (by.Server from) (by.Rank me) rest) x well here square are line.counted p off

-- An event of a server: its stamp, and its acts.

pool_lines : (w : World) (me : Server) (links : Links) (x : Served) → IsWell w → me.0 < w.config.servers → IsSquare (actors w.config) links
    → AreWithin w.config x.sends → length x.state.sent ≡ actors w.config → (pool_of w me).clock ≤ x.state.clock → 0 < x.state.clock
    → IsPosted w.config x.sends (server_sent w.config (pool_of w me)) (server_sent w.config x.state) x.state.clock → AreCounted w
    → AllLinks (LineIn w) w.config links → AreInLine (after_server w me links x)
pool_lines w me links x well here sq are counts later some p counted lines = record {
  lines = lines_posted w links (by.Server me) x.sends (sent_by v) (clock_of v) sq (lt-ltb me.0 w.config.servers here) are posted
      (let c = clock in omega arith) (let c = clock in omega arith) stays lines;
  counted = record {
    ranks = counted.ranks;
    servers =
        every_pool (λ k s. length s.sent ≡ actors w.config) w me x.state inside counts (λ other there differs. counted.servers other there);
  };
}
  where
    v : World
    v = after_server w me links x

    inside : me.0 < length w.servers
    inside = inside_servers w me well here

    there : pool_of v me ≡ x.state
    there = pool_there w me x.state inside

    clock : clock_of v (by.Server me) ≡ x.state.clock
    clock = ap (λ (s : ServerModel). s.clock) there

    posted : IsPosted w.config x.sends (sent_by w (by.Server me)) (sent_by v (by.Server me)) (clock_of v (by.Server me))
    posted = subst (λ (s : ServerModel). IsPosted w.config x.sends (server_sent w.config (pool_of w me)) (server_sent w.config s) s.clock)
        (sym there) p

    stays : (from : Actor) → place_of w.config from ≢ place_of w.config (by.Server me)
        → ((to : Actor) → sent_by v from to ≡ sent_by w from to) × (clock_of v from ≡ clock_of w from)
    stays (by.Rank k) differs = (λ to. refl, refl)
    stays (by.Server k) differs =
        let same = pool_beside w me k x.state (λ e. differs (ap (λ n. w.config.ranks + n) e)) in
        (λ to. ap (λ (s : ServerModel). server_sent w.config s to) same, ap (λ (s : ServerModel). s.clock) same)

tick_in_line : (w : World) (me : Server) (stamp : ℕ) (up : Bool) → IsWell w → me.0 < w.config.servers → (pool_of w me).clock < stamp
    → AreInLine w → AreInLine (ticks w me stamp up)
unfolding post
tick_in_line w me stamp up well here later line =
    let s = ticked (pool_of w me) stamp up in
    let sent = server_sent w.config (pool_of w me) in
    let all = pool_lines w me w.links (record { state = s; sends = []; entries = [] }) well here (well.shape).square tt
    ((line.counted).servers me here) (omega arith) (omega arith)
    (none_posted w.config sent sent stamp (λ to within. refl)) line.counted line.lines in
    record { lines = all.lines; counted = record { ranks = (line.counted).ranks; servers = (all.counted).servers } }

counted_line : (s : ServerModel) (ys : List ServerSaying)
    → (length (all_counted s ys).sent ≡ length s.sent) × ((all_counted s ys).clock ≡ s.clock)
counted_line s [] = (refl, refl)
counted_line s (y ∷ ys) =
    let rest = counted_line (counted s y.to) ys in
    (rest.0 ∙ length-set s.sent (place_of s.config y.to) (get_or s.sent (place_of s.config y.to) 0 + 1), rest.1)

-- a server's event gives a stamp, and in it the letters stand in line
record IsTimely (me : Server) (w : World) : Type 0 where
  line : AreInLine w
  some : 0 < (pool_of w me).clock

act_in_line : (w : World) (me : Server) (a : Act) → IsWell w → IsAct w me a → IsTimely me w → IsTimely me (acted w me a)
act_in_line w me a well is timely =
    let s = pool_of w me in
    let own = own_of w me a well is in
    let line = timely.line in
    let counts : length s.sent ≡ actors w.config = (line.counted).servers me is.here in
    let now = counted_line (does a s) (says a s) in
    let links = taken_off w.config me w.links (takes a) in
    let square = taken_square w.config me w.links (takes a) is.here is.front (well.shape).square in
    let off = taken_off_links (LineIn w) w.config me w.links (takes a) is.here is.front (well.shape).square
    (λ from l rest. line_goes l rest (sent_by w from (by.Server me)) (clock_of w from)) line.lines in
    let same : s.config ≡ w.config = own.config in
    let posted = sayings_posted (does a s) (says a s) (counts ∙ ap actors (sym same))
    (subst (λ (c : Config). AreSaid c (says a s)) (sym same) own.said) in
    let here = subst (λ (c : Config). IsPosted c (sends a s) (server_sent c s) (server_sent c (done a s)) s.clock) same posted in
    let p = subst (λ n. IsPosted w.config (sends a s) (server_sent w.config s) (server_sent w.config (done a s)) n) (sym now.1) here in
    let later : s.clock ≤ (done a s).clock = let e = now.1 in omega arith in
    let some : 0 < (done a s).clock = let e = now.1 in let h = timely.some in omega arith in
    let x : Served = record { state = done a s; sends = sends a s; entries = entries a s } in
    let there : (pool_of (acted w me a) me).clock ≡ (done a s).clock =
    ap (λ (t : ServerModel). t.clock) (pool_is w me a (inside_servers w me well is.here)) in
    record {
      line = pool_lines w me links x well is.here square (sent_within w.config (does a s) (says a s) own.said) (now.0 ∙ counts) later some p
          line.counted off;
      some = omega arith;
    }

event_in_line : (w next : World) (from : Actor) (me : Server) (letter : Letter) (rest : List Letter) (x : Served) → IsWell w → AreInLine w
    → Serves w from me letter rest x next → AreInLine next
event_in_line w next from me letter rest x well line does =
    let s = pool_of w me in
    let stamp = next_stamp s letter in
    let up = raises letter.message in
    let later : s.clock < max s.clock letter.stamp + 1 = omega arith in
    let inside = inside_servers w me well does.here in
    let chain = event_chain w next from me letter rest x inside (well.own.servers me does.here).wishes does in
    let clock : (pool_of (ticks w me stamp up) me).clock ≡ stamp =
    ap (λ (t : ServerModel). t.clock) (pool_there w me (ticked s stamp up) inside) in
    let first : IsTimely me (ticks w me stamp up) =
    record { line = tick_in_line w me stamp up well does.here later line; some = omega arith } in
    let all = acts_keep (λ v. IsWell v × IsTimely me v) me (λ v a is both. (act_well v me a both.0 is, act_in_line v me a both.0 is both.1))
    (ticks w me stamp up) chain.list chain.are
    (tick_well w me stamp up does.here well, first) in
    subst AreInLine (sym chain.is) (all.1).line

-- Any event.

kept_in_line : (w next : World) → IsWell w → AreInLine w → Does w next → AreInLine next
kept_in_line w next well line (A_call {me = me} {call = call} {x = x} does) =
    let are = call_within w next me call x well.own does in
    let p = made_posts w.config (client_of w me) x ((line.counted).ranks me does.here) (call_began w next me call x well.own does).made
    are in
    subst AreInLine (sym does.is) (call_in_line w me x well does.here are p line)
kept_in_line w next well line (An_answer {from = from} {me = me} {letter = letter} {rest = rest} {x = x} does) =
    let are = answer_within w next from me letter rest x well.own does in
    let p = made_posts w.config (client_of w me) x ((line.counted).ranks me does.here)
    (answer_heard w next from me letter rest x well.own does).made are in
    subst AreInLine (sym does.is) (answer_in_line w from me letter rest x well does.here does.there does.front are p line)
kept_in_line w next well line (A_request {from = from} {me = me} {letter = letter} {rest = rest} {x = x} does) =
    event_in_line w next from me letter rest x well line does

-- At the start.

-- at the start each link is empty
pub empty_link : (n a b : ℕ) → a < n → link (replicate n (replicate n [])) a b ≡ []
empty_link n a b below =
    let none : List Letter = [] in
    ap (λ r. get_or r b none) (get_or-replicate n a (replicate n none) [] below) ∙ same_always n b none

none_sent : (config : Config) (from to : Actor) → is_within config from ≡ true → 0 ≡ sent_by (start config) from to
none_sent config (by.Rank from) (by.Rank to) f = refl
none_sent config (by.Rank from) (by.Server to) f =
    sym (ap (λ (s : ClientModel). get_or s.sent to.0 0) (client_at config from (ltb-true from.0 config.ranks f))
    ∙ same_always config.servers to.0 0)
none_sent config (by.Server from) to f =
    sym (ap (λ (s : ServerModel). get_or s.sent (place_of config to) 0) (pool_at config from (ltb-true from.0 config.servers f))
    ∙ same_always (actors config) (place_of config to) 0)

begins_in_line : (config : Config) → AreInLine (start config)
begins_in_line config = record {
  lines = λ from to f t.
      subst (λ (ls : List Letter). Line ls (sent_by (start config) from to) (clock_of (start config) from))
      (sym (empty_link (actors config) (place_of config from) (place_of config to) (place_below config from f)))
      (record { first = 0; places = none_sent config from to f; stamps = omega arith });
  counted = record {
    ranks = λ me within. ap (λ (s : ClientModel). length s.sent) (client_at config me within) ∙ length-replicate config.servers 0;
    servers = λ me within. ap (λ (s : ServerModel). length s.sent) (pool_at config me within) ∙ length-replicate (actors config) 0;
  };
}

-- Along every run.

run_in_line : (w last : World) (events : List Event) → IsWell w → AreInLine w → Runs w events last → AreInLine last
run_in_line w last [] well line run = subst AreInLine run line
run_in_line w last (e ∷ events) well line run =
    let d = happens_does w run.0 e run.1 in
    run_in_line run.0 last events (well_kept w run.0 well d) (kept_in_line w run.0 well line d) run.2

-- in every run the letters on each link stand in line
pub every_run_in_line : (config : Config) (events : List Event) (w : World) → Runs (start config) events w → (from to : Actor)
    → is_within w.config from ≡ true → is_within w.config to ≡ true → IsInLine w from to
every_run_in_line config events w run from to f t =
    let line = (run_in_line (start config) w events (begins_well config) (begins_in_line config) run).lines from to f t in
    record { first = line.first; places = line.places; stamps = line.stamps }
