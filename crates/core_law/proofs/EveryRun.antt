-- What holds of letters and of each actor alone, at every moment of every run.
use Rattle.std.proofs.Common.{◌≡◌, ◌<◌, ℕ, zero, suc, ◌+◌, Bool, true, false, cond, List, [], ◌∷◌, map, get_or, length, replicate, refl}
use Rattle.std.proofs.Common.{sym, ap, ◌∙◌, subst, arith, eqb}
use Rattle.std.specs.List.{range_with_len}
use Rattle.std.proofs.lemmas.Bool.{lt-ltb}
use Rattle.std.proofs.lemmas.List.{get_or-replicate, length-replicate}
use Rattle.std.proofs.lemmas.List.Elements.{All-nil}
use Rattle.std.proofs.lemmas.List.FromFn.{get_or-map-range_with_len, length-map-range_with_len}
use Rattle.adlb_unit.specs.Links.{is_within}
use Rattle.adlb_unit.specs.declared.actors.Actor.TheVariants as by
use Rattle.adlb_unit.specs.declared.configs.Config.{Config}
use Rattle.adlb_unit.specs.declared.letters.Letter.{Letter}
use Rattle.adlb_unit.specs.declared.letters.Sending.{Sending}
use Rattle.adlb_unit.specs.declared.names.Rank.{Rank}
use Rattle.adlb_unit.specs.declared.names.Server.{Server}
use Rattle.bag_ledger.specs.declared.entries.Call.{Call}
use Rattle.rank_client.specs.State.{ClientModel, start as new_client}
use Rattle.rank_client.specs.Step.{Made, begin, hear}
use Rattle.server_law.specs.State.{start as new_pool}
use Rattle.core_run.specs.declared.events.Event.{Event}
use Rattle.core_run.specs.Runs.{Runs}
use Rattle.core_run.specs.World.{Links, World, actors, after_rank, client_of, pool_of, rank_named, server_named, start, taken}
use Rattle.core_law.specs.OnLinks.{Each}
use Rattle.core_law.specs.Letters.{any_remote, finishes, kinds, numbered, one, one_letter, remotes}
use Rattle.core_law.specs.Measures.{IsBalanced, Weights, due, link_weight, measure, push_weights, row_weight, server_weight, weigh_at}
use Rattle.core_law.specs.Measures.{weights}
use Rattle.core_law.specs.Own.{AreOwn, IsClient, IsEntry, IsNote, IsWish}
use Rattle.core_law.specs.Pushes.{pushing, pushing_to}
use Rattle.core_law.specs.Well.{IsShaped, IsWell}
use Rattle.core_law.proofs.Actors.{every_client}
use Rattle.core_law.proofs.Events.{event_well}
use Rattle.core_law.proofs.Finishing.{finishes_law}
use Rattle.core_law.proofs.Kept.{IsLaw, rank_balance}
use Rattle.core_law.proofs.Balances.{any_law, kinds_law, numbered_law, one_letter_law, remotes_law}
use Rattle.core_law.proofs.Pushing.{pushing_law, pushing_to_law}
use Rattle.core_law.proofs.RankBegins.{begins}
use Rattle.core_law.proofs.RankHears.{hears}
use Rattle.core_law.proofs.RankShapes.{Began, Heard, It_asks, It_leaves, It_rests, IsFarewell, Then}
use Rattle.core_law.proofs.Steps.{A_call, A_request, An_answer, Begins, Does, Hears, happens_does, rank_shaped, same_config, taken_shaped}
use Rattle.core_law.proofs.StepResults.{on_some}
use Rattle.core_law.proofs.Sums.{AreWithin, front_goes}

-- What a step of a rank changes.

-- an event in which a rank begins a call changes its client by the rule of that call
pub call_began : (w next : World) (me : Rank) (call : Call) (x : Made) → AreOwn w → Begins w me call x next
    → Began w.config me (client_of w me) x
call_began w next me call x own does =
    on_some (Began w.config me (client_of w me)) (begin (client_of w me) call) x
    (begins w.config me (client_of w me) call (own.ranks me does.here)) does.does

-- an event in which a rank hears a letter changes its client by the rule of that letter
pub answer_heard : (w next : World) (from : Server) (me : Rank) (letter : Letter) (rest : List Letter) (x : Made) → AreOwn w
    → Hears w from me letter rest x next → Heard w.config me (client_of w me) letter.message x
answer_heard w next from me letter rest x own does =
    on_some (Heard w.config me (client_of w me) letter.message) (hear (client_of w me) from letter) x
    (hears w.config me (client_of w me) from letter (own.ranks me does.here)) does.does

-- To whom it writes.

asked_within : (run : Config) (s : ClientModel) (x : Made) → s.config ≡ run → Then s x → AreWithin run x.sends
asked_within run s x same (It_rests h) = rw h.sends tt
asked_within run s x same (It_asks h) =
    let n : (h.to).0 < run.servers = let e = ap (λ (c : Config). c.servers) same in let l = h.within in omega arith in
    rw h.sends (lt-ltb (h.to).0 run.servers n, tt)
asked_within run s x same (It_leaves h) = all x.sends h.each
  where
    all : (sends : List Sending) → Each (IsFarewell s.config) sends → AreWithin run sends
    all [] each = tt
    all (y ∷ sends) each =
        let f = each.0 in
        let n : (f.to).0 < run.servers = let e = ap (λ (c : Config). c.servers) same in let l = f.within in omega arith in
        (rw f.is (lt-ltb (f.to).0 run.servers n), all sends each.1)

-- what a rank sends as it begins a call goes to servers of the run
pub call_within : (w next : World) (me : Rank) (call : Call) (x : Made) → AreOwn w → Begins w me call x next → AreWithin w.config x.sends
call_within w next me call x own does =
    asked_within w.config (client_of w me) x (own.ranks me does.here).config (call_began w next me call x own does).after

-- what a rank sends as it hears a letter goes to servers of the run
pub answer_within : (w next : World) (from : Server) (me : Rank) (letter : Letter) (rest : List Letter) (x : Made) → AreOwn w
    → Hears w from me letter rest x next → AreWithin w.config x.sends
answer_within w next from me letter rest x own does =
    asked_within w.config (client_of w me) x (own.ranks me does.here).config (answer_heard w next from me letter rest x own does).after

-- An event.

-- a rank of the run is in the world
pub inside_ranks : (w : World) (me : Rank) → IsWell w → me.0 < w.config.ranks → me.0 < length w.ranks
inside_ranks w me well here = let e = (well.shape).ranks in omega arith

rank_well : (w : World) (me : Rank) (links : Links) (x : Made) → IsWell w → me.0 < w.config.ranks → IsShaped (record w { links = links })
    → AreWithin w.config x.sends → IsClient w.config me x.state
    → ((m : Weights) → IsLaw w.config m → IsBalanced m w → IsBalanced m (after_rank w me links x)) → IsWell (after_rank w me links x)
rank_well w me links x well here shape within client even = record {
  shape = rank_shaped (record w { links = links }) me x shape here within;
  own = record {
    ranks = every_client (IsClient w.config) w me x.state (inside_ranks w me well here) client
        (λ other there differs. well.own.ranks other there);
    servers = well.own.servers;
  };
  kind = even (kinds w.config) (kinds_law w.config) well.kind;
  one = λ rank. even (weights (one_letter rank)) (one_letter_law w.config rank) (well.one rank);
  finish = λ rank server there. even (finishes rank server) (finishes_law w.config rank server there) (well.finish rank server there);
  remote = λ home asked rank request. even (weights (remotes home asked rank request)) (remotes_law w.config home asked rank request)
      (well.remote home asked rank request);
  any = λ rank. even (weights (any_remote rank)) (any_law w.config rank) (well.any rank);
  push = λ a. even (push_weights (pushing a)) (pushing_law w.config a) (well.push a);
  push_to = λ a t id sent. even (push_weights (pushing_to a t id sent)) (pushing_to_law w.config a t id sent) (well.push_to a t id sent);
  number = λ rank n. even (weights (numbered rank n)) (numbered_law w.config rank n) (well.number rank n);
}

call_well : (w next : World) (me : Rank) (call : Call) (x : Made) → IsWell w → Begins w me call x next → IsWell (after_rank w me w.links x)
call_well w next me call x well does =
    let b = call_began w next me call x well.own does in
    let within = call_within w next me call x well.own does in
    rank_well w me w.links x well does.here well.shape within b.own
    (λ m law. rank_balance m w me w.links x 0 well.shape does.here within (omega arith) (law.begun me (client_of w me) x b b.after))

answer_well : (w next : World) (from : Server) (me : Rank) (letter : Letter) (rest : List Letter) (x : Made) → IsWell w
    → Hears w from me letter rest x next → IsWell (after_rank w me (taken w (by.Server from) (by.Rank me) rest) x)
answer_well w next from me letter rest x well does =
    let f : is_within w.config (by.Server from) ≡ true = lt-ltb from.0 w.config.servers does.there in
    let t : is_within w.config (by.Rank me) ≡ true = lt-ltb me.0 w.config.ranks does.here in
    let h = answer_heard w next from me letter rest x well.own does in
    let within = answer_within w next from me letter rest x well.own does in
    let shape = taken_shaped w (by.Server from) (by.Rank me) rest well.shape f t in
    let off = λ (m : Weights). front_goes w.config m w.links (by.Server from) (by.Rank me) letter rest (well.shape).square f t does.front in
    rank_well w me (taken w (by.Server from) (by.Rank me) rest) x well does.here shape within h.own
    (λ m law. rank_balance m w me (taken w (by.Server from) (by.Rank me) rest) x (m.letter (by.Server from) (by.Rank me) letter.message)
    shape does.here within
    (off m) (law.heard me (client_of w me) from letter.message x h h.after))

-- what holds of letters and of each actor alone is kept by each event
pub well_kept : (w next : World) → IsWell w → Does w next → IsWell next
well_kept w next well (A_call {me = me} {call = call} {x = x} does) = subst IsWell (sym does.is) (call_well w next me call x well does)
well_kept w next well (An_answer {from = from} {me = me} {letter = letter} {rest = rest} {x = x} does) =
    subst IsWell (sym does.is) (answer_well w next from me letter rest x well does)
well_kept w next well (A_request {from = from} {me = me} {letter = letter} {rest = rest} {x = x} does) =
    event_well w next from me letter rest x well does

-- At the start.

start_zero : {X : Type 0} (f : ℕ → X → ℕ) (g : ℕ → X) (from n : ℕ) → ((i k : ℕ) → f i (g k) ≡ 0)
    → weigh_at f (map g (range_with_len from n)) ≡ 0
start_zero f g from zero none = refl
start_zero f g from (suc n) none =
    let here = none zero from in let later = start_zero (λ i. f (suc i)) g (from + 1) n (λ i k. none (suc i) k) in omega arith

same_zero : {X : Type 0} (f : ℕ → X → ℕ) (n : ℕ) (x : X) → ((i : ℕ) → f i x ≡ 0) → weigh_at f (replicate n x) ≡ 0
same_zero f zero x none = refl
same_zero f (suc n) x none = let here = none zero in let later = same_zero (λ i. f (suc i)) n x (λ i. none (suc i)) in omega arith

-- the state of each actor weighs nothing
pub record AreZero (config : Config) (m : Weights) : Type 0 where
  pub server : (i k : ℕ) → m.server i (new_pool config (server_named k)).kept ≡ 0
  pub rank : (i k : ℕ) → m.rank i (new_client config (rank_named k)) ≡ 0
  pub server_due : (i k : ℕ) → m.server_due i (new_pool config (server_named k)).kept ≡ 0
  pub rank_due : (i k : ℕ) → m.rank_due i (new_client config (rank_named k)) ≡ 0

-- the start of a run is balanced for weights that are 0 there
pub begins_even : (config : Config) (m : Weights) → AreZero config m → IsBalanced m (start config)
unfolding measure due
begins_even config m z =
    let n = actors config in
    let none : List Letter = [] in
    let a = same_zero (row_weight config m) n (replicate n none) (λ i. same_zero (link_weight config m i) n none (λ j. refl)) in
    let b = start_zero (server_weight m.server) (λ k. new_pool config (server_named k)) 0 config.servers z.server in
    let d = start_zero m.rank (λ k. new_client config (rank_named k)) 0 config.ranks z.rank in
    let e = start_zero (server_weight m.server_due) (λ k. new_pool config (server_named k)) 0 config.servers z.server_due in
    let f = start_zero m.rank_due (λ k. new_client config (rank_named k)) 0 config.ranks z.rank_due in
    record { same = omega arith }

no_cond : (b : Bool) → cond {A = ℕ} b 0 0 ≡ 0
no_cond true = refl
no_cond false = refl

-- a list of one value has it at each place
pub same_always : {X : Type 0} (n i : ℕ) (x : X) → get_or (replicate n x) i x ≡ x
same_always zero i x = refl
same_always (suc n) zero x = refl
same_always (suc n) (suc i) x = same_always n i x

none_finished : (config : Config) (rank : Rank) (b : Bool) → cond b (one (get_or (replicate config.ranks false) rank.0 false)) 0 ≡ 0
none_finished config rank true = ap one (same_always config.ranks rank.0 false)
none_finished config rank false = refl

-- at the start each client is new
pub client_at : (config : Config) (rank : Rank) → rank.0 < config.ranks → client_of (start config) rank ≡ new_client config rank
client_at config rank within =
    get_or-map-range_with_len (λ n. new_client config (rank_named n)) 0 config.ranks rank.0 rank.0 (new_client config rank) within
    (omega arith)

-- at the start each server is new
pub pool_at : (config : Config) (server : Server) → server.0 < config.servers → pool_of (start config) server ≡ new_pool config server
pool_at config server within =
    get_or-map-range_with_len (λ n. new_pool config (server_named n)) 0 config.servers server.0 server.0 (new_pool config server) within
    (omega arith)

-- the start of a run is well
pub begins_well : (config : Config) → IsWell (start config)
begins_well config =
    let n = actors config in
    let none : List Letter = [] in
    record {
      shape = record {
        ranks = length-map-range_with_len (λ n. new_client config (rank_named n)) 0 config.ranks;
        servers = length-map-range_with_len (λ n. new_pool config (server_named n)) 0 config.servers;
        square = record {
          rows = length-replicate n (replicate n none);
          each = λ a l. rw (get_or-replicate n a (replicate n none) [] l) (length-replicate n none);
        };
      };
      own = record {
        ranks = λ me within. rw (client_at config me within)
            (record { config = refl; me = refl; call = tt; rests = λ is. refl; batch = tt; notes = All-nil (IsNote config) });
        servers = λ me within. rw (pool_at config me within)
            (record {
              config = refl;
              me = refl;
              finished = length-replicate config.ranks false;
              waiting = All-nil (IsEntry config me);
              wishes = All-nil (IsWish config me);
              pushing = tt;
              owed = tt;
              noted = tt;
              mark = omega arith;
              shut = λ alone is. absurd (cc);
              alone = λ alone. refl;
            });
      };
      kind = begins_even config (kinds config) (record {
        server = λ i k. refl;
        rank = λ i k. refl;
        server_due = λ i k. refl;
        rank_due = λ i k. refl;
      });
      one = λ rank. begins_even config (weights (one_letter rank))
          (record { server = λ i k. refl; rank = λ i k. refl; server_due = λ i k. refl; rank_due = λ i k. no_cond (eqb i rank.0) });
      finish = λ rank server there. begins_even config (finishes rank server)
          (record {
            server = λ i k. none_finished config rank (eqb i server.0);
            rank = λ i k. refl;
            server_due = λ i k. refl;
            rank_due = λ i k. no_cond (eqb i rank.0);
          });
      remote = λ home asked rank request. begins_even config (weights (remotes home asked rank request))
          (record { server = λ i k. refl; rank = λ i k. refl; server_due = λ i k. refl; rank_due = λ i k. refl });
      any = λ rank. begins_even config (weights (any_remote rank))
          (record { server = λ i k. refl; rank = λ i k. refl; server_due = λ i k. refl; rank_due = λ i k. refl });
      push = λ a. begins_even config (push_weights (pushing a))
          (record { server = λ i k. refl; rank = λ i k. refl; server_due = λ i k. refl; rank_due = λ i k. refl });
      push_to = λ a t id sent. begins_even config (push_weights (pushing_to a t id sent))
          (record { server = λ i k. refl; rank = λ i k. refl; server_due = λ i k. refl; rank_due = λ i k. refl });
      number = λ rank next. begins_even config (weights (numbered rank next))
          (record { server = λ i k. refl; rank = λ i k. refl; server_due = λ i k. refl; rank_due = λ i k. no_cond (eqb i rank.0) });
    }

-- Along every run.

run_well : (w last : World) (events : List Event) → IsWell w → Runs w events last → IsWell last
run_well w last [] well run = rw (← run) well
run_well w last (e ∷ events) well run =
    run_well run.0 last events (well_kept w run.0 well (happens_does w run.0 e run.1)) run.2

-- what holds of letters and of each actor alone, holds at every moment of every run
pub every_run_well : (config : Config) (events : List Event) (w : World) → Runs (start config) events w → IsWell w
every_run_well config events w run = run_well (start config) w events (begins_well config) run

-- a run keeps its configuration
pub run_config : (w last : World) (events : List Event) → Runs w events last → last.config ≡ w.config
run_config w last [] run = ap (λ (v : World). v.config) (sym run)
run_config w last (e ∷ events) run = run_config run.0 last events run.2 ∙ same_config w run.0 (happens_does w run.0 e run.1)
