-- A run of the machine is a run of the world.
use Rattle.std.proofs.Common.{◌≡◌, ◌<◌, ◌+◌, inl, inr, ℕ, Bool, true, false, cond, eqb, ltb, ◌&&◌, not, List, [], ◌∷◌, ◌++◌, length, drop}
use Rattle.std.proofs.Common.{map, get_or, set, Option, Some, None, option_to_list}
use Rattle.std.proofs.Common.{refl, sym, ap, ◌∙◌, subst, arith, eq-eqb, lt-ltb, ltb-true, length-set, append_assoc, append-nil}
use Rattle.std.specs.List.{AllByRecursion as Each}
use Rattle.std.specs.Option.{option_map}
use Rattle.std.proofs.lemmas.List.{length-map}
use Rattle.adlb_unit.specs.declared.actors.Actor.{Actor}
use Rattle.adlb_unit.specs.declared.actors.Actor.TheVariants as by
use Rattle.adlb_unit.specs.declared.configs.Config.{Config}
use Rattle.adlb_unit.specs.declared.letters.Letter.{Letter}
use Rattle.adlb_unit.specs.declared.letters.Sending.{Sending}
use Rattle.adlb_unit.specs.declared.names.Rank.{Rank}
use Rattle.adlb_unit.specs.declared.names.Server.{Server}
use Rattle.rank_client.specs.State.{ClientModel, start as new_client}
use Rattle.rank_client.specs.Step.{Made, hear}
use Rattle.adlb_unit.specs.Links.{is_within, place_of}
use Rattle.server_law.specs.State.{ServerModel, start as new_pool}
use Rattle.server_law.specs.Carried.{Served}
use Rattle.server_law.specs.Step.{serve}
use Rattle.core_run.specs.Runs.{Runs}
use Rattle.core_run.specs.World.{World, Links, actors, after_rank, after_server, client_of, handle, happens, has_ended, link, pool_of, post}
use Rattle.core_run.specs.World.{put_link, rank_named, taken}
use Rattle.journal_law.specs.Lists.{Lists, Happens, lists, send_all, set_link, state_of, take_front}
use Rattle.journal_law.specs.Orders.{of_actor}
use Rattle.journal_law.specs.Runs.{Runs as RunsOf}
use Rattle.merge_history.specs.declared.causes.Cause.{Cause}
use Rattle.merge_history.specs.declared.causes.Cause.TheVariants as causes
use Rattle.merge_history.specs.Events.{Event}
use Rattle.merge_history.specs.Merging.{joined, numbered}
use Rattle.merge_history.specs.Own.{client_step, pool_step, occurrence}
use Rattle.merge_history.proofs.Machine.{Being, IsRankStep, IsServerStep, Steps, cause_of, machine, sends_of}
use Rattle.merge_history.proofs.States.{or_left, or_right, or_map, set_left, set_right, set_map}

pub cond_some : {X : Type 0} (b : Bool) (o : Option X) (x : X) → cond b o None ≡ Some x → (b ≡ true) × (o ≡ Some x)
cond_some true o x e = (refl, e)
cond_some false o x e = absurd cc

pub both_true : (b c : Bool) → (b && c) ≡ true → (b ≡ true) × (c ≡ true)
both_true true c e = (refl, e)
both_true false c e = absurd cc

not_true : (b : Bool) → not b ≡ true → b ≡ false
not_true true e = absurd cc
not_true false e = refl

taken_both : {X : Type 0} (b c : Bool) (o : Option X) (x : X) → b ≡ true → c ≡ true → o ≡ Some x → cond (b && c) o None ≡ Some x
taken_both true true o x f g e = e
taken_both true false o x f g e = absurd cc
taken_both false c o x f g e = absurd cc

passed_by : {X : Type 0} (b : Bool) (o : Option X) (x : X) → b ≡ false → o ≡ Some x → cond b None o ≡ Some x
passed_by true o x f e = absurd cc
passed_by false o x f e = e

-- what is sent in the world is what is sent in the machine
post_is : (config : Config) (links : Links) (from : ℕ) (sends : List Sending)
    → send_all from (sends_of config sends) links ≡ post config links from sends
unfolding post
post_is config links from [] = refl
post_is config links from (y ∷ ys) =
    post_is config (put_link links from (place_of config y.to) (link links from (place_of config y.to) ++ y.letter ∷ [])) from ys

pub place_below : (config : Config) (a : Actor) → is_within config a ≡ true → place_of config a < actors config
place_below config (by.Rank rank) within = let below : rank.0 < config.ranks = ltb-true rank.0 config.ranks within in omega (arith, below)
place_below config (by.Server server) within =
    let below : server.0 < config.servers = ltb-true server.0 config.servers within in omega (arith, below)

abbrev pub first_of : Config → Being
first_of config = inl (new_client config (rank_named 0))

abbrev pub states : World → List Being
states w = map inl w.ranks ++ map inr w.servers

abbrev pub as_lists : World → Lists Being Letter
as_lists w = record { states = states w; links = w.links }

pub record IsSized (w : World) : Type 0 where
  pub ranks : length w.ranks ≡ w.config.ranks
  pub servers : length w.servers ≡ w.config.servers

module _ (w : World) (sized : IsSized w) where
  long : length (map {A = ClientModel} {B = Being} inl w.ranks) ≡ w.config.ranks
  long = length-map w.ranks inl ∙ sized.ranks

  pub rank_state : (rank : Rank) → rank.0 < w.config.ranks → get_or (states w) rank.0 (first_of w.config) ≡ inl (client_of w rank)
  rank_state rank below =
      or_left (map inl w.ranks) (map inr w.servers) rank.0 (first_of w.config) (omega (arith, long, below))
      ∙ or_map inl w.ranks rank.0 (new_client w.config rank) (first_of w.config) (omega (arith, sized.ranks, below))

  pub server_state : (server : Server) → server.0 < w.config.servers
      → get_or (states w) (w.config.ranks + server.0) (first_of w.config) ≡ inr (pool_of w server)
  server_state server below =
      or_right (map inl w.ranks) (map inr w.servers) (w.config.ranks + server.0) server.0 (first_of w.config) (omega (arith, long))
      ∙ or_map inr w.servers server.0 (new_pool w.config server) (first_of w.config) (omega (arith, sized.servers, below))

  rank_set : (rank : Rank) (s : ClientModel) → rank.0 < w.config.ranks
      → set (states w) rank.0 (inl s) ≡ map inl (set w.ranks rank.0 s) ++ map inr w.servers
  rank_set rank s below =
      set_left (map inl w.ranks) (map inr w.servers) rank.0 (inl s) (omega (arith, long, below))
      ∙ ap (λ l. l ++ map inr w.servers) (set_map inl w.ranks rank.0 s)

  server_set : (server : Server) (s : ServerModel)
      → set (states w) (w.config.ranks + server.0) (inr s) ≡ map inl w.ranks ++ map inr (set w.servers server.0 s)
  server_set server s =
      set_right (map inl w.ranks) (map inr w.servers) (w.config.ranks + server.0) server.0 (inr s) (omega (arith, long))
      ∙ ap (λ l. map inl w.ranks ++ l) (set_map inr w.servers server.0 s)

  -- the front letter, where an actor got one
  abbrev Fronts : ℕ → Cause → Type 0
  Fronts a cause =
      (from to : ℕ) → from < actors w.config → to < actors w.config
      → (rest : List Letter)
      × (link w.links from to ≡ cond (eqb a to) (of_actor from (option_to_list (cause_of w.config cause))) [] ++ rest)

  front : (a : ℕ) (of : Actor) (letter : Letter) → a < actors w.config → place_of w.config of < actors w.config
      → Fronts a (causes.Got of letter)
      → (rest : List Letter) × (link w.links (place_of w.config of) a ≡ letter ∷ rest)
  front a of letter inside within fronts =
      let p : ℕ = place_of w.config of in
      let r = fronts p a within inside in
      let is : link w.links p a ≡ letter ∷ r.0 = rw (eq-eqb a a refl, eq-eqb p p refl) at r.1 in
      (r.0, is)

  -- the links once the front letter was taken
  abbrev IsFront : ℕ → Cause → Links → Type 0
  IsFront a cause links = take_front a (cause_of w.config cause) w.links ≡ links

  rank_occurs : (rank : Rank) (cause : Cause) (x : Made) → rank.0 < w.config.ranks → client_step w.config (client_of w rank) cause ≡ Some x
      → Fronts rank.0 cause → (links : Links) × (happens w (occurrence (by.Rank rank) cause) ≡ Some (after_rank w rank links x))
      × IsFront rank.0 cause links
  rank_occurs rank (causes.Called call) x below step fronts = (w.links, rw (lt-ltb rank.0 w.config.ranks below, step) refl, refl)
  rank_occurs rank (causes.Got (by.Rank from) letter) x below step fronts = absurd cc
  rank_occurs rank (causes.Got (by.Server from) letter) x below step fronts =
      let hears = cond_some (ltb from.0 w.config.servers) (hear (client_of w rank) from letter) x step in
      let inside : rank.0 < actors w.config = omega (arith, below) in
      let there = front rank.0 (by.Server from) letter inside (place_below w.config (by.Server from) hears.0) fronts in
      let p : ℕ = place_of w.config (by.Server from) in (
        put_link w.links p rank.0 there.0,
        taken_both (ltb from.0 w.config.servers) (ltb rank.0 w.config.ranks) _ _ hears.0 (lt-ltb rank.0 w.config.ranks below)
            (ap (handle w (by.Server from) (by.Rank rank)) there.1
            ∙ ap (option_map (after_rank w rank (put_link w.links p rank.0 there.0))) hears.1),
        ap (λ l. set_link w.links p rank.0 (drop 1 l)) there.1,
      )

  handles : (of : Actor) (server : Server) (letter : Letter) (rest : List Letter)
      → handle w of (by.Server server) (letter ∷ rest)
      ≡ cond (has_ended (pool_of w server)) None
      (option_map (after_server w server (taken w of (by.Server server) rest)) (serve (pool_of w server) of letter))
  handles (by.Rank from) server letter rest = refl
  handles (by.Server from) server letter rest = refl

  server_occurs : (server : Server) (cause : Cause) (x : Served) → server.0 < w.config.servers
      → pool_step w.config (pool_of w server) cause ≡ Some x
      → Fronts (w.config.ranks + server.0) cause
      → (links : Links) × (happens w (occurrence (by.Server server) cause) ≡ Some (after_server w server links x))
      × IsFront (w.config.ranks + server.0) cause links
  server_occurs server (causes.Called call) x below step fronts = absurd cc
  server_occurs server (causes.Got of letter) x below step fronts =
      let a : ℕ = w.config.ranks + server.0 in
      let serves = cond_some (is_within w.config of && not (has_ended (pool_of w server))) (serve (pool_of w server) of letter) x step in
      let may = both_true (is_within w.config of) (not (has_ended (pool_of w server))) serves.0 in
      let goes : has_ended (pool_of w server) ≡ false = not_true (has_ended (pool_of w server)) may.1 in
      let inside : a < actors w.config = omega (arith, below) in
      let there = front a of letter inside (place_below w.config of may.0) fronts in (
        put_link w.links (place_of w.config of) a there.0,
        taken_both (is_within w.config of) (ltb server.0 w.config.servers) _ _ may.0 (lt-ltb server.0 w.config.servers below)
            (
            ap (handle w of (by.Server server)) there.1 ∙ handles of server letter there.0
            ∙ passed_by (has_ended (pool_of w server)) _ _ goes
            (ap (option_map (after_server w server (put_link w.links (place_of w.config of) a there.0))) serves.1)
            ),
        ap (λ l. set_link w.links (place_of w.config of) a (drop 1 l)) there.1,
      )

  -- the world after an event of an actor
  pub record HasOccurred (actor : Actor) (e : Event) (v : Lists Being Letter) : Type 0 where
    pub next : World
    pub happens_so : happens w (occurrence actor e.cause) ≡ Some next
    pub is : v ≡ as_lists next
    pub ledger : next.ledger ≡ w.ledger ++ e.entries
    pub config : next.config ≡ w.config
    pub shape : IsSized next

  pub event_is : (actor : Actor) (e : Event) (v : Lists Being Letter) → is_within w.config actor ≡ true
      → Happens (machine w.config) (first_of w.config) (as_lists w) (place_of w.config actor) e v → HasOccurred actor e v
  event_is (by.Rank rank) e v within h =
      let config : Config = w.config in
      let below : rank.0 < config.ranks = ltb-true rank.0 config.ranks within in
      let t : Being = state_of (machine config) (first_of config) v rank.0 in
      let st : IsRankStep config (client_of w rank) e t = subst (λ s. Steps config rank.0 s e t) (rank_state rank below) h.steps in
      let at = rank_occurs rank e.cause st.x below st.step h.fronts in
      let now : set (states w) rank.0 t ≡ map inl (set w.ranks rank.0 st.x.state) ++ map inr w.servers =
      ap (set (states w) rank.0) st.is ∙ rank_set rank st.x.state below in
      let links : send_all rank.0 (sends_of config e.sends) (take_front rank.0 (cause_of config e.cause) w.links)
      ≡ post config at.0 rank.0 st.x.sends =
      (λ i. send_all rank.0 (sends_of config (st.sends i)) (at.2 i)) ∙ post_is config at.0 rank.0 st.x.sends in
      record {
        next = after_rank w rank at.0 st.x;
        happens_so = at.1;
        is = h.is ∙ (λ i. record { states = now i; links = links i });
        ledger = ap (λ l. w.ledger ++ l) (sym st.entries);
        config = refl;
        shape = record { ranks = length-set w.ranks rank.0 st.x.state ∙ sized.ranks; servers = sized.servers };
      }
  event_is (by.Server server) e v within h =
      let config : Config = w.config in let a : ℕ = config.ranks + server.0 in
      let below : server.0 < config.servers = ltb-true server.0 config.servers within in
      let t : Being = state_of (machine config) (first_of config) v a in
      let st : IsServerStep config (pool_of w server) e t = subst (λ s. Steps config a s e t) (server_state server below) h.steps in
      let at = server_occurs server e.cause st.x below st.step h.fronts in
      let now : set (states w) a t ≡ map inl w.ranks ++ map inr (set w.servers server.0 st.x.state) =
      ap (set (states w) a) st.is ∙ server_set server st.x.state in
      let links : send_all a (sends_of config e.sends) (take_front a (cause_of config e.cause) w.links) ≡ post config at.0 a st.x.sends =
      (λ i. send_all a (sends_of config (st.sends i)) (at.2 i)) ∙ post_is config at.0 a st.x.sends in
      record {
        next = after_server w server at.0 st.x;
        happens_so = at.1;
        is = h.is ∙ (λ i. record { states = now i; links = links i });
        ledger = ap (λ l. w.ledger ++ l) (sym st.entries);
        config = refl;
        shape = record { ranks = sized.ranks; servers = length-set w.servers server.0 st.x.state ∙ sized.servers };
      }

-- the run of the world, and where it ends
pub record HasPassed (w : World) (xs : List (Actor × Event)) (v : Lists Being Letter) : Type 0 where
  pub last : World
  pub runs : Runs w (map (λ x. occurrence x.0 x.1.cause) xs) last
  pub is : as_lists last ≡ v
  pub ledger : last.ledger ≡ w.ledger ++ joined xs
  pub config : last.config ≡ w.config
  pub sized : IsSized last

abbrev RunsFrom : List (Actor × Event) → Lists Being Letter → Config × Lists Being Letter → Type 0
RunsFrom xs v y = RunsOf (machine y.0) (lists (machine y.0) (first_of y.0)) y.1 (numbered y.0 xs) v

pub run_is : (w : World) (xs : List (Actor × Event)) (v : Lists Being Letter) → IsSized w → Each (λ x. is_within w.config x.0 ≡ true) xs
    → RunsOf (machine w.config) (lists (machine w.config) (first_of w.config)) (as_lists w) (numbered w.config xs) v → HasPassed w xs v
run_is w [] v sized within runs = record {
  last = w;
  runs = refl;
  is = runs;
  ledger = sym (append-nil w.ledger);
  config = refl;
  sized = sized;
}
run_is w (x ∷ xs) v sized within runs =
    let here : HasOccurred w sized x.0 x.1 runs.0 = event_is w sized x.0 x.1 runs.0 within.0 runs.1 in
    let next : World = here.next in
    let later : RunsFrom xs v (next.config, as_lists next) = subst (RunsFrom xs v) (λ i. (sym here.config i, here.is i)) runs.2 in
    let still : Each (λ y. is_within next.config y.0 ≡ true) xs =
    subst (λ (c : Config). Each (λ y. is_within c y.0 ≡ true) xs) (sym here.config) within.1 in
    let rest : HasPassed next xs v = run_is next xs v here.shape still later in
    record {
      last = rest.last;
      runs = (next, here.happens_so, rest.runs);
      is = rest.is;
      ledger = rest.ledger ∙ ap (λ l. l ++ joined xs) here.ledger ∙ append_assoc w.ledger x.1.entries (joined xs);
      config = rest.config ∙ here.config;
      sized = rest.sized;
    }
