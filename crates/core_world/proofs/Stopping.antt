-- What is left after an event that failed.
use Rattle.std.proofs.Common.{◌≡◌, ◌<◌, ℕ, zero, suc, Bool, true, false, ◌&&◌, cond, List, [], ◌∷◌, ◌++◌, get_or, set, Option, Some, None}
use Rattle.std.proofs.Common.{inl, refl, sym, ap, ◌∙◌, subst, append-nil}
use Rattle.std.specs.Prelude.{IsSome, nat_lt}
use Rattle.std.specs.Option.{option_map}
use Rattle.adlb_unit.specs.Limits.{stamp_limit}
use Rattle.adlb_unit.specs.Links.{is_within, place_of}
use Rattle.adlb_unit.specs.declared.actors.Actor.{Actor}
use Rattle.adlb_unit.specs.declared.actors.Actor.TheVariants as by
use Rattle.adlb_unit.specs.declared.configs.Config.{Config}
use Rattle.adlb_unit.specs.declared.letters.Letter.{Letter}
use Rattle.adlb_unit.specs.declared.letters.Sending.{Sending}
use Rattle.adlb_unit.specs.declared.names.Rank.{Rank}
use Rattle.adlb_unit.specs.declared.names.Server.{Server}
use Rattle.adlb_unit.specs.declared.notes.Trouble.{Trouble}
use Rattle.adlb_unit.specs.declared.notes.Trouble.TheVariants as troubles
use Rattle.bag_ledger.specs.declared.entries.Entry.{Entry}
use Rattle.bag_ledger.specs.declared.entries.Call.{Call}
use Rattle.rank_client.specs.State.{ClientModel, start as new_client}
use Rattle.server_law.specs.State.{ServerModel}
use Rattle.rank_client.specs.Step.{Made, begin, hear, letter_stamp}
use Rattle.server_law.specs.Carried.{Served}
use Rattle.server_law.specs.Step.{next_stamp, serve}
use Rattle.core_run.specs.declared.events.Event.{Event}
use Rattle.core_run.specs.declared.events.Event.TheVariants as occurs
use Rattle.core_run.specs.Runs.{transcript}
use Rattle.core_run.specs.World.{Links, World, after_rank, after_server, client_of, handle, happens, has_ended, link, pool_of, post, taken}
use Rattle.core_world.specs.Applied.{Causes, IsCut, IsEnabled, IsHalf, IsKept, Stops, event_stamp, front_stamp}
use Rattle.core_world.specs.Seen.{under_way}
use Rattle.core_world.specs.Stage.{with_client, with_server}
use Rattle.core_world.proofs.Stamps.{unmapped}

-- An event adds its entries after those of before, and changes no configuration.

abbrev Extends : World → Option World → Type 0
Extends w None = Prim.Unit {0}
Extends w (Some after) = (more : List Entry) × (after.ledger ≡ w.ledger ++ more) × (after.config ≡ w.config)

by_rank : (w : World) (rank : Rank) (links : Links) (o : Option Made) → Extends w (option_map (after_rank w rank links) o)
by_rank w rank links None = tt
by_rank w rank links (Some x) = (x.entries, refl, refl)

by_server : (w : World) (server : Server) (links : Links) (o : Option Served) → Extends w (option_map (after_server w server links) o)
by_server w server links None = tt
by_server w server links (Some x) = (x.entries, refl, refl)

where_it : (w : World) (b : Bool) (o : Option World) → Extends w o → Extends w (cond b o None)
where_it w true o extends = extends
where_it w false o extends = tt

unless_it : (w : World) (b : Bool) (o : Option World) → Extends w o → Extends w (cond b None o)
unless_it w true o extends = tt
unless_it w false o extends = extends

by_letter : (w : World) (from to : Actor) (letters : List Letter) → Extends w (handle w from to letters)
by_letter w from to [] = tt
by_letter w (by.Rank from) (by.Rank to) (letter ∷ rest) = tt
by_letter w (by.Server from) (by.Rank to) (letter ∷ rest) =
    by_rank w to (taken w (by.Server from) (by.Rank to) rest) (hear (client_of w to) from letter)
by_letter w (by.Rank from) (by.Server to) (letter ∷ rest) =
    unless_it w (has_ended (pool_of w to)) _
    (by_server w to (taken w (by.Rank from) (by.Server to) rest) (serve (pool_of w to) (by.Rank from) letter))
by_letter w (by.Server from) (by.Server to) (letter ∷ rest) =
    unless_it w (has_ended (pool_of w to)) _
    (by_server w to (taken w (by.Server from) (by.Server to) rest) (serve (pool_of w to) (by.Server from) letter))

by_event : (w : World) (event : Event) → Extends w (happens w event)
by_event w (occurs.Call rank call) = where_it w (nat_lt rank.0 w.config.ranks) _ (by_rank w rank w.links (begin (client_of w rank) call))
by_event w (occurs.Deliver from to) =
    where_it w (is_within w.config from && is_within w.config to) _
    (by_letter w from to (link w.links (place_of w.config from) (place_of w.config to)))

grows : (w after : World) (event : Event) → happens w event ≡ Some after → (more : List Entry) × (after.ledger ≡ w.ledger ++ more)
    × (after.config ≡ w.config)
grows w after event h = subst (Extends w) h (by_event w event)

cut_kept : (w new after : World) (event : Event) → IsKept w new → happens w event ≡ Some after → IsCut w new after
cut_kept w new after event kept h =
    let more = grows w after event h in
    record {
      config = kept.config;
      ledger = record {
        entered = [];
        rest = more.0;
        now_is = kept.ledger ∙ sym (append-nil w.ledger);
        after_is = more.1 ∙ ap (λ l. l ++ more.0) (sym kept.ledger);
      };
      transcripts = λ rank. inl (kept.transcripts rank);
    }

-- The actor itself failed.

-- an event that fails for its stamp stops a world that is kept
pub stops_kept : (w new : World) (event : Event) (trouble : Trouble) → Causes (event_stamp w event) trouble → IsKept w new
    → Stops w event trouble new
stops_kept w new event troubles.Memory cause kept = record { cause = cause; leaves = λ after h. cut_kept w new after event kept h }
stops_kept w new event (troubles.TooLong stamp) cause kept = record { cause = cause; leaves = kept }

same_at : (ranks : List ClientModel) (at k : ℕ) (d e s : ClientModel) → s.transcript ≡ (get_or ranks at e).transcript
    → (get_or (set ranks at s) k d).transcript ≡ (get_or ranks k d).transcript
same_at [] at k d e s is = refl
same_at (x ∷ ranks) zero zero d e s is = is
same_at (x ∷ ranks) zero (suc k) d e s is = refl
same_at (x ∷ ranks) (suc at) zero d e s is = refl
same_at (x ∷ ranks) (suc at) (suc k) d e s is = same_at ranks at k d e s is

-- a client that changes but for its transcript keeps the world
pub kept_client : (w : World) (links : Links) (rank : Rank) (s : ClientModel) → s.transcript ≡ (client_of w rank).transcript
    → IsKept w (with_client (record w { links = links }) rank s)
kept_client w links rank s is =
    record {
      config = refl;
      ledger = refl;
      transcripts = λ r. same_at w.ranks rank.0 r.0 (new_client w.config r) (new_client w.config rank) s is;
    }

-- a server that changes keeps the world
pub kept_server : (w : World) (links : Links) (server : Server) (s : ServerModel)
    → IsKept w (with_server (record w { links = links }) server s)
kept_server w links server s = record { config = refl; ledger = refl; transcripts = λ r. refl }

-- The client that was to begin a call, or to hear the front letter, failed; the server that was to handle it failed.

-- a call that fails stops the world with that trouble
pub call_stops : (w now : World) (rank : Rank) (call : Call) (trouble : Trouble) → Causes (event_stamp w (occurs.Call rank call)) trouble
    → now ≡ with_client w rank (record (client_of w rank) { trouble = Some trouble }) → Stops w (occurs.Call rank call) trouble now
call_stops w now rank call trouble cause is =
    let s : ClientModel = record (client_of w rank) { trouble = Some trouble } in
    subst (λ (v : World). Stops w (occurs.Call rank call) trouble v) (sym is)
    (stops_kept w (with_client w rank s) (occurs.Call rank call) trouble cause (kept_client w w.links rank s refl))

-- an answer that fails stops the world with that trouble
pub answer_stops : (w took now : World) (from : Server) (to : Rank) (letter : Letter) (rest : List Letter) (trouble : Trouble)
    → under_way w (by.Server from) (by.Rank to) ≡ letter ∷ rest → took ≡ record w { links = taken w (by.Server from) (by.Rank to) rest }
    → Causes (letter_stamp (client_of took to) letter) trouble
    → now ≡ with_client took to (record (client_of took to) { trouble = Some trouble })
    → Stops w (occurs.Deliver (by.Server from) (by.Rank to)) trouble now
answer_stops w took now from to letter rest trouble front took_is cause is =
    let event : Event = occurs.Deliver (by.Server from) (by.Rank to) in
    let links : Links = taken w (by.Server from) (by.Rank to) rest in
    let s : ClientModel = record (client_of w to) { trouble = Some trouble } in
    let stamp : event_stamp w event ≡ letter_stamp (client_of w to) letter = ap (front_stamp w (by.Rank to)) front in
    let caused : Causes (letter_stamp (client_of w to) letter) trouble =
    subst (λ (v : World). Causes (letter_stamp (client_of v to) letter) trouble) took_is cause in
    let now_is : now ≡ with_client (record w { links = links }) to s =
    is ∙ ap (λ (v : World). with_client v to (record (client_of v to) { trouble = Some trouble })) took_is in
    subst (λ (v : World). Stops w event trouble v) (sym now_is)
    (stops_kept w (with_client (record w { links = links }) to s) event trouble (subst (λ n. Causes n trouble) (sym stamp) caused)
    (kept_client w links to s refl))

-- a letter to a server that fails stops the world with that trouble
pub request_stops : (w took now : World) (from : Actor) (to : Server) (letter : Letter) (rest : List Letter) (trouble : Trouble)
    → under_way w from (by.Server to) ≡ letter ∷ rest → took ≡ record w { links = taken w from (by.Server to) rest }
    → Causes (next_stamp (pool_of took to) letter) trouble → (s : ServerModel) → now ≡ with_server took to s
    → Stops w (occurs.Deliver from (by.Server to)) trouble now
request_stops w took now from to letter rest trouble front took_is cause s is =
    let event : Event = occurs.Deliver from (by.Server to) in
    let links : Links = taken w from (by.Server to) rest in
    let stamp : event_stamp w event ≡ next_stamp (pool_of w to) letter = ap (front_stamp w (by.Server to)) front in
    let caused : Causes (next_stamp (pool_of w to) letter) trouble =
    subst (λ (v : World). Causes (next_stamp (pool_of v to) letter) trouble) took_is cause in
    let now_is : now ≡ with_server (record w { links = links }) to s = is ∙ ap (λ (v : World). with_server v to s) took_is in
    subst (λ (v : World). Stops w event trouble v) (sym now_is)
    (stops_kept w (with_server (record w { links = links }) to s) event trouble (subst (λ n. Causes n trouble) (sym stamp) caused)
    (kept_server w links to s))

-- In each case the configuration is as it was.

some_of : {X : Type 0} (o : Option X) → IsSome o → (x : X) × (o ≡ Some x)
some_of None some = absurd (cc)
some_of (Some x) some = (x, refl)

-- an event that fails keeps the sizes of the run
pub stops_config : (w now : World) (event : Event) (trouble : Trouble) → IsEnabled w event → Stops w event trouble now
    → now.config ≡ w.config
stops_config w now event troubles.Memory enabled stops = let after = some_of (happens w event) enabled in
    (stops.leaves after.0 after.1).config
stops_config w now event (troubles.TooLong stamp) enabled stops = stops.leaves.config

-- an event keeps the sizes of the run
pub happens_config : (w now : World) (event : Event) → happens w event ≡ Some now → now.config ≡ w.config
happens_config w now event h = (grows w now event h).2

-- A front letter that a rank is to hear now is expected.
pub hear_expected : (w took : World) (from : Server) (to : Rank) (letter : Letter) (rest : List Letter)
    → IsEnabled w (occurs.Deliver (by.Server from) (by.Rank to))
    → under_way w (by.Server from) (by.Rank to) ≡ letter ∷ rest → took ≡ record w { links = taken w (by.Server from) (by.Rank to) rest }
    → IsSome (hear (client_of took to) from letter)
hear_expected w took from to letter rest enabled front took_is =
    subst (λ (v : World). IsSome (hear (client_of v to) from letter)) (sym took_is)
    (by_test (is_within w.config (by.Server from) && is_within w.config (by.Rank to)) enabled front)
  where
    letters : List Letter
    letters = link w.links (place_of w.config (by.Server from)) (place_of w.config (by.Rank to))

    by_test : (b : Bool) → IsSome (cond b (handle w (by.Server from) (by.Rank to) letters) None) → cond b letters [] ≡ letter ∷ rest
        → IsSome (hear (client_of w to) from letter)
    by_test true some is = unmapped (after_rank w to (taken w (by.Server from) (by.Rank to) rest)) (hear (client_of w to) from letter)
        (subst (λ (l : List Letter). IsSome (handle w (by.Server from) (by.Rank to) l)) is some)
    by_test false some is = absurd (cc)

-- A front letter that a server is to handle now is expected.

unless_ended : (w : World) (to : Server) (links : Links) (ended : Bool) (o : Option Served)
    → IsSome (cond ended None (option_map (after_server w to links) o)) → IsSome o
unless_ended w to links true o some = absurd (cc)
unless_ended w to links false o some = unmapped (after_server w to links) o some

handled_by : (w : World) (from : Actor) (to : Server) (letter : Letter) (rest : List Letter)
    → IsSome (handle w from (by.Server to) (letter ∷ rest)) → IsSome (serve (pool_of w to) from letter)
handled_by w (by.Rank from) to letter rest some = unless_ended w to (taken w (by.Rank from) (by.Server to) rest) (has_ended (pool_of w to))
    (serve (pool_of w to) (by.Rank from) letter) some
handled_by w (by.Server from) to letter rest some = unless_ended w to (taken w (by.Server from) (by.Server to) rest)
    (has_ended (pool_of w to)) (serve (pool_of w to) (by.Server from) letter) some

-- a letter whose delivery is enabled has a step at its server
pub serve_expected : (w took : World) (from : Actor) (to : Server) (letter : Letter) (rest : List Letter)
    → IsEnabled w (occurs.Deliver from (by.Server to))
    → under_way w from (by.Server to) ≡ letter ∷ rest → took ≡ record w { links = taken w from (by.Server to) rest }
    → IsSome (serve (pool_of took to) from letter)
serve_expected w took from to letter rest enabled front took_is =
    subst (λ (v : World). IsSome (serve (pool_of v to) from letter)) (sym took_is)
    (by_test (is_within w.config from && is_within w.config (by.Server to)) enabled front)
  where
    letters : List Letter
    letters = link w.links (place_of w.config from) (place_of w.config (by.Server to))

    by_test : (b : Bool) → IsSome (cond b (handle w from (by.Server to) letters) None) → cond b letters [] ≡ letter ∷ rest
        → IsSome (serve (pool_of w to) from letter)
    by_test true some is = handled_by w from to letter rest (subst (λ (l : List Letter). IsSome (handle w from (by.Server to) l)) is some)
    by_test false some is = absurd (cc)

-- A front letter that a server has handled.

handled_as : (w : World) (from : Actor) (to : Server) (letter : Letter) (rest : List Letter) → handle w from (by.Server to) (letter ∷ rest)
    ≡ cond (has_ended (pool_of w to)) None
    (option_map (after_server w to (taken w from (by.Server to) rest)) (serve (pool_of w to) from letter))
handled_as w (by.Rank from) to letter rest = refl
handled_as w (by.Server from) to letter rest = refl

-- `Some` of two values is equal only if the values are
pub some_same : {X : Type 0} {x y : X} → Some x ≡ Some y → x ≡ y
some_same is = cc

same_transcript : (w now : World) (rank : Rank) → now.ranks ≡ w.ranks → now.config ≡ w.config → transcript now rank ≡ transcript w rank
same_transcript w now rank ranks config =
    ap (λ (l : List ClientModel). (get_or l rank.0 (new_client now.config rank)).transcript) ranks
    ∙ ap (λ (run : Config). (get_or w.ranks rank.0 (new_client run rank)).transcript) config

unless_is : (ended : Bool) (w : World) → IsSome (cond ended None (Some w)) → cond ended None (Some w) ≡ Some w
unless_is true w some = absurd (cc)
unless_is false w some = refl

-- an event of a server, which took a letter off and stepped to this state
module _ (w took stepped : World) (from : Actor) (to : Server) (letter : Letter) (rest : List Letter) (s : ServerModel)
    (sends : List Sending)
    (entries : List Entry) (enabled : IsEnabled w (occurs.Deliver from (by.Server to)))
    (front : under_way w from (by.Server to) ≡ letter ∷ rest)
    (took_is : took ≡ record w { links = taken w from (by.Server to) rest })
    (served : serve (pool_of took to) from letter ≡ Some (record { state = s; sends = sends; entries = entries }))
    (stepped_is : stepped ≡ with_server took to s) where
  abbrev links : Links
  links = taken w from (by.Server to) rest

  abbrev made : Served
  made = record { state = s; sends = sends; entries = entries }

  abbrev letters : List Letter
  letters = link w.links (place_of w.config from) (place_of w.config (by.Server to))

  by_test : (b : Bool) → IsSome (cond b (handle w from (by.Server to) letters) None) → cond b letters [] ≡ letter ∷ rest
      → cond b (handle w from (by.Server to) letters) None ≡ Some (after_server w to links made)
  by_test false some is = absurd (cc)
  by_test true some is =
      let ended : Bool = has_ended (pool_of w to) in
      let here : serve (pool_of w to) from letter ≡ Some made =
      subst (λ (v : World). serve (pool_of v to) from letter ≡ Some made) took_is served in
      let same : handle w from (by.Server to) letters ≡ cond ended None (Some (after_server w to links made)) =
      ap (λ (l : List Letter). handle w from (by.Server to) l) is ∙ handled_as w from to letter rest
      ∙ ap (λ (o : Option Served). cond ended None (option_map (after_server w to links) o)) here in
      same ∙ unless_is ended (after_server w to links made) (subst IsSome same some)

  -- the delivery of the letter happens, and leads to what the step made
  pub has_happened : happens w (occurs.Deliver from (by.Server to)) ≡ Some (after_server w to links made)
  has_happened = by_test (is_within w.config from && is_within w.config (by.Server to)) enabled front

  stands : stepped ≡ with_server (record w { links = links }) to s
  stands = stepped_is ∙ ap (λ (v : World). with_server v to s) took_is

  -- with its letters sent and its entries entered
  abbrev given : World → World
  given v = record v { links = post v.config v.links (place_of v.config (by.Server to)) sends; ledger = v.ledger ++ entries }

  -- a world in which all was given as the step says is the one after the event
  pub given_happens : (now : World) → now ≡ given stepped → happens w (occurs.Deliver from (by.Server to)) ≡ Some now
  given_happens now is = has_happened ∙ sym (ap Some (is ∙ ap given stands))

  -- where there was no memory for all of them
  pub half_stops : (now : World) → next_stamp (pool_of took to) letter < stamp_limit → IsHalf stepped entries now
      → Stops w (occurs.Deliver from (by.Server to)) troubles.Memory now
  half_stops now within half =
      let h : IsHalf (with_server (record w { links = links }) to s) entries now =
      subst (λ (v : World). IsHalf v entries now) stands half in
      let low : next_stamp (pool_of w to) letter < stamp_limit =
      subst (λ (v : World). next_stamp (pool_of v to) letter < stamp_limit) took_is within in
      record {
        cause = subst (λ n. n < stamp_limit) (sym (ap (front_stamp w (by.Server to)) front)) low;
        leaves = λ after happened.
            subst (λ (v : World). IsCut w now v) (some_same (sym has_happened ∙ happened)) (record {
              config = h.config;
              ledger = h.ledger;
              transcripts = λ rank. inl (same_transcript w now rank h.ranks h.config);
            });
      }
