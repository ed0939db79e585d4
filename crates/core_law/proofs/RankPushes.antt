-- A step of a rank leaves push letters, promises and units between servers as they are. At the start of a run there are no such letters,
-- promises and units.
use Rattle.std.proofs.Common.{Bool, List, None, Some, [], ap, arith, refl, subst, sym, true, ℕ, ◌<◌, ◌∷◌, ◌≡◌}
use Rattle.std.proofs.lemmas.Bool.{lt-ltb}
use Rattle.adlb_unit.specs.Links.{is_within, place_of}
use Rattle.adlb_unit.specs.declared.actors.Actor.TheVariants as by
use Rattle.adlb_unit.specs.declared.actors.Actor.{Actor}
use Rattle.adlb_unit.specs.declared.configs.Config.{Config}
use Rattle.adlb_unit.specs.declared.letters.Letter.{Letter}
use Rattle.adlb_unit.specs.declared.letters.Sending.{Sending}
use Rattle.adlb_unit.specs.declared.messages.Message.{Message}
use Rattle.adlb_unit.specs.declared.names.Rank.{Rank}
use Rattle.adlb_unit.specs.declared.names.Server.{Server}
use Rattle.adlb_unit.specs.declared.names.UnitId.{UnitId}
use Rattle.bag_ledger.specs.Bag.{Bag, start as empty_bag}
use Rattle.bag_ledger.specs.Runs.{IsRunWhere}
use Rattle.bag_ledger.specs.declared.entries.Entry.TheVariants as enters
use Rattle.bag_ledger.specs.declared.entries.Entry.{Entry}
use Rattle.bag_law.specs.Counts.{promises_named}
use Rattle.rank_client.specs.Step.{Made}
use Rattle.server_law.specs.Carried.{sends}
use Rattle.core_run.specs.World.{Links, World, actors, after_rank, client_of, link, post, start, taken}
use Rattle.core_law.specs.Measures.{actor, links_weight, sends_weight}
use Rattle.core_law.specs.OnLinks.{Each, OnLinks}
use Rattle.core_law.specs.Others.{teller}
use Rattle.core_law.specs.Pushed.{IsOfPush, IsPushed, letters_of, pushes}
use Rattle.core_law.specs.Pushes.{open_letter, promised_letter, travels_letter}
use Rattle.core_law.specs.Well.{IsShaped, IsSquare}
use Rattle.core_law.proofs.EveryRun.{begins_well}
use Rattle.core_law.proofs.InLine.{empty_link}
use Rattle.core_law.proofs.OnLinks.{zero_from}
use Rattle.core_law.proofs.UnpushedUnits.{none_pushed, run_later, run_promises}
use Rattle.core_law.proofs.PushCounts.{run_way}
use Rattle.core_law.proofs.RankShapes.{ChangesRank}
use Rattle.core_law.proofs.Sums.{AreWithin, front_goes, place_actor, place_below, post_weight}
use Rattle.core_law.proofs.UnderWay.{each_weaker, posted_on, weaker}

-- a weight of letters between servers alone
pub record IsOfServers (f : Actor → Actor → Message → ℕ) : Type 0 where
  to_rank : (from : Server) (to : Rank) (m : Message) → f (by.Server from) (by.Rank to) m ≡ 0
  of_rank : (from : Rank) (to : Actor) (m : Message) → f (by.Rank from) to m ≡ 0

opens_of_servers : (id : UnitId) → IsOfServers (open_letter id)
opens_of_servers id = record { to_rank = λ from to m. refl; of_rank = λ from to m. refl }

promises_of_servers : (id : UnitId) → IsOfServers (promised_letter id)
promises_of_servers id = record { to_rank = λ from to m. refl; of_rank = λ from to m. refl }

travels_of_servers : (id : UnitId) → IsOfServers (travels_letter id)
travels_of_servers id = record { to_rank = λ from to m. refl; of_rank = λ from to m. refl }

says_none : (f : Actor → Actor → Message → ℕ) (me : Rank) (sends : List Sending) → IsOfServers f
    → sends_weight (letters_of f) (by.Rank me) sends ≡ 0
says_none f me [] is = refl
says_none f me (x ∷ sends) is =
    let here = is.of_rank me x.to x.letter.message in let later = says_none f me sends is in omega arith

-- what it sends adds nothing
posted_sum : (f : Actor → Actor → Message → ℕ) (config : Config) (links : Links) (me : Rank) (sends : List Sending) → IsOfServers f
    → me.0 < config.ranks → AreWithin config sends → IsSquare (actors config) links
    → links_weight config (letters_of f) (post config links (place_of config (by.Rank me)) sends) ≡ links_weight config (letters_of f) links
posted_sum f config links me sends is here are sq =
    let within : is_within config (by.Rank me) ≡ true = lt-ltb me.0 config.ranks here in
    let place = place_of config (by.Rank me) in
    let sum = post_weight config (letters_of f) links place sends (place_below config (by.Rank me) within) are sq in
    let who : sends_weight (letters_of f) (actor config place) sends ≡ sends_weight (letters_of f) (by.Rank me) sends = rw
    (place_actor config (by.Rank me) within) refl in
    let none = says_none f me sends is in
    omega arith

-- Entries of a rank push nothing.

none_of_rank : (e : Entry) (me : Rank) → teller e ≡ Some me → pushes e ≡ None
none_of_rank (enters.Promised server id n) me is = absurd (cc)
none_of_rank (enters.Left server to id) me is = absurd (cc)
none_of_rank (enters.Arrived server id) me is = absurd (cc)
none_of_rank (enters.Withdrawn server id) me is = absurd (cc)
none_of_rank e me is = refl

each_none : (es : List Entry) (me : Rank) → Each (ChangesRank me) es → Each (λ e. pushes e ≡ None) es
each_none es me each = each_weaker (ChangesRank me) (λ e. pushes e ≡ None) (λ e is. none_of_rank e me is.0) es each

each_said : (n : Bag) (me : Rank) (sends : List Sending) → Each (λ (x : Sending). IsOfPush n (by.Rank me) x.to x.letter.message) sends
each_said n me [] = tt
each_said n me (x ∷ sends) = (tt, each_said n me sends)

-- The links on which the letters of the rank are sent: from which at most a letter to a rank has gone off.

-- what is between servers is as it was
abbrev pub LeavesServers : World → Links → Type 0
LeavesServers w links =
    (f : Actor → Actor → Message → ℕ) → IsOfServers f
    → links_weight w.config (letters_of f) links ≡ links_weight w.config (letters_of f) w.links

-- where a letter is heard
pub heard_leaves : (w : World) (from : Server) (me : Rank) (l : Letter) (rest : List Letter) → IsShaped w
    → is_within w.config (by.Server from) ≡ true → is_within w.config (by.Rank me) ≡ true
    → link w.links (place_of w.config (by.Server from)) (place_of w.config (by.Rank me)) ≡ l ∷ rest
    → LeavesServers w (taken w (by.Server from) (by.Rank me) rest)
heard_leaves w from me l rest shape h t front f is =
    let took = front_goes w.config (letters_of f) w.links (by.Server from) (by.Rank me) l rest shape.square h t front in
    let none = is.to_rank from me l.message in
    omega arith

-- a step of a rank leaves what is known of pushes
pub rank_pushed : (rule : Bag → Bool) (w : World) (me : Rank) (links : Links) (x : Made) (b n : Bag) → me.0 < w.config.ranks
    → AreWithin w.config x.sends
    → IsSquare (actors w.config) links → LeavesServers w links → OnLinks (λ from to l. IsOfPush b from to l.message) w.config links
    → IsRunWhere rule b x.entries n → Each (ChangesRank (client_of w me).me) x.entries → IsPushed w b → IsPushed (after_rank w me links x) n
rank_pushed rule w me links x b n here are square sums letters run own pushed =
    let none = each_none x.entries (client_of w me).me own in
    let within : is_within w.config (by.Rank me) ≡ true = lt-ltb me.0 w.config.ranks here in
    let now = weaker (λ from to l. IsOfPush b from to l.message) (λ from to l. IsOfPush n from to l.message) w.config links
    (λ from to l of. run_later rule x.entries b n from to l.message run (none_pushed x.entries from to l.message none) of)
    letters in
    record {
      opens = λ id.
          let sent = posted_sum (open_letter id) w.config links me x.sends (opens_of_servers id) here are square in
          let same = sums (open_letter id) (opens_of_servers id) in
          let was = pushed.opens id in
          omega arith;
      letters = posted_on (λ from to l. IsOfPush n from to l.message) w.config links (by.Rank me) x.sends square now within are
          (each_said n me x.sends);
      rooms = λ id.
          let sent = posted_sum (promised_letter id) w.config links me x.sends (promises_of_servers id) here are square in
          let same = sums (promised_letter id) (promises_of_servers id) in
          let stay = ap (λ rooms. promises_named id rooms) (run_promises rule x.entries b n run none) in
          let was = pushed.rooms id in
          omega arith;
      travels = λ id.
          let sent = posted_sum (travels_letter id) w.config links me x.sends (travels_of_servers id) here are square in
          let same = sums (travels_letter id) (travels_of_servers id) in
          let stay = run_way rule id x.entries b n run none in
          let was = pushed.travels id in
          omega arith;
    }

-- At the start nothing is under way.

start_on : (P : Actor → Actor → Letter → Type 0) (config : Config) → OnLinks P config (start config).links
start_on P config = record {
  each = λ from to f t.
      let none = empty_link (actors config) (place_of config from) (place_of config to) (place_below config from f) in
      subst (λ (ls : List Letter). Each (P from to) ls) (sym none) tt;
}

-- at the start nothing is pushed
pub start_pushed : (config : Config) → IsPushed (start config) (empty_bag config)
start_pushed config =
    let shape = (begins_well config).shape in
    let none : (f : Actor → Actor → Message → ℕ) → links_weight config (letters_of f) (start config).links ≡ 0 =
    λ f. zero_from (letters_of f) config (start config).links shape.square (start_on (λ from to l. f from to l.message ≡ 0) config) in
    record {
      opens = λ id. let nothing = none (open_letter id) in omega arith;
      letters = start_on (λ from to l. IsOfPush (empty_bag config) from to l.message) config;
      rooms = λ id. none (promised_letter id);
      travels = λ id. none (travels_letter id);
    }
