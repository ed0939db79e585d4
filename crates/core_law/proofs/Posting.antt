-- Letters that an actor sends in a step stand in line: their places follow one another on each link, and they have the stamp of the
-- step.
use Rattle.std.proofs.Common.{◌≡◌, ◌≢◌, ◌≤◌, ◌<◌, ℕ, ◌+◌, Bool, true, false, cond, List, [], ◌∷◌, ◌++◌, length, get_or, refl, sym, ap, ◌∙◌}
use Rattle.std.proofs.Common.{subst, arith, eqb}
use Rattle.std.proofs.lemmas.Bool.{eqb-true, eq-eqb, ltb-true}
use Rattle.std.proofs.lemmas.List.{get_or-set_other, get_or-set_same, length-set}
use Rattle.adlb_unit.specs.Links.{is_within, place_of}
use Rattle.adlb_unit.specs.declared.actors.Actor.{Actor}
use Rattle.adlb_unit.specs.declared.actors.Actor.TheVariants as by
use Rattle.adlb_unit.specs.declared.configs.Config.{Config}
use Rattle.adlb_unit.specs.declared.letters.Letter.{Letter}
use Rattle.adlb_unit.specs.declared.letters.Sending.{Sending}
use Rattle.rank_client.specs.Rules.{ClientSaying}
use Rattle.rank_client.specs.Step.{Made, counted as counted_request, post as post_requests, posted as request_posted}
use Rattle.server_law.specs.Acts.{ServerSaying}
use Rattle.server_law.specs.Carried.{all_counted, counted, posted, stamped}
use Rattle.server_law.specs.State.{ServerModel}
use Rattle.core_run.specs.World.{actors}
use Rattle.core_law.specs.Acting.{AreSaid}
use Rattle.core_law.specs.OnLinks.{Each}
use Rattle.core_law.specs.Lines.{AreConsecutive, AreStamped, rank_sent, server_sent}
use Rattle.core_law.proofs.Fifo.{letters_for}
use Rattle.core_law.proofs.Posts.{lettered}
use Rattle.core_law.proofs.Sums.{AreWithin, place_below}
use Rattle.core_law.proofs.UnderWay.{same_actor}

-- Lines.

-- consecutive places, one list after the other
pub joined_places : (first middle last : ℕ) (xs ys : List Letter) → AreConsecutive first xs middle → AreConsecutive middle ys last
    → AreConsecutive first (xs ++ ys) last
joined_places first middle last [] ys a b = rw a b
joined_places first middle last (x ∷ xs) ys a b = (a.0, joined_places (first + 1) middle last xs ys a.1 b)

-- of one event
event_stamps : (low stamp : ℕ) (ys : List Letter) → low ≤ stamp → 0 < stamp → Each (λ (l : Letter). l.stamp ≡ stamp) ys
    → AreStamped low ys stamp
event_stamps low stamp [] few some each = few
event_stamps low stamp (y ∷ ys) few some each = (
  let e = each.0 in omega arith,
  let e = each.0 in omega arith,
  event_stamps y.stamp stamp ys (let e = each.0 in omega arith) some
      each.1,
)

-- stamps that do not fall, one list after the other
pub joined_stamps : (low last stamp : ℕ) (xs ys : List Letter) → last ≤ stamp → 0 < stamp → AreStamped low xs last
    → Each (λ (l : Letter). l.stamp ≡ stamp) ys → AreStamped low (xs ++ ys) stamp
joined_stamps low last stamp [] ys few some a each = event_stamps low stamp ys (omega arith) some each
joined_stamps low last stamp (x ∷ xs) ys few some a each = (a.0, a.1, joined_stamps x.stamp last stamp xs ys few some a.2 each)

-- What an actor sends in a step.

-- what a step has sent stands in line on each link
pub record IsPosted (config : Config) (sends : List Sending) (before now : Actor → ℕ) (clock : ℕ) : Type 0 where
  pub places : (to : Actor) → is_within config to ≡ true
      → AreConsecutive (before to) (letters_for config (place_of config to) sends) (now to)
  pub stamps : (to : Actor) → Each (λ (l : Letter). l.stamp ≡ clock) (letters_for config (place_of config to) sends)

-- a step that sends nothing leaves each link
pub none_posted : (config : Config) (before now : Actor → ℕ) (clock : ℕ) → ((to : Actor) → is_within config to ≡ true → before to ≡ now to)
    → IsPosted config [] before now clock
none_posted config before now clock same = record { places = same; stamps = λ to. tt }

-- one letter, and then the others
one_before : (config : Config) (y : Sending) (sends : List Sending) (before mid now : Actor → ℕ) (clock : ℕ) → is_within config y.to ≡ true
    → y.letter.place ≡ before y.to → y.letter.stamp ≡ clock → mid y.to ≡ before y.to + 1
    → ((to : Actor) → is_within config to ≡ true → place_of config to ≢ place_of config y.to → mid to ≡ before to)
    → IsPosted config sends mid now clock → IsPosted config (y ∷ sends) before now clock
one_before config y sends before mid now clock there place stamp count others p = record {
  places = λ to within. by_place to within (eqb (place_of config y.to) (place_of config to)) refl (p.places to within);
  stamps = λ to. by_test to (eqb (place_of config y.to) (place_of config to)) (p.stamps to);
}
  where
    later : Actor → List Letter
    later to = letters_for config (place_of config to) sends

    by_place : (to : Actor) → is_within config to ≡ true → (t : Bool) → eqb (place_of config y.to) (place_of config to) ≡ t
        → AreConsecutive (mid to) (later to) (now to) → AreConsecutive (before to) (cond t (y.letter ∷ later to) (later to)) (now to)
    by_place to within true is line =
        let same : y.to ≡ to = same_actor config y.to to there within (eqb-true (place_of config y.to) (place_of config to) is) in
        let next : mid to ≡ before to + 1 = subst (λ (a : Actor). mid a ≡ before a + 1) same count in
        (place ∙ ap before same, subst (λ n. AreConsecutive n (later to) (now to)) next line)
    by_place to within false is line =
        let kept = others to within (λ e. absurd (cc (is, eq-eqb (place_of config y.to) (place_of config to) (sym e)))) in
        subst (λ n. AreConsecutive n (later to) (now to)) kept line

    by_test : (to : Actor) (t : Bool) → Each (λ (l : Letter). l.stamp ≡ clock) (later to)
        → Each (λ (l : Letter). l.stamp ≡ clock) (cond t (y.letter ∷ later to) (later to))
    by_test to true each = (stamp, each)
    by_test to false each = each

-- A rank.
pub requests_posted : (config : Config) (says : List ClientSaying) (x : Made) → length x.state.sent ≡ config.servers
    → AreWithin config (lettered x.state says)
    → IsPosted config (lettered x.state says) (rank_sent x.state) (rank_sent (post_requests x says).state) x.state.clock
requests_posted config [] x counts are = none_posted config (rank_sent x.state) (rank_sent x.state) x.state.clock (λ to within. refl)
requests_posted config (y ∷ says) x counts are =
    let s = x.state in
    let n = get_or s.sent y.to.0 0 + 1 in
    let next : Made = record x { state = counted_request s y.to; sends = x.sends ++ request_posted s y ∷ [] } in
    let inside : y.to.0 < length s.sent = let l = ltb-true y.to.0 config.servers are.0 in omega arith in
    one_before config (request_posted s y) (lettered next.state says) (rank_sent s) (rank_sent next.state)
    (rank_sent (post_requests next says).state) s.clock are.0 refl refl
    (get_or-set_same s.sent y.to.0 n 0 inside) others (requests_posted config says next (length-set s.sent y.to.0 n ∙ counts) are.1)
  where
    others : (to : Actor) → is_within config to ≡ true → place_of config to ≢ place_of config (by.Server y.to)
        → rank_sent (counted_request x.state y.to) to ≡ rank_sent x.state to
    others (by.Rank to) within differs = refl
    others (by.Server to) within differs =
        get_or-set_other x.state.sent y.to.0 to.0 (get_or x.state.sent y.to.0 0 + 1) 0 (λ e. differs (ap (λ k. config.ranks + k) e))

-- A server.
pub sayings_posted : (s : ServerModel) (says : List ServerSaying) → length s.sent ≡ actors s.config → AreSaid s.config says
    → IsPosted s.config (stamped s says) (server_sent s.config s) (server_sent s.config (all_counted s says)) s.clock
sayings_posted s [] counts are = none_posted s.config (server_sent s.config s) (server_sent s.config s) s.clock (λ to within. refl)
sayings_posted s (y ∷ says) counts are =
    let config = s.config in
    let place = place_of config y.to in
    let n = get_or s.sent place 0 + 1 in
    let next = counted s y.to in
    let inside : place < length s.sent = let l = place_below config y.to are.0 in omega arith in
    one_before config (posted s y) (stamped next says) (server_sent config s) (server_sent config next)
    (server_sent config (all_counted next says)) s.clock are.0 refl refl
    (get_or-set_same s.sent place n 0 inside) (λ to within differs. get_or-set_other s.sent place (place_of config to) n 0 differs)
    (sayings_posted next says (length-set s.sent place n ∙ counts) are.1)
