-- How many hints are under way to a server at most: two from each other server, of each rank with its home there.
use Rattle.adlb_unit.specs.Links.{is_within, place_of}
use Rattle.adlb_unit.specs.Targets.{home_of}
use Rattle.adlb_unit.specs.declared.actors.Actor.{Actor}
use Rattle.adlb_unit.specs.declared.configs.Config.{Config}
use Rattle.adlb_unit.specs.declared.letters.Letter.{Letter}
use Rattle.adlb_unit.specs.declared.messages.Message.{Message}
use Rattle.adlb_unit.specs.declared.names.Rank.{Rank}
use Rattle.adlb_unit.specs.declared.names.Server.{Server}
use Rattle.core_law.proofs.EveryRun.{every_run_well, run_config}
use Rattle.core_law.proofs.OwedByRanks.{all_fit}
use Rattle.core_law.proofs.OwnStates.{fits_is}
use Rattle.core_law.proofs.UnderWay.{each_weaker}
use Rattle.core_law.specs.Letters.{fits_between, is_finish, is_request, misfit, one}
use Rattle.core_law.specs.Measures.{links_weight, weigh}
use Rattle.core_law.specs.Pushed.{letters_of}
use Rattle.core_law.specs.Well.{IsWell}
use Rattle.core_progress_law.proofs.HintLines.{hint_weight}
use Rattle.core_progress_law.proofs.HintsFew.{hints_on, two_hints}
use Rattle.core_progress_law.proofs.Room.{few_to_server}
use Rattle.core_progress_law.proofs.Totals.{Weighing, link_alone, links_below, links_none, links_total, part_of_total, total}
use Rattle.core_progress_law.specs.Room.{hints_to, is_hint, kind_letter, most_hints, most_letters, notices_to, sum_to, to_server}
use Rattle.core_run.specs.Runs.{Runs}
use Rattle.core_run.specs.World.{World, link, rank_named, server_named, start}
use Rattle.core_run.specs.declared.events.Event.{Event}
use Rattle.server_law.specs.State.{is_home}
use Rattle.std.proofs.Common.{Bool, List, [], ap, arith, cond, false, inl, inr, not, refl, suc, sym, true, zero, ℕ, ◌&&◌, ◌*◌, ◌+◌, ◌-◌}
use Rattle.std.proofs.Common.{◌<◌, ◌==◌, ◌||◌, ◌∙◌, ◌∷◌, ◌≡◌, ◌≢◌, ◌≤◌, ◌⊎◌}
use Rattle.std.proofs.lemmas.Bool.{and_parts, cases_eq, eq-eqb, eqb-true, false_from_ne_true, lt-ltb, ltb-true, not-true}
use Rattle.std.specs.Prelude.{nat_lt}
use Rattle.adlb_unit.specs.declared.actors.Actor.TheVariants as by
use Rattle.adlb_unit.specs.declared.messages.Message.TheVariants as tells

abbrev if_there : Bool → ℕ → ℕ
if_there true n = n
if_there false n = 0

-- hints of the rank of one number, from the server of another, to this one
abbrev hint_from : Config → Server → ℕ → ℕ → Weighing
hint_from config t i k (by.Server from) (by.Server to) m =
    if_there ((home_of config.servers (rank_named i) == t.0) && (not (k == t.0) && ((from.0 == k) && (to.0 == t.0)))) (hint_weight i m)
hint_from config t i k (by.Server from) (by.Rank to) m = 0
hint_from config t i k (by.Rank from) to m = 0

-- from each other server
abbrev most_of : Config → Server → ℕ → ℕ
most_of config t k = if_there (not (k == t.0)) 2

but_one : (config : Config) (t : Server) (n : ℕ) → (n ≤ t.0 → sum_to n (most_of config t) ≤ 2 * n) ×
    (t.0 < n → sum_to n (most_of config t) + 2 ≤ 2 * n)
but_one config t zero = ((λ low. omega arith), λ high. absurd (omega arith))
but_one config t (suc n) = by_place (but_one config t n) (n == t.0) refl
  where
    by_place : ((n ≤ t.0 → sum_to n (most_of config t) ≤ 2 * n) × (t.0 < n → sum_to n (most_of config t) + 2 ≤ 2 * n)) → (b : Bool)
        → (n == t.0) ≡ b
        → (suc n ≤ t.0 → sum_to (suc n) (most_of config t) ≤ 2 * suc n) × (t.0 < suc n → sum_to (suc n) (most_of config t) + 2 ≤ 2 * suc n)
    by_place later true is =
        let same = eqb-true n t.0 is in
        let here : most_of config t n ≡ 0 = ap (λ b. if_there (not b) 2) is in
        let before = later.0 (omega arith) in
        ((λ low. absurd (omega arith)), λ high. omega arith)
    by_place later false is =
        let here : most_of config t n ≡ 2 = ap (λ b. if_there (not b) 2) is in
        ((λ low. let before = later.0 (omega arith) in omega arith), λ high. by_order high (cases_eq n t.0))
      where
        by_order : t.0 < suc n → (n ≡ t.0) ⊎ (n ≢ t.0) → sum_to (suc n) (most_of config t) + 2 ≤ 2 * suc n
        by_order high (inl same) = let bad : false ≡ true = sym is ∙ eq-eqb n t.0 same in absurd (cc)
        by_order high (inr differs) =
            let here : most_of config t n ≡ 2 = ap (λ b. if_there (not b) 2) is in
            let before = later.1 (omega (arith, high, differs)) in
            omega arith

-- each hint that fits is counted
counted : (config : Config) (t : Server) (from to : Actor) (m : Message) → is_within config from ≡ true → misfit config from to m ≡ 0
    → kind_letter is_hint t from to m ≤ total config.ranks (λ i. total config.servers (hint_from config t i)) from to m
counted config t from (by.Rank to) m f fits = omega arith
counted config t (by.Rank from) (by.Server to) m f fits = by_message m (fits_is (is_request m || is_finish m) fits)
  where
    by_message : (m : Message) → (is_request m || is_finish m) ≡ true
        → kind_letter is_hint t (by.Rank from) (by.Server to) m
        ≤ total config.ranks (λ i. total config.servers (hint_from config t i)) (by.Rank from) (by.Server to) m
    by_message (tells.Hint rank request) is = absurd (cc)
    by_message _ is = omega arith
counted config t (by.Server from) (by.Server to) m f fits =
    by_message m (fits_is (not (from.0 == to.0) && fits_between config from to m) fits)
  where
    by_place : (rank : Rank) (request : ℕ) → rank.0 < config.ranks → home_of config.servers rank ≡ to.0 → (from.0 == to.0) ≡ false
        → (b : Bool)
        → (to.0 == t.0) ≡ b
        → one (to.0 == t.0)
        ≤ total config.ranks (λ i. total config.servers (hint_from config t i)) (by.Server from) (by.Server to) (tells.Hint rank request)
    by_place rank request low at_home apart false is = let none : one (to.0 == t.0) ≡ 0 = ap one is in omega arith
    by_place rank request low at_home apart true is =
        let place = eqb-true to.0 t.0 is in
        let home_is : (home_of config.servers rank == t.0) ≡ true = eq-eqb (home_of config.servers rank) t.0 (at_home ∙ place) in
        let other : (from.0 == t.0) ≡ false = ap (λ n. from.0 == n) (sym place) ∙ apart in
        let own : hint_from config t rank.0 from.0 (by.Server from) (by.Server to) (tells.Hint rank request) ≡ 1 =
        rw (home_is, other, eq-eqb from.0 from.0 refl, is, eq-eqb rank.0 rank.0 refl) refl in
        let inner = part_of_total config.servers from.0 (hint_from config t rank.0) (by.Server from) (by.Server to)
        (tells.Hint rank request)
        (ltb-true from.0 config.servers f) in
        let outer = part_of_total config.ranks rank.0 (λ i. total config.servers (hint_from config t i)) (by.Server from) (by.Server to)
        (tells.Hint rank request) low in
        let its : one (to.0 == t.0) ≡ 1 = ap one is in
        omega arith

    by_message : (m : Message) → (not (from.0 == to.0) && fits_between config from to m) ≡ true
        → kind_letter is_hint t (by.Server from) (by.Server to) m
        ≤ total config.ranks (λ i. total config.servers (hint_from config t i)) (by.Server from) (by.Server to) m
    by_message (tells.Hint rank request) is =
        let parts = and_parts (not (from.0 == to.0)) (nat_lt rank.0 config.ranks && is_home config to rank) is in
        let both = and_parts (nat_lt rank.0 config.ranks) (is_home config to rank) parts.1 in
        by_place rank request (ltb-true rank.0 config.ranks both.0) (eqb-true (home_of config.servers rank) to.0 both.1)
        (not-true (from.0 == to.0) parts.0)
        (to.0 == t.0) refl
    by_message _ is = omega arith

module _ (config : Config) (events : List Event) (w : World) (run : Runs (start config) events w) (t : Server)
    (there : t.0 < config.servers) where
  well : IsWell w
  well = every_run_well config events w run

  same : w.config ≡ config
  same = run_config (start config) w events run

  -- of one rank from one server
  few_from : (i k : ℕ) → k < config.servers → (at_home other : Bool) → (home_of w.config.servers (rank_named i) == t.0) ≡ at_home
      → (k == t.0) ≡ other
      → links_weight w.config (letters_of (hint_from w.config t i k)) w.links ≤ if_there at_home (most_of config t k)
  unfolding hints_on
  few_from i k low false other is at =
      let none = links_none w.config (hint_from w.config t i k) w.links nothing in omega arith
    where
      nothing : (from to : Actor) (m : Message) → hint_from w.config t i k from to m ≡ 0
      nothing (by.Server from) (by.Server to) m =
          ap (λ b. if_there (b && (not (k == t.0) && ((from.0 == k) && (to.0 == t.0)))) (hint_weight i m)) is
      nothing (by.Server from) (by.Rank to) m = refl
      nothing (by.Rank from) to m = refl
  few_from i k low true true is at =
      let none = links_none w.config (hint_from w.config t i k) w.links nothing in omega arith
    where
      nothing : (from to : Actor) (m : Message) → hint_from w.config t i k from to m ≡ 0
      nothing (by.Server from) (by.Server to) m =
          ap (λ b. if_there (b && (not (k == t.0) && ((from.0 == k) && (to.0 == t.0)))) (hint_weight i m)) is
          ∙ ap (λ b. if_there (not b && ((from.0 == k) && (to.0 == t.0))) (hint_weight i m)) at
      nothing (by.Server from) (by.Rank to) m = refl
      nothing (by.Rank from) to m = refl
  few_from i k low true false is at =
      let a = by.Server (server_named k) in
      let within_a : is_within w.config (by.Server (server_named k)) ≡ true =
      lt-ltb k w.config.servers (let e = ap (λ (c : Config). c.servers) same in omega arith) in
      let within_t : is_within w.config (by.Server t) ≡ true =
      lt-ltb t.0 w.config.servers (let e = ap (λ (c : Config). c.servers) same in omega arith) in
      let alone = link_alone w.config (hint_from w.config t i k) (by.Server (server_named k)) (by.Server t) w.links
      (well.shape).square within_a within_t elsewhere in
      let less = weigh_less (link w.links (place_of w.config (by.Server (server_named k))) (place_of w.config (by.Server t))) in
      let two = two_hints config events w (server_named k) t (rank_named i) low there run
      (sym (ap (λ (c : Config). home_of c.servers (rank_named i)) same) ∙ eqb-true (home_of w.config.servers (rank_named i)) t.0 is) in
      let most : most_of config t k ≡ 2 = ap (λ b. if_there (not b) 2) at in
      omega arith
    where
      least : (b : Bool) (n : ℕ) → if_there b n ≤ n
      least true n = omega arith
      least false n = omega arith

      weigh_less : (ls : List Letter) → weigh
          (λ (l : Letter). hint_from w.config t i k (by.Server (server_named k)) (by.Server t) l.message) ls
          ≤ weigh (λ (l : Letter). hint_weight i l.message) ls
      weigh_less [] = omega arith
      weigh_less (l ∷ ls) =
          let here = least ((home_of w.config.servers (rank_named i) == t.0) && (not (k == t.0) && ((k == k) && (t.0 == t.0))))
          (hint_weight i l.message) in
          let later = weigh_less ls in
          omega arith

      off : (h o f g : Bool) (n : ℕ) → (f ≡ false) ⊎ (g ≡ false) → if_there (h && (o && (f && g))) n ≡ 0
      off false o f g n why = refl
      off true false f g n why = refl
      off true true false g n why = refl
      off true true true false n why = refl
      off true true true true n (inl e) = absurd (cc)
      off true true true true n (inr e) = absurd (cc)

      elsewhere : (from to : Actor) (m : Message) → (from ≢ by.Server (server_named k)) ⊎ (to ≢ by.Server t)
          → hint_from w.config t i k from to m ≡ 0
      elsewhere (by.Rank from) to m why = refl
      elsewhere (by.Server from) (by.Rank to) m why = refl
      elsewhere (by.Server from) (by.Server to) m (inl differs) =
          off (home_of w.config.servers (rank_named i) == t.0) (not (k == t.0)) (from.0 == k) (to.0 == t.0) (hint_weight i m)
          (inl (false_from_ne_true (from.0 == k) (λ e. differs (ap (λ n. by.Server (server_named n)) (eqb-true from.0 k e)))))
      elsewhere (by.Server from) (by.Server to) m (inr differs) =
          off (home_of w.config.servers (rank_named i) == t.0) (not (k == t.0)) (from.0 == k) (to.0 == t.0) (hint_weight i m)
          (inr (false_from_ne_true (to.0 == t.0) (λ e. differs (ap (λ n. by.Server (server_named n)) (eqb-true to.0 t.0 e)))))

  -- of one rank from all servers
  few_of : (i : ℕ) → (b : Bool) → (home_of w.config.servers (rank_named i) == t.0) ≡ b
      → links_weight w.config (letters_of (total w.config.servers (hint_from w.config t i))) w.links ≤ if_there b
      (2 * (w.config.servers - 1))
  few_of i false is =
      let all = links_total w.config w.config.servers (hint_from w.config t i) (λ k. 0) w.links
      (λ k low. few_from i k (let e = ap (λ (c : Config). c.servers) same in omega arith) false (k == t.0) is refl) in
      let none = zeros w.config.servers in
      omega arith
    where
      zeros : (n : ℕ) → sum_to n (λ k. 0) ≡ 0
      zeros zero = refl
      zeros (suc n) = let later = zeros n in omega arith
  few_of i true is =
      let all = links_total w.config w.config.servers (hint_from w.config t i) (most_of config t) w.links
      (λ k low. few_from i k (let e = ap (λ (c : Config). c.servers) same in omega arith) true (k == t.0) is refl) in
      let sum = (but_one config t w.config.servers).1 (let e = ap (λ (c : Config). c.servers) same in omega arith) in
      omega arith

  -- of all
  pub few_hints_to : hints_to w t ≤ most_hints config t
  few_hints_to =
      let fit = all_fit w well.shape well.kind in
      let f : ℕ → Weighing = λ i. total w.config.servers (hint_from w.config t i) in
      let less = links_below w.config (kind_letter is_hint t) (total w.config.ranks f) w.links (well.shape).square
      (record {
        each = λ from to a b. each_weaker (λ (l : Letter). misfit w.config from to l.message ≡ 0)
            (λ (l : Letter). kind_letter is_hint t from to l.message
            ≤ total w.config.ranks (λ i. total w.config.servers (hint_from w.config t i)) from to l.message)
            (λ l fits. counted w.config t from to l.message a fits)
            (link w.links (place_of w.config from) (place_of w.config to)) (fit.each from to a b);
      }) in
      let all = links_total w.config w.config.ranks f
      (λ i. cond (home_of w.config.servers (rank_named i) == t.0) (2 * (w.config.servers - 1)) 0) w.links
      (λ i low. as_cond i (home_of w.config.servers (rank_named i) == t.0) refl) in
      let config_is : most_hints w.config t ≡ most_hints config t = ap (λ (c : Config). most_hints c t) same in
      omega arith
    where
      as_cond : (i : ℕ) (b : Bool) → (home_of w.config.servers (rank_named i) == t.0) ≡ b
          → links_weight w.config (letters_of (total w.config.servers (hint_from w.config t i))) w.links
          ≤ cond (home_of w.config.servers (rank_named i) == t.0) (2 * (w.config.servers - 1)) 0
      as_cond i true is =
          let few = few_of i true is in
          let its : cond (home_of w.config.servers (rank_named i) == t.0) (2 * (w.config.servers - 1)) 0 ≡ 2 * (w.config.servers - 1) =
          ap (λ b. cond b (2 * (w.config.servers - 1)) 0) is in
          omega arith
      as_cond i false is =
          let few = few_of i false is in
          let its : cond (home_of w.config.servers (rank_named i) == t.0) (2 * (w.config.servers - 1)) 0 ≡ 0 =
          ap (λ b. cond b (2 * (w.config.servers - 1)) 0) is in
          omega arith

  -- and all letters but notices
  pub few_letters_to : to_server w t ≤ most_letters config t + notices_to w t
  few_letters_to = let all = few_to_server config events w run t there in let hints = few_hints_to in omega arith
