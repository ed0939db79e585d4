-- What can happen in a world: letters that can be delivered, and ranks that can begin a call.
use Rattle.adlb_unit.specs.Limits.{stamp_limit}
use Rattle.adlb_unit.specs.Links.{is_within, place_of}
use Rattle.adlb_unit.specs.declared.actors.Actor.{Actor}
use Rattle.adlb_unit.specs.declared.configs.Config.{Config}
use Rattle.adlb_unit.specs.declared.letters.Letter.{Letter}
use Rattle.adlb_unit.specs.declared.names.Rank.{Rank}
use Rattle.core_wish_law.proofs.Bound.{few_events}
use Rattle.core_wish_law.proofs.Stamps.{front_up_to}
use Rattle.core_wish_law.specs.Bounds.{begun}
use Rattle.core_check_law.proofs.Expected.{none_is_ever_stuck}
use Rattle.core_law.proofs.Sums.{place_actor, place_below}
use Rattle.core_law.specs.Measures.{actor}
use Rattle.core_progress_law.specs.Ended.{NoneIsDelivered, NoneIsFree}
use Rattle.core_run.specs.Runs.{Runs, is_over}
use Rattle.core_run.specs.World.{World, actors, after_rank, client_of, handle, happens, link, rank_named, start}
use Rattle.core_run.specs.declared.events.Event.{Event}
use Rattle.rank_client.specs.Rules.{is_free}
use Rattle.rank_client.specs.Step.{Made, begin}
use Rattle.std.proofs.Common.{Bool, List, None, Option, Some, [], ap, arith, cond, false, inl, inr, refl, suc, sym, true, zero, ℕ, ◌&&◌}
use Rattle.std.proofs.Common.{◌<◌, ◌^◌, ◌∙◌, ◌∷◌, ◌≡◌, ◌≢◌, ◌≤◌, ◌⊎◌}
use Rattle.std.proofs.lemmas.Bool.{and_parts, cases_eq, lt-ltb}
use Rattle.std.specs.Option.{option_map}
use Rattle.std.specs.Prelude.{is_some}
use Rattle.bag_ledger.specs.declared.entries.Call.TheVariants as calls_to
use Rattle.core_run.specs.declared.events.Event.TheVariants as occurs

-- A rank that is free can begin a call.

-- a rank that is free can begin a reserve
pub free_begins : (w : World) (r : Rank) → r.0 < w.config.ranks → is_free (client_of w r) ≡ true
    → happens w (occurs.Call r (calls_to.Reserve None)) ≡ None → ⊥
free_begins w r low free none =
    by_made (begin (client_of w r) (calls_to.Reserve None)) refl
    (let here = lt-ltb r.0 w.config.ranks low in
    sym (ap (λ b. cond b (option_map (after_rank w r w.links) (begin (client_of w r) (calls_to.Reserve None))) None) here) ∙ none)
  where
    some : is_some (begin (client_of w r) (calls_to.Reserve None)) ≡ true
    some = rw free refl

    by_made : (o : Option Made) → begin (client_of w r) (calls_to.Reserve None) ≡ o → option_map (after_rank w r w.links) o ≡ None → ⊥
    by_made None is e = let no : true ≡ false = sym some ∙ ap is_some is in absurd (cc)
    by_made (Some x) is e = absurd (cc)

-- where no letter can be delivered, none is under way to an actor that goes on: no stamp is too late after so few calls
pub none_under_way : (config : Config) (n : ℕ) (events : List Event) (w : World) → Runs (start config) events w → begun events ≤ n
    → n < 2 ^ 34
    → NoneIsDelivered w → (from to : Actor) → is_within w.config from ≡ true → is_within w.config to ≡ true
    → (link w.links (place_of w.config from) (place_of w.config to) ≡ []) ⊎ (is_over w to ≡ true)
none_under_way config n events w run few small nothing from to f t = by_letters
    (link w.links (place_of w.config from) (place_of w.config to)) refl
  where
    by_letters : (ls : List Letter) → link w.links (place_of w.config from) (place_of w.config to) ≡ ls
        → (link w.links (place_of w.config from) (place_of w.config to) ≡ []) ⊎ (is_over w to ≡ true)
    by_letters [] is = inl is
    by_letters (l ∷ rest) is = by_over (is_over w to) refl
      where
        stamp : l.stamp < stamp_limit
        stamp =
            let low = front_up_to config events w from to l rest run f t is in
            let all = few_events config events w run in
            omega (arith, few, small)

        by_over : (b : Bool) → is_over w to ≡ b
            → (link w.links (place_of w.config from) (place_of w.config to) ≡ []) ⊎ (is_over w to ≡ true)
        by_over true over = inr over
        by_over false over =
            let next = none_is_ever_stuck config events w run from to l rest f t is over stamp in
            let bad : Some next.0 ≡ None = sym next.1 ∙ nothing from to in
            absurd (cc)

-- What is found by looking.

-- a number below one that passes a test, or none does
search_to : (n : ℕ) (test : ℕ → Bool) → ((i : ℕ) × (i < n) × (test i ≡ true)) ⊎ ((i : ℕ) → i < n → test i ≡ false)
search_to zero test = inr (λ i low. absurd (omega arith))
search_to (suc n) test = by_test (search_to n test) (test n) refl
  where
    by_test : ((i : ℕ) × (i < n) × (test i ≡ true)) ⊎ ((i : ℕ) → i < n → test i ≡ false) → (b : Bool) → test n ≡ b
        → ((i : ℕ) × (i < suc n) × (test i ≡ true)) ⊎ ((i : ℕ) → i < suc n → test i ≡ false)
    by_test (inl (i, low, is)) b e = inl (i, omega (arith, low), is)
    by_test (inr none) true e = inl (n, omega arith, e)
    by_test (inr none) false e = inr (λ i low. by_place i low (cases_eq i n))
      where
        by_place : (i : ℕ) → i < suc n → (i ≡ n) ⊎ (i ≢ n) → test i ≡ false
        by_place i low (inl same) = ap test same ∙ e
        by_place i low (inr differs) = none i (omega (arith, low, differs))

none_of_some : {X : Type 0} (o : Option X) → is_some o ≡ false → o ≡ None
none_of_some None is = refl
none_of_some (Some x) is = absurd (cc)

some_of_some : {X : Type 0} (o : Option X) → is_some o ≡ true → (x : X) × (o ≡ Some x)
some_of_some None is = absurd (cc)
some_of_some (Some x) is = (x, refl)

module _ (w : World) where
  delivers : ℕ → ℕ → Bool
  delivers i k = is_some (happens w (occurs.Deliver (actor w.config i) (actor w.config k)))

  -- a letter that can be delivered, or none can
  pub delivery : ((from : Actor) × (to : Actor) × (next : World) × (happens w (occurs.Deliver from to) ≡ Some next)) ⊎ NoneIsDelivered w
  unfolding delivers
  delivery = by_rows (search_rows (actors w.config))
    where
      search_rows : (n : ℕ) → ((i : ℕ) × (k : ℕ) × (delivers i k ≡ true)) ⊎
          ((i : ℕ) → i < n → (k : ℕ) → k < actors w.config → delivers i k ≡ false)
      search_rows zero = inr (λ i low. absurd (omega arith))
      search_rows (suc n) = by_row (search_rows n) (search_to (actors w.config) (delivers n))
        where
          by_row : ((i : ℕ) × (k : ℕ) × (delivers i k ≡ true)) ⊎ ((i : ℕ) → i < n → (k : ℕ) → k < actors w.config → delivers i k ≡ false)
              → ((k : ℕ) × (k < actors w.config) × (delivers n k ≡ true)) ⊎ ((k : ℕ) → k < actors w.config → delivers n k ≡ false)
              → ((i : ℕ) × (k : ℕ) × (delivers i k ≡ true)) ⊎ ((i : ℕ) → i < suc n → (k : ℕ) → k < actors w.config → delivers i k ≡ false)
          by_row (inl found) here = inl found
          by_row (inr none) (inl (k, low, is)) = inl (n, k, is)
          by_row (inr none) (inr here) = inr (λ i low. by_place i low (cases_eq i n))
            where
              by_place : (i : ℕ) → i < suc n → (i ≡ n) ⊎ (i ≢ n) → (k : ℕ) → k < actors w.config → delivers i k ≡ false
              by_place i low (inl same) k below = ap (λ (j : ℕ). delivers j k) same ∙ here k below
              by_place i low (inr differs) k below = none i (omega (arith, low, differs)) k below

      by_rows : ((i : ℕ) × (k : ℕ) × (delivers i k ≡ true))
          ⊎ ((i : ℕ) → i < actors w.config → (k : ℕ) → k < actors w.config → delivers i k ≡ false)
          → ((from : Actor) × (to : Actor) × (next : World) × (happens w (occurs.Deliver from to) ≡ Some next)) ⊎ NoneIsDelivered w
      by_rows (inl (i, k, is)) =
          let x = some_of_some (happens w (occurs.Deliver (actor w.config i) (actor w.config k))) is in
          inl (actor w.config i, actor w.config k, x.0, x.1)
      by_rows (inr none) = inr (λ from to. by_within from to (is_within w.config from && is_within w.config to) refl)
        where
          by_within : (from to : Actor) → (b : Bool) → (is_within w.config from && is_within w.config to) ≡ b
              → happens w (occurs.Deliver from to) ≡ None
          by_within from to true is =
              let parts = and_parts (is_within w.config from) (is_within w.config to) is in
              let off = none (place_of w.config from) (place_below w.config from parts.0) (place_of w.config to)
              (place_below w.config to parts.1) in
              let named : happens w (occurs.Deliver (actor w.config (place_of w.config from)) (actor w.config (place_of w.config to)))
              ≡ None =
              none_of_some (happens w
              (occurs.Deliver (actor w.config (place_of w.config from)) (actor w.config (place_of w.config to)))) off in
              ap (λ (a : Actor). happens w (occurs.Deliver a to)) (sym (place_actor w.config from parts.0))
              ∙ ap (λ (a : Actor). happens w (occurs.Deliver (actor w.config (place_of w.config from)) a))
              (sym (place_actor w.config to parts.1))
              ∙ named
          by_within from to false is =
              ap (λ (b : Bool). cond b (handle w from to (link w.links (place_of w.config from) (place_of w.config to))) None) is

  -- a rank that can begin a call, or none can
  pub free_rank : ((r : Rank) × (r.0 < w.config.ranks) × (is_free (client_of w r) ≡ true)) ⊎ NoneIsFree w
  free_rank = by_found (search_to w.config.ranks (λ i. is_free (client_of w (rank_named i))))
    where
      by_found : ((i : ℕ) × (i < w.config.ranks) × (is_free (client_of w (rank_named i)) ≡ true))
          ⊎ ((i : ℕ) → i < w.config.ranks → is_free (client_of w (rank_named i)) ≡ false)
          → ((r : Rank) × (r.0 < w.config.ranks) × (is_free (client_of w r) ≡ true)) ⊎ NoneIsFree w
      by_found (inl (i, low, is)) = inl (rank_named i, low, is)
      by_found (inr none) = inr (λ r low free. let bad : false ≡ true = sym (none r.0 low) ∙ free in absurd (cc))
