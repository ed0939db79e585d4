-- At every moment of a run the ledger tells the calls of the ranks.
use Rattle.std.proofs.Common.{◌≡◌, ◌<◌, ◌≤◌, ◌+◌, ◌⊎◌, inl, inr, ℕ, zero, suc, Bool, true, false, List, [], ◌∷◌, length, Option, Some}
use Rattle.std.proofs.Common.{refl, sym, ap, ◌∙◌, arith}
use Rattle.std.specs.Prelude.{option_and_then, slice_index_or}
use Rattle.adlb_unit.specs.declared.configs.Config.{Config}
use Rattle.adlb_unit.specs.declared.messages.Message.{Message}
use Rattle.adlb_unit.specs.declared.names.Rank.{Rank}
use Rattle.bag_ledger.specs.declared.entries.Entry.{Entry}
use Rattle.bag_ledger.specs.declared.entries.Said.{Said}
use Rattle.bag_ledger.specs.declared.states.RankState.{RankState}
use Rattle.bag_ledger.specs.Bag.{Bag, rank_at, settled, start as empty_bag}
use Rattle.bag_ledger.specs.Runs.{IsLegal, IsRunWhere, call_of, calls}
use Rattle.bag_ledger.specs.Steps.{after}
use Rattle.balance_law.specs.Balanced.{over_ranks}
use Rattle.rank_client.specs.Agreement.{rank_of, said}
use Rattle.rank_client.specs.Remembered.{pending_call}
use Rattle.rank_client.specs.State.{ClientModel, start as new_client}
use Rattle.core_run.specs.declared.events.Event.{Event}
use Rattle.core_run.specs.Runs.{Runs}
use Rattle.core_run.specs.World.{World, client_of, rank_named, start}
use Rattle.core_law.specs.Found.{found_in}
use Rattle.core_law.specs.Lawful.{IsLawful, IsSeat}
use Rattle.core_law.specs.Measures.{weigh_at}
use Rattle.core_law.specs.Own.{IsClient}
use Rattle.core_law.specs.Well.{IsWell}
use Rattle.core_law.proofs.EveryRun.{every_run_well, run_config}
use Rattle.core_law.proofs.Lawful.{every_run_lawful}
use Rattle.core_check_law.proofs.Legal.{every_run_legal}
use Rattle.core_bound_law.proofs.Bound.{begun_count}
use Rattle.cover_law.specs.Begun.{begun_by, pending_of}
use Rattle.begun_law.specs.Told.{IsMoment, IsTold, ahead, alike}
use Rattle.begun_law.proofs.Numbers.{number_told}
use Rattle.begun_law.proofs.Telling.{HasCome, number_of, told}

-- A sum over the ranks is one over the list of their clients.

over_first : (n : ℕ) (f : Rank → ℕ) → over_ranks (suc n) f ≡ f (rank_named 0) + over_ranks n (λ rank. f (rank_named (suc rank.0)))
over_first zero f = omega arith
over_first (suc n) f = omega (arith, over_first n f)

over_list : {X : Type 0} (f : X → ℕ) (xs : List X) (other : ℕ → X)
    → over_ranks (length xs) (λ rank. f (slice_index_or xs rank.0 (other rank.0))) ≡ weigh_at (λ i. f) xs
over_list f [] other = refl
over_list f (x ∷ xs) other =
    omega (
      arith,
      over_first (length xs) (λ rank. f (slice_index_or (x ∷ xs) rank.0 (other rank.0))),
      over_list f xs (λ k. other (suc k)),
    )

over_up_to : (n : ℕ) (f g : Rank → ℕ) → ((rank : Rank) → rank.0 < n → f rank ≤ g rank) → over_ranks n f ≤ over_ranks n g
over_up_to zero f g le = omega arith
over_up_to (suc n) f g le =
    omega (arith, over_up_to n f g (λ rank below. le rank (omega (arith, below))), le (rank_named n) (omega arith))

-- where a run of the bag ends, whatever is asked where exhaustion is found
one_last : (f g : Bag → Bool) (es : List Entry) (a b m n : Bag) → a ≡ b → IsRunWhere f a es m → IsRunWhere g b es n → m ≡ n
one_last f g [] a b m n same left right = sym left ∙ same ∙ right
one_last f g (e ∷ es) a b m n same left right =
    one_last f g es left.0 right.0 m n (left.1.2 ∙ ap (λ (x : Bag). after x e) same ∙ sym right.1.2) left.2 right.2

module _ (config : Config) (events : List Event) (w : World) (run : Runs (start config) events w) where
  same : w.config ≡ config
  same = run_config (start config) w events run

  well : IsWell w
  well = every_run_well config events w run

  lawful : (b : Bag) × IsLawful w b
  lawful = every_run_lawful config events w run

  legal : IsLegal config w.ledger
  legal = every_run_legal config events w run

  below_too : (rank : Rank) → rank.0 < config.ranks → rank.0 < w.config.ranks
  below_too rank below = omega (arith, below, ap (λ (c : Config). c.ranks) same)

  one_bag : lawful.0 ≡ legal.0
  one_bag =
      one_last (found_in w.config) settled w.ledger (empty_bag w.config) (empty_bag config) lawful.0 legal.0
      (ap (λ (c : Config). empty_bag c) same) lawful.1.run legal.1

  module _ (rank : Rank) (below : rank.0 < config.ranks) where
    abbrev c : ClientModel
    c = client_of w rank

    its : (coming : Option Message) × IsSeat w lawful.0 rank coming
    its = lawful.1.seats rank (below_too rank below)

    own : IsClient w.config rank c
    own = well.own.ranks rank (below_too rank below)

    stands : rank_at legal.0 rank ≡ Some (rank_of c c.finished its.0)
    stands =
        ap (λ (b : Bag). rank_at b rank) (sym one_bag) ∙ ap (rank_at lawful.0) (sym its.1.named) ∙ its.1.stands.rank

    -- the rank has begun as many calls as the number of the client's next one says
    its_number : c.next ≤ begun_by config w.ledger legal.0 rank
    its_number =
        let told_so = number_told config w.ledger legal.0 rank (rank_of c c.finished its.0) below legal.1 stands in
        omega (arith, told_so, number_of c c.finished its.0)

    told_calls : said c c.pending its.0 ≡ calls config w.ledger rank
    told_calls = its.1.said ∙ ap (λ (k : Config). calls k w.ledger rank) same

    its_calls : IsTold c.transcript (pending_call c.pending) (calls config w.ledger rank) (pending_of legal.0 rank)
    its_calls = by_case (told c c.pending its.0)
      where
        going : (s : Said) → pending_call c.pending ≡ Some s.call → (finished : Bool) → c.finished ≡ finished → finished ≡ false
        going s some false is = refl
        going s some true is = absurd (let none = ap pending_call (own.rests is) in cc (none, some))

        by_case : (said c c.pending its.0 ≡ c.transcript) ⊎ HasCome c c.pending its.0
            → IsTold c.transcript (pending_call c.pending) (calls config w.ledger rank) (pending_of legal.0 rank)
        by_case (inl heard) = alike (sym told_calls ∙ heard)
        by_case (inr come) =
            let on = going come.s come.call c.finished refl in
            ahead come.s come.call (sym told_calls ∙ come.says)
            (ap (option_and_then (λ (r : RankState). call_of r.status)) stands
            ∙ ap (λ (t : Bool). call_of (rank_of c t its.0).status) on ∙ come.over)

  -- the ledger tells of each call that was begun
  pub moment : IsMoment config events w
  moment =
      let count = begun_count config events w run in
      let list = over_list (λ (s : ClientModel). s.next) w.ranks (λ k. new_client w.config (rank_named k)) in
      let long : length w.ranks ≡ config.ranks = well.shape.ranks ∙ ap (λ (c : Config). c.ranks) same in
      let each = over_up_to config.ranks (λ rank. (client_of w rank).next) (begun_by config w.ledger legal.0) its_number in
      let all = ap (λ n. over_ranks n (λ rank. (client_of w rank).next)) long in
      record { last = legal.0; legal = legal.1; many = omega (arith, count, list, each, all); told = its_calls }
