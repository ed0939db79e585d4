-- What is owed for one rank: of the letters of its call, and of its Finish letters, as many are there as its client says.
use Rattle.std.proofs.Common.{◌≡◌, ◌<◌, ℕ, cond, not, List, [], ◌∷◌, length, arith, eqb, refl, ap, ◌∙◌}
use Rattle.std.proofs.lemmas.Bool.{eq-eqb, eqb-true, false_from_ne_true}
use Rattle.adlb_unit.specs.declared.letters.Letter.{Letter}
use Rattle.adlb_unit.specs.declared.names.Rank.{Rank}
use Rattle.adlb_unit.specs.declared.names.Server.{Server}
use Rattle.rank_client.specs.Rules.{is_idle}
use Rattle.rank_client.specs.State.{ClientModel, start as new_client}
use Rattle.server_components.specs.declared.waits.Waiting.{Waiting}
use Rattle.server_law.specs.State.{ServerModel}
use Rattle.core_run.specs.World.{World, client_of}
use Rattle.core_law.specs.OnLinks.{OnLinks}
use Rattle.core_law.specs.Letters.{at_rank, finishes, kinds, misfit, no_waiting, one, one_letter}
use Rattle.core_law.specs.Measures.{IsBalanced, due, measure, server_weight, weigh, weigh_at, weights}
use Rattle.core_law.specs.Well.{IsShaped}
use Rattle.core_law.proofs.Sums.{none_adds, one_adds}
use Rattle.core_law.proofs.UnderWay.{zero_on}

-- Sums.

-- where each element weighs 0 by its place, a list does
pub no_sum : {X : Type 0} (xs : List X) → weigh_at (λ i x. 0) xs ≡ 0
no_sum xs = none_adds (λ i x. 0) xs (λ i x. refl)

-- no rank that waits is owed for
pub none_wait : (xs : List ServerModel) → weigh_at (server_weight (λ place k. weigh (no_waiting place) k.parked.waiting)) xs ≡ 0
none_wait [] = refl
none_wait (x ∷ xs) = let here = none x.kept.parked.waiting in let later = none_wait xs in omega arith
  where
    none : (es : List Waiting) → weigh (λ (e : Waiting). 0) es ≡ 0
    none [] = refl
    none (e ∷ es) = let later = none es in omega arith

-- what is owed by one rank, where others owe nothing
pub rank_owed : (w : World) (rank : Rank) (f : ClientModel → ℕ) → rank.0 < length w.ranks
    → weigh_at (at_rank rank f) w.ranks ≡ f (client_of w rank)
rank_owed w rank f inside =
    one_adds (at_rank rank f) w.ranks rank.0 (new_client w.config rank) inside
    (λ i x differs. ap (λ t. cond t (f x) 0) (false_from_ne_true (eqb i rank.0) (λ e. differs (eqb-true i rank.0 e))))
    ∙ ap (λ t. cond t (f (client_of w rank)) 0) (eq-eqb rank.0 rank.0 refl)

-- Letters.

-- the letters of a rank's call count whether one is pending
pub letters_are : (w : World) (rank : Rank) → rank.0 < length w.ranks → IsBalanced (weights (one_letter rank)) w
    → measure (weights (one_letter rank)) w ≡ one (not (is_idle (client_of w rank).pending))
unfolding due
letters_are w rank inside even =
    let owed = rank_owed w rank (λ s. one (not (is_idle s.pending))) inside in
    let none = none_wait w.servers in
    let same = even.same in
    omega arith

-- a rank's Finish letters to a server, and those that it handled, count whether the rank has finished
pub finishes_are : (w : World) (rank : Rank) (server : Server) → rank.0 < length w.ranks → IsBalanced (finishes rank server) w
    → measure (finishes rank server) w ≡ one (client_of w rank).finished
unfolding due
finishes_are w rank server inside even =
    let owed = rank_owed w rank (λ s. one s.finished) inside in
    let none = no_sum w.servers in
    let same = even.same in
    omega arith

-- no letter is of a kind that does not go there
pub no_kinds : (w : World) → IsBalanced (kinds w.config) w → measure (kinds w.config) w ≡ 0
unfolding due
no_kinds w even = let a = no_sum w.servers in let b = no_sum w.ranks in let e = even.same in omega arith

-- no letter under way is of a kind that does not go there
pub all_fit : (w : World) → IsShaped w → IsBalanced (kinds w.config) w
    → OnLinks (λ from to (l : Letter). misfit w.config from to l.message ≡ 0) w.config w.links
unfolding measure
all_fit w shape even = let none = no_kinds w even in zero_on (kinds w.config) w.config w.links shape.square (omega arith)
