-- How many nodes of a tree are handed out at most.
use Rattle.std.proofs.Common.{◌≡◌, ◌<◌, ◌≤◌, ℕ, zero, suc, ◌+◌, ◌*◌, ◌/◌, Bool, true, false, cond, not, List, [], ◌∷◌, length, set, Option}
use Rattle.std.proofs.Common.{Some, None, refl, ap, ◌∙◌, arith, filter}
use Rattle.std.proofs.lemmas.Bool.{cond_both}
use Rattle.std.proofs.lemmas.List.Sums.{length-filter, count_by-le-length}
use Rattle.std.proofs.lemmas.Nat.{div-add-mod', mul-le}
use Rattle.std.proofs.Math.Nat.{mul-add, mul_comm, mul_assoc}
use Rattle.sudoku_law.specs.Grid.{Cells, side, conflict, candidates, used, count_up, fewest}
use Rattle.sudoku_law.specs.Tree.{Tree, end, branches, at_cell, grown, tree, hands_out, handed}
use Rattle.sudoku_law.proofs.Depth.{share_falls}

abbrev Rec : Type 0
Rec = ℕ → Cells → Tree

length-count_up : (from n : ℕ) → length (count_up from n) ≡ n
unfolding count_up
length-count_up from zero = refl
length-count_up from (suc n) = omega (arith, length-count_up (from + 1) n)

-- a cell has no more candidates than there are digits
pub few_candidates : (m : ℕ) (g : Cells) (cell : ℕ) → length (candidates m g cell) ≤ side m
few_candidates m g cell =
    at (λ d. not (used m g cell d)) (side m)
  where
    at : (p : ℕ → Bool) (n : ℕ) → length (filter p (count_up 1 n)) ≤ n
    at p n = omega (arith, length-filter p (count_up 1 n), count_by-le-length p (count_up 1 n), length-count_up 1 n)

branches_handed : (rec : Rec) (grain budget k share most : ℕ) (g : Cells) (cell : ℕ) (ds : List ℕ)
    → ((x : Cells) → handed grain (rec share x) ≤ most) → handed grain (branches rec budget k share g cell ds) ≤ length ds * (1 + most)
unfolding branches
branches_handed rec grain budget k share most g cell [] few = omega arith
branches_handed rec grain budget k share most g cell (d ∷ ds) few =
    let here : handed grain (rec share (set g cell d)) ≤ most = few (set g cell d) in
    let rest : handed grain (branches rec budget k share g cell ds) ≤ length ds * (1 + most) =
    branches_handed rec grain budget k share most g cell ds few in
    let one : cond (hands_out grain budget k) 1 0 ≤ 1 = at_most_one (hands_out grain budget k) in
    let more : suc (length ds) * (1 + most) ≡ length ds * (1 + most) + (1 + most) = one_more (length ds) (1 + most) in
    omega (arith, here, rest, one, more)
  where
    at_most_one : (b : Bool) → cond b 1 0 ≤ 1
    at_most_one true = omega arith
    at_most_one false = omega arith

    one_more : (n c : ℕ) → suc n * c ≡ n * c + c
    one_more n c = grind arith

-- k shares of what is left, each of w boards a unit of budget, are within w boards a unit of the whole budget
shares_fit : (k w rest : ℕ) → k ≤ w → k * (1 + w * (rest / k)) ≤ w * suc rest
shares_fit k w rest few =
    let share : ℕ = rest / k in
    let part : share * k ≤ rest = omega (arith, div-add-mod' rest k) in
    let all : w * (share * k) ≤ w * rest = mul-le w (share * k) w rest (omega arith) part in
    let left : k * (1 + w * share) ≡ k + w * (share * k) = spread k w share in
    let right : w * suc rest ≡ w + w * rest = grind arith in
    omega arith
  where
    spread : (k w s : ℕ) → k * (1 + w * s) ≡ k + w * (s * k)
    spread k w s =
        mul-add k 1 (w * s)
        ∙ ap (λ x. x + k * (w * s)) (let e : k * 1 ≡ k = omega arith in e)
        ∙ ap (λ x. k + x) (mul_comm k (w * s) ∙ mul_assoc w s k)

cell_handed : (m : ℕ) (rec : Rec) (grain budget : ℕ) (g : Cells) (o : Option ℕ)
    → ((c : ℕ) (x : Cells) → c < budget → handed grain (rec c x) ≤ side m * c) → handed grain (at_cell m rec budget g o) ≤ side m * budget
unfolding at_cell
cell_handed m rec grain budget g None few = omega arith
cell_handed m rec grain zero g (Some cell) few = omega arith
cell_handed m rec grain (suc rest) g (Some cell) few =
    let ds : List ℕ = candidates m g cell in
    let share : ℕ = rest / length ds in
    let less : share < suc rest = let le : share ≤ rest = share_falls rest (length ds) in omega arith in
    joined
    (branches_handed rec grain (suc rest) (length ds) share (side m * share) g cell ds (λ x. few share x less))
    (shares_fit (length ds) (side m) rest (few_candidates m g cell))
  where
    joined : {a b c : ℕ} → a ≤ b → b ≤ c → a ≤ c
    joined p q = omega arith

grown_handed : (m grain depth b : ℕ) (g : Cells) → handed grain (grown m depth b g) ≤ side m * b
unfolding grown
grown_handed m grain zero b g = omega arith
grown_handed m grain (suc depth) b g =
    cond_both (conflict m g) end (at_cell m (λ k h. grown m depth k h) b g (fewest m g)) (λ t. handed grain t ≤ side m * b)
    (λ yes. nothing (side m * b))
    (λ no. cell_handed m (λ k h. grown m depth k h) grain b g (fewest m g) (λ c x less. grown_handed m grain depth c x))
  where
    nothing : (n : ℕ) → 0 ≤ n
    nothing n = omega arith

-- no more boards are handed out than the digits times the budget
pub handed_within : (m grain b : ℕ) (g : Cells) → handed grain (tree m b g) ≤ side m * b
handed_within m grain b g = grown_handed m grain (suc b) b g
