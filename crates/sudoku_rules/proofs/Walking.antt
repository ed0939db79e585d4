-- One node of the walk, as the code takes it.
use Rattle.std.proofs.Common.{◌≡◌, ◌<◌, ◌≤◌, ℕ, zero, suc, ◌+◌, ◌-◌, ◌/◌, Bool, true, false, cond, ◌||◌, not, List, [], ◌∷◌, ◌++◌, length}
use Rattle.std.proofs.Common.{set, filter, Option, Some, None, refl, sym, ap, ◌∙◌, arith, append-nil, append_assoc}
use Rattle.std.proofs.Math.Bool.{or-false}
use Rattle.sudoku_law.specs.Grid.{Cells, side, conflict, candidates, choices, fewest, used, count_up}
use Rattle.sudoku_law.specs.Tree.{Tree, end, branches, at_cell, tree, hands_out, Met, nothing, both, walk}
use Rattle.sudoku_law.proofs.Depth.{tree_is_node, share_falls}
use Rattle.sudoku_rules.specs.inside.Pieces.{handed_out, solved}

-- what one digit of a cell gives: nothing if it is used, otherwise a board handed out or a node of this walk
abbrev pub at_digit : ℕ → Bool → ℕ → ℕ → Cells → ℕ → ℕ → Met
at_digit m hands grain share g cell d =
    cond (used m g cell d) nothing (cond hands (handed_out share (set g cell d)) (walk grain (tree m share (set g cell d))))

-- tests joined by `or` may be grouped either way
pub or_assoc : (a b c : Bool) → ((a || b) || c) ≡ (a || (b || c))
or_assoc true b c = refl
or_assoc false b c = refl

-- what was met with nothing more is what was met
pub both_nothing : (m : Met) → both m nothing ≡ m
both_nothing m = rw (append-nil m.solutions, append-nil m.children, or-false m.over) refl

-- what was met may be grouped either way
pub both_assoc : (a b c : Met) → both (both a b) c ≡ both a (both b c)
both_assoc a b c = rw
    (append_assoc a.solutions b.solutions c.solutions, append_assoc a.children b.children c.children, or_assoc a.over b.over c.over) refl

-- the trees of the children
abbrev pub below : ℕ → ℕ → Cells → Tree
below m b h = tree m b h

-- a grid with a conflict meets nothing
pub node_dead : (m : ℕ) (grain b : ℕ) (g : Cells) → conflict m g ≡ true → walk grain (tree m b g) ≡ nothing
node_dead m grain b g clash =
    ap (λ t. walk grain t) (tree_is_node m b g ∙ ap (λ c. cond c end (at_cell m (below m) b g (fewest m g))) clash)

node_cell : (m : ℕ) (grain b : ℕ) (g : Cells) (o : Option ℕ) → conflict m g ≡ false → fewest m g ≡ o
    → walk grain (tree m b g) ≡ walk grain (at_cell m (below m) b g o)
node_cell m grain b g o fine chosen =
    ap (λ t. walk grain t)
    (tree_is_node m b g ∙ ap (λ c. cond c end (at_cell m (below m) b g (fewest m g))) fine
    ∙ ap (λ x. at_cell m (below m) b g x) chosen)

-- what a walk without budget meets
abbrev pub spent : Met
spent = record { solutions = []; children = []; over = true }

-- a full grid without a conflict is solved
pub node_full : (m : ℕ) (grain b : ℕ) (g : Cells) → conflict m g ≡ false → fewest m g ≡ None → walk grain (tree m b g) ≡ solved g
unfolding at_cell
node_full m grain b g fine full = node_cell m grain b g None fine full

-- a walk without budget is over at a blank cell
pub node_over : (m : ℕ) (grain b : ℕ) (g : Cells) (cell : ℕ) → conflict m g ≡ false → fewest m g ≡ Some cell → b ≡ 0
    → walk grain (tree m b g) ≡ spent
unfolding at_cell
node_over m grain b g cell fine chosen none = node_cell m grain b g (Some cell) fine chosen
    ∙ ap (λ k. walk grain (at_cell m (below m) k g (Some cell))) none

-- what is left of an open node from these digits on
abbrev pub rest_of : ℕ → ℕ → ℕ → ℕ → ℕ → Cells → ℕ → List ℕ → Met
rest_of m grain budget k share g cell ds = walk grain (branches (below m) budget k share g cell ds)

-- the candidates from this digit on
unfoldable pub from_digit : ℕ → Cells → ℕ → ℕ → List ℕ
from_digit m g cell d = filter (λ x. not (used m g cell x)) (count_up d (side m + 1 - d))

digits_from_one : (m : ℕ) (g : Cells) (cell : ℕ) → from_digit m g cell 1 ≡ candidates m g cell
unfolding from_digit
digits_from_one m g cell = let e : side m + 1 - 1 ≡ side m = omega arith in rw e refl

up_more : (n d : ℕ) → d < n + 1 → count_up d (n + 1 - d) ≡ d ∷ count_up (d + 1) (n + 1 - (d + 1))
unfolding count_up
up_more n d less = let e : n + 1 - d ≡ suc (n + 1 - (d + 1)) = omega arith in rw e refl

rest_more : (m : ℕ) (grain budget k share : ℕ) (g : Cells) (cell d : ℕ) (ds : List ℕ)
    → rest_of m grain budget k share g cell (cond (not (used m g cell d)) (d ∷ ds) ds) ≡
    both (at_digit m (hands_out grain budget k) grain share g cell d) (rest_of m grain budget k share g cell ds)
unfolding branches
rest_more m grain budget k share g cell d ds = by_use (used m g cell d) (hands_out grain budget k) refl
  where
    by_use : (u h : Bool) → hands_out grain budget k ≡ h
        → rest_of m grain budget k share g cell (cond (not u) (d ∷ ds) ds) ≡
        both (cond u nothing (cond h (handed_out share (set g cell d)) (walk grain (tree m share (set g cell d)))))
        (rest_of m grain budget k share g cell ds)
    by_use true h is = refl
    by_use false true is = rw is refl
    by_use false false is = rw is refl

-- the digits from one on are that one and those after it
pub digit_next : (m : ℕ) (grain budget k share : ℕ) (g : Cells) (cell d : ℕ) → d < side m + 1
    → rest_of m grain budget k share g cell (from_digit m g cell d) ≡
    both (at_digit m (hands_out grain budget k) grain share g cell d) (rest_of m grain budget k share g cell (from_digit m g cell (d + 1)))
unfolding from_digit
digit_next m grain budget k share g cell d less =
    ap (λ ds. rest_of m grain budget k share g cell (filter (λ x. not (used m g cell x)) ds)) (up_more (side m) d less)
    ∙ rest_more m grain budget k share g cell d (from_digit m g cell (d + 1))

-- after the last digit nothing is left
pub digits_end : (m : ℕ) (grain budget k share : ℕ) (g : Cells) (cell d : ℕ) → side m + 1 ≤ d
    → rest_of m grain budget k share g cell (from_digit m g cell d) ≡ nothing
unfolding from_digit branches count_up
digits_end m grain budget k share g cell d past = let e : side m + 1 - d ≡ 0 = omega arith in rw e refl

-- digits that are used have no child
digit_used : (m : ℕ) (g : Cells) (cell d : ℕ) → d < side m + 1 → used m g cell d ≡ true
    → from_digit m g cell d ≡ from_digit m g cell (d + 1)
unfolding from_digit
digit_used m g cell d less is = ap (λ ds. filter (λ x. not (used m g cell x)) ds) (up_more (side m) d less)
    ∙ ap (λ b. cond (not b) (d ∷ from_digit m g cell (d + 1)) (from_digit m g cell (d + 1))) is

-- digits that are used are skipped
pub digits_skip : (m : ℕ) (g : Cells) (cell d k : ℕ) → d + k ≤ side m + 1 → ((j : ℕ) → d ≤ j → j < d + k → used m g cell j ≡ true)
    → from_digit m g cell d ≡ from_digit m g cell (d + k)
digits_skip m g cell d zero few all = let e : d ≡ d + 0 = omega arith in ap (λ i. from_digit m g cell i) e
digits_skip m g cell d (suc k) few all =
    let e : d + 1 + k ≡ d + suc k = omega arith in
    digit_used m g cell d (omega arith) (all d (omega arith) (omega arith))
    ∙ digits_skip m g cell (d + 1) k (omega arith) (λ j above below. all j (omega arith) (omega arith))
    ∙ ap (λ i. from_digit m g cell i) e

-- a node with a blank cell meets what its digits from 1 on do
pub node_open : (m : ℕ) (grain b : ℕ) (g : Cells) (cell count : ℕ) → conflict m g ≡ false → fewest m g ≡ Some cell → 0 < b
    → count ≡ choices m g cell → rest_of m grain b count ((b - 1) / count) g cell (from_digit m g cell 1) ≡ walk grain (tree m b g)
unfolding at_cell
node_open m grain zero g cell count fine chosen some is = absurd (omega arith)
node_open m grain (suc b) g cell count fine chosen some is =
    let e : suc b - 1 ≡ b = omega arith in
    rw (e, is, digits_from_one m g cell) (sym (node_cell m grain (suc b) g (Some cell) fine chosen))

-- a child's share is less than the budget
pub share_less : (b k : ℕ) → 0 < b → (b - 1) / k < b
share_less b k some = let le : (b - 1) / k ≤ b - 1 = share_falls (b - 1) k in omega arith

-- an open node with no candidate is dead
pub no_candidates : (m : ℕ) (grain b : ℕ) (g : Cells) (cell count : ℕ) → conflict m g ≡ false → fewest m g ≡ Some cell → 0 < b
    → count ≡ choices m g cell → count ≡ 0 → walk grain (tree m b g) ≡ nothing
unfolding branches
no_candidates m grain b g cell count fine chosen some is none =
    sym (node_open m grain b g cell count fine chosen some is)
    ∙ ap (λ ds. rest_of m grain b count ((b - 1) / count) g cell ds)
    (digits_from_one m g cell ∙ empty (candidates m g cell) (sym is ∙ none))
  where
    empty : (ds : List ℕ) → length ds ≡ 0 → ds ≡ []
    empty [] e = refl
    empty (d ∷ ds) e = absurd (omega arith)

or_true : (a : Bool) → (a || true) ≡ true
or_true true = refl
or_true false = refl

-- a solution more is a walk that solved it
pub both_solved : (m : Met) (g : Cells) (s : List Cells) → s ≡ m.solutions ++ g ∷ []
    → record { solutions = s; children = m.children; over = m.over } ≡ both m (solved g)
both_solved m g s is = rw (is, append-nil m.children, or-false m.over) refl

-- a board handed out more is a walk that hands it out
pub both_handed : (m : Met) (share : ℕ) (g : Cells) (cs : List (ℕ × Cells)) → cs ≡ m.children ++ (share, g) ∷ []
    → record { solutions = m.solutions; children = cs; over = m.over } ≡
    both m (record { solutions = []; children = (share, g) ∷ []; over = false })
both_handed m share g cs is = rw (is, append-nil m.solutions, or-false m.over) refl

-- a walk that is over more is a walk that is spent
pub both_spent : (m : Met) → record { solutions = m.solutions; children = m.children; over = true } ≡ both m spent
both_spent m = rw (append-nil m.solutions, append-nil m.children, or_true m.over) refl
