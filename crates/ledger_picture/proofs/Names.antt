-- The names of lanes, one after the other.
use Rattle.std.proofs.Common.{◌≡◌, ◌∙◌, ◌+◌, ◌*◌, ℕ, List, [], ◌++◌, ap, sym, append_assoc, append-nil, add-one}
use Rattle.ledger_picture.specs.Front.{lane_of, lanes}

-- no lane has no name
pub no_lanes : (old word : List ℕ) (top height : ℕ) → old ≡ old ++ lanes word top height 0
unfolding lanes
no_lanes old word top height = sym (append-nil old)

-- one lane more
pub one_more : (old now next word : List ℕ) (top height k : ℕ) → now ≡ old ++ lanes word top height k
    → next ≡ now ++ lane_of word (top + height * k) k → next ≡ old ++ lanes word top height (k + 1)
unfolding lanes
one_more old now next word top height k so_far more =
    rw add-one
    (more ∙ ap (λ x. x ++ lane_of word (top + height * k) k) so_far
    ∙ append_assoc old (lanes word top height k) (lane_of word (top + height * k) k))

-- four pieces after nothing
pub four : (none p q r t front size names rest : List ℕ) → none ≡ [] → p ≡ none ++ front → q ≡ p ++ size → r ≡ q ++ names
    → t ≡ r ++ rest → t ≡ front ++ size ++ names ++ rest
four none p q r t front size names rest e e1 e2 e3 e4 =
    e4 ∙ ap (λ x. x ++ rest) (e3 ∙ ap (λ x. x ++ names) (e2 ∙ ap (λ x. x ++ size) (e1 ∙ ap (λ x. x ++ front) e)))
