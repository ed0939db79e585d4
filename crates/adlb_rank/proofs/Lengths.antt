-- A transcript with one call more, or two, is longer.
use Rattle.std.proofs.Common.{◌≡◌, ◌<◌, List, [], ◌∷◌, ◌++◌, length, ap, arith}
use Rattle.std.proofs.lemmas.List.{length_push}
use Rattle.bag_ledger.specs.declared.entries.Said.{Said}

pub one_more : (said now : List Said) (s : Said) → now ≡ said ++ s ∷ [] → length said < length now
one_more said now s is = let one = length_push said s in omega (arith, ap (λ (l : List Said). length l) is, one)

pub two_more : (said now : List Said) (s t : Said) → now ≡ (said ++ s ∷ []) ++ t ∷ [] → length said < length now
two_more said now s t is =
    let one = length_push said s in
    let two = length_push (said ++ s ∷ []) t in
    omega (arith, ap (λ (l : List Said). length l) is, one, two)
