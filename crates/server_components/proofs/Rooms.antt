-- A room that is filled from its front.
use Rattle.std.proofs.Common.{◌≡◌, ◌<◌, ◌≤◌, ◌+◌, ℕ, List, [], ◌∷◌, ◌++◌, length, map, take, drop, set, get_or, ap, sym, ◌∙◌, append_assoc}
use Rattle.std.proofs.Common.{arith}
use Rattle.std.proofs.lemmas.List.{drop_more, length-map, length-take-le, map_push, set_at, take_more}

-- one more is filled with what f makes of the next element
pub fills_more : {X Y : Type 0} (f : X → Y) (xs : List X) (rest room : List Y) (i : ℕ) (x : X) (y : Y) → i < length xs
    → length xs ≤ length rest
    → room ≡ map f (take i xs) ++ drop i rest → get_or xs i x ≡ x → y ≡ f x → set room i y ≡ map f (take (i + 1) xs) ++ drop (i + 1) rest
fills_more {X} {Y} f xs rest room i x y within enough is read made =
    let front = map f (take i xs) in
    let long : length front ≡ i = length-map (take i xs) f ∙ length-take-le i xs (omega (arith, within)) in
    let back : drop i rest ≡ get_or rest i y ∷ drop (i + 1) rest = drop_more rest i y (omega (arith, within, enough)) in
    let more : map f (take (i + 1) xs) ≡ front ++ f x ∷ [] =
    ap (λ l. map f l) (take_more xs i x within ∙ ap (λ z. take i xs ++ z ∷ []) read) ∙ map_push f (take i xs) x in
    ap (λ (l : List Y). set l i y) (is ∙ ap (λ l. front ++ l) back) ∙ set_at front (get_or rest i y) (drop (i + 1) rest) y i long
    ∙ ap (λ z. front ++ z ∷ drop (i + 1) rest) made ∙ joined front (f x) (drop (i + 1) rest) ∙ ap (λ l. l ++ drop (i + 1) rest) (sym more)
  where
    joined : (front : List Y) (z : Y) (l : List Y) → front ++ z ∷ l ≡ (front ++ z ∷ []) ++ l
    joined front z l = sym (append_assoc front (z ∷ []) l)
