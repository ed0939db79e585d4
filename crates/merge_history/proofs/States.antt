-- Two lists, one after the other, place by place.
use Rattle.std.proofs.Common.{◌≡◌, ◌<◌, ◌+◌, ℕ, zero, suc, List, [], ◌∷◌, ◌++◌, length, map, get_or, set, refl, ap, arith}

pub or_left : {T : Type 0} (xs ys : List T) (k : ℕ) (d : T) → k < length xs → get_or (xs ++ ys) k d ≡ get_or xs k d
or_left [] ys k d h = absurd (omega (arith, h))
or_left (x ∷ xs) ys zero d h = refl
or_left (x ∷ xs) ys (suc k) d h = or_left xs ys k d (omega (arith, h))

pub or_right : {T : Type 0} (xs ys : List T) (k j : ℕ) (d : T) → length xs + j ≡ k → get_or (xs ++ ys) k d ≡ get_or ys j d
or_right [] ys k j d h = ap (λ n. get_or ys n d) (omega (arith, h))
or_right (x ∷ xs) ys zero j d h = absurd (omega (arith, h))
or_right (x ∷ xs) ys (suc k) j d h = or_right xs ys k j d (omega (arith, h))

pub or_map : {T U : Type 0} (f : T → U) (xs : List T) (k : ℕ) (d : T) (u : U) → k < length xs → get_or (map f xs) k u ≡ f (get_or xs k d)
or_map f [] k d u h = absurd (omega (arith, h))
or_map f (x ∷ xs) zero d u h = refl
or_map f (x ∷ xs) (suc k) d u h = or_map f xs k d u (omega (arith, h))

pub set_left : {T : Type 0} (xs ys : List T) (k : ℕ) (t : T) → k < length xs → set (xs ++ ys) k t ≡ set xs k t ++ ys
set_left [] ys k t h = absurd (omega (arith, h))
set_left (x ∷ xs) ys zero t h = refl
set_left (x ∷ xs) ys (suc k) t h = ap (λ l. x ∷ l) (set_left xs ys k t (omega (arith, h)))

pub set_right : {T : Type 0} (xs ys : List T) (k j : ℕ) (t : T) → length xs + j ≡ k → set (xs ++ ys) k t ≡ xs ++ set ys j t
set_right [] ys k j t h = ap (λ n. set ys n t) (omega (arith, h))
set_right (x ∷ xs) ys zero j t h = absurd (omega (arith, h))
set_right (x ∷ xs) ys (suc k) j t h = ap (λ l. x ∷ l) (set_right xs ys k j t (omega (arith, h)))

pub set_map : {T U : Type 0} (f : T → U) (xs : List T) (k : ℕ) (t : T) → set (map f xs) k (f t) ≡ map f (set xs k t)
set_map f [] k t = refl
set_map f (x ∷ xs) zero t = refl
set_map f (x ∷ xs) (suc k) t = ap (λ l. f x ∷ l) (set_map f xs k t)
