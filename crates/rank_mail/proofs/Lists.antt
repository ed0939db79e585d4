-- Facts on lists, place by place.
use Rattle.std.proofs.Common.{◌≡◌, ◌⊎◌, inl, inr, ◌<◌, ℕ, zero, suc, List, [], ◌∷◌, ◌++◌, length, map, take, drop, set, get_or}
use Rattle.std.proofs.Common.{slice_get, Some, refl, ap, sym, arith}

-- an element of a list with one more at its end
pub get_snoc : {E : Type 0} (es : List E) (e : E) (k : ℕ) (e' : E) → slice_get (es ++ e ∷ []) k ≡ Some e'
    → (slice_get es k ≡ Some e') ⊎ ((k ≡ length es) × (e ≡ e'))
get_snoc [] e zero e' h = inr (refl, cc)
get_snoc [] e (suc k) e' h = absurd cc
get_snoc (x ∷ xs) e zero e' h = inl h
get_snoc (x ∷ xs) e (suc k) e' h = elim (get_snoc xs e k e' h) [ inl a ↦ inl a | inr b ↦ inr (ap suc b.0, b.1) ]

-- what is left after n elements begins with the one at that place
pub get_of_drop : {T : Type 0} (ts rest : List T) (n : ℕ) (t : T) → drop n ts ≡ t ∷ rest → slice_get ts n ≡ Some t
get_of_drop [] rest zero t h = absurd cc
get_of_drop [] rest (suc n) t h = absurd cc
get_of_drop (x ∷ xs) rest zero t h = cc
get_of_drop (x ∷ xs) rest (suc n) t h = get_of_drop xs rest n t h

-- what follows the first of what is left is what is left after one more
pub rest_of_drop : {T : Type 0} (ts rest : List T) (n : ℕ) (t : T) → drop n ts ≡ t ∷ rest → rest ≡ drop (suc n) ts
rest_of_drop [] rest zero t h = absurd cc
rest_of_drop [] rest (suc n) t h = absurd cc
rest_of_drop (x ∷ xs) rest zero t h = cc
rest_of_drop (x ∷ xs) rest (suc n) t h = rest_of_drop xs rest n t h

-- nothing is left of a list after its length
pub drop_past : {T : Type 0} (ts : List T) (n : ℕ) → n ≡ length ts → drop n ts ≡ []
drop_past [] zero h = refl
drop_past [] (suc n) h = refl
drop_past (x ∷ xs) zero h = absurd (omega (arith, h))
drop_past (x ∷ xs) (suc n) h = drop_past xs n (omega (arith, h))

-- a list taken to its length is the list
pub take_whole : {T : Type 0} (ts : List T) (n : ℕ) → n ≡ length ts → take n ts ≡ ts
take_whole [] zero h = refl
take_whole [] (suc n) h = refl
take_whole (x ∷ xs) zero h = absurd (omega (arith, h))
take_whole (x ∷ xs) (suc n) h = ap (λ l. x ∷ l) (take_whole xs n (omega (arith, h)))

-- there is an element at each place within a list
pub there : {T : Type 0} (ts : List T) (k : ℕ) → k < length ts → (t : T) × (slice_get ts k ≡ Some t)
there [] k h = absurd (omega arith)
there (x ∷ xs) zero h = (x, refl)
there (x ∷ xs) (suc k) h = there xs k (omega arith)

-- the element read at a place is there
pub get_there : {T : Type 0} (ts : List T) (k : ℕ) (t : T) → t ≡ get_or ts k t → k < length ts → slice_get ts k ≡ Some t
get_there [] k t e h = absurd (omega (arith, h))
get_there (x ∷ xs) zero t e h = ap Some (sym e)
get_there (x ∷ xs) (suc k) t e h = get_there xs k t e (omega (arith, h))

-- setting an element to itself changes nothing
pub set_same : {T : Type 0} (ts : List T) (k : ℕ) (t : T) → t ≡ get_or ts k t → set ts k t ≡ ts
set_same [] k t e = refl
set_same (x ∷ xs) zero t e = ap (λ y. y ∷ xs) e
set_same (x ∷ xs) (suc k) t e = ap (λ l. x ∷ l) (set_same xs k t e)

-- the first k changed by f
abbrev pub upto : {A : Type 0} → (A → A) → ℕ → List A → List A
upto f k [] = []
upto f zero (x ∷ xs) = x ∷ xs
upto f (suc k) (x ∷ xs) = f x ∷ upto f k xs

-- the first 0 changed is the list
pub upto_none : {A : Type 0} (f : A → A) (xs : List A) → upto f 0 xs ≡ xs
upto_none f [] = refl
upto_none f (x ∷ xs) = refl

-- changing those before a place leaves the one at it
pub upto_at : {A : Type 0} (f : A → A) (k : ℕ) (xs : List A) (d : A) → get_or (upto f k xs) k d ≡ get_or xs k d
upto_at f k [] d = refl
upto_at f zero (x ∷ xs) d = refl
upto_at f (suc k) (x ∷ xs) d = upto_at f k xs d

-- changing one more is changing the next
pub upto_next : {A : Type 0} (f : A → A) (k : ℕ) (xs : List A) (d : A) → k < length xs
    → set (upto f k xs) k (f (get_or xs k d)) ≡ upto f (suc k) xs
upto_next f k [] d h = absurd (omega (arith, h))
upto_next f zero (x ∷ xs) d h = ap (λ l. f x ∷ l) (sym (upto_none f xs))
upto_next f (suc k) (x ∷ xs) d h = ap (λ l. f x ∷ l) (upto_next f k xs d (omega (arith, h)))

-- changing all up to the length is changing each
pub upto_all : {A : Type 0} (f : A → A) (k : ℕ) (xs : List A) → k ≡ length xs → upto f k xs ≡ map f xs
upto_all f k [] h = refl
upto_all f zero (x ∷ xs) h = absurd (omega (arith, h))
upto_all f (suc k) (x ∷ xs) h = ap (λ l. f x ∷ l) (upto_all f k xs (omega (arith, h)))

-- one more of a list that is taken and mapped
pub map_take_next : {A B : Type 0} (g : A → B) (k : ℕ) (xs : List A) (d : A) → k < length xs
    → map g (take k xs) ++ g (get_or xs k d) ∷ [] ≡ map g (take (suc k) xs)
map_take_next g k [] d h = absurd (omega (arith, h))
map_take_next g zero (x ∷ xs) d h = refl
map_take_next g (suc k) (x ∷ xs) d h = ap (λ l. g x ∷ l) (map_take_next g k xs d (omega (arith, h)))
