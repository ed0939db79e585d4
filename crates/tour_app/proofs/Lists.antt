-- Tours that stay, and tasks, as lists.
use Rattle.std.proofs.Common.{◌≡◌, ◌<◌, ◌≤◌, ◌+◌, ℕ, Bool, true, false, List, [], ◌∷◌, ◌++◌, map, length, MatchBool, Option, Some, None}
use Rattle.std.proofs.Common.{refl, sym, ap, ◌∙◌, subst, arith, append_assoc, append-nil}
use Rattle.std.specs.Prelude.{flat_map}
use Rattle.std.proofs.lemmas.List.{length_push, map-append}
use Rattle.work_law.specs.Books.{Task, Put, put_all}
use Rattle.work_law.specs.Work.{Arrival, Work, arrival, made_by}
use Rattle.tour_app.specs.Works.{found, found_at, found_in, left_over, tours}
use Rattle.tour_app.specs.declared.units.TourUnit.{TourUnit}

-- what is made of two lists is what is made of each, one after the other
pub flat-append : {X Y : Type 0} (f : X → List Y) (xs ys : List X) → flat_map f (xs ++ ys) ≡ flat_map f xs ++ flat_map f ys
flat-append f [] ys = refl
flat-append f (x ∷ xs) ys = ap (λ l. f x ++ l) (flat-append f xs ys) ∙ sym (append_assoc (f x) (flat_map f xs) (flat_map f ys))

-- what stays when one more unit came
pub found_more : (came : List (Arrival TourUnit)) (a : Arrival TourUnit) → found (came ++ a ∷ []) ≡ found came ++ found_in a.unit
found_more came a =
    flat-append (λ (x : Arrival TourUnit). found_in x.unit) came (a ∷ []) ∙ ap (λ l. found came ++ l) (append-nil (found_in a.unit))

-- the tours among what waits and the rest
pub left_waiting : (units : List TourUnit) (rest : List (Task TourUnit)) → left_over rest ≡ [] →
    left_over (put_all units ++ rest) ≡ flat_map found_in units
left_waiting [] rest bare = bare
left_waiting (x ∷ units) rest bare = ap (λ l. found_in x ++ l) (left_waiting units rest bare)

-- tasks that put two lists are those of each
pub put_more : (xs ys : List TourUnit) (rest : List (Task TourUnit)) → put_all (xs ++ ys) ++ rest ≡ put_all xs ++ (put_all ys ++ rest)
put_more xs ys rest = ap (λ ts. ts ++ rest) (map-append Put xs ys) ∙ append_assoc (put_all xs) (put_all ys) rest

-- a list with one element more is no shorter than before
pub grows : {X : Type 0} (n : ℕ) (xs new : List X) (x : X) → n ≤ length xs → new ≡ xs ++ x ∷ [] → n ≤ length new
grows n xs new x h e = omega (arith, h, length_push xs x, ap length e)

-- where the test passes, the first case is so
pub all_is : (A B : Type 0) (b : Bool) → b ≡ true → MatchBool b A B → A
all_is A B b holds fact = subst (λ t. MatchBool t A B) holds fact

-- where the test fails, the second case is so
pub not_all_is : (A B : Type 0) (b : Bool) → b ≡ false → MatchBool b A B → B
not_all_is A B b fails fact = subst (λ t. MatchBool t A B) fails fact
