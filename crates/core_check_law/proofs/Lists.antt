-- What is in a list, and the ranks that wait.
use Rattle.std.proofs.Common.{◌≡◌, ◌<◌, ◌⊎◌, inl, inr, ℕ, zero, suc, Bool, true, false, cond, List, [], ◌∷◌, ◌++◌, filter, map, length}
use Rattle.std.proofs.Common.{get_or, refl, ap, subst, arith}
use Rattle.std.proofs.lemmas.Nat.{mod_below}
use Rattle.adlb_unit.specs.Targets.{home}
use Rattle.adlb_unit.specs.declared.configs.Config.{Config}
use Rattle.adlb_unit.specs.declared.names.Rank.{Rank}
use Rattle.server_components.specs.declared.waits.Waiting.{Waiting}
use Rattle.server_components.specs.declared.wishes.Wish.{Wish}
use Rattle.core_law.specs.OnLinks.{Each}
use Rattle.core_check_law.specs.Settling.{Has, wish_of}

-- a mapped list has the image of what the list has
pub has_map : {X Y : Type 0} (f : X → Y) (xs : List X) (x : X) → Has xs x → Has (map f xs) (f x)
has_map f [] x has = absurd has
has_map f (y ∷ ys) x (inl same) = inl (ap f same)
has_map f (y ∷ ys) x (inr later) = inr (has_map f ys x later)

-- a list has what a filtered one has
pub has_filter : {X : Type 0} (p : X → Bool) (xs : List X) (x : X) → Has (filter p xs) x → Has xs x
has_filter p [] x has = absurd has
has_filter p (y ∷ ys) x has = by_test (p y) (has_filter p ys x) has
  where
    by_test : (t : Bool) → (Has (filter p ys) x → Has ys x) → Has (cond t (y ∷ filter p ys) (filter p ys)) x → (y ≡ x) ⊎ Has ys x
    by_test true later (inl same) = inl same
    by_test true later (inr h) = inr (later h)
    by_test false later h = inr (later h)

-- a list has the element between two parts
pub has_there : {X : Type 0} (before : List X) (x : X) (behind : List X) → Has (before ++ (x ∷ behind)) x
has_there [] x behind = inl refl
has_there (y ∷ before) x behind = inr (has_there before x behind)

-- a list has what is at its places
pub has_at : {X : Type 0} (xs : List X) (i : ℕ) (x : X) → i < length xs → get_or xs i x ≡ x → Has xs x
has_at [] i x inside is = absurd (omega arith)
has_at (y ∷ ys) zero x inside is = inl is
has_at (y ∷ ys) (suc i) x inside is = inr (has_at ys i x (omega arith) is)

-- what holds of each element holds of one that the list has
pub each_has : {X : Type 0} (P : X → Type 0) (xs : List X) (x : X) → Each P xs → Has xs x → P x
each_has P [] x each has = absurd has
each_has P (y ∷ ys) x each (inl same) = subst P same each.0
each_has P (y ∷ ys) x each (inr later) = each_has P ys x each.1 later

-- what holds of each element for each value
pub each_all : {A X : Type 0} (P : A → X → Type 0) (xs : List X) → ((a : A) → Each (P a) xs) → Each (λ x. (a : A) → P a x) xs
each_all P [] all = tt
each_all P (x ∷ xs) all = ((λ a. (all a).0), each_all P xs (λ a. (all a).1))

-- the rank whose wish it is waits
pub wished_entry : (es : List Waiting) (wish : Wish) → Has (map wish_of es) wish → (e : Waiting) × Has es e × (e.wish ≡ wish)
wished_entry [] wish has = absurd has
wished_entry (e ∷ es) wish (inl same) = (e, inl refl, same)
wished_entry (e ∷ es) wish (inr later) = let x = wished_entry es wish later in (x.0, inr x.1, x.2)

-- the home of a rank is in the run
pub home_below : (config : Config) (r : Rank) → (home config r).0 < config.servers
home_below config r = mod_below r.0 config.servers (config.servers_within.0)
