-- What holds of a step's result, where there is one.
use Rattle.std.proofs.Common.{◌≡◌, Bool, true, false, cond, Option, Some, None, refl}
use Rattle.std.specs.Option.{option_map}

-- it holds of the value, if there is one
abbrev pub OnSome : {X : Type 0} → Option X → (X → Type 0) → Type 0
OnSome None P = Unit {0}
OnSome (Some x) P = P x

-- of a value that is there if a test passes
pub if_some : {X : Type 0} (P : X → Type 0) (t : Bool) (o : Option X) → (t ≡ true → OnSome o P) → OnSome (cond t o None) P
if_some P true o h = h refl
if_some P false o h = tt

-- of a value that is mapped
pub mapped_some : {X Y : Type 0} (P : Y → Type 0) (f : X → Y) (o : Option X) → OnSome o (λ x. P (f x)) → OnSome (option_map f o) P
mapped_some P f None h = tt
mapped_some P f (Some x) h = h

-- of the value that is there
pub on_some : {X : Type 0} (P : X → Type 0) (o : Option X) (x : X) → OnSome o P → o ≡ Some x → P x
on_some P None x h e = absurd (cc)
on_some P (Some y) x h e = let same : y ≡ x = cc in rw (← same) h
