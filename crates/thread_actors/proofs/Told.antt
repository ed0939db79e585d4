-- Whether a letter told that a server has failed, with one letter more.
use Rattle.thread_actors.proofs.Prelude.{Bool, List, None, Option, Some, Trouble, [], ap, false, refl, sym, told_trouble, true, was_told}
use Rattle.thread_actors.proofs.Prelude.{◌++◌, ◌||◌, ◌∙◌, ◌∷◌, ◌≡◌}
use Rattle.rank_mail.specs.declared.posted.Posted.{Posted}
use Rattle.std.proofs.lemmas.List.Folds.{list_any-append}
use Rattle.std.specs.Prelude.{is_some}

or_true : (b : Bool) → (b || true) ≡ true
or_true true = refl
or_true false = refl

or_false : (b : Bool) → (b || false) ≡ b
or_false true = refl
or_false false = refl

with_last : (before got : List Posted) (x : Posted) → got ≡ before ++ x ∷ [] → was_told got ≡ (was_told before || was_told (x ∷ []))
with_last before got x is = ap was_told is ∙ list_any-append (λ (p : Posted). is_some (told_trouble p.letter.message)) before (x ∷ [])

-- the last one told it
pub told_last : (before : List Posted) (x : Posted) (got : List Posted) (trouble : Trouble) → told_trouble x.letter.message ≡ Some trouble
    → got ≡ before ++ x ∷ [] → true ≡ was_told got
told_last before x got trouble told is =
    let last : was_told (x ∷ []) ≡ true = ap (λ (o : Option Trouble). is_some o || false) told in
    sym (with_last before got x is ∙ ap (λ b. was_told before || b) last ∙ or_true (was_told before))

-- it did not
pub untold_last : (before : List Posted) (x : Posted) (got : List Posted) (told : Bool) → told_trouble x.letter.message ≡ None
    → got ≡ before ++ x ∷ [] → told ≡ was_told before → told ≡ was_told got
untold_last before x got told none is was =
    let last : was_told (x ∷ []) ≡ false = ap (λ (o : Option Trouble). is_some o || false) none in
    was ∙ sym (with_last before got x is ∙ ap (λ b. was_told before || b) last ∙ or_false (was_told before))
