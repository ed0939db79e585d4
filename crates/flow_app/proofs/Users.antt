-- One more rule that asks for a number.
use Rattle.std.proofs.Common.{◌≡◌, ◌≢◌, ◌<◌, inl, inr, ℕ, zero, suc, true, List, [], ◌∷◌, ◌++◌, length, get_or, Some, refl, sym, ap, ◌∙◌}
use Rattle.std.proofs.Common.{subst, arith}
use Rattle.std.specs.Prelude.{nat_lt, slice_set}
use Rattle.std.specs.Global.{Vec}
use Rattle.std.proofs.lemmas.Bool.{cases_eq, eqb-true, lt-ltb}
use Rattle.std.proofs.lemmas.List.Folds.{list_all-append}
use Rattle.std.proofs.lemmas.Option.{slice_get-get_or}
use Rattle.flow_app.specs.Linked.{are_below, has, is_number, items_of, users_at}
use Rattle.flow_app.proofs.Storing.{both, has_append, has_push}

same_at : (users : List (Vec ℕ)) (n : ℕ) (v : Vec ℕ) → n < length users → users_at (slice_set users n v) n ≡ v.items
same_at [] n v inside = absurd (omega (arith, inside))
same_at (x ∷ users) zero v inside = refl
same_at (x ∷ users) (suc n) v inside = same_at users n v (omega (arith, inside))

other_at : (users : List (Vec ℕ)) (n i : ℕ) (v : Vec ℕ) → i ≢ n → users_at (slice_set users n v) i ≡ users_at users i
other_at [] n i v other = refl
other_at (x ∷ users) zero zero v other = absurd (other refl)
other_at (x ∷ users) zero (suc i) v other = refl
other_at (x ∷ users) (suc n) zero v other = refl
other_at (x ∷ users) (suc n) (suc i) v other = other_at users n i v (λ same. other (ap suc same))

module _ (users : List (Vec ℕ)) (n rule : ℕ) (v : Vec ℕ) (inside : n < length users) (more : v.items ≡ users_at users n ++ rule ∷ []) where
  at_n : users_at (slice_set users n v) n ≡ users_at users n ++ rule ∷ []
  at_n = same_at users n v inside ∙ more

  -- the rule is noted as a user of its input
  pub rule_noted : (i : ℕ) → is_number (Some n) i ≡ true → has (users_at (slice_set users n v) i) rule ≡ true
  rule_noted i is =
      let same : n ≡ i = eqb-true n i is in
      subst (λ k. has (users_at (slice_set users n v) k) rule ≡ true) same
      (ap (λ l. has l rule) at_n ∙ has_push (users_at users n) rule)

  -- the users of each input stay noted
  pub others_noted : (i q : ℕ) → has (users_at users i) q ≡ true → has (users_at (slice_set users n v) i) q ≡ true
  others_noted i q is = elim (cases_eq i n) [
    | inl same ↦
        let was : has (users_at users n) q ≡ true = subst (λ k. has (users_at users k) q ≡ true) same is in
        subst (λ k. has (users_at (slice_set users n v) k) q ≡ true) (sym same)
        (ap (λ l. has l q) at_n ∙ has_append (users_at users n) (rule ∷ []) q was)
    | inr other ↦ ap (λ l. has l q) (other_at users n i v other) ∙ is
  ]

  -- users below a number stay so with a rule below it
  pub all_below : (m i : ℕ) → rule < m → are_below m (users_at users i) ≡ true → are_below m (users_at (slice_set users n v) i) ≡ true
  all_below m i below are = elim (cases_eq i n) [
    | inl same ↦
        let was : are_below m (users_at users n) ≡ true = subst (λ k. are_below m (users_at users k) ≡ true) same are in
        subst (λ k. are_below m (users_at (slice_set users n v) k) ≡ true) (sym same)
        (ap (are_below m) at_n ∙ list_all-append (λ x. nat_lt x m) (users_at users n) (rule ∷ [])
        ∙ both (are_below m (users_at users n)) (nat_lt rule m) was (lt-ltb rule m below))
    | inr other ↦ ap (are_below m) (other_at users n i v other) ∙ are
  ]

-- one empty list more
pub none_more : (users : List (Vec ℕ)) (v : Vec ℕ) → v.items ≡ [] → ((i : ℕ) → users_at users i ≡ []) → (i : ℕ)
    → users_at (users ++ v ∷ []) i ≡ []
none_more [] v empty none zero = empty
none_more [] v empty none (suc i) = refl
none_more (x ∷ users) v empty none zero = none zero
none_more (x ∷ users) v empty none (suc i) = none_more users v empty (λ k. none (suc k)) i

-- the users of a number, as the list at its place is read
pub users_read : (users : List (Vec ℕ)) (n : ℕ) (v : Vec ℕ) → n < length users → v ≡ get_or users n v → v.items ≡ users_at users n
users_read users n v inside is = sym (ap items_of (slice_get-get_or users n v inside) ∙ ap (λ (w : Vec ℕ). w.items) (sym is))
