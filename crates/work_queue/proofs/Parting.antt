-- Two lists one after the other, and the place in both where a test begins to fail.
use Rattle.std.proofs.Common.{◌≡◌, ◌<◌, ◌≤◌, ◌+◌, ◌-◌, ◌++◌, ℕ, Bool, true, false, List, Option, None, Some, OnSome, length, get_or, refl, sym, ap, ◌∙◌}
use Rattle.std.proofs.Common.{arith, inl, inr, Bor, [], ◌∷◌}
use Rattle.std.specs.Fn.{Called, ComputesKey, Mut}
use Rattle.std.specs.List.Sorted.{IsPartitionPoint, IsPartitionedBy}
use Rattle.std.proofs.lemmas.Bool.{both_ways, cases_lt}
use Rattle.std.proofs.lemmas.List.{length-append, get_or_append_left, get_or-append-add, get_or-append_right, get_or_default}

module _ {X : Type 0} (p : X → Bool) (front back : List X) where
  -- the place from which on the test fails, in a list
  abbrev Point : List X → ℕ → Type 0
  Point xs n = IsPartitionPoint (λ y. p y ≡ true) (λ y. p y ≡ false) xs n

  module _ (parted : IsPartitionedBy p (front ++ back)) where
    -- what passes comes first in each of the two lists
    pub front_parted : IsPartitionedBy p front
    front_parted i j d le within passes =
        let long = length-append front back in
        sym (ap p (get_or_append_left front back d i (omega (arith, le, within))))
        ∙ parted i j d le (omega (arith, long, within)) (ap p (get_or_append_left front back d j within) ∙ passes)

    pub back_parted : IsPartitionedBy p back
    back_parted i j d le within passes =
        let long = length-append front back in
        sym (ap p (get_or-append-add front back i d))
        ∙ parted (length front + i) (length front + j) d (omega (arith, le)) (omega (arith, long, within))
        (ap p (get_or-append-add front back j d) ∙ passes)

    -- if the last of the first list fails, so does all of the other
    pub point_ahead : (last : X) (n : ℕ) → 0 < length front → ((d : X) → get_or front (length front - 1) d ≡ last) → p last ≡ false
        → Point front n → Point (front ++ back) n
    point_ahead last n some read fails point = (
      λ k d from below. elim (cases_lt k (length front)) [
        | inl ahead ↦ ap p (get_or_append_left front back d k ahead) ∙ point.0 k d from below
        | inr behind ↦
            absurd (both_ways (p last) fails (ap p (sym (read d)) ∙ point.0 (length front - 1) d (omega arith) (omega (arith, behind, below))))
      ],
      λ k d from below. elim (cases_lt k (length front)) [
        | inl ahead ↦ ap p (get_or_append_left front back d k ahead) ∙ point.1 k d from ahead
        | inr behind ↦ by_test k d behind below (p (get_or (front ++ back) k d)) refl
      ],
    )
      where
        by_test : (k : ℕ) (d : X) → length front ≤ k → k < length (front ++ back) → (t : Bool) → p (get_or (front ++ back) k d) ≡ t
            → p (get_or (front ++ back) k d) ≡ false
        by_test k d behind below false is = is
        by_test k d behind below true is =
            let here = get_or_append_left front back d (length front - 1) (omega (arith, some)) ∙ read d in
            absurd (both_ways (p last) fails (sym (ap p here) ∙ parted (length front - 1) k d (omega (arith, behind)) below is))

    -- if it passes, or the first list is empty, so does all of the first list
    pub point_behind : (n m : ℕ) → m ≡ length front → ((d : X) → 0 < length front → p (get_or front (length front - 1) d) ≡ true)
        → Point back n → Point (front ++ back) (m + n)
    point_behind n m m_is last point = (
      λ k d from below. elim (cases_lt k (length front)) [
        | inl ahead ↦ ap p (get_or_append_left front back d k ahead)
            ∙ front_parted k (length front - 1) d (omega (arith, ahead)) (omega (arith, ahead)) (last d (omega (arith, ahead)))
        | inr behind ↦ ap p (get_or-append_right front back m k d (sym m_is) (omega (arith, behind, m_is)))
            ∙ point.0 (k - m) d (omega arith) (omega (arith, below, behind, m_is))
      ],
      λ k d from below.
          let long = length-append front back in
          ap p (get_or-append_right front back m k d (sym m_is) (omega (arith, from)))
          ∙ point.1 (k - m) d (omega (arith, from)) (omega (arith, below, long, from, m_is)),
    )

-- the last of a list of this length, whatever is read past its end
pub last_read : {X : Type 0} (list : List X) (last : X) (n : ℕ) → n ≡ length list → 0 < length list → last ≡ get_or list (n - 1) last
    → (d : X) → get_or list (length list - 1) d ≡ last
last_read list last n n_is some read d =
    get_or_default list (length list - 1) d last (omega (arith, some)) ∙ sym (read ∙ ap (λ k. get_or list (k - 1) last) n_is)

-- a call of a test answers as it computes, and leaves a test that does
pub one_call : {F X K : Type 0} (g : Mut F (Bor X × Unit {0}) K) {f f' : F} {x : Bor X} {r : K} (key : X → K) → ComputesKey g key f
    → Called g f (x, tt) r f' → (r ≡ key x.now) × ComputesKey g key f'
one_call g {f} {f'} {x} {r} key computes call =
    ((computes.at ((x, tt) ∷ []) r f' call).0, record { at = λ xs. (computes.at ((x, tt) ∷ xs) r f' call).1 })

-- what follows of an option's value follows of the option
pub after_some : {X : Type 0} (o : Option X) {A B : Type 0} → (A → B) → OnSome o A → OnSome o B
after_some None f none = tt
after_some (Some x) f some = f some
