-- An input of which one byte more than a limit was asked for.
use Rattle.std.proofs.Common.{◌≡◌, ℕ, ◌+◌, ◌<◌, ◌≤◌, Bool, true, false, List, [], length, take, drop, ltb, Option, Some, None}
use Rattle.std.proofs.Common.{refl, sym, ap, ◌∙◌, subst, arith}
use Rattle.std.proofs.lemmas.Bool.{ltb-false, ltb-true}
use Rattle.std.proofs.lemmas.List.{drop_all, length-take-le, take_all}
use Rattle.adlb_io.specs.Inputs.{HasMore, IsAtEnd}
use Rattle.adlb_io.specs.Whole.{Reads}

-- a front that is shorter than it may be is the whole list
short_front : (n : ℕ) (xs : List ℕ) → length (take n xs) < n → length xs < n
short_front n xs less = by_test (ltb (length xs) n) refl
  where
    by_test : (t : Bool) → ltb (length xs) n ≡ t → length xs < n
    by_test true is = ltb-true (length xs) n is
    by_test false is = absurd (omega (arith, less, length-take-le n xs (ltb-false (length xs) n is)))

-- a front is no longer than the list
front_within : (n : ℕ) (xs : List ℕ) → length (take n xs) ≤ length xs
front_within n xs = by_test (ltb (length xs) n) refl
  where
    by_test : (t : Bool) → ltb (length xs) n ≡ t → length (take n xs) ≤ length xs
    by_test true is = omega (arith, ap length (take_all n xs (omega (arith, ltb-true (length xs) n is))))
    by_test false is = omega (arith, ltb-false (length xs) n is, length-take-le n xs (ltb-false (length xs) n is))

-- one byte more than the limit was read, if there was one
module _ (limit : ℕ) (before after : Option (List ℕ)) (read : List ℕ) (reads : Reads before after (limit + 1) read) where
  -- what was read of a telling source is all that it had, if it is not too long
  pub read_whole : (all : List ℕ) → length read ≤ limit → before ≡ Some all → read ≡ all
  read_whole all short told = by_start before refl reads
    where
      by_start : (start : Option (List ℕ)) → before ≡ start → Reads start after (limit + 1) read → read ≡ all
      by_start None is r = let none : None ≡ Some all = sym is ∙ told in absurd (cc)
      by_start (Some bytes) is r =
          let e : Some bytes ≡ Some all = sym is ∙ told in
          let same : bytes ≡ all = cc in
          let less : length (take (limit + 1) bytes) < limit + 1 = omega (arith, ap length r.0, short) in
          r.0 ∙ take_all (limit + 1) bytes (omega (arith, short_front (limit + 1) bytes less)) ∙ same

  -- and nothing is left
  pub read_end : length read ≤ limit → IsAtEnd after
  read_end short = by_start before reads
    where
      by_start : (start : Option (List ℕ)) → Reads start after (limit + 1) read → IsAtEnd after
      by_start None r = subst IsAtEnd (sym r) tt
      by_start (Some bytes) r =
          let less : length (take (limit + 1) bytes) < limit + 1 = omega (arith, ap length r.0, short) in
          let none : drop (limit + 1) bytes ≡ [] =
          drop_all (limit + 1) bytes (omega (arith, short_front (limit + 1) bytes less)) in
          subst IsAtEnd (sym (r.1 ∙ ap Some none)) refl

  -- a source that gave more than an input may have had more
  pub read_too_long : limit < length read → HasMore limit before
  read_too_long long all told = by_start before refl reads
    where
      by_start : (start : Option (List ℕ)) → before ≡ start → Reads start after (limit + 1) read → limit < length all
      by_start None is r = let none : None ≡ Some all = sym is ∙ told in absurd (cc)
      by_start (Some bytes) is r =
          let e : Some bytes ≡ Some all = sym is ∙ told in
          let same : bytes ≡ all = cc in
          omega (arith, long, ap length r.0, front_within (limit + 1) bytes, ap length same)
