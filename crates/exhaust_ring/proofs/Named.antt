-- A list that names ranks of the run, each once, has room for those that wait at one more server.
use Rattle.std.proofs.Common.{◌≡◌, ◌≢◌, ◌<◌, ◌≤◌, ◌+◌, ◌-◌, ◌%◌, ◌||◌, ◌⊎◌, inl, inr, ℕ, Bool, true, List, [], ◌∷◌, ◌++◌, length, map}
use Rattle.std.proofs.Common.{get_or, eqb, None, All, refl, sym, ap, ◌∙◌, subst, arith, length-append}
use Rattle.std.specs.List.{AllPairs, list_any}
use Rattle.std.proofs.lemmas.Bool.{cases_lt, eqb-true}
use Rattle.std.proofs.lemmas.Bool.Decides.{Decides-eqb}
use Rattle.std.proofs.lemmas.List.{get_or_append_left, get_or-append_right, get_or-map, length-map}
use Rattle.std.proofs.lemmas.List.Elements.{All-append, All-get_or}
use Rattle.std.proofs.lemmas.List.Folds.{Any-from_list_any}
use Rattle.std.proofs.lemmas.Map.Made.{IsDistinct-from_AllPairs}
use Rattle.std.proofs.lemmas.Map.Steps.{length-le_from_distinct_below}
use Rattle.adlb_unit.specs.Targets.{home_of}
use Rattle.adlb_unit.specs.declared.configs.Config.{Config}
use Rattle.adlb_unit.specs.declared.names.Rank.{Rank}
use Rattle.adlb_unit.specs.declared.names.Server.{Server}
use Rattle.exhaust_ring.specs.Expected.{AreAway, AreHome, AreNamed, AreParked}
use Rattle.exhaust_ring.specs.Ring.{Asker}

abbrev IsApart : Asker → Asker → Type 0
IsApart a b = a.0.0 ≢ b.0.0

-- the test of a number goes over the ranks as over their numbers
any_number : (test : ℕ → Bool) (asked : List Asker)
    → list_any test (map (λ (a : Asker). a.0.0) asked) ≡ list_any (λ (a : Asker). test a.0.0) asked
any_number test [] = refl
any_number test (a ∷ asked) = ap (λ t. test a.0.0 || t) (any_number test asked)

-- as many as there are ranks at most
pub named_few : (config : Config) (asked : List Asker) → AreNamed config asked → length asked ≤ config.ranks
named_few config asked named =
    let few = length-le_from_distinct_below (map (λ (a : Asker). a.0.0) asked) config.ranks
    (IsDistinct-from_AllPairs Decides-eqb (map (λ (a : Asker). a.0.0) asked) apart) under in
    omega (arith, few, length-map asked (λ (a : Asker). a.0.0))
  where
    some : Asker
    some = (record { 0 = 0 }, None)

    apart : AllPairs (λ a b. a ≢ b) (map (λ (a : Asker). a.0.0) asked)
    apart i j d before within same =
        let last : j < length asked = omega (arith, within, length-map asked (λ (a : Asker). a.0.0)) in
        let first : i < length asked = omega arith in
        named.once i j some before last
        (sym (get_or-map (λ (a : Asker). a.0.0) asked i some d first) ∙ same ∙ get_or-map (λ (a : Asker). a.0.0) asked j some d last)

    under : (q : ℕ) → list_any (eqb q) (map (λ (a : Asker). a.0.0) asked) ≡ true → q < config.ranks
    under q has =
        let at = Any-from_list_any (λ (a : Asker). eqb q a.0.0) asked (sym (any_number (eqb q) asked) ∙ has) in
        let is : q ≡ at.1.0.0 = eqb-true q at.1.0.0 at.4 in
        let low : at.1.0.0 < config.ranks = subst (λ (a : Asker). a.0.0 < config.ranks) at.3 (named.inside at.0 at.1 at.2) in
        omega (arith, is, low)

module _ (config : Config) (me : Server) (asked parked : List Asker) (named : AreNamed config asked) (away : AreAway config me asked)
    (here : AreParked config me parked) where
  -- a rank of the list has its home elsewhere, and one that waits here has it here
  across : (i j : ℕ) (d : Asker) → i < length asked → j < length parked → IsApart (get_or asked i d) (get_or parked j d)
  across i j d first second same =
      let far = All-get_or (λ (a : Asker). home_of config.servers a.0 ≢ me.0) asked i d first away in
      let near = All-get_or (λ (a : Asker). home_of config.servers a.0 ≡ me.0) parked j d second here.home in
      far (ap (λ n. n % config.servers) same ∙ near)

  once : AllPairs IsApart (asked ++ parked)
  once i j d before within = by_first (cases_lt i (length asked)) (cases_lt j (length asked))
    where
      in_second : length asked ≤ j → j - length asked < length parked
      in_second high = omega (arith, within, high, length-append asked parked)

      by_first : (i < length asked) ⊎ (length asked ≤ i) → (j < length asked) ⊎ (length asked ≤ j)
          → IsApart (get_or (asked ++ parked) i d) (get_or (asked ++ parked) j d)
      by_first (inl first) (inl last) =
          rw (get_or_append_left asked parked d i first, get_or_append_left asked parked d j last) (named.once i j d before last)
      by_first (inl first) (inr last) =
          rw (get_or_append_left asked parked d i first, get_or-append_right asked parked (length asked) j d refl last)
          (across i (j - length asked) d first (in_second last))
      by_first (inr first) (inl last) = absurd (omega arith)
      by_first (inr first) (inr last) =
          rw (get_or-append_right asked parked (length asked) i d refl first, get_or-append_right asked parked (length asked) j d refl last)
          (here.named.once (i - length asked) (j - length asked) d (omega arith) (in_second last))

  pub joined_named : AreNamed config (asked ++ parked)
  joined_named = record {
    inside = All-append (λ (a : Asker). a.0.0 < config.ranks) asked parked named.inside here.named.inside;
    once = once;
  }

  pub joined_few : length asked + length parked ≤ config.ranks
  joined_few = omega (arith, named_few config (asked ++ parked) joined_named, length-append asked parked)
