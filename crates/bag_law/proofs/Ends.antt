-- An end that was told has its cause.
use Rattle.std.proofs.Common.{◌≡◌, ℕ, ◌⊎◌, inl, inr, Bool, true, List, Option, Some, None, refl, sym, ap, ◌∙◌, subst, slice_get}
use Rattle.adlb_unit.specs.declared.names.CommonRef.{CommonRef}
use Rattle.adlb_unit.specs.declared.notes.End.{End}
use Rattle.adlb_unit.specs.declared.notes.End.TheVariants as ends_by
use Rattle.bag_ledger.specs.declared.entries.Entry.{Entry}
use Rattle.bag_ledger.specs.declared.entries.Entry.TheVariants.{Putting, Accepted, Keeping, Kept, Closed, Freed, Granted, Fetching, Fetched}
use Rattle.bag_ledger.specs.declared.entries.Entry.TheVariants.{CommonFetched, Promised, Left, Arrived, Withdrawn, Exhausted}
use Rattle.bag_ledger.specs.declared.states.RankState.{RankState}
use Rattle.bag_ledger.specs.Bag.{Bag}
use Rattle.bag_ledger.specs.Steps.{LegalWhere, after, change_at, ended, has_cause, own_fetched}
use Rattle.bag_ledger.proofs.Tests.{some_is}
use Rattle.bag_law.specs.Sound.{EndsHaveCauses}
use Rattle.bag_law.proofs.Turn.{Turned, turned}
use Rattle.bag_law.proofs.Plain.{IsPlain, accepted_is, is_special, kept_is, plain_or_special}

-- a rank has its turn, and is told no end that has no cause
causes_turn : (ranks : List RankState) (c : End → Bool) (place : ℕ) (f : RankState → RankState) (r : RankState)
    → slice_get ranks place ≡ Some r → ((end : End) → (f r).end ≡ Some end → (r.end ≡ Some end) ⊎ (c end ≡ true)) → EndsHaveCauses ranks c
    → EndsHaveCauses (change_at f place ranks) c
causes_turn ranks c place f r there tells is = record { each = λ n v end e told. by_case n v end e told (turned f place ranks r there n) }
  where
    by_case : (n : ℕ) (v : RankState) (end : End) → slice_get (change_at f place ranks) n ≡ Some v → v.end ≡ Some end
        → Turned f place ranks r n → c end ≡ true
    by_case n v end e told (inl t) = by_told (tells end (ap (λ (x : RankState). x.end) (some_is (sym t.1 ∙ e)) ∙ told))
      where
        by_told : (r.end ≡ Some end) ⊎ (c end ≡ true) → c end ≡ true
        by_told (inl old) = is.each place r end there old
        by_told (inr new) = new
    by_case n v end e told (inr t) = is.each n v end (sym t.1 ∙ e) told

causes_own : (ranks : List RankState) (c : End → Bool) (place : ℕ) (common : Option CommonRef) (r : RankState)
    → slice_get ranks place ≡ Some r → EndsHaveCauses ranks c → EndsHaveCauses (change_at (own_fetched common) place ranks) c
causes_own ranks c place None r there is = causes_turn ranks c place ended r there (λ end e. inl e) is
causes_own ranks c place (Some common) r there is = causes_turn ranks c place (own_fetched (Some common)) r there (λ end e. inl e) is

-- the ends of a bag
abbrev pub HasEnds : Bag → Type 0
HasEnds b = EndsHaveCauses b.ranks (has_cause b)

causes_special : (found : Bag → Bool) (b : Bag) (e : Entry) → is_special e ≡ true → LegalWhere found b e → HasEnds b → HasEnds (after b e)
causes_special found b (Putting rank call kind prio target answer body) s l is = causes_turn _ _ rank.0 _ l.0 l.1.0 (λ end e. inl e) is
causes_special found b (Accepted server id) s l is =
    let a = accepted_is b server id l in
    rw (a.ranks, a.done, a.exhausted) (causes_turn _ _ id.rank.0 ended a.r a.there (λ end e. inl e) is)
causes_special found b (Keeping rank call common) s l is = causes_turn _ _ rank.0 _ l.0 l.1.0 (λ end e. inl e) is
causes_special found b (Kept server batch) s l is =
    subst HasEnds (sym (kept_is b server batch l)) (causes_turn _ _ batch.rank.0 _ l.0 l.2 (λ end e. inl e) is)
causes_special found b (Closed server batch) s l is = causes_turn _ _ batch.rank.0 _ l.0 l.4 (λ end e. inl e) is
causes_special found b (Freed server batch) s l is = is
causes_special found b (Granted server rank call id) s l is = causes_turn _ _ rank.0 _ l.0 l.3 (λ end e. inl e) is
causes_special found b (Fetching rank call id) s l is = causes_turn _ _ rank.0 _ l.0 l.3.0 (λ end e. inl e) is
causes_special found b (Fetched server rank id) s l is = causes_own _ _ rank.0 _ l.0 l.3 is
causes_special found b (CommonFetched server rank batch) s l is = causes_turn _ _ rank.0 _ l.0 l.6 (λ end e. inl e) is
causes_special found b (Promised server id n) s l is = is
causes_special found b (Left server to id) s l is = is
causes_special found b (Arrived server id) s l is = is
causes_special found b (Withdrawn server id) s l is = is
causes_special found b Exhausted s l is = record { each = λ n r end e told. rises end (is.each n r end e told) }
  where
    rises : (end : End) → has_cause b end ≡ true → has_cause (after b Exhausted) end ≡ true
    rises ends_by.NoMoreWork c = c
    rises ends_by.Exhausted c = refl
causes_special found b _ s l is = absurd (cc)

-- a legal entry tells no end without its cause
pub ends_stay : (found : Bag → Bool) (b : Bag) (e : Entry) → LegalWhere found b e → HasEnds b → HasEnds (after b e)
ends_stay found b e l is = by_case (plain_or_special found b e l)
  where
    by_case : IsPlain b (after b e) ⊎ (is_special e ≡ true) → HasEnds (after b e)
    by_case (inl p) =
        let more : EndsHaveCauses b.ranks (has_cause (after b e)) =
        record { each = λ n r end there told. p.causes end (is.each n r end there told) } in
        rw p.ranks (causes_turn b.ranks (has_cause (after b e)) p.place p.f p.r p.there (λ end told. by_told end (p.tells end told)) more)
      where
        by_told : (end : End) → (p.r.end ≡ Some end) ⊎ (has_cause b end ≡ true) → (p.r.end ≡ Some end) ⊎ (has_cause (after b e) end ≡ true)
        by_told end (inl old) = inl old
        by_told end (inr new) = inr (p.causes end new)
    by_case (inr s) = causes_special found b e s l is
