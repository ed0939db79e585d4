-- The ids that are beside a transcript, after one call more.
use Rattle.std.proofs.Common.{◌≡◌, ◌||◌, cond, Result, Ok, Err, Bool, true, false, List, [], ◌∷◌, ◌++◌, refl, sym, ap, ◌∙◌}
use Rattle.std.specs.Prelude.{IsOk, OnOk}
use Rattle.adlb_unit.specs.declared.names.UnitId.{UnitId}
use Rattle.bag_ledger.specs.declared.entries.Said.{Said}
use Rattle.rank_client.specs.Calls.{fetches, grants, is_fetched, is_granted}
use Rattle.rank_client.proofs.Transcripts.{fetched_more, granted_more}

pub cond_or : (t more : Bool) → cond t true more ≡ (t || more)
cond_or true more = refl
cond_or false more = refl

shuffled : (a b c d : Bool) → (a || (b || (c || d))) ≡ ((c || b) || (d || a))
shuffled true true true d = refl
shuffled true true false d = refl
shuffled true false true d = refl
shuffled true false false true = refl
shuffled true false false false = refl
shuffled false true true d = refl
shuffled false true false d = refl
shuffled false false true d = refl
shuffled false false false true = refl
shuffled false false false false = refl

-- the ids of a call are added to those of the calls before
pub named_more : (said : List Said) (s : Said) (id : UnitId) (now between before : Bool) → now ≡ (fetches id s.call || between)
    → between ≡ (grants id s.answer || before) → before ≡ (is_granted id said || is_fetched id said)
    → now ≡ (is_granted id (said ++ s ∷ []) || is_fetched id (said ++ s ∷ []))
named_more said s id now between before last first was =
    last ∙ ap (λ t. fetches id s.call || t) first ∙ ap (λ t. fetches id s.call || (grants id s.answer || t)) was
    ∙ shuffled (fetches id s.call) (grants id s.answer) (is_granted id said) (is_fetched id said)
    ∙ ap (λ t. t || (is_fetched id said || fetches id s.call)) (sym (granted_more id said s))
    ∙ ap (λ t. is_granted id (said ++ s ∷ []) || t) (sym (fetched_more id said s))

-- there are no ids at the start
pub none_named : (id : UnitId) → (is_granted id [] || is_fetched id []) ≡ false
unfolding is_granted is_fetched
none_named id = refl

-- what holds if a call succeeds, where it does
pub when_ok : {T E P : Type 0} (r : Result T E) → IsOk r → OnOk r P → P
when_ok (Ok x) is p = p
when_ok (Err e) is p = absurd (cc)
