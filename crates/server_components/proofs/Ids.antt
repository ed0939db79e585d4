-- Ids of batches, by their order and by their test.
use Rattle.std.proofs.Common.{◌≡◌, ◌∙◌, ◌==◌, ◌&&◌, ℕ, true, false, ap, sym, refl, arith}
use Rattle.std.specs.BTreeMap.{is_at}
use Rattle.std.specs.Ordering.{is_eq, nat_cmp, ordering_then}
use Rattle.std.specs.declared.cmp.Ordering.TheVariants.{Less, Equal, Greater}
use Rattle.std.proofs.lemmas.Bool.Decides.{nat_tests}
use Rattle.adlb_unit.proofs.Same.{same_batch_from, same_batch_is}
use Rattle.adlb_unit.specs.Ids.{same_batch}
use Rattle.adlb_unit.specs.declared.names.BatchId.{BatchId}
use Rattle.server_components.specs.Store.{by_batch}

at_id : (a b r n : ℕ) → is_eq (ordering_then (nat_cmp a r) (nat_cmp b n)) ≡ ((a == r) && (b == n))
at_id a b r n = grind (arith, nat_tests)

-- the order ties exactly ids that are the same
pub at_batch : (a b : BatchId) → is_at (by_batch a) b ≡ same_batch a b
at_batch a b = at_id a.rank.0 a.number b.rank.0 b.number

-- a lesser id is another id
pub less_apart : (a b : BatchId) → by_batch a b ≡ Less → same_batch a b ≡ false
less_apart a b is = sym (at_batch a b) ∙ ap is_eq is

-- ids that are equal in the order pass their test
pub equal_same : (a b : BatchId) → by_batch a b ≡ Equal → same_batch a b ≡ true
equal_same a b is = sym (at_batch a b) ∙ ap is_eq is

-- a greater id is another id
pub greater_apart : (a b : BatchId) → by_batch a b ≡ Greater → same_batch a b ≡ false
greater_apart a b is = sym (at_batch a b) ∙ ap is_eq is

-- an id passes its test with itself
pub same_itself : (a : BatchId) → same_batch a a ≡ true
same_itself a = same_batch_from a a refl

-- ids that are the same are the same as any third
pub same_alike : (a b c : BatchId) → same_batch a b ≡ true → same_batch c b ≡ same_batch c a
same_alike a b c is = ap (same_batch c) (sym (same_batch_is a b is))

-- an id is not the same as two that differ
pub not_both : (a b c : BatchId) → same_batch a b ≡ false → same_batch c b ≡ true → same_batch c a ≡ true → ⊥
not_both a b c apart one other = let e : same_batch a b ≡ true = ap (λ x. same_batch x b) (sym (same_batch_is c a other))
    ∙ one in absurd (cc)
