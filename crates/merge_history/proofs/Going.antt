-- A ledger of what is kept, entry by entry.
use Rattle.std.proofs.Common.{◌≡◌, ◌<◌, ℕ, zero, suc, List, [], ◌∷◌, ◌++◌, length, map, get_or, set, Some, None, refl, ap, sym, ◌∙◌, arith}
use Rattle.std.proofs.lemmas.List.{map-append}
use Rattle.bag_ledger.specs.declared.entries.Entry.{Entry}
use Rattle.flat_merge.specs.Taking.{Climbs, IsLeast, IsMerging}
use Rattle.flat_merge.proofs.Taking.{merging_end, merging_start, merging_step}
use Rattle.packed_ledger.specs.declared.stamped.Stamped.{Stamped}
use Rattle.merge_history.specs.Merging.{IsLedgerOf, stamp_at}

-- these entries are in the ledger, and these lists are left
pub record IsGoing (initial left : List (List Stamped)) (ledger : List Entry) : Type 0 where
  pub merged : List (ℕ × Stamped)
  pub merging : IsMerging stamp_at initial left merged
  pub entries : ledger ≡ map (λ x. x.1.entry) merged

pub going_start : (initial left : List (List Stamped)) (ledger : List Entry) → left ≡ initial → ledger ≡ []
    → ((a : ℕ) → Climbs stamp_at (get_or initial a []))
    → IsGoing initial left ledger
going_start initial left ledger same none climbs =
    rw (same, none) (record { merged = []; merging = merging_start stamp_at initial climbs; entries = refl })

pub going_on : (initial left : List (List Stamped)) (ledger : List Entry) (at : ℕ) (first : Stamped) (rest : List Stamped)
    → IsGoing initial left ledger → IsLeast stamp_at left (Some at) → get_or left at [] ≡ first ∷ rest
    → IsGoing initial (set left at rest) (ledger ++ first.entry ∷ [])
going_on initial left ledger at first rest going least is = record {
  merged = going.merged ++ (at, first) ∷ [];
  merging = merging_step stamp_at initial left going.merged at least.1.0 first least.1.1 rest going.merging least.0 least.1.2 least.1.3 is;
  entries =
      ap (λ l. l ++ first.entry ∷ []) going.entries
      ∙ sym (map-append (λ (x : ℕ × Stamped). x.1.entry) going.merged ((at, first) ∷ []));
}

pub going_ended : (initial left : List (List Stamped)) (ledger : List Entry) → IsGoing initial left ledger → IsLeast stamp_at left None
    → IsLedgerOf initial ledger
going_ended initial left ledger going least = record {
  merged = going.merged;
  is = merging_end stamp_at initial left going.merged going.merging least;
  entries = going.entries;
}

-- what is read at a place
pub read_at : (ls : List (List Stamped)) (k : ℕ) (l : List Stamped) → k < length ls → l ≡ get_or ls k l → get_or ls k [] ≡ l
read_at [] k l h e = absurd (omega (arith, h))
read_at (d ∷ ds) zero l h e = sym e
read_at (d ∷ ds) (suc k) l h e = read_at ds k l (omega (arith, h)) e
