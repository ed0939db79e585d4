-- Each part is at a server of the run.
use Rattle.std.proofs.Common.{◌≡◌, ◌<◌, ◌+◌, ℕ, Bool, ◌⊎◌, inl, inr, true, [], ◌∷◌, ◌++◌, List, Option, Some, None, refl, sym, subst}
use Rattle.std.specs.Prelude.{option_and_then}
use Rattle.adlb_unit.specs.Ids.{same_batch}
use Rattle.adlb_unit.specs.declared.names.BatchId.{BatchId}
use Rattle.adlb_unit.specs.declared.names.CommonRef.{CommonRef}
use Rattle.bag_ledger.specs.declared.entries.Entry.{Entry}
use Rattle.bag_ledger.specs.declared.entries.Entry.TheVariants.{Accepted, Kept, Closed, Freed, CommonFetched}
use Rattle.bag_ledger.specs.declared.states.Part.{Part}
use Rattle.bag_ledger.specs.declared.states.UnitPlace.TheVariants.{Free}
use Rattle.bag_ledger.specs.Bag.{Bag, putting, rank_at}
use Rattle.bag_ledger.specs.Steps.{LegalWhere, after, change_first, ended, new_part, shared, taken, with_rank}
use Rattle.bag_ledger.proofs.Charge.{unit_put}
use Rattle.bag_ledger.proofs.Lookups.{find_appended}
use Rattle.bag_law.specs.Sound.{PartsAreThere}
use Rattle.bag_law.specs.Counts.{part_in}
use Rattle.bag_law.proofs.Plain.{kept_is}
use Rattle.bag_law.proofs.Turn.{PartWas, part_was}

-- each part is at a server of the run
abbrev pub AreThere : Bag → Type 0
AreThere b = PartsAreThere b.parts b.servers

there_changed : (ps : List Part) (servers : ℕ) (batch : BatchId) (g : Part → Part) → ((p : Part) → (g p).batch ≡ p.batch)
    → ((p : Part) → (g p).server ≡ p.server) → PartsAreThere ps servers
    → PartsAreThere (change_first g (λ q. same_batch q.batch batch) ps) servers
there_changed ps servers batch g same stays is = record { each = λ x p found. by_was x p (part_was g same batch x ps p found) }
  where
    by_was : (x : BatchId) (p : Part) → PartWas g batch x ps p → p.server.0 < servers
    by_was x p (inl w) = rw (w.1.2, stays w.1.0) (is.each batch w.1.0 w.1.1)
    by_was x p (inr w) = is.each x p w.1

there_shared : (b : Bag) (common : Option CommonRef) → AreThere b → AreThere (shared common b)
there_shared b None is = is
there_shared b (Some c) is =
    there_changed b.parts b.servers c.batch (λ p. record p { accepted = p.accepted + 1 }) (λ p. refl) (λ p. refl) is

-- a legal entry keeps parts at servers of the run
pub there_stays : (found : Bag → Bool) (b : Bag) (e : Entry) → LegalWhere found b e → AreThere b → AreThere (after b e)
there_stays found b (Accepted server id) l is =
    let put : option_and_then (λ r. putting r.status) (rank_at b id.rank) ≡ Some l.1 =
    unit_put (λ r. putting r.status) (rank_at b id.rank) l.0 l.1 l.2 (rw l.3 refl) in
    let more : Bag = record b { units = b.units ++ record { unit = l.1; place = Free server } ∷ [] } in
    subst (λ o. AreThere (with_rank id.rank ended (taken server o b))) (sym put) (there_shared more l.1.common is)
there_stays found b (Kept server batch) l is =
    subst AreThere (sym (kept_is b server batch l))
    (record { each = λ x p at. by_place x p (find_appended (λ q. same_batch q.batch x) b.parts (new_part server batch l.1) p at) })
  where
    by_place : (x : BatchId) (p : Part)
        → (part_in b.parts x ≡ Some p) ⊎ ((same_batch (new_part server batch l.1).batch x ≡ true) × (new_part server batch l.1 ≡ p))
        → p.server.0 < b.servers
    by_place x p (inl before) = is.each x p before
    by_place x p (inr last) = rw (← last.1) l.4
there_stays found b (Closed server batch) l is =
    there_changed b.parts b.servers batch (λ p. record p { closed = true }) (λ p. refl) (λ p. refl) is
there_stays found b (Freed server batch) l is =
    there_changed b.parts b.servers batch (λ p. record p { freed = true }) (λ p. refl) (λ p. refl) is
there_stays found b (CommonFetched server rank batch) l is =
    there_changed b.parts b.servers batch (λ p. record p { fetched = p.fetched + 1 }) (λ p. refl) (λ p. refl) is
there_stays found b _ l is = is
