-- The common bytes of a batch stay, so a unit is the same parcel at any time.
use Rattle.std.proofs.Common.{◌≡◌, ℕ, ◌+◌, ◌⊎◌, inl, inr, true, List, [], ◌∷◌, length, Option, Some, None, refl, sym, ap, ◌∙◌, subst}
use Rattle.std.specs.Prelude.{option_map}
use Rattle.adlb_unit.specs.declared.names.BatchId.{BatchId}
use Rattle.adlb_unit.specs.declared.names.CommonRef.{CommonRef}
use Rattle.adlb_unit.specs.declared.units.Unit.{Unit}
use Rattle.adlb_unit.specs.Ids.{same_batch}
use Rattle.bag_ledger.specs.declared.entries.Answer.{Answer}
use Rattle.bag_ledger.specs.declared.entries.Answer.TheVariants as answers
use Rattle.bag_ledger.specs.declared.entries.Call.{Call}
use Rattle.bag_ledger.specs.declared.entries.Call.TheVariants as calls_to
use Rattle.bag_ledger.specs.declared.entries.Entry.{Entry}
use Rattle.bag_ledger.specs.declared.entries.Entry.TheVariants.{Accepted, Kept, Closed, Freed, CommonFetched}
use Rattle.bag_ledger.specs.declared.states.Part.{Part}
use Rattle.bag_ledger.specs.Bag.{Bag, part_of}
use Rattle.bag_ledger.specs.Steps.{Legal, after, change_first, new_part}
use Rattle.bag_ledger.proofs.Lookups.{find_before}
use Rattle.bag_law.specs.Counts.{part_in}
use Rattle.bag_law.specs.Sound.{IsSoundBag}
use Rattle.bag_law.proofs.Facts.{are_found}
use Rattle.bag_law.proofs.Plain.{accepted_is, kept_is, shared_parts}
use Rattle.bag_law.proofs.Turn.{part_is}
use Rattle.balance_law.specs.Parcels.{Parcel, batch_after}
use Rattle.balance_law.proofs.Paths.{IsPath}
use Rattle.balance_law.proofs.Deeds.{BatchGoes, IsNotFine}

-- the common bytes of the batch, if there is one
abbrev pub bytes_in : Bag → Option CommonRef → Option (List ℕ)
bytes_in b None = None
bytes_in b (Some c) = option_map (λ p. p.common) (part_of b c.batch)

-- what whoever gets the unit sees of it, where these are the parts
abbrev pub parcel_of : Bag → Unit → Parcel
parcel_of b u = record { kind = u.kind; prio = u.prio; answer = u.answer; common = bytes_in b u.common; long = length u.body; own = u.body }

-- the part of the batch is there with these bytes
abbrev HasBytes : List Part → BatchId → List ℕ → Type 0
HasBytes parts batch bytes = (p : Part) × (part_in parts batch ≡ Some p) × (p.common ≡ bytes)

changed_bytes : (g : Part → Part) → ((p : Part) → (g p).batch ≡ p.batch) → ((p : Part) → (g p).common ≡ p.common)
    → (batch x : BatchId) (ps : List Part) (p : Part) → part_in ps x ≡ Some p
    → HasBytes (change_first g (λ q. same_batch q.batch batch) ps) x p.common
changed_bytes g named same batch x ps p found =
    let q = part_is g named batch x ps p found in
    (q.0, q.1, by_case q.0 q.2)
  where
    by_case : (q : Part) → (q ≡ p) ⊎ ((x ≡ batch) × (q ≡ g p)) → q.common ≡ p.common
    by_case q (inl is) = ap (λ (y : Part). y.common) is
    by_case q (inr is) = ap (λ (y : Part). y.common) is.1 ∙ same p

shared_bytes : (o : Option CommonRef) (x : BatchId) (ps : List Part) (p : Part) → part_in ps x ≡ Some p
    → HasBytes (shared_parts o ps) x p.common
shared_bytes None x ps p found = (p, found, refl)
shared_bytes (Some c) x ps p found =
    changed_bytes (λ p. record p { accepted = p.accepted + 1 }) (λ p. refl) (λ p. refl) c.batch x ps p found

bytes_stay : (b : Bag) (e : Entry) → Legal b e → (x : BatchId) (p : Part) → part_of b x ≡ Some p → HasBytes (after b e).parts x p.common
bytes_stay b (Accepted server id) l x p found =
    let a = accepted_is b server id l in
    rw a.parts (shared_bytes a.u.common x b.parts p found)
bytes_stay b (Kept server batch) l x p found =
    rw (kept_is b server batch l) (p, find_before (λ q. same_batch q.batch x) b.parts (new_part server batch l.1 ∷ []) p found, refl)
bytes_stay b (Closed server batch) l x p found =
    changed_bytes (λ p. record p { closed = true }) (λ p. refl) (λ p. refl) batch x b.parts p found
bytes_stay b (Freed server batch) l x p found =
    changed_bytes (λ p. record p { freed = true }) (λ p. refl) (λ p. refl) batch x b.parts p found
bytes_stay b (CommonFetched server rank batch) l x p found =
    changed_bytes (λ p. record p { fetched = p.fetched + 1 }) (λ p. refl) (λ p. refl) batch x b.parts p found
bytes_stay b _ l x p found = (p, found, refl)

last_bytes : (b last : Bag) (es : List Entry) → IsPath b es last → (x : BatchId) (p : Part) → part_of b x ≡ Some p
    → HasBytes last.parts x p.common
last_bytes b last [] path x p found = subst (λ (v : Bag). HasBytes v.parts x p.common) path (p, found, refl)
last_bytes b last (e ∷ es) path x p found =
    let q = bytes_stay b e path.0 x p found in
    let r = last_bytes (after b e) last es path.1 x q.0 q.1 in
    (r.0, r.1, r.2 ∙ q.2)

-- the bytes of a part in the end are those that it has
pub bytes_are : (b last : Bag) (es : List Entry) → IsPath b es last → (c : CommonRef) (p : Part) → part_of b c.batch ≡ Some p
    → bytes_in last (Some c) ≡ Some p.common
bytes_are b last es path c p found =
    let q = last_bytes b last es path c.batch p found in
    ap (λ o. option_map (λ (p : Part). p.common) o) q.1 ∙ ap Some q.2

-- an answer other than Fine leaves the batch
pub batch_kept : (batch : Option (List ℕ)) (call : Call) (answer : Answer) → IsNotFine answer → batch_after batch call answer ≡ batch
batch_kept batch (calls_to.BeginBatch common) answers.Fine not = absurd not
batch_kept batch calls_to.EndBatch answers.Fine not = absurd not
batch_kept batch call answer not = refl

-- the common bytes of the batch that is going on, as the calls tell them, are those of the rank's batch
pub batch_told : (b last : Bag) (es : List Entry) → IsPath b es last → IsSoundBag b
    → (batch : Option (List ℕ)) (call : Call) (answer : Answer) (was now : Option CommonRef) → BatchGoes b call answer was now
    → batch ≡ bytes_in last was → batch_after batch call answer ≡ bytes_in last now
batch_told b last es path sound batch (calls_to.BeginBatch common) answers.Fine was now goes is =
    let found : part_of b goes.ref.batch ≡ Some goes.part =
    ap (part_of b) (sym goes.named) ∙ (are_found b sound).part goes.part goes.there in
    sym (ap (bytes_in last) goes.is ∙ bytes_are b last es path goes.ref goes.part found ∙ ap Some goes.bytes)
batch_told b last es path sound batch calls_to.EndBatch answers.Fine was now goes is = sym (ap (bytes_in last) goes)
batch_told b last es path sound batch call answer was now goes is = is ∙ sym (ap (bytes_in last) goes)
