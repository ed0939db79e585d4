-- A free unit that fits a list of requests fits one of them, and none lies at a server for a rank that waits there.
use Rattle.adlb_unit.specs.Permit.{permitted}
use Rattle.adlb_unit.specs.declared.names.UnitId.{UnitId}
use Rattle.core_check_law.proofs.Homes.{each_of_all}
use Rattle.core_check_law.proofs.Lists.{each_has}
use Rattle.core_check_law.specs.Settling.{Has}
use Rattle.core_wish_law.proofs.Having.{any_at, any_has, find_has}
use Rattle.exhaust_ring.specs.Ring.{Asker}
use Rattle.server_components.specs.Rest.{HasNoneFor}
use Rattle.server_components.specs.declared.waits.Waiting.{Waiting}
use Rattle.server_law.specs.Acts.{fit_among}
use Rattle.server_law.specs.Calm.{IsCalm}
use Rattle.server_law.specs.State.{Kept, ServerModel}
use Rattle.std.proofs.Common.{List, None, Option, Some, find, refl, true, ◌≡◌}
use Rattle.std.proofs.lemmas.Bool.{and_parts}
use Rattle.std.specs.List.{list_any}
use Rattle.std.specs.Option.{option_map}
use Rattle.std.specs.Prelude.{is_none}
use Rattle.work_queue.proofs.Offers.{offered_is}
use Rattle.work_queue.specs.Best.{IsOffered, offered}
use Rattle.work_queue.specs.Fits.{asked_for}
use Rattle.work_queue.specs.Queue.{id_of}
use Rattle.work_queue.specs.declared.placing.Placed.{Placed}

offers_it : (p : Placed) (a : Asker) → is_none p.pin ≡ true → permitted a.0 a.1 p.unit.kind p.unit.target ≡ true → offered a.0 a.1 p ≡ true
offers_it p a free permits = rw (free, permits) refl

-- the unit that was found, and the request that it fits
pub fit_is : (k : Kept) (asked : List Asker) (id : UnitId) → fit_among k asked ≡ Some id
    → (p : Placed) × Has k.queue.units p × (a : Asker) × Has asked a × (offered a.0 a.1 p ≡ true)
fit_is k asked id is = by_found (find (asked_for asked) k.queue.units) refl is
  where
    by_found : (o : Option Placed) → find (asked_for asked) k.queue.units ≡ o → option_map id_of o ≡ Some id
        → (p : Placed) × Has k.queue.units p × (a : Asker) × Has asked a × (offered a.0 a.1 p ≡ true)
    by_found None e found = absurd (cc)
    by_found (Some p) e found =
        let has = find_has (asked_for asked) k.queue.units p e in
        let parts = and_parts (is_none p.pin) (list_any (λ (a : Asker). permitted a.0 a.1 p.unit.kind p.unit.target) asked) has.1 in
        let x = any_has (λ (a : Asker). permitted a.0 a.1 p.unit.kind p.unit.target) asked parts.1 in
        (p, has.0, x.0, x.1, offers_it p x.0 parts.0 x.2)

-- where a server is calm, no unit is free for a rank that is idle there
pub calm_refuses : (s : ServerModel) (e : Waiting) (p : Placed) → IsCalm s → Has s.kept.parked.waiting e → e.asked ≡ None
    → Has s.kept.queue.units p → offered e.wish.rank e.wish.types p ≡ true → ⊥
calm_refuses s e p calm waits idle at offers =
    let rests = each_has (λ (y : Waiting). y.asked ≡ None → HasNoneFor s.kept.queue y.wish) s.kept.parked.waiting e
    (each_of_all (λ (y : Waiting). y.asked ≡ None → HasNoneFor s.kept.queue y.wish) s.kept.parked.waiting calm) waits in
    rests idle (any_at (IsOffered e.wish.rank e.wish.types) s.kept.queue.units p at (offered_is e.wish.rank e.wish.types p offers))
