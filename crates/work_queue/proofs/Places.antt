-- What is at a place of the list of units.
use Rattle.std.proofs.Common.{◌≡◌, ◌<◌, ◌≤◌, ◌↔◌, ℕ, List, length, get_or, None, refl, sym, ap, ◌∙◌, arith, inl, inr, IsNone}
use Rattle.std.specs.List.{slice_get}
use Rattle.std.specs.Option.{option_map}
use Rattle.std.proofs.lemmas.Bool.{true≢false}
use Rattle.std.proofs.lemmas.List.{get_or_default}
use Rattle.std.proofs.lemmas.Option.{slice_get_cases, slice_get_past}
use Rattle.slab.specs.Slab.{get}
use Rattle.work_queue.proofs.Found.{not_within}
use Rattle.work_queue.proofs.Units.{length-units, unit_under}
use Rattle.work_queue.specs.inside.{IsSound}
use Rattle.work_queue.specs.Queue.{seen}
use Rattle.work_queue.specs.inside.Units.{units_at}
use Rattle.work_queue.specs.declared.placing.Placed.{Placed}
use Rattle.work_queue.specs.declared.queues.WorkQueue.TheInside.{Inside}

-- the unit under a key is the one at its place
pub seen_there : (w : Inside) (place key : ℕ) → IsSound w → place < length w.order.items → key ≡ get_or w.order.items place key
    → option_map seen (get w.slots key) ≡ option_map seen (slice_get (units_at w.slots w.order.items) place)
seen_there w place key sound within read =
    let is : key ≡ get_or w.order.items place 0 = read ∙ get_or_default w.order.items place key 0 within in
    ap (λ o. option_map seen o) (ap (λ k. get w.slots k) is ∙ sym (unit_under w.slots w.order.items sound.there place within))

-- past the order there is no unit
pub seen_past : (w : Inside) (place : ℕ) → IsSound w → (place < length w.order.items → ⊥)
    → None ≡ option_map seen (slice_get (units_at w.slots w.order.items) place)
seen_past w place sound past =
    let long = length-units w.slots w.order.items sound.there in
    let beyond = not_within place (length w.order.items) past in
    sym (ap (λ o. option_map seen o) (slice_get_past (units_at w.slots w.order.items) place (omega (arith, long, beyond))))

-- there is no unit at a place exactly if the place is past the list
pub none_past : (units : List Placed) (place : ℕ) → IsNone (option_map seen (slice_get units place)) ↔ (length units ≤ place)
none_past units place =
    elim (slice_get_cases units place).1 [
      | inl h ↦ (λ none. absurd (true≢false (rw h.2 at none)), λ past. absurd (omega (arith, h.1, past)))
      | inr h ↦ (λ none. h.0, λ past. rw h.1 refl)
    ]
