-- Common parts: what a server stays, and the acts of keeping one.
use Rattle.std.proofs.Common.{◌≡◌, ◌≤◌, ◌+◌, ℕ, Bool, true, false, List, [], ◌∷◌, length, refl, sym, subst, arith}
use Rattle.std.specs.Prelude.{if◌then◌else◌}
use Rattle.std.proofs.lemmas.Bool.{false_from_ne_true, lt-ltb, ltb-true}
use Rattle.adlb_unit.specs.declared.actors.Actor.TheVariants as by
use Rattle.adlb_unit.specs.declared.messages.Message.TheVariants as tells
use Rattle.adlb_unit.specs.declared.names.BatchId.{BatchId}
use Rattle.adlb_unit.specs.declared.names.Rank.{Rank}
use Rattle.bag_ledger.specs.declared.entries.Entry.TheVariants as enters
use Rattle.work_queue.specs.Queue.{Exceeds, Queue, charge_of, with_common, without_common}
use Rattle.server_components.specs.Store.{Store, changed, frees, part_in, released, size_of, with_fresh, fresh}
use Rattle.server_components.specs.declared.parts.Part.{Part}
use Rattle.server_law.specs.Acts.{batch_of, to_rank, unit_of}
use Rattle.server_law.specs.Batches.{keep_now}
use Rattle.server_law.specs.Carried.{counted, posted}
use Rattle.server_law.specs.Finding.{exceeds}
use Rattle.server_law.specs.State.{ServerModel}
use Rattle.server_core.specs.inside.{IsInside, IsSound, bytes_in, state_of}
use Rattle.server_core.specs.Out.{Out, going_on, made, with_answer}
use Rattle.server_core.specs.declared.states.ServerState.TheInside.{Inside}
use Rattle.server_core.proofs.Parts.{changed_within, kept_within}

-- the server with this queue and these parts
abbrev pub with_parts : ServerModel → Queue → Store → ServerModel
with_parts s queue parts = record s { kept = record s.kept { queue = queue; parts = parts } }

-- where it is sound, its fields are as they are to be
parts_inside : {i : Inside} {queue : Queue} {parts : Store} → IsInside i → IsSound (with_parts (state_of i) queue parts)
    → IsInside (record i { queue = queue; parts = parts })
parts_inside inside sound =
    record {
      sound = sound;
      config = inside.config;
      me = inside.me;
      push_config = inside.push_config;
      push_me = inside.push_me;
      ring_config = inside.ring_config;
      ring_me = inside.ring_me;
    }

-- where no unit came and the bytes of parts are charged, it is sound
stays_sound : (s : ServerModel) (queue : Queue) (parts : Store) → IsSound s → queue.arrivals ≡ s.kept.queue.arrivals
    → bytes_in parts ≤ queue.common → IsSound (with_parts s queue parts)
stays_sound s queue parts sound same charged = record {
  finished = sound.finished;
  actors = sound.actors;
  parked = sound.parked;
  arrivals = subst (λ n. n ≤ s.clock) (sym same) sound.arrivals;
  charged = charged;
  check = sound.check;
  activity = sound.activity;
  sent = sound.sent;
  clock = sound.clock;
}

-- a part is kept
pub keep_inside : {i : Inside} {queue : Queue} {parts : Store} (batch : BatchId) (bytes : List ℕ) → IsInside i
    → parts ≡ with_fresh i.parts batch bytes → queue ≡ with_common i.queue (length bytes)
    → IsInside (record i { queue = queue; parts = parts })
keep_inside {i} batch bytes inside kept charged =
    let more = kept_within i.parts batch (fresh bytes) in
    let was = inside.sound.charged in
    let all : bytes_in (with_fresh i.parts batch bytes) ≤ i.queue.common + length bytes = omega (arith, more, was) in
    let now = with_common i.queue (length bytes) in
    rw (kept, charged) (parts_inside inside (stays_sound (state_of i) now (with_fresh i.parts batch bytes) inside.sound refl all))

-- a part is changed
pub change_inside : {i : Inside} {queue : Queue} {parts : Store} (f : Part → Part) → ((p : Part) → (f p).bytes ≡ p.bytes)
    → (batch : BatchId) → IsInside i → parts ≡ changed f i.parts batch → queue ≡ released f i.parts batch i.queue
    → IsInside (record i { queue = queue; parts = parts })
change_inside {i} f keeps batch inside turned freed =
    let q = i.queue in
    let all = changed_within f keeps i.parts batch q inside.sound.charged in
    let same = by_due (frees f i.parts batch) in
    let sound = stays_sound (state_of i) (released f i.parts batch q) (changed f i.parts batch) inside.sound same all in
    rw (turned, freed) (parts_inside inside sound)
  where
    by_due : (t : Bool) → (if t then without_common i.queue (size_of (part_in i.parts batch)) else i.queue).arrivals ≡ i.queue.arrivals
    by_due true = refl
    by_due false = refl

-- The acts.

module _ (s : ServerModel) (out end : Out) (t : ServerModel) (from : Rank) (request : ℕ) (common : List ℕ)
    (working : s.kept.done ≡ false) where
  -- where there is room
  pub keeps_now : {queue : Queue} {parts : Store} → (Exceeds s.kept.queue (length common) → ⊥)
      → parts ≡ with_fresh s.kept.parts (batch_of from request) common → queue ≡ with_common s.kept.queue (length common)
      → t ≡ counted (with_parts s queue parts) (by.Rank from)
      → end ≡ with_answer out (posted (with_parts s queue parts) (to_rank from (tells.Accepted request)))
      (enters.Kept s.me (batch_of from request))
      → made t end ≡ going_on out (keep_now s.kept from request common ∷ []) s
  keeps_now within kept charged after told =
      let q = s.kept.queue in
      let room : exceeds q (length common) ≡ false =
      false_from_ne_true _ (λ is. within (ltb-true q.limit (charge_of q + length common) is)) in
      rw (after, told, kept, charged, working, room) refl

  -- without room for it
  pub refuses_now : {queue : Queue} {parts : Store} {charge : ℕ} → Exceeds s.kept.queue (length common)
      → charge ≡ charge_of s.kept.queue
      → parts ≡ s.kept.parts → queue ≡ s.kept.queue
      → t ≡ counted (with_parts s queue parts) (by.Rank from)
      → end ≡ with_answer out (posted (with_parts s queue parts) (to_rank from (tells.Full request charge)))
      (enters.Refused s.me (unit_of from request) charge)
      → made t end ≡ going_on out (keep_now s.kept from request common ∷ []) s
  refuses_now beyond is kept charged after told =
      let q = s.kept.queue in
      let full : exceeds q (length common) ≡ true = lt-ltb q.limit (charge_of q + length common) beyond in
      rw (after, told, kept, charged, working, full, is) refl
