-- The fields of a client stay sound.
use Rattle.std.proofs.Common.{All, Global, Vec, Option, None, true, refl, ◌∷◌, ◌++◌, [], ◌≡◌, ◌≤◌, ◌<◌, ◌+◌, ℕ, List, length, get_or, set}
use Rattle.std.proofs.Common.{arith, Some, ◌∙◌, ap, not}
use Rattle.std.proofs.Math.ListN.{length-set}
use Rattle.std.specs.Vec.{vec_capacity, vec_len}
use Rattle.std.proofs.lemmas.Bool.{and_parts}
use Rattle.std.proofs.lemmas.List.{length_push}
use Rattle.std.proofs.lemmas.List.Elements.{All-filter, All-get_or, All-same, All-set, All-weaker}
use Rattle.adlb_unit.specs.Ids.{same_unit}
use Rattle.adlb_unit.specs.declared.configs.Config.{Config}
use Rattle.adlb_unit.specs.declared.names.UnitId.{UnitId}
use Rattle.adlb_unit.specs.declared.notes.UnitNote.{UnitNote}
use Rattle.bag_ledger.specs.declared.entries.Said.{Said}
use Rattle.rank_client.specs.declared.clients.ClientCore.TheInside.{Inside}
use Rattle.rank_client.specs.Transcript.{TranscriptModel}
use Rattle.rank_client.specs.declared.pendings.Pending.{Pending}
use Rattle.rank_client.specs.declared.pendings.Pending.TheVariants as waits_for
use Rattle.rank_client.specs.declared.rooms.Room.{Room}
use Rattle.rank_client.specs.inside.{HasRoom, IsFresh, IsInside, IsPlaced, IsSound, awaited, state_of, unspent}
use Rattle.rank_client.specs.Rules.{held, is_free, is_idle}
use Rattle.rank_client.specs.State.{ClientModel}
use Rattle.rank_client.specs.Step.{ticked}
use Rattle.rank_client.proofs.Begins.{found_is}

-- a letter to a server is the first of the event
pub first_letter : (s : ClientModel) (to : ℕ) → IsSound s → IsFresh s → to < s.config.servers → get_or s.sent to 0 < s.clock
first_letter s to sound fresh there =
    let P : ℕ → Type 0 = λ n. n < s.clock in
    All-get_or P s.sent to 0 (omega (arith, sound.servers, there)) fresh.sent

-- a pending call awaits two answers at most
pub awaited_few : (pending : Pending) → awaited pending ≤ 2
awaited_few waits_for.Nothing = omega arith
awaited_few _ = omega arith

-- the notes that are still held
kept_notes : (config : Config) (spent : Option UnitId) (handles : List UnitNote) → All (IsPlaced config) handles
    → All (IsPlaced config) (unspent spent handles)
kept_notes config None handles notes = notes
kept_notes config (Some id) handles notes = All-filter (λ n. not (same_unit n.id id)) (IsPlaced config) handles notes

-- a call has begun
begun_sound : (s : ClientModel) (pending : Pending) (puts : ℕ) (sent : List ℕ) (handles before : List UnitNote) (spent : Option UnitId)
    (transcript : List Said) → IsSound s → IsFresh s → puts ≤ s.puts + 1 → length sent ≡ s.config.servers → All (λ n. n ≤ s.clock) sent
    → handles ≡ unspent spent before → before ≡ s.handles → length transcript ≤ s.clock
    → IsSound (record s { pending = pending; next = s.next + 1; puts = puts; sent = sent; handles = handles; transcript = transcript })
begun_sound s pending puts sent handles before spent transcript sound fresh more servers counts spends same said =
    let N : UnitNote → Type 0 = IsPlaced s.config in record {
      me = sound.me;
      servers = servers;
      sent = counts;
      next = omega (arith, fresh.next);
      puts = omega (arith, fresh.puts, more);
      accepted = sound.accepted;
      said = said;
      clock = sound.clock;
      batch = sound.batch;
      notes = All-same N _ _ (spends ∙ ap (unspent spent) same) (kept_notes s.config spent s.handles sound.notes);
    }

-- and waits for an answer, for which a letter was written
pub asks_inside : (i : Inside) (pending : Pending) (room : Room) (puts : ℕ) (sent : Vec ℕ Global) (handles : Vec UnitNote Global)
    (before : List UnitNote) (spent : Option UnitId) (said : TranscriptModel) (to : ℕ) → IsInside i → IsFresh (state_of i)
    → puts ≤ i.puts + 1 → to < i.config.servers → HasRoom i.config room pending
    → sent.items ≡ set i.sent.items to (get_or i.sent.items to 0 + 1)
    → handles.items ≡ unspent spent before → before ≡ i.handles.items → vec_len handles + 1 ≤ vec_capacity handles
    → said.items ≡ i.said.items → 4 ≤ said.ids → IsInside (record i {
      pending = pending;
      room = room;
      next = i.next + 1;
      puts = puts;
      sent = sent;
      handles = handles;
      said = said;
    })
asks_inside i pending room puts sent handles before spent said to inside fresh more there has is spends same space said_is ids =
    let s = inside.sound in
    let P : ℕ → Type 0 = λ n. n ≤ i.clock in
    let here = first_letter (state_of i) to s fresh there in
    let few = awaited_few pending in record {
      sound = begun_sound (state_of i) pending puts sent.items handles.items before spent said.items s fresh more
          (ap length is ∙ length-set _ _ _ ∙ s.servers) (All-same P _ _ is (All-set P _ _ _ (omega (arith, here)) s.sent)) spends same
          (omega (arith, ap length said_is, s.said));
      room = has;
      space = omega (arith, space, few);
      finish = λ going. let could = inside.finish going in record {
        ids = omega (arith, ids, few);
        letters = could.letters;
        unsent = could.unsent;
      };
    }

idle_awaits : (pending : Pending) → is_idle pending ≡ true → awaited pending ≡ 1
idle_awaits waits_for.Nothing idle = refl
idle_awaits _ idle = absurd (cc)

-- or is answered at once
pub over_inside : (i : Inside) (puts : ℕ) (handles : Vec UnitNote Global) (before : List UnitNote) (spent : Option UnitId)
    (said between : TranscriptModel) (more_said : Said) → IsInside i → IsFresh (state_of i) → is_free (state_of i) ≡ true
    → puts ≤ i.puts + 1
    → handles.items ≡ unspent spent before → before ≡ i.handles.items → vec_len handles + 1 ≤ vec_capacity handles
    → said.items ≡ between.items ++ more_said ∷ [] → between.items ≡ i.said.items → between.ids ≤ said.ids + 2 → 4 ≤ between.ids
    → IsInside (record i { next = i.next + 1; puts = puts; handles = handles; said = said })
over_inside i puts handles before spent said between more_said inside fresh free more spends same space said_is was ids four =
    let s = inside.sound in
    let none = idle_awaits i.pending (and_parts (is_idle i.pending) (not i.finished) free).0 in record {
      sound = begun_sound (state_of i) i.pending puts i.sent.items handles.items before spent said.items s fresh more s.servers s.sent
          spends same (omega (arith, ap length said_is, length_push between.items more_said, ap length was, fresh.said));
      room = inside.room;
      space = omega (arith, space, none);
      finish = λ going. let could = inside.finish going in record {
        ids = omega (arith, none, ids, four);
        letters = could.letters;
        unsent = could.unsent;
      };
    }

-- a unit that is held is at a server
pub held_server : (s : ClientModel) (id : UnitId) (note : UnitNote) → IsSound s → held s id ≡ Some note → IsPlaced s.config note
held_server s id note sound is = (found_is (IsPlaced s.config) id s.handles note is sound.notes).1

-- an event has its stamp
pub ticks : (s : ClientModel) (stamp : ℕ) → IsSound s → s.clock < stamp → IsFresh (ticked s stamp)
ticks s stamp sound later =
    let P : ℕ → Type 0 = λ n. n ≤ s.clock in
    let Q : ℕ → Type 0 = λ n. n < stamp in
    record {
      sent = All-weaker P Q (λ n low. omega (arith, low, later)) s.sent sound.sent;
      next = omega (arith, sound.next);
      puts = omega (arith, sound.puts);
      accepted = omega (arith, sound.accepted);
      said = omega (arith, sound.said);
    }
