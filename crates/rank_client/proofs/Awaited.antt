-- The rule of a letter that the pending call awaits.
use Rattle.std.proofs.Common.{All, Global, Vec, ◌≡◌, ◌≤◌, ◌<◌, ◌+◌, ◌∷◌, ◌++◌, [], ◌^◌, ◌⊎◌, inl, inr, ℕ, List, Option, Some, None, length}
use Rattle.std.proofs.Common.{get_or, set, Bool, true, false, ◌&&◌, not, refl, sym, arith, ap, subst, ◌∙◌}
use Rattle.std.proofs.Math.ListN.{length-set}
use Rattle.std.proofs.lemmas.List.{length_push}
use Rattle.std.specs.Prelude.{if◌then◌else◌, IfSome, IsSome, nat_lt}
use Rattle.std.specs.Option.{option_map}
use Rattle.std.proofs.lemmas.Bool.{and_parts, ltb-true, not-true}
use Rattle.std.proofs.lemmas.List.Elements.{All-push, All-same, All-set}
use Rattle.adlb_unit.specs.declared.letters.Letter.{Letter}
use Rattle.adlb_unit.specs.declared.messages.Message.{Message}
use Rattle.adlb_unit.specs.declared.names.Server.{Server}
use Rattle.adlb_unit.specs.declared.notes.UnitNote.{UnitNote}
use Rattle.bag_ledger.specs.declared.entries.Said.{Said}
use Rattle.rank_client.specs.declared.pendings.Pending.{Pending}
use Rattle.rank_client.specs.declared.pendings.Pending.TheVariants as waits_for
use Rattle.adlb_unit.specs.declared.names.CommonRef.{CommonRef}
use Rattle.std.specs.Vec.{vec_capacity, vec_len}
use Rattle.rank_client.specs.declared.clients.ClientCore.TheInside.{Inside}
use Rattle.adlb_unit.specs.declared.configs.Config.{Config}
use Rattle.adlb_unit.specs.declared.notes.End.{End}
use Rattle.rank_client.specs.declared.outcomes.Change.{Change}
use Rattle.rank_client.specs.declared.outcomes.Change.TheVariants as changes
use Rattle.rank_client.specs.declared.rooms.Room.{Room}
use Rattle.rank_client.specs.inside.{HasRoom, IsFit, IsFresh, IsInside, IsPlaced, IsSound, accepted_after, awaited, batch_after}
use Rattle.rank_client.specs.inside.{handles_after, state_of}
use Rattle.rank_client.specs.Transcript.{TranscriptModel}
use Rattle.rank_client.specs.Rules.{ClientResponse, answer_call}
use Rattle.rank_client.specs.State.{ClientModel}
use Rattle.rank_client.proofs.Insides.{awaited_few, first_letter}
use Rattle.rank_client.specs.Step.{hear, letter_stamp, made, ticked, told_trouble}

-- a call is pending where a letter is awaited
pub busy : (s : ClientModel) (p : Pending) (from : Server) (m : Message) → IsSome (answer_call s p from m) → awaited p ≡ 2
busy s waits_for.Nothing from m some = absurd (cc)
busy s _ from m some = refl

-- The fields stay sound.

-- a fresh client that sends one letter and waits is sound
pub waiting_sound : (s : ClientModel) (pending : Pending) (sent : List ℕ) (to : ℕ) → IsSound s → IsFresh s → to < s.config.servers
    → sent ≡ set s.sent to (get_or s.sent to 0 + 1) → IsSound (record s { pending = pending; sent = sent })
waiting_sound s pending sent to sound fresh there is =
    let P : ℕ → Type 0 = λ n. n ≤ s.clock in
    let here = first_letter s to sound fresh there in
    record {
      me = sound.me;
      servers = ap length is ∙ length-set _ _ _ ∙ sound.servers;
      sent = All-same P _ _ is (All-set P _ _ _ (omega (arith, here)) sound.sent);
      next = sound.next;
      puts = sound.puts;
      accepted = sound.accepted;
      said = sound.said;
      clock = sound.clock;
      batch = sound.batch;
      notes = sound.notes;
    }

-- the call goes on
pub waiting_inside : (i : Inside) (pending : Pending) (room : Room) (sent : Vec ℕ Global) (to : ℕ) → IsInside i → IsFresh (state_of i)
    → to < i.config.servers → awaited i.pending ≡ 2 → HasRoom i.config room pending
    → sent.items ≡ set i.sent.items to (get_or i.sent.items to 0 + 1) → IsInside (record i { pending = pending; room = room; sent = sent })
waiting_inside i pending room sent to inside fresh there busy has is =
    let few = awaited_few pending in record {
      sound = waiting_sound (state_of i) pending sent.items to inside.sound fresh there is;
      room = has;
      space = omega (arith, inside.space, busy, few);
      finish = λ going. let could = inside.finish going in record {
        ids = omega (arith, could.ids, busy, few);
        letters = could.letters;
        unsent = could.unsent;
      };
    }

few_accepted : (accepted clock : ℕ) (change : Change) → accepted < clock → accepted_after accepted change ≤ clock
few_accepted accepted clock changes.Accepted fresh = omega (arith, fresh)
few_accepted accepted clock (changes.Begun part) fresh = omega arith
few_accepted accepted clock _ fresh = omega (arith, fresh)

notes_fit : (config : Config) (handles : List UnitNote) (change : Change) → All (IsPlaced config) handles → IsFit config change
    → All (IsPlaced config) (handles_after handles change)
notes_fit config handles (changes.Granted note) notes fit = All-push (IsPlaced config) handles note notes fit
notes_fit config handles _ notes fit = notes

abbrev IsThere : Config → Option CommonRef → Type 0
IsThere config batch = IfSome batch (λ (part : CommonRef). part.server.0 < config.servers)

batch_fits : (config : Config) (batch : Option CommonRef) (change : Change) → IsThere config batch → IsFit config change
    → IsThere config (batch_after batch change)
batch_fits config batch (changes.Begun part) there fit = fit
batch_fits config batch changes.Closed there fit = tt
batch_fits config batch _ there fit = there

-- the call has its answer
pub ended_inside : (i : Inside) (change : Change) (pending : Pending) (room : Room) (batch : Option CommonRef) (accepted : ℕ)
    (end : Option End) (handles : Vec UnitNote Global) (said : TranscriptModel) (more : Said) → IsInside i → IsFresh (state_of i)
    → IsFit i.config change → awaited i.pending ≡ 2 → waits_for.Nothing ≡ pending → batch ≡ batch_after i.batch change
    → accepted ≡ accepted_after i.accepted change → handles.items ≡ handles_after i.handles.items change
    → vec_len handles ≤ vec_capacity handles → said.items ≡ i.said.items ++ more ∷ []
    → i.said.ids ≤ said.ids + 2
    → IsInside (record i { pending = pending; room = room; batch = batch; accepted = accepted; end = end; handles = handles; said = said })
ended_inside i change pending room batch accepted end handles said more inside fresh fit busy idle batch_is accepted_is notes_is space
    said_is ids =
    let s = inside.sound in
    let N : UnitNote → Type 0 = IsPlaced i.config in
    let none : awaited pending ≡ 1 = ap awaited (sym idle) in record {
      sound = record {
        me = s.me;
        servers = s.servers;
        sent = s.sent;
        next = s.next;
        puts = s.puts;
        accepted = subst (λ n. n ≤ i.clock) (sym accepted_is) (few_accepted i.accepted i.clock change fresh.accepted);
        said = omega (arith, ap length said_is, length_push i.said.items more, fresh.said);
        clock = s.clock;
        notes = All-same N _ _ notes_is (notes_fit i.config i.handles.items change s.notes fit);
        batch = subst (IsThere i.config) (sym batch_is) (batch_fits i.config i.batch change s.batch fit);
      };
      room = subst (λ (p : Pending). HasRoom i.config room p) idle tt;
      space = omega (arith, space, none);
      finish = λ going. let could = inside.finish going in record {
        ids = omega (arith, could.ids, busy, none, ids);
        letters = could.letters;
        unsent = could.unsent;
      };
    }

-- A letter that is expected.

-- a letter that can be heard: its client goes on, its stamp is low, and it is awaited
pub record IsHeard (s : ClientModel) (from : Server) (letter : Letter) : Type 0 where
  pub going : s.finished ≡ false
  pub stamp : letter.stamp < 2 ^ 48
  pub awaited : IsSome (answer_call (ticked s (letter_stamp s letter)) s.pending from letter.message)

some_mapped : (o : Option ClientResponse) → IsSome (option_map made o) → IsSome o
some_mapped None e = absurd (cc)
some_mapped (Some z) e = refl

-- a letter without trouble that has a step can be heard
pub heard_is : (s : ClientModel) (from : Server) (letter : Letter) → told_trouble letter.message ≡ None
    → (IsSome (told_trouble letter.message) ⊎ IsSome (hear s from letter)) → IsHeard s from letter
heard_is s from letter none (inl told) = absurd (cc)
heard_is s from letter none (inr some) = by_test (not s.finished && nat_lt letter.stamp (2 ^ 48)) refl some
  where
    by_test : (t : Bool) → (not s.finished && nat_lt letter.stamp (2 ^ 48)) ≡ t
        → IsSome (if t then option_map made (answer_call (ticked s (letter_stamp s letter)) s.pending from letter.message) else None)
        → IsHeard s from letter
    by_test true is some =
        let parts = and_parts (not s.finished) (nat_lt letter.stamp (2 ^ 48)) is in
        record { going = not-true s.finished parts.0; stamp = ltb-true letter.stamp (2 ^ 48) parts.1; awaited = some_mapped _ some }
    by_test false is some = absurd (cc)

-- an option that has no value is `None`
pub none_left : {X : Type 0} (o : Option X) → ((x : X) → o ≡ Some x → ⊥) → o ≡ None
none_left None other = refl
none_left (Some x) other = absurd (other x refl)
