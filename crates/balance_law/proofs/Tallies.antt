-- What one answered call adds to the parcels that a rank sent and got.
use Rattle.std.proofs.Common.{◌≡◌, ℕ, ◌+◌, ◌⊎◌, inl, inr, false, List, [], ◌∷◌, ◌++◌, length, map, take, drop, All, Option, Some, None}
use Rattle.std.proofs.Common.{refl, sym, ap, ◌∙◌, arith, append_assoc}
use Rattle.std.proofs.Math.Seq.{take-append_seam, drop-append_seam}
use Rattle.std.proofs.lemmas.List.{map-append}
use Rattle.std.proofs.lemmas.List.Elements.{All-nil, All-cons}
use Rattle.adlb_unit.specs.declared.names.Rank.{Rank}
use Rattle.adlb_unit.specs.declared.names.Server.{Server}
use Rattle.adlb_unit.specs.declared.names.CommonRef.{CommonRef}
use Rattle.adlb_unit.specs.declared.names.UnitId.{UnitId}
use Rattle.adlb_unit.specs.declared.notes.UnitNote.{UnitNote}
use Rattle.adlb_unit.specs.declared.units.Unit.{Unit}
use Rattle.bag_ledger.specs.declared.entries.Entry.{Entry}
use Rattle.bag_ledger.specs.declared.entries.Call.{Call}
use Rattle.bag_ledger.specs.declared.entries.Call.TheVariants as calls_to
use Rattle.bag_ledger.specs.declared.entries.Answer.{Answer}
use Rattle.bag_ledger.specs.declared.entries.Answer.TheVariants as answers
use Rattle.bag_ledger.specs.declared.entries.Said.{Said}
use Rattle.bag_ledger.specs.declared.states.Placed.{Placed}
use Rattle.bag_ledger.specs.declared.states.Part.{Part}
use Rattle.bag_ledger.specs.declared.states.RankState.{RankState}
use Rattle.bag_ledger.specs.declared.states.Status.{Status}
use Rattle.bag_ledger.specs.declared.states.Status.TheVariants as does
use Rattle.bag_ledger.specs.declared.states.UnitPlace.TheVariants.{Pinned, Spent}
use Rattle.bag_ledger.specs.Bag.{Bag, unit_of, part_of}
use Rattle.bag_ledger.specs.Steps.{Is, after}
use Rattle.bag_ledger.specs.Runs.{call_of, note_of}
use Rattle.bag_ledger.proofs.Tests.{some_is, same_number}
use Rattle.bag_law.specs.Sound.{HasPart, IsSoundBag}
use Rattle.bag_law.proofs.Facts.{owed_is_kept}
use Rattle.balance_law.specs.Balanced.{IsEndedWell}
use Rattle.balance_law.specs.Orderly.{IsAimed, IsNext, end_batch, finish}
use Rattle.balance_law.specs.Parcels.{Parcel, batch_after, parcel_read, parcel_sent, parcel_got, granted_note, sent, got}
use Rattle.balance_law.proofs.Paths.{of_rank}
use Rattle.balance_law.proofs.Commons.{bytes_in, parcel_of}
use Rattle.balance_law.proofs.Deeds.{put_by, is_fetch, IsIdle, IsNotFine, Bytes, own, all, IsGift, IsComing, Comes, accepted, granted}
use Rattle.balance_law.proofs.Deeds.{fetched}
use Rattle.balance_law.proofs.Seen.{of_none, of_mine}

-- What a rank has in hand: the note that it holds, the common bytes of its batch, and a unit of which it has the own bytes alone.
pub record Hand : Type 0 where
  pub held : Option UnitNote
  pub batch : Option (List ℕ)
  pub owed : List Unit

-- after these calls, at most one, by an entry that gives these units
abbrev pub hand_after : Hand → List Said → List Unit → Hand
hand_after h [] [] = h
hand_after h [] (u ∷ given) = record { held = h.held; batch = h.batch; owed = u ∷ given }
hand_after h (s ∷ said) given = record { held = granted_note s.answer; batch = batch_after h.batch s.call s.answer; owed = [] }

-- 1 where the unit of the note is still pinned
abbrev pub pins : Option UnitNote → List Unit → ℕ
pins None owed = 0
pins (Some note) [] = 1
pins (Some note) (u ∷ owed) = 0

-- these calls, at most one, send `taken`, and the entry gives `given`; `pinned` was granted by them
pub record IsTally (last : Bag) (h : Hand) (said : List Said) (taken pinned given : List Unit) : Type 0 where
  pub sends : (rest : List Said) → sent h.batch (said ++ rest) ≡ map (parcel_of last) taken ++ sent (hand_after h said given).batch rest
  pub gets : (rest : List Said) (later : List Unit)
      → got (hand_after h said given).held rest ≡ map (parcel_of last) ((hand_after h said given).owed ++ later)
      → got h.held (said ++ rest) ≡ map (parcel_of last) (h.owed ++ (given ++ later))
  pub even : length given + pins (hand_after h said given).held (hand_after h said given).owed ≡ pins h.held h.owed + length pinned
  pub ended : All (λ s. IsEndedWell s.call s.answer) said

-- a rank without calls has sent and got nothing
pub tally_none : (last : Bag) (h : Hand) → IsTally last h [] [] [] []
tally_none last h = record { sends = λ rest. refl; gets = λ rest later is. is; even = omega arith; ended = All-nil _ }

-- own bytes come
pub tally_coming : (last : Bag) (h : Hand) (note : UnitNote) (u : Unit) → h.held ≡ Some note → h.owed ≡ []
    → IsTally last h [] [] [] (u ∷ [])
tally_coming last h note u held none = record {
  sends = λ rest. refl;
  gets = λ rest later is. is ∙ ap (λ (us : List Unit). map (parcel_of last) (us ++ (u ∷ later))) (sym none);
  even = rw (held, none) refl;
  ended = All-nil _;
}

sent_one : (batch : Option (List ℕ)) (s : Said) (rest : List Said)
    → sent batch (s ∷ rest) ≡ parcel_sent batch s.call s.answer ++ sent (batch_after batch s.call s.answer) rest
unfolding sent
sent_one batch s rest = refl

got_one : (held : Option UnitNote) (s : Said) (rest : List Said)
    → got held (s ∷ rest) ≡ parcel_got held s.call s.answer ++ got (granted_note s.answer) rest
unfolding got
got_one held s rest = refl

tally_one : (last : Bag) (h : Hand) (s : Said) (taken pinned given : List Unit)
    → parcel_sent h.batch s.call s.answer ≡ map (parcel_of last) taken
    → parcel_got h.held s.call s.answer ≡ map (parcel_of last) (h.owed ++ given)
    → length given + pins (granted_note s.answer) [] ≡ pins h.held h.owed + length pinned → IsEndedWell s.call s.answer
    → IsTally last h (s ∷ []) taken pinned given
tally_one last h s taken pinned given sends gets even ended = record {
  sends = λ rest. sent_one h.batch s rest ∙ ap (λ (ps : List Parcel). ps ++ sent (batch_after h.batch s.call s.answer) rest) sends;
  gets = λ rest later is.
      got_one h.held s rest ∙ ap (λ (ps : List Parcel). ps ++ got (granted_note s.answer) rest) gets
      ∙ ap (λ (ps : List Parcel). map (parcel_of last) (h.owed ++ given) ++ ps) is
      ∙ sym (map-append (parcel_of last) (h.owed ++ given) later) ∙ ap (map (parcel_of last)) (append_assoc h.owed given later);
  even = even;
  ended = All-cons (λ s. IsEndedWell s.call s.answer) s [] ended (All-nil (λ s. IsEndedWell s.call s.answer));
}

-- Answers that send nothing, that give nothing, and that are no end.
abbrev IsNotBody : Answer → Type 0
IsNotBody (answers.Body body) = ⊥
IsNotBody answer = Prim.Unit {0}

-- the answer tells no end
abbrev pub IsNotEnd : Answer → Type 0
IsNotEnd (answers.Ended end) = ⊥
IsNotEnd answer = Prim.Unit {0}

sends_none : (batch : Option (List ℕ)) (call : Call) (answer : Answer) → IsNotFine answer → parcel_sent batch call answer ≡ []
sends_none batch (calls_to.Put kind prio target to body) answers.Fine not = absurd not
sends_none batch call answer not = refl

gets_none : (held : Option UnitNote) (call : Call) (answer : Answer) → IsNotBody answer → parcel_got held call answer ≡ []
gets_none (Some note) (calls_to.Fetch id) (answers.Body body) not = absurd not
gets_none held call answer not = refl

-- nor is anything got by them, with nothing in hand
gets_nothing : (last : Bag) (h : Hand) (call : Call) (answer : Answer) → IsNotBody answer → h.owed ≡ []
    → parcel_got h.held call answer ≡ map (parcel_of last) (h.owed ++ [])
gets_nothing last h call answer body none =
    gets_none h.held call answer body ∙ ap (λ (us : List Unit). map (parcel_of last) (us ++ [])) (sym none)

-- a call whose answer tells no end has ended well
pub ended_well : (call : Call) (answer : Answer) → IsNotEnd answer → IsEndedWell call answer
ended_well (calls_to.Reserve types) (answers.Ended end) not = absurd not
ended_well call (answers.Ended end) not = absurd not
ended_well call answer not = tt

-- the unit that is put is the parcel that is sent
fine_sends : (last : Bag) (rank : Rank) (batch : Option (List ℕ)) (status : Status) (call : Call) → call_of status ≡ Some call
    → ((u : Unit) → status ≡ does.Putting u → batch ≡ bytes_in last u.common)
    → parcel_sent batch call answers.Fine ≡ map (parcel_of last) (of_rank rank (put_by rank status))
fine_sends last rank batch (does.Putting u) call is shares =
    let c : calls_to.Put u.kind u.prio u.target u.answer u.body ≡ call = some_is is in
    rw (← c, same_number rank.0)
    (ap (λ (o : Option (List ℕ)). record {
      kind = u.kind;
      prio = u.prio;
      answer = u.answer;
      common = o;
      long = length u.body;
      own = u.body;
    } ∷ []) (shares u refl))
fine_sends last rank batch (does.Keeping k common) call is shares = let c : calls_to.BeginBatch common ≡ call = some_is is in rw (← c) refl
fine_sends last rank batch (does.Closing k) call is shares = let c : calls_to.EndBatch ≡ call = some_is is in rw (← c) refl
fine_sends last rank batch (does.Asking k types) call is shares = let c : calls_to.Reserve types ≡ call = some_is is in rw (← c) refl
fine_sends last rank batch (does.Trying k types) call is shares = let c : calls_to.Try types ≡ call = some_is is in rw (← c) refl
fine_sends last rank batch (does.Fetching k id came) call is shares = let c : calls_to.Fetch id ≡ call = some_is is in rw (← c) refl
fine_sends last rank batch (does.Counting k kind) call is shares = let c : calls_to.Count kind ≡ call = some_is is in rw (← c) refl
fine_sends last rank batch _ call is shares = absurd (cc)

-- What the order of calls says of the next.

-- an orderly rank never calls the problem done
pub next_done : (n : ℕ) (held : Option UnitNote) (batch : Option (List ℕ)) → IsNext n held batch calls_to.SetDone → ⊥
next_done n None batch next = next
next_done n (Some note) batch next = next

-- an orderly rank does not finish before it was told an end
pub next_finish : (n : ℕ) (held : Option UnitNote) (batch : Option (List ℕ)) → IsNext n held batch calls_to.Finish → ⊥
next_finish n None batch next = next
next_finish n (Some note) batch next = next

next_held : (n : ℕ) (note : UnitNote) (batch : Option (List ℕ)) (call : Call) → IsNext n (Some note) batch call → is_fetch call ≡ false → ⊥
next_held n note batch (calls_to.Fetch id) next is = absurd (cc)
next_held n note batch _ next is = next

-- an orderly rank fetches the unit of the note that it holds
pub next_fetch : (n : ℕ) (held : Option UnitNote) (batch : Option (List ℕ)) (id : UnitId) → IsNext n held batch (calls_to.Fetch id)
    → (note : UnitNote) × (held ≡ Some note) × (id ≡ note.id)
next_fetch n None batch id next = absurd next
next_fetch n (Some note) batch id next = (note, refl, next)

-- What a rank holds.

-- the unit of the note stands pinned to the rank, or its own bytes have come
pub record IsHeld (b : Bag) (rank : Rank) (note : UnitNote) (owed : List Unit) : Type 0 where
  pub placed : Placed
  pub there : unit_of b note.id ≡ Some placed
  pub told : note_of note.server placed.unit ≡ note
  pub stands : ((placed.place ≡ Pinned note.server rank) × (owed ≡ [])) ⊎ ((placed.place ≡ Spent) × (owed ≡ placed.unit ∷ []))

-- the note that a rank holds, and the units whose common bytes it is owed, are those of the bag
abbrev pub Holds : Bag → Rank → Option UnitNote → List Unit → Type 0
Holds b rank None owed = owed ≡ []
Holds b rank (Some note) owed = IsHeld b rank note owed

-- a rank whose next call is no fetch holds nothing
holds_none : (n : ℕ) (b : Bag) (rank : Rank) (h : Hand) (call : Call) → IsNext n h.held h.batch call → is_fetch call ≡ false
    → Holds b rank h.held h.owed → (h.held ≡ None) × (h.owed ≡ [])
holds_none n b rank h call next is holds = by_held h.held next holds
  where
    by_held : (held : Option UnitNote) → IsNext n held h.batch call → Holds b rank held h.owed → (held ≡ None) × (h.owed ≡ [])
    by_held None next none = (refl, none)
    by_held (Some note) next has = absurd (next_held n note h.batch call next is)

-- the target of the unit is any or a rank of the run
abbrev pub AreAimed : ℕ → Bag → Type 0
AreAimed n b = All (λ u. IsAimed n u.unit.target) b.units

-- what is pinned is not spent
pinned_unspent : (u : Placed) (server : Server) (rank : Rank) → u.place ≡ Pinned server rank → u.place ≡ Spent → ⊥
pinned_unspent u server rank pinned spent = absurd (cc)

still_pinned : {owed : List Unit} (u : Placed) (at server : Server) (rank : Rank) → u.place ≡ Pinned server rank
    → ((u.place ≡ Pinned at rank) × (owed ≡ [])) ⊎ ((u.place ≡ Spent) × (owed ≡ u.unit ∷ [])) → owed ≡ []
still_pinned u at server rank pinned (inl is) = is.1
still_pinned u at server rank pinned (inr is) = absurd (pinned_unspent u server rank pinned is.0)

already_spent : {owed : List Unit} (u : Placed) (at : Server) (rank : Rank) → u.place ≡ Spent
    → ((u.place ≡ Pinned at rank) × (owed ≡ [])) ⊎ ((u.place ≡ Spent) × (owed ≡ u.unit ∷ [])) → owed ≡ u.unit ∷ []
already_spent u at rank spent (inl is) = absurd (pinned_unspent u at rank is.0 spent)
already_spent u at rank spent (inr is) = is.1

-- own bytes come of the unit that is held
pub coming_held : (b : Bag) (e : Entry) (rank : Rank) (was now : RankState) (note : UnitNote) (owed : List Unit) (id : UnitId) (u : Placed)
    → IsHeld b rank note owed → id ≡ note.id → IsComing b e rank was now id u → (owed ≡ []) × IsHeld (after b e) rank note (u.unit ∷ [])
coming_held b e rank was now note owed id u held same c =
    let there : unit_of b note.id ≡ Some u = ap (unit_of b) (sym same) ∙ c.there in
    let one : held.placed ≡ u = some_is (sym held.there ∙ there) in
    let told : note_of note.server u.unit ≡ note = ap (λ (v : Placed). note_of note.server v.unit) (sym one) ∙ held.told in
    let none : owed ≡ [] = still_pinned held.placed note.server c.server rank (ap (λ (v : Placed). v.place) one ∙ c.pinned) held.stands in (
      none,
      record {
        placed = record u { place = Spent };
        there = ap (unit_of (after b e)) (sym same) ∙ c.spent;
        told = told;
        stands = inr (refl, refl);
      },
    )

-- What an answered call adds.

-- What holds of the rank whose call is answered: a sound bag has it so, and the common bytes in hand are those of what it puts. Those of a
-- part are the same in the end.
pub record IsAnswering (b last : Bag) (rank : Rank) (r : RankState) (h : Hand) (call : Call) : Type 0 where
  pub sound : IsSoundBag b
  pub there : Is b rank r
  pub pends : call_of r.status ≡ Some call
  pub shares : (u : Unit) → r.status ≡ does.Putting u → h.batch ≡ bytes_in last u.common
  pub stay : (c : CommonRef) (p : Part) → part_of b c.batch ≡ Some p → bytes_in last (Some c) ≡ Some p.common

abbrev IsAdded : Bag → Bag → Entry → Rank → Hand → Said → Type 0
IsAdded last b e rank h s = IsTally last h (s ∷ []) (of_rank rank (accepted b e)) (of_rank rank (granted b e)) (of_rank rank (fetched b e))

idle_adds : (n : ℕ) (last b : Bag) (e : Entry) (rank : Rank) (h : Hand) (call : Call) (answer : Answer) → IsNext n h.held h.batch call
    → Holds b rank h.held h.owed → is_fetch call ≡ false → IsIdle b e → IsNotFine answer → IsNotBody answer → granted_note answer ≡ None
    → IsEndedWell call answer → IsAdded last b e rank h (record { call = call; answer = answer })
idle_adds n last b e rank h call answer next holds fetch idle fine body none well =
    let has = holds_none n b rank h call next fetch holds in
    rw (of_none rank (accepted b e) idle.0, of_none rank (granted b e) idle.1, of_none rank (fetched b e) idle.2)
    (tally_one last h (record { call = call; answer = answer }) [] [] [] (sends_none h.batch call answer fine)
    (gets_nothing last h call answer body has.1) (rw (none, has.0) refl) well)

read_own : (last : Bag) (server : Server) (u : Unit) (body : List ℕ) → u.common ≡ None → body ≡ u.body
    → parcel_read (note_of server u) body ≡ parcel_of last u
read_own last server u body alone bytes = rw (alone, bytes) refl

read_all : (last : Bag) (server : Server) (u : Unit) (body : List ℕ) (c : CommonRef) (p : Part) → u.common ≡ Some c
    → length p.common ≡ c.length → bytes_in last (Some c) ≡ Some p.common → body ≡ p.common ++ u.body
    → parcel_read (note_of server u) body ≡ parcel_of last u
read_all last server u body c p shared long stays bytes =
    let front : take c.length body ≡ p.common = rw (bytes, ← long) (take-append_seam p.common u.body) in
    let back : drop c.length body ≡ u.body = rw (bytes, ← long) (drop-append_seam p.common u.body) in
    rw (shared, front, back, stays) refl

-- the parcel that is got is the unit that is given, now or before
gift_adds : (last b : Bag) (e : Entry) (rank : Rank) (r : RankState) (h : Hand) (note : UnitNote) (call : Call) (body : List ℕ)
    → IsAnswering b last rank r h call → h.held ≡ Some note → IsHeld b rank note h.owed → (g : IsGift b e rank r.status call body)
    → g.id ≡ note.id → IsAdded last b e rank h (record { call = call; answer = answers.Body body })
gift_adds last b e rank r h note call body a holds held g same =
    rw (of_none rank (accepted b e) g.accepts, of_none rank (granted b e) g.grants) (by_bytes g.bytes)
  where
    one : held.placed ≡ g.placed
    one = some_is (sym held.there ∙ ap (unit_of b) (sym same) ∙ g.there)

    place : held.placed.place ≡ g.placed.place
    place = ap (λ (v : Placed). v.place) one

    told : note ≡ note_of note.server g.placed.unit
    told = sym held.told ∙ ap (λ (v : Placed). note_of note.server v.unit) one

    gets : parcel_read (note_of note.server g.placed.unit) body ≡ parcel_of last g.placed.unit
        → parcel_got h.held call (answers.Body body) ≡ parcel_of last g.placed.unit ∷ []
    gets is = rw (holds, g.calls) (ap (λ (m : UnitNote). parcel_read m body ∷ []) told ∙ ap (λ (p : Parcel). p ∷ []) is)

    adds : (given : List Unit) → of_rank rank (fetched b e) ≡ given
        → parcel_read (note_of note.server g.placed.unit) body ≡ parcel_of last g.placed.unit → h.owed ++ given ≡ g.placed.unit ∷ []
        → length given + 0 ≡ pins (Some note) h.owed + 0
        → IsTally last h (record { call = call; answer = answers.Body body } ∷ []) [] [] (of_rank rank (fetched b e))
    adds given is reads units even =
        rw is (tally_one last h (record { call = call; answer = answers.Body body }) [] [] given
        (sends_none h.batch call (answers.Body body) tt)
        (gets reads ∙ ap (map (parcel_of last)) (sym units)) (rw holds even) (ended_well call (answers.Body body) tt))

    by_bytes : Bytes b e rank r.status g.id g.placed body
        → IsTally last h (record { call = call; answer = answers.Body body } ∷ []) [] [] (of_rank rank (fetched b e))
    by_bytes (own server alone pinned bytes gives) =
        let none : h.owed ≡ [] = still_pinned held.placed note.server server rank (place ∙ pinned) held.stands in
        adds (g.placed.unit ∷ []) (of_mine rank (fetched b e) g.placed.unit gives)
        (read_own last note.server g.placed.unit body alone bytes) (rw none refl) (rw none refl)
    by_bytes (all c p k shared found fetching bytes gives) =
        let kept = owed_is_kept b a.sound rank r k g.id a.there fetching in
        let it : kept.0 ≡ g.placed = some_is (sym kept.2 ∙ g.there) in
        let spent : held.placed.place ≡ Spent = place ∙ ap (λ (v : Placed). v.place) (sym it) ∙ kept.3 in
        let owes : h.owed ≡ held.placed.unit ∷ [] = already_spent held.placed note.server rank spent held.stands in
        let is : h.owed ≡ g.placed.unit ∷ [] = owes ∙ ap (λ (v : Placed). v.unit ∷ []) one in
        let part : HasPart b.parts (Some c) = rw shared at (a.sound.shares.each g.id g.placed g.there) in
        let same_part : part.0 ≡ p = some_is (sym part.1 ∙ found) in
        let long : length p.common ≡ c.length = ap (λ (q : Part). length q.common) (sym same_part) ∙ part.3 in
        adds [] (of_none rank (fetched b e) gives) (read_all last note.server g.placed.unit body c p shared long (a.stay c p found) bytes)
        (rw is refl) (rw is refl)

-- one answered call adds to what a rank sent and got what it sends and gets
pub call_adds : (n : ℕ) (last b : Bag) (e : Entry) (rank : Rank) (r : RankState) (h : Hand) (call : Call) (answer : Answer)
    → IsAnswering b last rank r h call → Holds b rank h.held h.owed → IsNext n h.held h.batch call → Comes b e rank r.status call answer
    → IsEndedWell call answer → IsAdded last b e rank h (record { call = call; answer = answer })
call_adds n last b e rank r h call (answers.Ended end) a holds next c well =
    idle_adds n last b e rank h call (answers.Ended end) next holds c.1 c.0 tt tt refl well
call_adds n last b e rank r h call (answers.Granted note) a holds next c well =
    let has = holds_none n b rank h call next c.reserves holds in
    rw (of_none rank (accepted b e) c.accepts, of_mine rank (granted b e) c.placed.unit c.grants, of_none rank (fetched b e) c.gives)
    (tally_one last h (record { call = call; answer = answers.Granted note }) [] (c.placed.unit ∷ []) []
    (sends_none h.batch call (answers.Granted note) tt) (gets_nothing last h call (answers.Granted note) tt has.1) (rw has.0 refl) well)
call_adds n last b e rank r h call (answers.Body body) a holds next c well =
    let fetch : IsNext n h.held h.batch (calls_to.Fetch c.0.id) = rw c.0.calls at next in
    let f = next_fetch n h.held h.batch c.0.id fetch in
    let has : IsHeld b rank f.0 h.owed = rw f.1 at holds in
    gift_adds last b e rank r h f.0 call body a f.1 has c.0 f.2
call_adds n last b e rank r h call answers.Fine a holds next c well =
    let has = holds_none n b rank h call next c.3 holds in
    rw (c.0, of_none rank (granted b e) c.1, of_none rank (fetched b e) c.2)
    (tally_one last h (record { call = call; answer = answers.Fine }) (of_rank rank (put_by rank r.status)) [] []
    (fine_sends last rank h.batch r.status call a.pends a.shares) (gets_nothing last h call answers.Fine tt has.1) (rw has.0 refl) well)
call_adds n last b e rank r h call answers.Rejected a holds next c well =
    idle_adds n last b e rank h call answers.Rejected next holds c.1 c.0 tt tt refl well
call_adds n last b e rank r h call answers.NoCurrent a holds next c well =
    idle_adds n last b e rank h call answers.NoCurrent next holds c.1 c.0 tt tt refl well
call_adds n last b e rank r h call (answers.Info info) a holds next c well =
    idle_adds n last b e rank h call (answers.Info info) next holds c.1 c.0 tt tt refl well

-- the end of a batch after an end
pub close_adds : (last b : Bag) (e : Entry) (rank : Rank) (status : Status) (h : Hand) → h.held ≡ None → h.owed ≡ []
    → call_of status ≡ Some calls_to.EndBatch → Comes b e rank status calls_to.EndBatch answers.Fine → IsAdded last b e rank h end_batch
close_adds last b e rank status h held owed pends c =
    rw (c.0, of_none rank (granted b e) c.1, of_none rank (fetched b e) c.2)
    (tally_one last h end_batch (of_rank rank (put_by rank status)) [] [] (none status pends)
    (gets_nothing last h calls_to.EndBatch answers.Fine tt owed) (rw held refl) tt)
  where
    none : (status : Status) → call_of status ≡ Some calls_to.EndBatch → [] ≡ map (parcel_of last) (of_rank rank (put_by rank status))
    none (does.Putting u) pends = absurd (cc)
    none _ pends = refl

-- and Finish
pub finish_adds : (last b : Bag) (e : Entry) (rank : Rank) (h : Hand) → h.held ≡ None → h.owed ≡ [] → IsIdle b e
    → IsAdded last b e rank h finish
finish_adds last b e rank h held owed idle =
    rw (of_none rank (accepted b e) idle.0, of_none rank (granted b e) idle.1, of_none rank (fetched b e) idle.2)
    (tally_one last h finish [] [] [] refl (gets_nothing last h calls_to.Finish answers.Fine tt owed) (rw held refl) tt)
