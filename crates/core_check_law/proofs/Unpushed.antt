-- Once server 0 has found an end no server has a push: none stands then, and none begins.
use Rattle.std.proofs.Common.{◌≡◌, ◌<◌, ◌⊎◌, inl, inr, ℕ, Bool, true, false, None, Option, Some, refl, sym, ap, ◌∙◌, arith}
use Rattle.std.specs.Option.{IfSome}
use Rattle.adlb_unit.specs.declared.messages.Message.TheVariants as tells
use Rattle.adlb_unit.specs.declared.names.Server.{Server}
use Rattle.server_components.specs.Parked.{IsOther}
use Rattle.server_components.specs.Pushes.{asks_room}
use Rattle.server_components.specs.declared.standing.StandingPush.{StandingPush}
use Rattle.server_law.specs.Acts.{Act, Cancels, Ends_push, Finds, Finds_alone, Hears_exhaust, Hears_shutdown, Promises, Queries, Sends_unit}
use Rattle.server_law.specs.Acts.{Shuts, Shuts_alone, Stops_push, exhausted_after, shut_after, turned, turns, zeroth}
use Rattle.server_law.specs.State.{Kept, ServerModel}
use Rattle.server_law.specs.Sure.{Sure}
use Rattle.core_run.specs.World.{World, pool_of}
use Rattle.core_law.specs.Acting.{IsAct, acted, ticks}
use Rattle.core_law.specs.Well.{IsWell}
use Rattle.core_law.proofs.LettersAndActors.{own_of}
use Rattle.core_check_law.proofs.Classes.{IsMine, IsOthers, is_alone, now}
use Rattle.core_check_law.proofs.EndsKept.{no_exhaust, no_shutdown}
use Rattle.core_check_law.proofs.NeverAtRest.{AreUnpushed, is_query, itself, pushes_none}
use Rattle.core_check_law.proofs.Ticks.{after}

-- server 0 has found that all work is used up, or that no rank waits or runs any more
abbrev pub HasVerdict : World → Type 0
HasVerdict w = ((pool_of w zeroth).kept.exhausted ≡ true) ⊎ ((pool_of w zeroth).kept.shut ≡ true)

-- once server 0 has found an end no server has a push
abbrev pub IsDown : World → Type 0
IsDown w = HasVerdict w → AreUnpushed w

-- With one server no push stands, as it would go to another.
pub alone_unpushed : (w : World) → IsWell w → w.config.servers ≡ 1 → AreUnpushed w
alone_unpushed w well alone t there = by_push (pool_of w t).kept.pushing.push (well.own.servers t there).pushing
  where
    by_push : (o : Option StandingPush) → IfSome o (λ (p : StandingPush). IsOther w.config t p.to) → o ≡ None
    by_push None other = refl
    by_push (Some p) other = let low = other.0 in absurd (other.1 (omega arith))

-- One act.

push_stays : (a : Act) (s : ServerModel) → is_query a ≡ false → Sure a s → s.kept.pushing.push ≡ None
    → turned (turns a) s.kept.pushing.push ≡ None
push_stays (Queries to id length) s other sure free = absurd (cc)
push_stays (Sends_unit to length unit) s other sure free =
    let bad : None ≡ Some (asks_room to unit.id length) = sym free ∙ sure.0 in absurd (cc)
push_stays (Cancels to id length) s other sure free = let bad : None ≡ Some (asks_room to id length) = sym free ∙ sure in absurd (cc)
push_stays (Stops_push to id length) s other sure free = refl
push_stays (Ends_push to id length) s other sure free = refl
push_stays _ s other sure free = free

-- no push goes on after an act that begins none
pub unpushed_stays : (w : World) (k : Server) (a : Act) → IsWell w → IsAct w k a → is_query a ≡ false → AreUnpushed w
    → AreUnpushed (acted w k a)
unpushed_stays w k a well is other free t there = by_server (now w k a well.shape is.here t there)
  where
    by_server : IsMine w k a t ⊎ IsOthers w k a t → (pool_of (acted w k a) t).kept.pushing.push ≡ None
    by_server (inl m) =
        ap (λ (x : Kept). x.pushing.push) m.kept ∙ push_stays a (pool_of w k) other is.sure (free k is.here)
    by_server (inr o) = ap (λ (x : Kept). x.pushing.push) o.kept ∙ free t there

-- the verdict
abbrev pub is_verdict : Act → Bool
is_verdict (Finds from t) = true
is_verdict (Shuts from t) = true
is_verdict _ = false

exhausted_same : (a : Act) (is : Bool) → is_verdict a ≡ false → is_alone a ≡ false → ((from : Server) → a ≡ Hears_exhaust from → ⊥)
    → exhausted_after a is ≡ is
exhausted_same (Finds from t) is none several other = absurd (cc)
exhausted_same Finds_alone is none several other = absurd (cc)
exhausted_same (Hears_exhaust from) is none several other = absurd (other from refl)
exhausted_same _ is none several other = refl

shut_same : (a : Act) (is : Bool) → is_verdict a ≡ false → is_alone a ≡ false → ((from : Server) → a ≡ Hears_shutdown from → ⊥)
    → shut_after a is ≡ is
shut_same (Shuts from t) is none several other = absurd (cc)
shut_same Shuts_alone is none several other = absurd (cc)
shut_same (Hears_shutdown from) is none several other = absurd (other from refl)
shut_same _ is none several other = refl

-- no other act finds an end
pub verdict_before : (w : World) (k : Server) (a : Act) → IsWell w → IsAct w k a → is_verdict a ≡ false → is_alone a ≡ false
    → HasVerdict (acted w k a) → HasVerdict w
verdict_before w k a well is none several found = by_server (now w k a well.shape is.here zeroth w.config.servers_within.0) found
  where
    s : ServerModel
    s = pool_of w k

    by_server : IsMine w k a zeroth ⊎ IsOthers w k a zeroth → HasVerdict (acted w k a) → HasVerdict w
    by_server (inr o) (inl e) = inl (ap (λ (x : Kept). x.exhausted) (sym o.kept) ∙ e)
    by_server (inr o) (inr e) = inr (ap (λ (x : Kept). x.shut) (sym o.kept) ∙ e)
    by_server (inl m) (inl e) =
        let own = own_of w k a well is in
        let first : s.me.0 ≡ 0 = ap (λ (x : Server). x.0) (own.named ∙ sym m.same) in
        let same = exhausted_same a s.kept.exhausted none several (no_exhaust w k a well is first) in
        inl (ap (λ (x : Server). (pool_of w x).kept.exhausted) m.same ∙ sym same ∙ sym (ap (λ (x : Kept). x.exhausted) m.kept) ∙ e)
    by_server (inl m) (inr e) =
        let own = own_of w k a well is in
        let first : s.me.0 ≡ 0 = ap (λ (x : Server). x.0) (own.named ∙ sym m.same) in
        let same = shut_same a s.kept.shut none several (no_shutdown w k a well is first) in
        inr (ap (λ (x : Server). (pool_of w x).kept.shut) m.same ∙ sym same ∙ sym (ap (λ (x : Kept). x.shut) m.kept) ∙ e)

-- room is promised
abbrev pub is_promised : Act → Bool
is_promised (Promises from id length) = true
is_promised _ = false

-- where no push goes on no act promises room
pub promises_none : (w : World) (k : Server) (a : Act) → IsWell w → AreUnpushed w → IsAct w k a → is_promised a ≡ false
promises_none w k (Promises from id length) well free is =
    absurd (pushes_none w k well free (Promises from id length) from (tells.PushQuery id length) is refl (itself from.0))
promises_none w k _ well free is = refl

-- The stamp.

-- the stamp of an event keeps that no server has a push after an end
pub tick_down : (w : World) (me : Server) (stamp : ℕ) (up : Bool) → IsWell w → me.0 < w.config.servers → IsDown w
    → IsDown (ticks w me stamp up)
tick_down w me stamp up well here was found t there =
    ap (λ (x : Kept). x.pushing.push) (after w me stamp up well here t).kept ∙ was (before found) t there
  where
    before : HasVerdict (ticks w me stamp up) → HasVerdict w
    before (inl e) =
        inl (ap (λ (x : Kept). x.exhausted) (sym (after w me stamp up well here zeroth).kept) ∙ e)
    before (inr e) = inr (ap (λ (x : Kept). x.shut) (sym (after w me stamp up well here zeroth).kept) ∙ e)
