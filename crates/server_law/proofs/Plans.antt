-- The plan of a rule, and what is so of it.
use Rattle.std.proofs.Common.{◌≡◌, Bool, true, false, cond, List, [], ◌∷◌, ◌++◌, None, Some, refl, sym, subst}
use Rattle.std.specs.Option.{IfSome}
use Rattle.adlb_unit.specs.declared.actors.Actor.{Actor}
use Rattle.adlb_unit.specs.declared.messages.Message.{Message}
use Rattle.adlb_unit.specs.declared.names.UnitId.{UnitId}
use Rattle.adlb_unit.specs.declared.notes.End.{End}
use Rattle.server_law.specs.Acts.{Act, does, takes}
use Rattle.server_law.specs.Carried.{all_done, done}
use Rattle.server_law.specs.Endings.{ends_event, tells_idle}
use Rattle.server_law.specs.Plan.{Decider, Plan, decided}
use Rattle.server_law.specs.Puts.{settles}
use Rattle.server_law.specs.State.{Kept, ServerModel}
use Rattle.server_law.specs.Sure.{AreHintsOf, HasCause, SitsIn, Sure}
use Rattle.server_law.proofs.Decided.{EachDecides, EachHintsNone, Follow, decided_follow, decided_hints_none, each_joined, each_none_joined}
use Rattle.server_law.proofs.Decided.{ends_event_decides, ends_event_hints_none, follow_joined, hints_joined, settles_decides}
use Rattle.server_law.proofs.Decided.{settles_hints, tells_idle_hints_none, told_follow}
use Rattle.server_law.proofs.Waiters.{done_kept}

-- the first act takes the letter and is sure, and what is decided after it is sure and takes none
pub record IsPlan (s : ServerModel) (from : Actor) (message : Message) (p : Plan) : Type 0 where
  pub sits : SitsIn p.first s
  pub sure : Sure p.first s
  pub takes : takes p.first ≡ record { from = from; message = message } ∷ []
  pub follow : Follow (decided (p.follow ++ ends_event) (done p.first s)) (done p.first s)
  pub hints : AreHintsOf s.kept.parked.wishes (decided (p.follow ++ ends_event) (done p.first s))

-- a rule by a test is a plan if each case is
pub if_plan : (s : ServerModel) (from : Actor) (message : Message) (test : Bool) (p : Plan) → (test ≡ true → IsPlan s from message p)
    → IfSome (cond test (Some p) None) (IsPlan s from message)
if_plan s from message true p is = is refl
if_plan s from message false p is = tt

-- without hints
pub made : {s : ServerModel} {from : Actor} {message : Message} {p : Plan} → SitsIn p.first s → Sure p.first s
    → takes p.first ≡ record { from = from; message = message } ∷ [] → EachDecides p.follow → EachHintsNone p.follow
    → IsPlan s from message p
made {s} {from} {message} {p} sits sure takes follow none = record {
  sits = sits;
  sure = sure;
  takes = takes;
  follow = decided_follow (p.follow ++ ends_event) (done p.first s) (each_joined p.follow ends_event follow ends_event_decides);
  hints = decided_hints_none (p.follow ++ ends_event) s.kept.parked.wishes (done p.first s)
      (each_none_joined p.follow ends_event none ends_event_hints_none);
}

-- a unit is settled, and the wishes are as before until then
pub settled : {s : ServerModel} {from : Actor} {message : Message} (id : UnitId) (first : Act) (follow : List Decider) → SitsIn first s
    → Sure first s → takes first ≡ record { from = from; message = message } ∷ []
    → (done first s).kept.parked.wishes ≡ s.kept.parked.wishes → EachDecides follow → EachHintsNone follow
    → IsPlan s from message (record { first = first; follow = settles id ∷ follow })
settled {s} id first follow sits sure takes same each none =
    let t = done first s in
    let u = all_done (settles id t) t in
    let later = decided (follow ++ ends_event) u in
    let hints : AreHintsOf t.kept.parked.wishes (settles id t ++ later) =
    hints_joined t.kept.parked.wishes (settles id t) later (settles_hints id t)
    (decided_hints_none (follow ++ ends_event) t.kept.parked.wishes u
    (each_none_joined follow ends_event none ends_event_hints_none)) in
    record {
      sits = sits;
      sure = sure;
      takes = takes;
      follow =
          decided_follow (settles id ∷ follow ++ ends_event) t (settles_decides id, each_joined follow ends_event each ends_event_decides);
      hints = subst (λ wishes. AreHintsOf wishes (settles id t ++ later)) same hints;
    }

-- an end is told to the ranks that are idle, whose cause the server knows by then
pub told : {from : Actor} {message : Message} (s : ServerModel) (end : End) (first : Act) → SitsIn first s → Sure first s
    → takes first ≡ record { from = from; message = message } ∷ [] → HasCause (does first s).kept end
    → IsPlan s from message (record { first = first; follow = tells_idle end ∷ [] })
told s end first sits sure takes caused =
    let t = done first s in
    let cause : HasCause t.kept end = subst (λ (k : Kept). HasCause k end) (sym (done_kept first s)) caused in
    let list = tells_idle end t in
    let u = all_done list t in
    record {
      sits = sits;
      sure = sure;
      takes = takes;
      follow = follow_joined list (decided ends_event u) t (told_follow end t.kept.parked.waiting [] t refl cause)
          (decided_follow ends_event u ends_event_decides);
      hints = decided_hints_none (tells_idle end ∷ ends_event) s.kept.parked.wishes t (tells_idle_hints_none end, ends_event_hints_none);
    }
