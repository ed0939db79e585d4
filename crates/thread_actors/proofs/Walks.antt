-- A rank's journal with one event more.
use Rattle.thread_actors.proofs.Prelude.{ClientModel, Config, DeskModel, IsCut, IsCutShort, IsEntered, IsNew, IsRecorded, IsUnexpected}
use Rattle.thread_actors.proofs.Prelude.{Letter, List, Made, None, Option, Rank, Server, Some, Tallies, Trouble, [], ap, cond, event_of}
use Rattle.thread_actors.proofs.Prelude.{first_trouble, gives, hear, lt-ltb, received, refl, start, subst, sym, with_room, ℕ, ◌++◌, ◌<◌}
use Rattle.thread_actors.proofs.Prelude.{◌∙◌, ◌∷◌, ◌≡◌}
use Rattle.adlb_unit.specs.declared.notes.Trouble.TheVariants.{Memory}
use Rattle.merge_history.specs.Events.{Event}
use Rattle.merge_history.specs.Own.{ClientWalks, client_step}
use Rattle.merge_history.specs.declared.causes.Cause.{Cause}
use Rattle.rank_client.specs.declared.steps.ClientStep.{ClientStep}
use Rattle.rank_mail.specs.declared.posted.Posted.{Posted}
use Rattle.adlb_unit.specs.declared.actors.Actor.TheVariants as by
use Rattle.merge_history.specs.declared.causes.Cause.TheVariants as causes

-- the step of a letter of a server
pub got_step : (config : Config) (s : ClientModel) (from : Server) (letter : Letter) (o : Option Made) → from.0 < config.servers
    → hear s from letter ≡ o → client_step config s (causes.Got (by.Server from) letter) ≡ o
got_step config s from letter o within hears = ap (λ b. cond b (hear s from letter) None) (lt-ltb from.0 config.servers within) ∙ hears

client_walks_more : (config : Config) (s : ClientModel) (es : List Event) (t : ClientModel) (cause : Cause) (step : ClientStep)
    (u : ClientModel) → ClientWalks config s es t → client_step config t cause ≡ Some (gives u step) → step.stamp ≡ u.clock
    → ClientWalks config s (es ++ event_of cause step ∷ []) u
client_walks_more config s [] t cause step u walks does stamp =
    (gives u step, subst (λ (k : ClientModel). client_step config k cause ≡ Some (gives u step)) (sym walks) does, stamp, refl, refl, refl)
client_walks_more config s (y ∷ es) t cause step u walks does stamp =
    (walks.0, walks.1, walks.2, walks.3, walks.4, client_walks_more config walks.0.state es t cause step u walks.5 does stamp)

-- at the start
pub new_recorded : (config : Config) (rank : Rank) (d : DeskModel) (s : ClientModel) → IsNew config rank.0 d → s ≡ start config rank
    → IsRecorded d [] s
new_recorded config rank d s new is = λ whole. (new.tallies, rw (is, new.config_is, new.empty) refl)

-- an event that is entered leaves the run and the actor of the desk
pub entered_numbers : (d ready e : DeskModel) → with_room ready 0 ≡ with_room d 0 → (event : Event) → IsEntered ready event e
    → (e.config ≡ d.config) × (e.number ≡ d.number)
entered_numbers d ready e room event entered =
    (entered.config ∙ ap (λ (m : DeskModel). m.config) room, entered.number ∙ ap (λ (m : DeskModel). m.number) room)

-- Room was made in `d`, and then the event of a step was entered, by which all that was received is in the journal.

module _ (d ready e : DeskModel) (s t : ClientModel) (cause : Cause) (step : ClientStep) (room : with_room ready 0 ≡ with_room d 0) where
  same_config : ready.config ≡ d.config
  same_config = ap (λ (m : DeskModel). m.config) room

  -- room changes nothing of what went through the mailboxes
  tallies_same : Tallies d (received d.config cause) → Tallies ready (received ready.config cause)
  tallies_same tallies =
      let bare : Tallies (with_room ready 0) (received ready.config cause) =
      rw (room, same_config) (record { sends = tallies.sends; receives = tallies.receives }) in
      record { sends = bare.sends; receives = bare.receives }

  pub step_recorded : s.trouble ≡ None → IsRecorded d (received d.config cause) s → client_step d.config s cause ≡ Some (gives t step)
      → step.stamp ≡ t.clock → t.me ≡ s.me → (value : Cause) → value ≡ cause → IsEntered ready (event_of value step) e
      → (Tallies ready (received ready.config value) → Tallies e []) → IsRecorded e [] t
  step_recorded whole recorded does stamp me value is entered tallies = λ still.
      let before = recorded whole in
      let configs = entered.config ∙ same_config in
      let grown = d.events ++ event_of cause step ∷ [] in
      let events : e.events ≡ grown =
      entered.events ∙ ap (λ (m : DeskModel). m.events ++ event_of value step ∷ []) room
      ∙ ap (λ (k : Cause). d.events ++ event_of k step ∷ []) is in (
        tallies (rw is (tallies_same before.0)),
        rw (configs, events) (subst (λ (r : Rank). ClientWalks d.config (start d.config r) grown t) (sym me)
            (client_walks_more d.config (start d.config s.me) d.events s cause step t before.1 does stamp)),
      )

-- A letter that is not expected.

pub not_cut : (d : DeskModel) (s : ClientModel) (unexpected : Option ℕ) → IsCut d s unexpected → s.trouble ≡ None → unexpected ≡ None
not_cut d s None cut whole = refl
not_cut d s (Some from) cut whole = let failed = (cut from refl).0 in absurd (cc)

-- the client failed by the last letter that was received
pub cut_here : (d : DeskModel) (config : Config) (s t : ClientModel) (from : ℕ) (letter : Letter) (before : List Posted) (e : Trouble)
    → s.trouble ≡ None → IsRecorded d (record { from = from; letter = letter } ∷ []) s
    → d.got ≡ before ++ record { from = from; letter = letter } ∷ [] → d.config ≡ config → IsUnexpected config s from letter
    → t ≡ record s { trouble = Some e } → e ≡ Memory → IsCut d t (Some from)
cut_here d config s t from letter before e whole recorded received configs unexpected is memory = λ n some.
    let same : n ≡ from = cc in
    let was = recorded whole in
    let short : IsCutShort d.config s.me d from = record {
      last = s;
      walks = was.1;
      letter = letter;
      unexpected = rw configs unexpected;
      before = before;
      received = received;
      receives = was.0.receives;
    } in
    rw (same, is) (ap Some memory, short)

-- what the desk sends besides changes nothing of that
pub still_cut : (d e : DeskModel) (s : ClientModel) (unexpected : Option ℕ) → e ≡ record d { sent = e.sent } → IsCut d s unexpected
    → IsCut e s unexpected
still_cut d e s unexpected desk cut = λ from some.
    let was = cut from some in
    let short = was.1 in
    let sent : IsCutShort d.config s.me (record d { sent = e.sent }) from = record {
      last = short.last;
      walks = short.walks;
      letter = short.letter;
      unexpected = short.unexpected;
      before = short.before;
      received = short.received;
      receives = short.receives;
    } in
    (was.0, subst (λ (k : DeskModel). IsCutShort k.config s.me k from) (sym desk) sent)

-- nor does a later failure
pub again_cut : (d : DeskModel) (s t : ClientModel) (unexpected : Option ℕ) (e trouble : Trouble) → t ≡ record s { trouble = Some e }
    → Some e ≡ first_trouble s.trouble (Some trouble) → IsCut d s unexpected → IsCut d t unexpected
again_cut d s t unexpected e trouble is first cut = λ from some.
    let was = cut from some in
    rw is (first ∙ ap (λ (o : Option Trouble). first_trouble o (Some trouble)) was.0, was.1)
