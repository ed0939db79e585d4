-- The letter that breaks a server, and what it does from then on.
use Rattle.std.proofs.Common.{◌≡◌, ◌⊎◌, ◌<◌, ◌≤◌, ◌||◌, ℕ, Bool, true, false, List, [], ◌∷◌, ◌++◌, Option, None, Some, inl, inr, refl, ap}
use Rattle.std.proofs.Common.{sym, ◌∙◌, subst, append_assoc, length, slice_get, take, arith}
use Rattle.std.specs.Prelude.{IsSome}
use Rattle.std.specs.List.{list_any}
use Rattle.std.proofs.Math.Seq.{take-append_seam}
use Rattle.std.proofs.lemmas.Bool.{cases_lt}
use Rattle.std.proofs.lemmas.List.{length-append, take-append-le}
use Rattle.std.proofs.lemmas.List.Folds.{list_any-append}
use Rattle.adlb_unit.specs.Links.{is_within, place_of}
use Rattle.adlb_unit.specs.declared.actors.Actor.{Actor}
use Rattle.adlb_unit.specs.declared.configs.Config.{Config}
use Rattle.adlb_unit.specs.declared.letters.Sending.{Sending}
use Rattle.adlb_unit.specs.declared.names.Rank.{Rank}
use Rattle.adlb_unit.specs.declared.names.Server.{Server}
use Rattle.adlb_unit.specs.declared.notes.Trouble.{Trouble}
use Rattle.adlb_unit.specs.declared.notes.Trouble.TheVariants as troubles
use Rattle.merge_history.specs.Own.{PoolWalks, letters_to, sent}
use Rattle.rank_mail.specs.declared.posted.Posted.{Posted}
use Rattle.server_law.specs.State.{ServerModel, is_finished, start}
use Rattle.server_law.specs.Step.{next_stamp, serve}
use Rattle.actor_desk.specs.Desks.{DeskModel, with_room}
use Rattle.actor_desk.proofs.Letters.{letters_to_more}
use Rattle.thread_actors.specs.Faults.{IsLate, IsLateFault, told}
use Rattle.thread_actors.specs.World.{has_ended, rank_named}
use Rattle.thread_actors.specs.declared.faults.ActorFault.{ActorFault}
use Rattle.thread_actors.specs.declared.faults.ActorFault.TheVariants as faults
use Rattle.thread_actors.specs.ServerJobs.{BreaksBy, IsUnexpected, all_told, came, ends_rank, is_over, told_by_answer, told_ranks}
use Rattle.thread_actors.specs.ServerJobs.{told_servers, trouble_told}
use Rattle.thread_actors.specs.inside.Serving.{AreOver, AreTold, EndsBroken, Follows, GoesOn, IsCut, IsReading, IsRoll}
use Rattle.thread_actors.proofs.Telling.{all_told_more, told_at_once, told_more}

-- Why a letter breaks it.

-- it told of a trouble
pub told_breaks : (config : Config) (s : ServerModel) (x : Posted) (trouble : Trouble) (fault : ActorFault)
    → trouble_told config x.from x.letter.message ≡ Some trouble → (IsLate trouble → told fault ≡ trouble)
    → ((n : ℕ) → fault ≡ faults.Unexpected n → ⊥) → BreaksBy config s x fault false
told_breaks config s x trouble fault says same expected = record {
  step = λ own. absurd (cc);
  stamp = λ own. absurd (cc);
  unexpected = λ n is. absurd (expected n is);
  others = λ others. inr (subst (λ (o : Option Trouble). IsSome o) (sym says) refl);
  first = λ others that it late.
      let one : Some trouble ≡ Some that = sym says ∙ it in
      let is : trouble ≡ that = cc one in
      same (subst IsLate (sym is) late) ∙ is;
}

-- it was not expected
pub strange_breaks : (config : Config) (s : ServerModel) (x : Posted) → trouble_told config x.from x.letter.message ≡ None
    → IsUnexpected config s x.from x.letter → BreaksBy config s x (faults.Unexpected x.from) false
strange_breaks config s x untold strange = record {
  step = λ own. absurd (cc);
  stamp = λ own. absurd (cc);
  unexpected = λ n is. (cc, strange, untold);
  others = λ others. inl refl;
  first = λ others that it late. absurd (let no : None ≡ Some that = sym untold ∙ it in cc);
}

-- its step failed
pub step_breaks : (config : Config) (s : ServerModel) (x : Posted) (from : Actor) (trouble : Trouble) (fault : ActorFault)
    → is_within config from ≡ true → place_of config from ≡ x.from → IsSome (serve s from x.letter)
    → ((n : ℕ) → trouble ≡ troubles.TooLong n → n ≡ next_stamp s x.letter)
    → (told fault ≡ trouble) ⊎ (told fault ≡ troubles.Memory) → ((n : ℕ) → fault ≡ faults.Unexpected n → ⊥) → BreaksBy config s x fault true
step_breaks config s x from trouble fault within place served stamp either expected = record {
  step = λ own. (from, within, place, served);
  stamp = λ own n late. bears n late either;
  unexpected = λ n is. absurd (expected n is);
  others = λ others. absurd (cc);
  first = λ others. absurd (cc);
}
  where
    bears : (n : ℕ) → fault ≡ faults.TooLong n → (told fault ≡ trouble) ⊎ (told fault ≡ troubles.Memory) → n ≡ next_stamp s x.letter
    bears n late (inl that) = stamp n (sym that ∙ ap told late)
    bears n late (inr memory) = absurd (let no : troubles.Memory ≡ troubles.TooLong n = sym memory ∙ ap told late in cc)

-- The letter that breaks it.

-- the room of the journal does not matter
cut_roomy : (me : Server) (d e : DeskModel) (waits over : List Bool) (fault : ActorFault) (own : Bool) → with_room e 0 ≡ with_room d 0
    → IsCut me d waits over fault own → IsCut me e waits over fault own
cut_roomy me d e waits over fault own same was =
    let bare : IsCut me (with_room d 0) waits over fault own = record {
      last = was.last;
      walks = was.walks;
      within = was.within;
      letter = was.letter;
      got = was.got;
      going = was.going;
      late = was.late;
      breaks = was.breaks;
      sends = was.sends;
      roll = was.roll;
    } in
    let back : IsCut me (with_room e 0) waits over fault own =
    subst (λ (y : DeskModel). IsCut me y waits over fault own) (sym same) bare in
    record {
      last = back.last;
      walks = back.walks;
      within = back.within;
      letter = back.letter;
      got = back.got;
      going = back.going;
      late = back.late;
      breaks = back.breaks;
      sends = back.sends;
      roll = back.roll;
    }

pub cut_at : (config : Config) (me its : Server) (d e : DeskModel) (s : ServerModel) (x : Posted) (waits over : List Bool)
    (fault : ActorFault) (own : Bool) → d.config ≡ config → s.me ≡ me → its ≡ me → with_room e 0 ≡ with_room d 0
    → Follows d (x ∷ []) s → has_ended s ≡ false → IsLateFault fault → BreaksBy config s x fault own → IsRoll config s x waits over
    → IsCut its e waits over fault own
cut_at config me its d e s x waits over fault own at mine is same was going late breaks roll =
    subst (λ (y : Server). IsCut y e waits over fault own) (sym is) (cut_roomy me d e waits over fault own same cut)
  where
    cut : IsCut me d waits over fault own
    cut = record {
      last = s;
      walks = subst (λ (k : Server). PoolWalks d.config (start d.config k) d.events s) mine was.walks;
      within = was.within;
      letter = x;
      got = was.got;
      going = going;
      late = late;
      breaks = subst (λ (c : Config). BreaksBy c s x fault own) (sym at) breaks;
      sends = was.tallies.sends;
      roll = subst (λ (c : Config). IsRoll c s x waits over) (sym at) roll;
    }

-- It reads on.

or_more : (a b t : Bool) → ((a || b) || t) ≡ (a || (b || (t || false)))
or_more true b t = refl
or_more false true t = refl
or_more false false true = refl
or_more false false false = refl

-- which ranks are over after one letter more
pub over_noted : (config : Config) (s : ServerModel) (all : List Posted) (x : Posted) (over new : List Bool) → AreOver config s all over
    → ((k : ℕ) (b : Bool) → k < config.ranks → slice_get over k ≡ Some b
    → slice_get new k ≡ Some (b || ends_rank config x.from x.letter.message k))
    → AreOver config s (all ++ x ∷ []) new
over_noted config s all x over new was noted k low =
    let test : Posted → Bool = λ p. ends_rank config p.from p.letter.message k in
    let finished = is_finished s.kept (rank_named k) in
    noted k (is_over config s all (rank_named k)) low (was k low)
    ∙ ap Some (or_more finished (list_any test all) (test x) ∙ ap (λ b. finished || b) (sym (list_any-append test all (x ∷ []))))

-- it has told all whom it concerns
pub cut_reads : (me : Server) (old mid new : DeskModel) (waits over : List Bool) (fault : ActorFault) (own : Bool)
    → (cut : IsCut me old waits over fault own) → AreTold old (told_servers old.config me (told fault)) mid
    → AreTold mid (told_ranks old.config cut.last cut.letter (told fault)) new → IsReading me new over fault own
cut_reads me old mid new waits over fault own cut servers ranks =
    let a = told_servers old.config me (told fault) in
    let b = told_ranks old.config cut.last cut.letter (told fault) in
    let both = told_more old mid new a b servers ranks in
    let reading : IsReading me (record old { sent = new.sent }) over fault own = record {
      last = cut.last;
      walks = cut.walks;
      within = cut.within;
      letter = cut.letter;
      later = [];
      got = cut.got;
      going = cut.going;
      breaks = cut.breaks;
      sends = λ to low.
          both.told_are to low ∙ ap (λ l. l ++ letters_to old.config to (a ++ b)) (cut.sends to low)
          ∙ ap (λ l. sent old.config to old.events ++ letters_to old.config to l)
          (told_at_once old.config me cut.last cut.letter (told fault));
      over_are = cut.roll.over_are;
      no_sooner = λ n low. absurd (omega arith);
    } in
    subst (λ (y : DeskModel). IsReading me y over fault own) (sym both.same) reading

-- a letter more came, and was answered
pub reads_more : (me : Server) (d f : DeskModel) (over new : List Bool) (x : Posted) (fault : ActorFault) (own : Bool)
    → IsReading me d over fault own → GoesOn d.config.ranks over
    → ((k : ℕ) (b : Bool) → k < d.config.ranks → slice_get over k ≡ Some b
    → slice_get new k ≡ Some (b || ends_rank d.config x.from x.letter.message k))
    → AreTold (record d { got = d.got ++ x ∷ [] }) (told_by_answer d.config (told fault) x) f → IsReading me f new fault own
reads_more me d f over new x fault own was on noted answers =
    subst (λ (y : DeskModel). IsReading me y new fault own) (sym answers.same) reading
  where
    all : List Sending
    all = all_told d.config me was.last was.letter was.later (told fault)

    more : List Sending
    more = told_by_answer d.config (told fault) x

    going_on : is_over d.config was.last (was.letter ∷ was.later) (rank_named on.0) ≡ false
    going_on = let both = sym (was.over_are on.0 on.1) ∙ on.2 in cc

    sooner : (n : ℕ) → n < length (was.later ++ x ∷ []) → (n < length was.later) ⊎ (length was.later ≤ n)
        → (rank : Rank) × (rank.0 < d.config.ranks)
        × (is_over d.config was.last (was.letter ∷ take n (was.later ++ x ∷ [])) rank ≡ false)
    sooner n within (inl low) =
        let before = was.no_sooner n low in (
          before.0,
          before.1,
          ap (λ l. is_over d.config was.last (was.letter ∷ l) before.0) (take-append-le n was.later (x ∷ []) (omega (arith, low)))
              ∙ before.2,
        )
    sooner n within (inr last) =
        let long = length-append was.later (x ∷ []) in
        let at : length was.later ≡ n = omega (arith, long, within, last) in (
          rank_named on.0,
          on.1,
          ap (λ l. is_over d.config was.last (was.letter ∷ l) (rank_named on.0))
              (ap (λ k. take k (was.later ++ x ∷ [])) (sym at) ∙ take-append_seam was.later (x ∷ [])) ∙ going_on,
        )

    reading : IsReading me (record d { got = d.got ++ x ∷ []; sent = f.sent }) new fault own
    reading = record {
      last = was.last;
      walks = was.walks;
      within = was.within;
      letter = was.letter;
      later = was.later ++ x ∷ [];
      got = ap (λ l. l ++ x ∷ []) was.got ∙ append_assoc (came d) (was.letter ∷ was.later) (x ∷ []);
      going = was.going;
      breaks = was.breaks;
      sends = λ to low.
          answers.told_are to low ∙ ap (λ l. l ++ letters_to d.config to more) (was.sends to low)
          ∙ append_assoc (sent d.config to d.events) (letters_to d.config to all) (letters_to d.config to more)
          ∙ ap (λ l. sent d.config to d.events ++ l)
          (sym (letters_to_more d.config to all more)
          ∙ ap (letters_to d.config to) (sym (all_told_more d.config me was.last was.letter was.later x (told fault))));
      over_are = over_noted d.config was.last (was.letter ∷ was.later) x over new was.over_are noted;
      no_sooner = λ n within. sooner n within (cases_lt n (length was.later));
    }

-- the run's numbers are those of the desk
pub noted_at : (its config : Config) (over new : List Bool) (x : Posted) → its ≡ config
    → ((k : ℕ) (b : Bool) → k < config.ranks → slice_get over k ≡ Some b
    → slice_get new k ≡ Some (b || ends_rank config x.from x.letter.message k))
    → (k : ℕ) (b : Bool) → k < its.ranks → slice_get over k ≡ Some b
    → slice_get new k ≡ Some (b || ends_rank its x.from x.letter.message k)
noted_at its config over new x at =
    subst (λ (y : Config). (k : ℕ) (b : Bool) → k < y.ranks → slice_get over k ≡ Some b
    → slice_get new k ≡ Some (b || ends_rank y x.from x.letter.message k)) (sym at)

-- and so where each rank is over
pub through_at : (its config : Config) (over : List Bool) → its ≡ config
    → ((k : ℕ) (b : Bool) → k < config.ranks → slice_get over k ≡ Some b → b ≡ true)
    → (k : ℕ) (b : Bool) → k < its.ranks → slice_get over k ≡ Some b → b ≡ true
through_at its config over at =
    subst (λ (y : Config). (k : ℕ) (b : Bool) → k < y.ranks → slice_get over k ≡ Some b → b ≡ true) (sym at)

-- until each rank is over
pub reads_out : (me : Server) (d : DeskModel) (over : List Bool) (fault : ActorFault) (own : Bool) → IsReading me d over fault own
    → ((k : ℕ) (b : Bool) → k < d.config.ranks → slice_get over k ≡ Some b → b ≡ true) → EndsBroken me d fault own
reads_out me d over fault own was through = (
  was.last,
  was.walks,
  was.within,
  record {
    letter = was.letter;
    later = was.later;
    got = was.got;
    going = was.going;
    breaks = was.breaks;
    sends = was.sends;
    over = λ rank low. through rank.0 _ low (was.over_are rank.0 low);
    no_sooner = was.no_sooner;
  },
)
