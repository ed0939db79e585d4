-- How the end is told to idle ranks, one after the other.
use Rattle.std.proofs.Common.{◌≡◌, ◌<◌, ◌+◌, ℕ, true, false, List, [], ◌∷◌, ◌++◌, append-nil, append_assoc, filter, length, not, Option}
use Rattle.std.proofs.Common.{None, Some, refl, sym, ap, ◌∙◌, subst, arith}
use Rattle.std.specs.Prelude.{is_none}
use Rattle.std.specs.List.{AllPairs}
use Rattle.std.specs.Option.{option_map}
use Rattle.std.proofs.lemmas.Bool.{eq-eqb}
use Rattle.std.proofs.lemmas.List.Elements.{All-head, All-tail}
use Rattle.adlb_unit.specs.declared.actors.Actor.TheVariants as by
use Rattle.adlb_unit.specs.declared.messages.Message.TheVariants as tells
use Rattle.adlb_unit.specs.declared.names.Rank.{Rank}
use Rattle.adlb_unit.specs.declared.names.Server.{Server}
use Rattle.adlb_unit.specs.declared.notes.End.{End}
use Rattle.bag_ledger.specs.declared.entries.Entry.TheVariants as enters
use Rattle.bag_ledger.proofs.Tests.{some_is}
use Rattle.work_queue.proofs.Searched.{find_none}
use Rattle.server_components.proofs.Places.{AreApart}
use Rattle.server_components.specs.Calls.{call_of, first_idle, gone, gone_if}
use Rattle.server_components.specs.Parked.{IsParked, is_idle, is_of}
use Rattle.server_components.specs.declared.waits.Waiting.{Waiting}
use Rattle.server_law.specs.Acts.{Act, Around, Tells, to_rank}
use Rattle.server_law.specs.Carried.{counted, posted}
use Rattle.server_law.specs.Endings.{tells_all, tells_one}
use Rattle.server_law.specs.State.{ServerModel}
use Rattle.server_core.specs.inside.{parked_of}
use Rattle.server_core.specs.Out.{HasRoom, Out, going_on, with_answer}
use Rattle.server_core.proofs.Alone.{NonePasses, before_others, behind_others, found_split, gone_one, one_fewer}
use Rattle.server_core.proofs.Going.{answers_one, room_left}
use Rattle.server_core.specs.Waits.{unidle_first, with_parked}
use Rattle.server_core.proofs.Sounds.{waits_within}

-- Those that are not idle are passed.

passed_one : (end : End) (at : Around) (e : Waiting) (told passed : List Act) → is_idle e ≡ false
    → tells_one end at e e.asked told passed ≡ passed
passed_one end at e told passed asked = by_asked e.asked asked
  where
    by_asked : (o : Option Server) → is_none o ≡ false → tells_one end at e o told passed ≡ passed
    by_asked None asked = absurd (cc)
    by_asked (Some t) asked = refl

told_one : (end : End) (at : Around) (e : Waiting) (told passed : List Act) → is_idle e ≡ true
    → tells_one end at e e.asked told passed ≡ Tells at e.wish e.to_ask end ∷ told
told_one end at e told passed idle = by_asked e.asked idle
  where
    by_asked : (o : Option Server) → is_none o ≡ true → tells_one end at e o told passed ≡ Tells at e.wish e.to_ask end ∷ told
    by_asked None idle = refl
    by_asked (Some t) idle = absurd (cc)

passed : (end : End) (front before xs : List Waiting) → NonePasses is_idle before
    → tells_all end front (before ++ xs) ≡ tells_all end (front ++ before) xs
passed end front [] xs none = ap (λ l. tells_all end l xs) (sym (append-nil front))
passed end front (e ∷ before) xs none =
    let F : Waiting → Type 0 = λ x. is_idle x ≡ false in
    passed_one end (record { before = front; behind = before ++ xs }) e (tells_all end front (before ++ xs))
    (tells_all end (front ++ e ∷ []) (before ++ xs)) (All-head F e before none)
    ∙ passed end (front ++ e ∷ []) before xs (All-tail F e before none)
    ∙ ap (λ l. tells_all end l xs) (append_assoc front (e ∷ []) before)

-- where none is idle, nobody is told
pub none_told : (end : End) (waiting : List Waiting) → NonePasses is_idle waiting → tells_all end [] waiting ≡ []
none_told end waiting none =
    ap (tells_all end []) (sym (append-nil waiting)) ∙ passed end [] waiting [] none

-- The first idle rank is told, and then the others.

abbrev around : List Waiting → List Waiting → Around
around before behind = record { before = before; behind = behind }

next_told : (end : End) (before : List Waiting) (e : Waiting) (behind : List Waiting) → NonePasses is_idle before → is_idle e ≡ true
    → tells_all end [] (before ++ e ∷ behind) ≡ Tells (around before behind) e.wish e.to_ask end ∷ tells_all end [] (before ++ behind)
next_told end before e behind none idle =
    passed end [] before (e ∷ behind) none
    ∙ told_one end (around before behind) e (tells_all end before behind) (tells_all end (before ++ e ∷ []) behind) idle
    ∙ ap (λ l. Tells (around before behind) e.wish e.to_ask end ∷ l) (sym (passed end [] before behind none))

waits_told : (o : Option Waiting) (rank : Rank) (request : ℕ) → Some (rank, request) ≡ option_map (λ (e : Waiting). call_of e.wish) o
    → (e : Waiting) × (o ≡ Some e) × (call_of e.wish ≡ (rank, request))
waits_told None rank request told = absurd (cc)
waits_told (Some e) rank request told = (e, refl, some_is (sym told))

none_waits : (o : Option Waiting) → None ≡ option_map (λ (e : Waiting). call_of e.wish) o → o ≡ None
none_waits None told = refl
none_waits (Some e) told = absurd (cc)

-- What comes of the first idle rank.
pub record EndTold (s u : ServerModel) (rank : Rank) (request : ℕ) : Type 0 where
  pub within : rank.0 < u.config.ranks
  pub fewer : length u.kept.parked.waiting < length s.kept.parked.waiting
  pub room : (out : Out) (more : ℕ) → HasRoom s out more → HasRoom u out (more + 1)
  pub goes : (end : End) (out : Out)
      → going_on (with_answer out (posted u (to_rank rank (tells.Ended request end))) (enters.Over rank request end))
      (tells_all end [] u.kept.parked.waiting) (counted u (by.Rank rank)) ≡ going_on out (tells_all end [] s.kept.parked.waiting) s

module _ (s : ServerModel) (sound : IsParked (parked_of s)) where
  abbrev first : Option Waiting
  first = first_idle (parked_of s)

  abbrev without : Option Waiting → ServerModel
  without o = with_parked s s.kept.queue (gone_if (parked_of s) o).parked

  ends : (e : Waiting) → first ≡ Some e → EndTold s (without (Some e)) e.wish.rank e.wish.request
  ends e is =
      let at = found_split is_idle s.kept.parked.waiting e is in
      let apart = subst (AllPairs AreApart) at.stands sound.once in
      let number : Waiting → ℕ = λ x. x.wish.rank.0 in
      let left = ap (filter (λ (x : Waiting). not (is_of e.wish.rank x))) at.stands
      ∙ gone_one (is_of e.wish.rank) at.before e at.behind (before_others number at.before e at.behind apart)
      (eq-eqb e.wish.rank.0 e.wish.rank.0 refl) (behind_others number at.before e at.behind apart) in
      let now = ap (λ (l : List Waiting). length l) left in
      let was = ap (λ (l : List Waiting). length l) at.stands ∙ one_fewer at.before e at.behind in
      record {
        within = waits_within (parked_of s) sound is_idle e is;
        fewer = omega (arith, now, was);
        room = λ out more room.
            room_left s s.kept.queue (gone (parked_of s) e.wish.rank).parked out more (more + 1) (omega (arith, now, was)) room;
        goes = λ end out.
            let x = to_rank e.wish.rank (tells.Ended e.wish.request end) in
            let over = enters.Over e.wish.rank e.wish.request end in
            let tell : Act = Tells (around at.before at.behind) e.wish e.to_ask end in
            let more = tells_all end [] (at.before ++ at.behind) in
            let acts = ap (tells_all end []) at.stands ∙ next_told end at.before e at.behind at.fails at.passes in
            let Goes : List Waiting → Type 0 = λ l.
            let v = with_parked s s.kept.queue (record { waiting = l; wishes = s.kept.parked.wishes }) in
            going_on (with_answer out (posted v x) over) (tells_all end [] l) (counted v (by.Rank e.wish.rank))
            ≡ going_on out (tells_all end [] s.kept.parked.waiting) s in
            let told : Goes (at.before ++ at.behind) =
            sym (ap (λ l. going_on out l s) acts ∙ answers_one tell more s out x over refl refl) in
            subst Goes (sym left) told;
      }

  -- what is known of the end that is told next
  pub end_told : {u : ServerModel} {rank : Rank} {request : ℕ} → u ≡ unidle_first s
      → Some (rank, request) ≡ option_map (λ (e : Waiting). call_of e.wish) first → EndTold s u rank request
  end_told {u} {rank} {request} made told =
      let e = waits_told first rank request told in
      let now = subst (λ (k : Rank × ℕ). EndTold s (without (Some e.0)) k.0 k.1) e.2 (ends e.0 e.1) in
      subst (λ v. EndTold s v rank request) (sym (made ∙ ap without e.1)) now

  -- or none is idle
  pub nobody_idle : {u : ServerModel} → u ≡ unidle_first s → None ≡ option_map (λ (e : Waiting). call_of e.wish) first → (end : End)
      → tells_all end [] u.kept.parked.waiting ≡ []
  nobody_idle made told end =
      let none = none_waits first told in
      ap (λ (v : ServerModel). tells_all end [] v.kept.parked.waiting) (made ∙ ap without none)
      ∙ none_told end s.kept.parked.waiting (find_none is_idle s.kept.parked.waiting none)
