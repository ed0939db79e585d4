-- What is lawful stays so where a rank begins a call, and where it hears an answer.
use Rattle.std.proofs.Common.{◌≡◌, true, false, List, ◌++◌, Option, Some, None, refl, sym, ap, ◌∙◌, subst, arith}
use Rattle.std.specs.Prelude.{All, Contains}
use Rattle.std.proofs.lemmas.Bool.{eq-eqb, lt-ltb}
use Rattle.std.proofs.lemmas.List.Elements.{All-weaker, Contains-append_left}
use Rattle.adlb_unit.specs.Links.{is_within}
use Rattle.adlb_unit.specs.declared.actors.Actor.{Actor}
use Rattle.adlb_unit.specs.declared.actors.Actor.TheVariants as by
use Rattle.adlb_unit.specs.declared.letters.Letter.{Letter}
use Rattle.adlb_unit.specs.declared.messages.Message.{Message}
use Rattle.adlb_unit.specs.declared.names.Rank.{Rank}
use Rattle.adlb_unit.specs.declared.names.Server.{Server}
use Rattle.adlb_unit.specs.declared.notes.UnitNote.{UnitNote}
use Rattle.bag_ledger.specs.declared.entries.Call.{Call}
use Rattle.bag_ledger.specs.Bag.{Bag}
use Rattle.bag_ledger.specs.Runs.{calls_from}
use Rattle.rank_client.specs.declared.pendings.Pending.TheVariants as waits_for
use Rattle.rank_client.specs.Agreement.{ClientAgrees, Follows, holds, in_call, note_coming, rank_of, said, HasAccepted, accepted_by}
use Rattle.rank_client.specs.State.{ClientModel}
use Rattle.rank_client.specs.Step.{Made}
use Rattle.rank_client.proofs.Begins.{begins}
use Rattle.rank_client.proofs.Hears.{hears}
use Rattle.core_run.specs.World.{World, client_of, taken}
use Rattle.core_law.specs.Found.{found_in}
use Rattle.core_law.specs.Lawful.{IsLawful, OfCall}
use Rattle.core_law.specs.OnLinks.{OnLinks}
use Rattle.core_law.specs.Letters.{any_remote, call_letter, one_letter}
use Rattle.core_law.specs.Measures.{Weights, links_weight, measure, weights}
use Rattle.core_law.specs.Well.{IsShaped, IsWell}
use Rattle.core_law.proofs.EveryRun.{answer_heard, answer_within, call_began, call_within}
use Rattle.core_law.proofs.NotWaiting.{waits_nowhere}
use Rattle.core_law.proofs.OwedByRanks.{letters_are}
use Rattle.core_law.proofs.RankSteps.{IsRankStep, rank_lawful}
use Rattle.core_law.proofs.Steps.{Begins, Hears, taken_shaped, taken_weight}
use Rattle.core_law.proofs.UnderWay.{at_front, taken_on, zero_on}
use Rattle.core_law.proofs.RankPushes.{heard_leaves}

-- where a measure is 0 no letter weighs anything
pub no_letters : (m : Weights) (w : World) → measure m w ≡ 0 → links_weight w.config m w.links ≡ 0
unfolding measure
no_letters m w none = omega arith

-- An idle rank.

idle_rank : (c : ClientModel) (coming : Option Message) (f : _) → c.pending ≡ waits_for.Nothing → rank_of c f coming ≡ rank_of c f None
idle_rank c coming true idle = refl
idle_rank c coming false idle = ap (λ p. in_call c p coming) idle ∙ sym (ap (λ p. in_call c p None) idle)

idle_accepted : (c : ClientModel) (coming : Option Message) → c.pending ≡ waits_for.Nothing
    → accepted_by c c.pending coming ≡ accepted_by c c.pending None
idle_accepted c coming idle = ap (λ p. accepted_by c p coming) idle ∙ sym (ap (λ p. accepted_by c p None) idle)

idle_stands : (c : ClientModel) (coming : Option Message) (b : Bag) → c.pending ≡ waits_for.Nothing → ClientAgrees c coming b
    → ClientAgrees c None b
idle_stands c coming b idle a =
    let same = idle_rank c coming c.finished idle in
    let notes : note_coming c.pending coming ≡ note_coming c.pending None =
    ap (λ p. note_coming p coming) idle ∙ sym (ap (λ p. note_coming p None) idle) in
    record {
      rank = a.rank ∙ ap Some same;
      servers = a.servers;
      caused = rw same at a.caused;
      held = rw notes at a.held;
      owed = rw idle tt;
      accepted = subst (HasAccepted b (rank_of c c.finished None).batch) (idle_accepted c coming idle) (rw same at a.accepted);
    }

-- a rank without a pending call has said its transcript
pub idle_said : (c : ClientModel) (coming : Option Message) → c.pending ≡ waits_for.Nothing → said c c.pending coming ≡ c.transcript
idle_said c None idle = ap (λ p. said c p None) idle
idle_said c (Some m) idle = ap (λ p. said c p (Some m)) idle

-- A call begins.

notes_held : (notes more held : List UnitNote) → All (Contains notes) held → All (Contains (notes ++ more)) held
notes_held notes more held all =
    All-weaker (Contains notes) (Contains (notes ++ more)) (λ n there. Contains-append_left notes more n there) held all

-- what is lawful stays so where a rank begins a call
pub call_lawful : (w next : World) (me : Rank) (call : Call) (x : Made) (b : Bag) → IsWell w → IsLawful w b
    → Begins w me call x next
    → (n : Bag) × IsLawful next n
call_lawful w next me call x b well l does =
    let c = client_of w me in
    let shape = call_began w next me call x well.own does in
    let its = l.seats me does.here in
    let seat = its.1 in
    let found = found_in w.config in
    let f : Follows found c None b x = begins found c call x b does.does (idle_stands c its.0 b shape.free seat.stands) l.rests in
    let empty : measure (weights (one_letter me)) w ≡ 0 =
    letters_are w me (let e = (well.shape).ranks in let h = does.here in omega arith) (well.one me) ∙ rw shape.free refl in
    let square = (well.shape).square in
    let step : IsRankStep w me w.links its.0 x b f.0 = record {
      here = does.here;
      square = square;
      none = zero_on (weights (one_letter me)) w.config w.links square (no_letters (weights (one_letter me)) w empty);
      servers = λ f is. refl;
      nowhere = waits_nowhere w w.links me well empty refl;
      own = shape.own;
      entries = shape.entries;
      notes = notes_held c.handles (note_coming c.pending its.0) (holds x.state None) shape.notes;
      after = shape.after;
      within = call_within w next me call x well.own does;
      run = f.1;
      stands = f.2;
      transcript = f.3 ∙ ap (λ s. s ++ calls_from b x.entries c.me) (idle_said c None shape.free ∙ sym (idle_said c its.0 shape.free));
    } in
    (f.0, subst (λ (v : World). IsLawful v f.0) (sym does.is) (rank_lawful w me w.links its.0 x b f.0 (λ P on. on) well l seat step))

-- An answer is heard.

-- what is lawful stays so where a rank hears a letter
pub answer_lawful : (w next : World) (from : Server) (me : Rank) (letter : Letter) (rest : List Letter) (x : Made) (b : Bag)
    → IsWell w → IsLawful w b
    → Hears w from me letter rest x next → (n : Bag) × IsLawful next n
answer_lawful w next from me letter rest x b well l does =
    let c = client_of w me in
    let m = letter.message in
    let links = taken w (by.Server from) (by.Rank me) rest in
    let shape = answer_heard w next from me letter rest x well.own does in
    let its = l.seats me does.here in
    let seat = its.1 in
    let server : is_within w.config (by.Server from) ≡ true = lt-ltb from.0 w.config.servers does.there in
    let rank : is_within w.config (by.Rank me) ≡ true = lt-ltb me.0 w.config.ranks does.here in
    let of_call = at_front (OfCall c its.0) w.config w.links (by.Server from) (by.Rank me) letter rest seat.letters server rank
    does.front in
    let comes : its.0 ≡ Some m = (of_call (sym seat.named)).0 in
    let found = found_in w.config in
    let f : Follows found c (Some m) b x =
    hears found c from letter x b does.does (subst (λ (o : Option Message). ClientAgrees c o b) comes seat.stands) l.rests in
    let one = weights (one_letter me) in
    let left : World = record w { links = links } in
    let empty : measure one left ≡ 0 =
    let all : measure one w ≡ 1 =
    letters_are w me (let e = (well.shape).ranks in let h = does.here in omega arith) (well.one me) ∙ rw shape.busy refl in
    let weight : call_letter me (by.Server from) (by.Rank me) m ≡ 1 = rw (eq-eqb me.0 me.0 refl) refl in
    let took = taken_weight one w (by.Server from) (by.Rank me) letter rest well.shape server rank does.front in
    omega arith in
    let beside = taken_weight (weights (any_remote me)) w (by.Server from) (by.Rank me) letter rest well.shape server rank does.front in
    let shaped : IsShaped left = taken_shaped w (by.Server from) (by.Rank me) rest well.shape server rank in
    let step : IsRankStep w me links its.0 x b f.0 = record {
      here = does.here;
      square = shaped.square;
      none = zero_on one w.config links shaped.square (no_letters one left empty);
      servers = heard_leaves w from me letter rest well.shape server rank does.front;
      nowhere = waits_nowhere w links me well empty (omega (arith, beside));
      own = shape.own;
      entries = shape.entries;
      notes = subst (λ (o : Option Message). All (Contains (holds c o)) (holds x.state None)) (sym comes) shape.notes;
      after = shape.after;
      within = answer_within w next from me letter rest x well.own does;
      run = f.1;
      stands = f.2;
      transcript = f.3 ∙ ap (λ o. said c c.pending o ++ calls_from b x.entries c.me) (sym comes);
    } in
    let goes : (P : Actor → Actor → Letter → Type 0) → OnLinks P w.config w.links → OnLinks P w.config links =
    λ P on. taken_on P w.config w.links (by.Server from) (by.Rank me) letter rest (well.shape).square on server rank does.front in
    (f.0, subst (λ (v : World). IsLawful v f.0) (sym does.is) (rank_lawful w me links its.0 x b f.0 goes well l seat step))
