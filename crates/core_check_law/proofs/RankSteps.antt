-- What a token says of the bag through a rank's step: where all is settled no rank makes one.
use Rattle.std.proofs.Common.{◌≡◌, ◌<◌, true, List, Some, sym, subst}
use Rattle.std.proofs.lemmas.Bool.{lt-ltb}
use Rattle.adlb_unit.specs.Links.{is_within}
use Rattle.adlb_unit.specs.declared.actors.Actor.{Actor}
use Rattle.adlb_unit.specs.declared.actors.Actor.TheVariants as by
use Rattle.adlb_unit.specs.declared.letters.Letter.{Letter}
use Rattle.adlb_unit.specs.declared.names.Rank.{Rank}
use Rattle.adlb_unit.specs.declared.names.Server.{Server}
use Rattle.bag_ledger.specs.Bag.{Bag, settled, start as empty_bag}
use Rattle.bag_ledger.specs.Runs.{IsRunWhere}
use Rattle.bag_ledger.specs.declared.entries.Call.{Call}
use Rattle.bag_ledger.specs.declared.entries.Entry.{Entry}
use Rattle.bag_ledger.proofs.Legal.{joined_where}
use Rattle.rank_client.specs.Step.{Made}
use Rattle.core_run.specs.World.{Links, World, actors, after_rank, client_of, taken}
use Rattle.core_law.specs.Found.{found_in}
use Rattle.core_law.specs.Lawful.{IsLawful}
use Rattle.core_law.specs.OnLinks.{Each, OnLinks}
use Rattle.core_law.specs.Others.{teller}
use Rattle.core_law.specs.Well.{IsSquare, IsWell}
use Rattle.core_law.proofs.EveryRun.{answer_heard, answer_within, call_began, call_within, well_kept}
use Rattle.core_law.proofs.Moments.{answer_lawful, call_lawful}
use Rattle.core_law.proofs.RankShapes.{ChangesRank}
use Rattle.core_law.proofs.Steps.{A_call, An_answer, Begins, Hears, taken_shaped}
use Rattle.core_law.proofs.Sums.{AreWithin}
use Rattle.core_law.proofs.UnderWay.{each_weaker, posted_on, taken_on, weaker}
use Rattle.core_check_law.specs.OnWay.{IsRinged, OnToken}
use Rattle.core_check_law.specs.Settling.{IsResting, IsSettledBehind, Settles}
use Rattle.core_check_law.proofs.Follows.{Behind, Holds}
use Rattle.core_check_law.proofs.Ranks.{hears_never, ready_never}
use Rattle.core_check_law.proofs.Rings.{does_ringed, said_none}
use Rattle.core_check_law.proofs.Runs.{rank_other, run_other, split_run}
use Rattle.core_check_law.proofs.Tokens.{token_weaker}
use Rattle.core_check_law.proofs.VoidTokens.{IsVoid, Voids, open_before, void_settles}

-- where the rank could not make the step
rank_voids : (w : World) (me : Rank) (links : Links) (x : Made) (b n : Bag) → me.0 < w.config.ranks → IsSquare (actors w.config) links
    → AreWithin w.config x.sends → ((P : Actor → Actor → Letter → Type 0) → OnLinks P w.config w.links → OnLinks P w.config links)
    → IsRunWhere (found_in w.config) b x.entries n → (IsResting w b me → ⊥) → Settles w b → Voids (after_rank w me links x) n
rank_voids w me links x b n here square within goes run never on =
    posted_on (λ from to l. OnToken (IsVoid v n) from to l.message) w.config links (by.Rank me) x.sends square
    (weaker (λ from to l. OnToken (IsSettledBehind w b) from to l.message)
    (λ from to l. OnToken (IsVoid v n) from to l.message) w.config links
    (λ from to l p. token_weaker (IsSettledBehind w b) (IsVoid v n) (λ to t was second un still.
    never (((was second un (open_before (found_in w.config) b n x.entries run t.asked still)).rest).ranks me here)) from to l.message p)
    (goes (λ from to l. OnToken (IsSettledBehind w b) from to l.message) on))
    (lt-ltb me.0 w.config.ranks here) within (said_none (IsVoid v n) me x.sends)
  where
    v : World
    v = after_rank w me links x

rank_holds : (w : World) (me : Rank) (links : Links) (x : Made) (b n : Bag) → Holds w b → Each (ChangesRank (client_of w me).me) x.entries
    → IsWell (after_rank w me links x) → IsLawful (after_rank w me links x) n → IsRinged (after_rank w me links x)
    → IsRunWhere (found_in w.config) b x.entries n × Holds (after_rank w me links x) n
rank_holds w me links x b n h each well l ring =
    let run = split_run (found_in w.config) (empty_bag w.config) b n w.ledger x.entries (h.lawful).run l.run in
    let who = (client_of w me).me in
    let told = each_weaker (ChangesRank who) (λ (e : Entry). teller e ≡ Some who) (λ e is. is.0) x.entries each in
    let strict = run_other (found_in w.config) b n x.entries (rank_other who x.entries told) run in (
      run,
      record {
        well = well;
        lawful = l;
        tokens = ring.tokens;
        legal = joined_where settled (empty_bag w.config) b n w.ledger x.entries h.legal strict;
      },
    )

-- a rank that begins a call leaves what tokens say of the bag
pub call_settles : (w next : World) (me : Rank) (call : Call) (x : Made) (b : Bag) → Holds w b → IsRinged w → Settles w b
    → Begins w me call x next → Behind Settles next
call_settles w next me call x b h ring on does =
    let v = after_rank w me w.links x in
    let shape = call_began w next me call x (h.well).own does in
    let l = call_lawful w next me call x b h.well h.lawful does in
    let n = l.0 in
    let well = subst IsWell does.is (well_kept w next h.well (A_call does)) in
    let lawful = subst (λ (y : World). IsLawful y n) does.is l.1 in
    let after = subst IsRinged does.is (does_ringed w next h.well (A_call does) ring) in
    let kept = rank_holds w me w.links x b n h shape.entries well lawful after in
    let its = (h.lawful).seats me does.here in
    let void = rank_voids w me w.links x b n does.here ((h.well).shape).square (call_within w next me call x (h.well).own does)
    (λ P p. p) kept.0
    (λ rests. ready_never w b h.well me does.here its.0 its.1 rests shape.free shape.going) on in
    subst (Behind Settles) (sym does.is) (n, kept.1, void_settles v n void)

-- a rank that hears an answer leaves what tokens say of the bag
pub answer_settles : (w next : World) (from : Server) (me : Rank) (letter : Letter) (rest : List Letter) (x : Made) (b : Bag) → Holds w b
    → IsRinged w → Settles w b → Hears w from me letter rest x next → Behind Settles next
answer_settles w next from me letter rest x b h ring on does =
    let links = taken w (by.Server from) (by.Rank me) rest in
    let v = after_rank w me links x in
    let shape = answer_heard w next from me letter rest x (h.well).own does in
    let l = answer_lawful w next from me letter rest x b h.well h.lawful does in
    let n = l.0 in
    let well = subst IsWell does.is (well_kept w next h.well (An_answer does)) in
    let lawful = subst (λ (y : World). IsLawful y n) does.is l.1 in
    let after = subst IsRinged does.is (does_ringed w next h.well (An_answer does) ring) in
    let kept = rank_holds w me links x b n h shape.entries well lawful after in
    let its = (h.lawful).seats me does.here in
    let f : is_within w.config (by.Server from) ≡ true = lt-ltb from.0 w.config.servers does.there in
    let t : is_within w.config (by.Rank me) ≡ true = lt-ltb me.0 w.config.ranks does.here in
    let square = (taken_shaped w (by.Server from) (by.Rank me) rest (h.well).shape f t).square in
    let void = rank_voids w me links x b n does.here square (answer_within w next from me letter rest x (h.well).own does)
    (λ P p. taken_on P w.config w.links (by.Server from) (by.Rank me) letter rest ((h.well).shape).square p f t does.front) kept.0
    (λ rests. hears_never w b h.well me does.here its.0 its.1 rests from letter rest does.there does.front) on in
    subst (Behind Settles) (sym does.is) (n, kept.1, void_settles v n void)
