-- Where there is one server, no letter is under way between servers, and nothing is promised.
use Rattle.std.proofs.Common.{◌≡◌, ◌==◌, ◌&&◌, not, true, List, [], ◌∷◌, refl, arith}
use Rattle.std.proofs.lemmas.Bool.{and_parts, eq-eqb, ltb-true}
use Rattle.std.proofs.lemmas.List.Sums.{sum_by-cons}
use Rattle.adlb_unit.specs.Ids.{same_unit}
use Rattle.adlb_unit.specs.Links.{is_within, place_of}
use Rattle.adlb_unit.specs.declared.actors.Actor.{Actor}
use Rattle.adlb_unit.specs.declared.actors.Actor.TheVariants as by
use Rattle.adlb_unit.specs.declared.configs.Config.{Config}
use Rattle.adlb_unit.specs.declared.letters.Letter.{Letter}
use Rattle.adlb_unit.specs.declared.names.UnitId.{UnitId}
use Rattle.adlb_unit.proofs.Same.{same_unit_from}
use Rattle.bag_ledger.specs.Bag.{Bag}
use Rattle.bag_ledger.specs.declared.states.Promise.{Promise}
use Rattle.bag_law.specs.Counts.{one as one_named, promises_named}
use Rattle.core_run.specs.World.{World, link}
use Rattle.core_law.specs.Letters.{fits_between, misfit}
use Rattle.core_law.specs.OnLinks.{OnLinks}
use Rattle.core_law.specs.Pushed.{IsPushed, letters_of}
use Rattle.core_law.specs.Pushes.{promised_letter}
use Rattle.core_law.specs.Well.{IsWell}
use Rattle.core_law.proofs.OnLinks.{zero_from}
use Rattle.core_law.proofs.OwedByRanks.{all_fit}
use Rattle.core_law.proofs.OwnStates.{fits_is}
use Rattle.core_law.proofs.UnderWay.{each_weaker}

-- no server writes to itself
none_promised : (config : Config) (id : UnitId) (from to : Actor) (l : Letter) → config.servers ≡ 1 → is_within config from ≡ true
    → is_within config to ≡ true → misfit config from to l.message ≡ 0 → promised_letter id from to l.message ≡ 0
none_promised config id (by.Rank from) to l alone f t fits = refl
none_promised config id (by.Server from) (by.Rank to) l alone f t fits = refl
none_promised config id (by.Server from) (by.Server to) l alone f t fits =
    let is = fits_is (not (from.0 == to.0) && fits_between config from to l.message) fits in
    let apart = (and_parts (not (from.0 == to.0)) (fits_between config from to l.message) is).0 in
    let a = ltb-true from.0 config.servers f in
    let b = ltb-true to.0 config.servers t in
    let same = eq-eqb from.0 to.0 (omega arith) in
    absurd (cc (apart, same))

none_between : (w : World) (id : UnitId) → IsWell w → w.config.servers ≡ 1
    → OnLinks (λ from to (l : Letter). promised_letter id from to l.message ≡ 0) w.config w.links
none_between w id well alone =
    let fit = all_fit w well.shape well.kind in
    record {
      each = λ from to f t. each_weaker (λ (l : Letter). misfit w.config from to l.message ≡ 0)
          (λ (l : Letter). promised_letter id from to l.message ≡ 0) (λ l none. none_promised w.config id from to l alone f t none)
          (link w.links (place_of w.config from) (place_of w.config to)) (fit.each from to f t);
    }

-- if no unit is promised, there is no promise
pub none_named : (rooms : List Promise) → ((id : UnitId) → promises_named id rooms ≡ 0) → rooms ≡ []
none_named [] none = refl
none_named (p ∷ rooms) none =
    let same = same_unit_from p.id p.id refl in
    let its : one_named (same_unit p.id p.id) ≡ 1 = rw same refl in
    let sum = sum_by-cons (λ (q : Promise). one_named (same_unit q.id p.id)) p rooms in
    let all = none p.id in
    absurd (omega arith)

-- with one server nothing is promised
pub alone_unpromised : (w : World) (b : Bag) → IsWell w → w.config.servers ≡ 1 → IsPushed w b → b.promises ≡ []
alone_unpromised w b well alone pushed =
    none_named b.promises
    (λ id.
    let nothing = zero_from (letters_of (promised_letter id)) w.config w.links (well.shape).square (none_between w id well alone) in
    let rooms = pushed.rooms id in
    omega arith)
