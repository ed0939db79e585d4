-- Units are read back from their bodies.
use Rattle.std.proofs.Common.{◌≡◌, ◌<◌, ◌≤◌, ◌+◌, ◌-◌, ◌^◌, ◌==◌, ◌&&◌, ℕ, zero, suc, Bool, true, false, cond, List, [], ◌∷◌, ◌++◌, length}
use Rattle.std.proofs.Common.{take, drop, All, Option, Some, None, refl, sym, ap, ◌∙◌, subst, arith, length-append}
use Rattle.std.specs.Prelude.{nat_le, nat_lt, option_to_list}
use Rattle.std.specs.Int.{from_be_bytes, to_be_bytes, w64}
use Rattle.std.proofs.lemmas.Bool.{and_from, and_parts, le-leb, leb-true, lt-ltb, ltb-true}
use Rattle.std.proofs.lemmas.List.Elements.{All-cons, All-nil}
use Rattle.std.proofs.lemmas.Nat.{from_be_bytes-to_be_bytes_8}
use Rattle.balance_law.specs.Orderly.{IsAimed}
use Rattle.work_law.specs.Work.{IsWork}
use Rattle.tour_app.specs.Bodies.{answer_in, body_of, shared}
use Rattle.tour_app.specs.Starts.{StartModel, costs}
use Rattle.tour_app.specs.Works.{answer_of, answer_over, fits, form, is_pair, made_of, makes, over, pair_tour, read, tours}
use Rattle.tour_app.specs.declared.units.TourUnit.{TourUnit}
use Rattle.tour_app.specs.declared.units.TourUnit.TheVariants.{Pair, Answer}
use Rattle.tour_law.specs.Tours.{cost}
use Rattle.tour_law.specs.Search.{is_better}

answer_back : (price : ℕ) (tour : List ℕ) → price < 2 ^ 64 → length tour ≤ 12
    → answer_in (body_of (Answer price tour)) ≡ Some (Answer price tour)
answer_back price tour small few =
    let body : List ℕ = to_be_bytes w64 price ++ tour in
    let eight : length (to_be_bytes w64 price) ≡ 8 = refl in
    let long : length body ≡ 8 + length tour = omega (arith, length-append (to_be_bytes w64 price) tour, eight) in
    let fits : (nat_le 8 (length body) && nat_le (length body) 20) ≡ true =
    and_from (nat_le 8 (length body)) (nat_le (length body) 20) (le-leb 8 (length body) (omega arith))
    (le-leb (length body) 20 (omega arith)) in
    ap (λ b. cond b (Some (Answer (from_be_bytes w64 (take 8 body)) (drop 8 body))) None) fits
    ∙ ap (λ k. Some (Answer k tour)) (from_be_bytes-to_be_bytes_8 price small)

-- an answer whose numbers fit their places
pub fits_of : (price : ℕ) (tour : List ℕ) → price < 2 ^ 64 → length tour ≤ 12 → fits (Answer price tour) ≡ true
fits_of price tour small few =
    and_from (nat_lt price (2 ^ 64)) (nat_le (length tour) 12) (lt-ltb price (2 ^ 64) small) (le-leb (length tour) 12 few)

back : (unit : TourUnit) → fits unit ≡ true → read (form unit).kind (form unit).answer (form unit).body ≡ Some unit
back (Pair a b) is = refl
back (Answer price tour) is =
    let parts = and_parts (nat_lt price (2 ^ 64)) (nat_le (length tour) 12) is in
    answer_back price tour (ltb-true price (2 ^ 64) parts.0) (leb-true (length tour) 12 parts.1)

-- what work makes needs no common part
abbrev IsPlain : TourUnit → Type 0
IsPlain made = (its : List ℕ) → over made its ≡ []

plain_answer : (b : Bool) (k : ℕ) (t : List ℕ) → All IsPlain (option_to_list (cond b (Some (Answer k t)) None))
plain_answer true k t = All-cons IsPlain (Answer k t) [] (λ its. refl) (All-nil IsPlain)
plain_answer false k t = All-nil IsPlain

plain_pair : (s : StartModel) (a b : ℕ) → All IsPlain (option_to_list (answer_of s a b))
unfolding answer_of
plain_pair s a b =
    plain_answer (is_better (costs s) (pair_tour s a b) s.first) (cost (costs s) (pair_tour s a b)) (pair_tour s a b)

plain_if : (b : Bool) (o : Option TourUnit) → All IsPlain (option_to_list o) → All IsPlain (option_to_list (cond b o None))
plain_if true o all = all
plain_if false o all = All-nil IsPlain

plain_over : (o : Option StartModel) (a b : ℕ) → All IsPlain (option_to_list (answer_over o a b))
plain_over None a b = All-nil IsPlain
plain_over (Some s) a b = plain_if (is_pair s.cities.count a b) (answer_of s a b) (plain_pair s a b)

plain : (common : List ℕ) (unit : TourUnit) → All IsPlain (makes common unit)
plain common (Pair a b) = plain_over (shared common) a b
plain common (Answer price tour) = All-nil IsPlain

aimed : (ranks : ℕ) (unit : TourUnit) → 0 < ranks → IsAimed ranks (form unit).target
aimed ranks (Pair a b) some = tt
aimed ranks (Answer price tour) some = some

-- tours are programs of units as the law of work asks
pub is_work : IsWork tours
is_work = record { read_back = back; plain = plain; aimed = aimed }
