use Rattle.std.proofs.Common.{rules, arith, ◌≡◌, ◌≤◌, ◌<◌, ◌+◌, ◌∷◌, [], ℕ, length, take, true, false, ◌-◌}
use Rattle.std.proofs.Common.{◌++◌, refl, sym, ap, ◌∙◌, subst, Vec, Global, inl, inr, ◌⊎◌, ◌==◌, count_by, append-nil}
use Rattle.std.proofs.lemmas.Bool.{cases_eq}
use Rattle.std.proofs.lemmas.List.{length_push, take_at}
use Rattle.tour_law.specs.Tours.{cost}
use Rattle.tour_law.specs.Search.{IsAsGood}
use Rattle.tour_law.specs.Beginnings.{Continues, path_cost}
use Rattle.tour_law.proofs.Beginnings.{cost-full, full, short, whole}
use Rattle.tour_law.proofs.Once.{tour-long}
use Rattle.tour_law.proofs.Orders.{good_itself}
use Rattle.tour_search.specs.Cities.{IsKnown, costs}
use Rattle.tour_search.specs.declared.tours.Tour.{Tour}
use Rattle.std.specs.Prelude.{vec_capacity}
use Rattle.tour_search.proofs.UnderWay.{IsSearched, all_tried, bound_told, cut_searches, is_next, kept_better, last_is, left_at, new_at}
use Rattle.tour_search.proofs.UnderWay.{none_again, old_at, one_more}
use Rattle.tour_search.proofs.branching.+branch.Goals as goal
use Rattle.tour_search.proofs.branching.+branch.Goals.{then-not-is_visited, else-not-is_visited}

pub is_cut-requires : goal.is_cut-requires
is_cut-requires t c =
    let few = short c.args.cities.now.count c.args.beginning.now.items c.requires.begins in
    let long = tour-long c.args.cities.now.count c.args.best.now.cities.items c.requires.known.tour in
    let e = ap length c.deref-2.ensures.value in
    omega (arith, few, long, e)

pub returns-then-is_cut-clause-good : goal.returns-then-is_cut-clause-good
returns-then-is_cut-clause-good t c = good_itself (costs c.args.cities.now) c.args.best.now.cities.items

pub returns-then-is_cut-clause-searched : goal.returns-then-is_cut-clause-searched
returns-then-is_cut-clause-searched t c =
    let p = c.args.beginning.now.items in
    let cut = rw c.deref-2.ensures.value at (sym c.is_cut.ensures ∙ c.if-is_cut.true) in
    let its_bound =
    bound_told c.args.cities.now.count (costs c.args.cities.now) c.args.ways_out.now p c.deref.result.now c.args.spent c.args.left
    c.bound_of-bound.result c.requires.count c.deref.ensures.value c.requires.begins c.requires.spent c.requires.left
    c.bound_of-bound.ensures in
    cut_searches c.args.cities.now.count (costs c.args.cities.now) c.args.ways_out.now p c.args.best.now.cities.items c.args.best.now.cost
    c.bound_of-bound.result c.args.left (omega arith) c.requires.ways c.requires.begins c.requires.left c.requires.known.cost its_bound cut

pub keep_better-requires : goal.keep_better-requires
keep_better-requires t c =
    let long = tour-long c.args.cities.now.count c.args.best.now.cities.items c.requires.known.tour in
    let e = ap length c.deref-then-depth-count.ensures.value in
    omega (arith, long, e)

pub returns-then-depth-count : goal.returns-then-depth-count
returns-then-depth-count t c =
    let n = c.args.cities.now.count in
    let p = c.args.beginning.now.items in
    let k = costs c.args.cities.now in
    let all : length p ≡ n = omega (arith, c.if-depth-count.true) in
    let e = last_is p c.len-depth.result c.index-last.result.now c.requires.begins.long (omega arith) c.index-last.ensures in
    let of = whole n p c.requires.begins all in
    let its : c.args.spent + c.cost.result ≡ cost k p =
    ap (λ s. s + c.cost.result) c.requires.spent ∙ ap (λ s. path_cost k p + s) (c.cost.ensures.is ∙ ap (λ x. k x 0) e)
    ∙ sym (cost-full n k p c.requires.begins) in
    let kept = kept_better c.args.cities.now (c.args.spent + c.cost.result) p c.args.best.now c.keep_better.new.best c.requires.known of its
    (rw c.deref-then-depth-count.ensures.value at c.keep_better.ensures.taken)
    (rw c.deref-then-depth-count.ensures.value at c.keep_better.ensures.stays) in
    record {
      kept = refl;
      room = refl;
      known = kept.known_is;
      good = kept.old;
      from = elim kept.from [ inl same ↦ inl same | inr its ↦ inr ([], its ∙ sym (append-nil p)) ];
      searched = λ tour is on. subst (λ x. IsAsGood k c.keep_better.new.best.cities.items x) (sym (full n p tour all is on)) kept.new;
    }

pub loop-city-init : goal.loop-city-init
loop-city-init t c = record {
  kept = refl;
  room = refl;
  tour = c.requires.known;
  good = good_itself (costs c.args.cities.now) c.args.best.now.cities.items;
  from = inl refl;
  tried = λ x below. absurd (omega arith);
}

pub overflow_add-there : goal.overflow_add-there
overflow_add-there t c = let few = short c.args.cities.now.count c.args.beginning.now.items c.requires.begins in omega (arith, few)

pub overflow_sub-rest : goal.overflow_sub-rest
overflow_sub-rest t c =
    left_at c.args.cities.now.count c.args.ways_out.now c.args.beginning.now.items c.loop-city.city c.args.left c.requires.begins
    (omega arith)
    (new_at c.args.beginning.now.items c.loop-city.beginning.items c.deref-in-loop-city.result.now c.loop-city.city c.is_visited.result
    c.deref-in-loop-city.ensures.value c.loop-city.invariant.kept c.is_visited.ensures.no c.if-not-is_visited.true) c.requires.left

pub push_reserved-requires : goal.push_reserved-requires
push_reserved-requires t c =
    let e : length c.loop-city.beginning.items ≡ length c.args.beginning.now.items = ap length c.loop-city.invariant.kept in
    let r = c.loop-city.invariant.room in
    let few = short c.args.cities.now.count c.args.beginning.now.items c.requires.begins in
    let a = c.deref-in-loop-city.ensures.len in
    let b = ap length c.deref-in-loop-city.ensures.value in
    omega (arith, few)

pub branch-cities-requires : goal.branch-cities-requires
branch-cities-requires t c =
    let n = c.args.cities.now.count in
    let p = c.args.beginning.now.items in
    let x = c.loop-city.city in
    let new = new_at p c.loop-city.beginning.items c.deref-in-loop-city.result.now x c.is_visited.result
    c.deref-in-loop-city.ensures.value c.loop-city.invariant.kept c.is_visited.ensures.no c.if-not-is_visited.true in
    let e = last_is p c.len-depth.result c.index-last.result.now c.requires.begins.long (omega arith) c.index-last.ensures in
    let items : c.push_reserved.new.self.items ≡ p ++ x ∷ [] = c.push_reserved.ensures.items
    ∙ ap (λ l. l ++ x ∷ []) c.loop-city.invariant.kept in
    let long : length c.push_reserved.new.self.items ≡ length p + 1 = ap length items ∙ length_push p x in
    let room = c.loop-city.invariant.room in
    let is = is_next c.args.cities.now c.args.ways_out.now p c.push_reserved.new.self.items x c.args.spent c.args.left
    c.cost-then-not-is_visited.result
    c.requires.begins (omega arith) new items c.requires.spent c.requires.left
    (c.cost-then-not-is_visited.ensures.is ∙ ap (λ k. costs c.args.cities.now k x) e) in
    let falls : n - length c.push_reserved.new.self.items < n - length p = let few = short n p c.requires.begins in
    let d = c.if-depth-count.false in omega (arith, few, long, d) in (
      search rules,
      (
        c.requires.count,
        (
          c.requires.ways,
          (c.requires.low, (is.begins, (omega arith, (is.spent, (omega arith, (is.left, (omega arith, c.loop-city.invariant.tour))))))),
        ),
      ),
    )

pub loop-city-preserved : goal.loop-city-preserved
loop-city-preserved t c = elim c.if-not-is_visited.branch [
  | then-not-is_visited w ↦
      let p = c.args.beginning.now.items in
      let more : w.push_reserved.new.self.items ≡ p ++ c.loop-city.city ∷ [] =
      w.push_reserved.ensures.items ∙ ap (λ l. l ++ c.loop-city.city ∷ []) c.loop-city.invariant.kept in
      let back : w.truncate.new.self.items ≡ p =
      w.truncate.ensures.items ∙ ap (take c.len-depth.result) (w.branch-cities.ensures.kept ∙ more)
      ∙ take_at p (c.loop-city.city ∷ []) c.len-depth.result (omega arith) in
      let room : vec_capacity w.truncate.new.self ≡ vec_capacity c.args.beginning.now =
      w.truncate.ensures.capacity ∙ w.branch-cities.ensures.room ∙ w.push_reserved.ensures.capacity ∙ c.loop-city.invariant.room in
      let is = one_more c.args.cities.now c.args.beginning.now c.loop-city.beginning w.truncate.new.self c.args.best.now c.loop-city.best
      w.branch-cities.new.best
      c.loop-city.city w.push_reserved.new.self.items c.loop-city.invariant more back room w.branch-cities.ensures.known
      w.branch-cities.ensures.good
      w.branch-cities.ensures.from w.branch-cities.ensures.searched in
      subst (λ (v : Vec ℕ Global). IsSearched c.args.cities.now c.args.beginning.now c.args.best.now v c.if-not-is_visited.best
      (c.loop-city.city + 1)) (sym w.beginning-is)
      (subst (λ (b : Tour). IsSearched c.args.cities.now c.args.beginning.now c.args.best.now w.truncate.new.self b (c.loop-city.city + 1))
      (sym w.best-is) is)
  | else-not-is_visited w ↦
      let there =
      old_at c.args.beginning.now.items c.loop-city.beginning.items c.deref-in-loop-city.result.now c.loop-city.city c.is_visited.result
      c.deref-in-loop-city.ensures.value c.loop-city.invariant.kept c.is_visited.ensures.yes w.if-not-is_visited.false in
      record {
        kept = ap (λ (v : Vec ℕ Global). v.items) w.beginning-is ∙ c.loop-city.invariant.kept;
        room = ap vec_capacity w.beginning-is ∙ c.loop-city.invariant.room;
        tour = subst (IsKnown c.args.cities.now) (sym w.best-is) c.loop-city.invariant.tour;
        good = subst (λ (b : Tour). IsAsGood (costs c.args.cities.now) b.cities.items c.args.best.now.cities.items) (sym w.best-is)
            c.loop-city.invariant.good;
        from = subst (λ (b : Tour). (b.cities.items ≡ c.args.best.now.cities.items) ⊎ Continues c.args.beginning.now.items b.cities.items)
            (sym w.best-is) c.loop-city.invariant.from;
        tried = λ x below tour is on. elim (cases_eq x c.loop-city.city) [
          | inl same ↦ absurd (none_again c.args.cities.now.count c.args.beginning.now.items tour x
              (subst (λ k. 1 ≤ count_by (λ y. y == k) c.args.beginning.now.items) (sym same) there) is on)
          | inr other ↦ subst (λ (b : Tour). IsAsGood (costs c.args.cities.now) b.cities.items tour) (sym w.best-is)
              (c.loop-city.invariant.tried x (omega arith) tour is on)
        ];
      }
]

pub returns-clause-searched : goal.returns-clause-searched
returns-clause-searched t c =
    let long = tour-long c.args.cities.now.count in
    let few = short c.args.cities.now.count c.args.beginning.now.items c.requires.begins in
    all_tried c.args.cities.now c.args.beginning.now.items c.loop-city.best.cities.items (omega (arith, few))
    (λ x below. c.loop-city.invariant.tried x (omega arith))
