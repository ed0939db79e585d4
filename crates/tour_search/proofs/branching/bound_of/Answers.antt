use Rattle.std.proofs.Common.{arith, ◌≤◌, ◌+◌, ◌∙◌, length, get_or, ap, sym}
use Rattle.std.proofs.lemmas.List.Elements.{All-get_or}
use Rattle.tour_law.proofs.Beginnings.{bound_is, last_below, last_of, short}
use Rattle.tour_search.specs.Cities.{out_of}
use Rattle.tour_search.proofs.branching.bound_of.Goals as goal

pub overflow_add-result : goal.overflow_add-result
overflow_add-result c =
    let p = c.args.beginning.now in
    let ways = c.args.ways_out.now in
    let few = short (length ways) p c.requires.begins in
    let below = last_below (length ways) p c.requires.begins in
    let low = All-get_or (λ x. x ≤ 1000000) ways (last_of p) 0 below c.requires.low in
    omega (arith, few, low)

pub overflow_add-result-2 : goal.overflow_add-result-2
overflow_add-result-2 c =
    let p = c.args.beginning.now in
    let ways = c.args.ways_out.now in
    let few = short (length ways) p c.requires.begins in
    let below = last_below (length ways) p c.requires.begins in
    let low = All-get_or (λ x. x ≤ 1000000) ways (last_of p) 0 below c.requires.low in
    omega (arith, few, low)

pub returns : goal.returns
returns c = λ k a q is its rest.
    ap (λ s. s + get_or c.args.ways_out.now (last_of c.args.beginning.now) 0 + c.args.left) its
    ∙ sym (bound_is (length c.args.ways_out.now) k (out_of c.args.ways_out.now) c.args.beginning.now c.args.left rest a q is)
