use Rattle.std.proofs.Common.{◌≡◌, ◌+◌, ◌-◌, ◌==◌, ◌||◌, ◌++◌, ◌∷◌, [], Bool, true, false, cond, List, filter, length, map, ap, sym, ◌∙◌}
use Rattle.std.proofs.Common.{arith, length-append}
use Rattle.std.proofs.lemmas.List.{append-nil}
use Rattle.std.specs.List.{range_with_len}
use Rattle.std.proofs.lemmas.List.FromFn.{filter_of_map_range_with_len_more}
use Rattle.adlb_unit.specs.Ring.{behind}
use Rattle.adlb_unit.specs.declared.names.Server.{Server}
use Rattle.server_components.specs.Calls.{has_server}
use Rattle.server_components.proofs.ring.ToAsk.with.Goals as goal
use Rattle.server_components.proofs.ring.ToAsk.with.Goals.{then-has_with, else-has_with}

pub push-requires : goal.push-requires
push-requires c = omega (arith, c.loop-places.invariant.1, c.args.config.now.servers_within.1)

pub loop-places-preserved : goal.loop-places-preserved
loop-places-preserved c =
    let f = behind c.args.config.now c.args.me in
    let p = c.loop-places.places in
    let test : Server → Bool = λ s. (s.0 == c.args.server.0) || has_server c.args.self.now s in
    let from : 1 + (p - 1) ≡ p = omega (arith, c.loop-places.auto.places) in
    let more : (p - 1) + 1 ≡ p + 1 - 1 = omega (arith, c.loop-places.auto.places) in
    let next : filter test (map f (range_with_len 1 (p + 1 - 1))) ≡ filter test (map f (range_with_len 1 (p - 1))) ++ cond (test
    (f p)) (f p ∷ []) [] =
    ap (λ n. filter test (map f (range_with_len 1 n))) (sym more) ∙ filter_of_map_range_with_len_more test f 1 (p - 1) p from in
    let was = c.loop-places.invariant.0 in
    let few = c.loop-places.invariant.1 in
    elim c.if-has_with.branch [
      | then-has_with w ↦
          let passes : test (f p) ≡ true = sym c.has_with.ensures ∙ w.if-has_with.true in
          let now : filter test (map f (range_with_len 1 (p + 1 - 1))) ≡ filter test (map f (range_with_len 1 (p - 1))) ++ f p ∷ [] =
          next ∙ ap (λ t. filter test (map f (range_with_len 1 (p - 1))) ++ cond t (f p ∷ []) []) passes in
          let all = w.all-is ∙ w.push.ensures in
          let long : length c.if-has_with.all ≡ length c.loop-places.all + 1 =
          ap (λ (l : List Server). length l) all ∙ length-append c.loop-places.all (f p ∷ []) in
          (all ∙ ap (λ l. l ++ f p ∷ []) was ∙ sym now, omega (arith, long, few, from))
      | else-has_with w ↦
          let fails : test (f p) ≡ false = sym c.has_with.ensures ∙ w.if-has_with.false in
          let now : filter test (map f (range_with_len 1 (p + 1 - 1))) ≡ filter test (map f (range_with_len 1 (p - 1))) ++ [] =
          next ∙ ap (λ t. filter test (map f (range_with_len 1 (p - 1))) ++ cond t (f p ∷ []) []) fails in
          let long : length c.if-has_with.all ≡ length c.loop-places.all = ap (λ (l : List Server). length l) w.all-is in
          (w.all-is ∙ was ∙ sym (now ∙ append-nil (filter test (map f (range_with_len 1 (p - 1))))), omega (arith, long, few, from))
    ]
