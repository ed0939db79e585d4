-- When a server has ended.
use Rattle.std.proofs.Common.{◌≡◌, ◌<◌, ◌↔◌, ℕ, zero, suc, Bool, true, false, List, [], ◌∷◌, length, get_or, refl, sym, arith, All}
use Rattle.std.specs.Prelude.{IsTrue}
use Rattle.std.specs.List.{list_all}
use Rattle.std.proofs.lemmas.Bool.{and_from, and_parts}
use Rattle.server_law.specs.State.{ServerModel}
use Rattle.thread_actors.specs.World.{has_ended}

all_pass : (xs : List Bool) → All IsTrue xs → list_all (λ finished. finished) xs ≡ true
all_pass [] all = refl
all_pass (x ∷ xs) all =
    and_from x (list_all (λ finished. finished) xs) (all 0 true (omega arith)) (all_pass xs (λ k d within. all (suc k) d (omega arith)))

each_passes : (xs : List Bool) → list_all (λ finished. finished) xs ≡ true → (k : ℕ) (d : Bool) → k < length xs → IsTrue (get_or xs k d)
each_passes [] all k d within = absurd (omega arith)
each_passes (x ∷ xs) all zero d within = (and_parts x (list_all (λ finished. finished) xs) all).0
each_passes (x ∷ xs) all (suc k) d within =
    each_passes xs (and_parts x (list_all (λ finished. finished) xs) all).1 k d (omega arith)

same_truth : (a b : Bool) → (a ≡ true → b ≡ true) → (b ≡ true → a ≡ true) → a ≡ b
same_truth true b to from = sym (to refl)
same_truth false true to from = from refl
same_truth false false to from = refl

-- it has, exactly if it is shut and each rank's Finish letter was handled
pub ended_is : (s : ServerModel) (b : Bool) → IsTrue b ↔ (IsTrue s.kept.shut × All IsTrue s.kept.finished) → b ≡ has_ended s
ended_is s b is = same_truth b (has_ended s) there back
  where
    there : b ≡ true → has_ended s ≡ true
    there ended =
        let both = is.0 ended in
        and_from s.kept.shut (list_all (λ finished. finished) s.kept.finished) both.0 (all_pass s.kept.finished both.1)

    back : has_ended s ≡ true → b ≡ true
    back ended =
        let both = and_parts s.kept.shut (list_all (λ finished. finished) s.kept.finished) ended in
        is.1 (both.0, each_passes s.kept.finished both.1)
