-- Whether a server has ended; one that has handles nothing.
use Rattle.std.proofs.Common.{◌≡◌, ◌<◌, ◌&&◌, ◌↔◌, ℕ, zero, suc, Bool, true, false, List, [], ◌∷◌, length, get_or, Option, Some, None, refl}
use Rattle.std.proofs.Common.{sym, arith, All}
use Rattle.std.specs.Prelude.{IsSome, IsTrue}
use Rattle.std.specs.List.{list_all}
use Rattle.std.proofs.lemmas.Bool.{and_from}
use Rattle.adlb_unit.specs.declared.actors.Actor.{Actor}
use Rattle.adlb_unit.specs.declared.actors.Actor.TheVariants as by
use Rattle.adlb_unit.specs.declared.letters.Letter.{Letter}
use Rattle.adlb_unit.specs.declared.names.Server.{Server}
use Rattle.server_law.specs.State.{ServerModel}
use Rattle.core_run.specs.World.{World, handle, has_ended, pool_of}

all_pass : (xs : List Bool) → All IsTrue xs → list_all (λ finished. finished) xs ≡ true
all_pass [] all = refl
all_pass (x ∷ xs) all =
    and_from x (list_all (λ finished. finished) xs) (all 0 true (omega arith)) (all_pass xs (λ k d within. all (suc k) d (omega arith)))

ended_from : (s : ServerModel) → IsTrue s.kept.shut × All IsTrue s.kept.finished → has_ended s ≡ true
ended_from s ended = and_from s.kept.shut (list_all (λ finished. finished) s.kept.finished) ended.0 (all_pass s.kept.finished ended.1)

-- a server that has ended handles no letter
pub ended_handles_none : (w : World) (from : Actor) (to : Server) (letter : Letter) (rest : List Letter) → has_ended (pool_of w to) ≡ true
    → handle w from (by.Server to) (letter ∷ rest) ≡ None
ended_handles_none w (by.Rank from) to letter rest ended = rw ended refl
ended_handles_none w (by.Server from) to letter rest ended = rw ended refl

-- a test does not both pass and fail
pub not_both : (b : Bool) → b ≡ true → b ≡ false → ⊥
not_both true is other = absurd (cc)
not_both false is other = absurd (cc)

-- an option without a value has no value
pub none_some : {X : Type 0} (o : Option X) → o ≡ None → IsSome o → ⊥
none_some None is some = absurd (cc)
none_some (Some x) is some = absurd (cc)

-- A server that is not shut, or has not handled each rank's Finish letter, has not ended.

each_passes : (xs : List Bool) → list_all (λ finished. finished) xs ≡ true → (k : ℕ) (d : Bool) → k < length xs → IsTrue (get_or xs k d)
each_passes [] all k d within = absurd (omega arith)
each_passes (false ∷ xs) all k d within = absurd (cc)
each_passes (true ∷ xs) all zero d within = refl
each_passes (true ∷ xs) all (suc k) d within = each_passes xs all k d (omega arith)

both_pass : (a b : Bool) → (a && b) ≡ true → (a ≡ true) × (b ≡ true)
both_pass true true is = (refl, refl)
both_pass true false is = absurd (cc)
both_pass false b is = absurd (cc)

ended_as : (s : ServerModel) (b : Bool) → has_ended s ≡ b → (IsTrue s.kept.shut × All IsTrue s.kept.finished → ⊥) → b ≡ false
ended_as s false is not_ended = refl
ended_as s true is not_ended =
    let both = both_pass s.kept.shut (list_all (λ finished. finished) s.kept.finished) is in
    absurd (not_ended (both.0, each_passes s.kept.finished both.1))

unended_from : (s : ServerModel) → (IsTrue s.kept.shut × All IsTrue s.kept.finished → ⊥) → has_ended s ≡ false
unended_from s not_ended = ended_as s (has_ended s) refl not_ended

-- the test of the end says that the server is shut and all its ranks have finished
pub ended_is : (s : ServerModel) (b : Bool) → IsTrue b ↔ (IsTrue s.kept.shut × All IsTrue s.kept.finished) → b ≡ has_ended s
ended_is s true tells = sym (ended_from s (tells.0 refl))
ended_is s false tells = sym (unended_from s (λ ended. let shut : IsTrue false = tells.1 ended in absurd (cc)))
