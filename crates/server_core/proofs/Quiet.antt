-- A server that is quiet, rank by rank.
use Rattle.std.proofs.Common.{◌≡◌, ◌↔◌, ◌<◌, ◌+◌, ◌-◌, ℕ, suc, Bool, true, false, ◌&&◌, Option, None, Some, IsTrue, refl, sym, subst, arith}
use Rattle.std.specs.Prelude.{is_none, is_some}
use Rattle.std.specs.List.{list_all, range_with_len}
use Rattle.server_components.specs.declared.standing.StandingPush.{StandingPush}
use Rattle.server_law.specs.Endings.{is_quiet, rests}
use Rattle.server_law.specs.Expected.{IsQuiet}
use Rattle.server_law.specs.State.{ServerModel}
use Rattle.server_law.proofs.Tests.{quiet_is_tested}
use Rattle.server_core.specs.Quiet.{all_rest}

-- the ranks from this number on rest
abbrev pub rest_from : ServerModel → ℕ → ℕ → Bool
rest_from s end n = list_all (λ k. rests s (record { 0 = k })) (range_with_len n (end - n))

-- all ranks from 0 on rest exactly if all do
pub rest_all : (s : ServerModel) → rest_from s s.config.ranks 0 ≡ all_rest s
rest_all s = let all : s.config.ranks - 0 ≡ s.config.ranks = omega arith in rw all refl

-- the ranks from one on rest if it does and those after it do
pub rest_next : (s : ServerModel) (end n : ℕ) → n < end → rest_from s end n ≡ (rests s (record { 0 = n }) && rest_from s end (n + 1))
rest_next s end n within = let more : end - n ≡ suc (end - (n + 1)) = omega arith in rw more refl

-- after the last rank all rest
pub rest_none : (s : ServerModel) (end : ℕ) → rest_from s end end ≡ true
rest_none s end = let none : end - end ≡ 0 = omega arith in rw none refl

-- the test says whether the server is quiet
pub quiet_tells : (s : ServerModel) (b : Bool) → b ≡ is_quiet s → IsTrue b ↔ IsQuiet s
quiet_tells s b is = subst (λ (t : Bool). IsTrue t ↔ IsQuiet s) (sym is) (quiet_is_tested s)

-- where no push of the server stands, it is quiet where each rank rests; and where one does, it is not
pub rests_quiet : (s : ServerModel) → is_some s.kept.pushing.push ≡ false → all_rest s ≡ is_quiet s
rests_quiet s none = by_push s.kept.pushing.push none
  where
    by_push : (o : Option StandingPush) → is_some o ≡ false → all_rest s ≡ (is_none o && all_rest s)
    by_push None none = refl
    by_push (Some p) none = absurd (cc)

-- a server with a push is not quiet
pub going_unquiet : (s : ServerModel) → is_some s.kept.pushing.push ≡ true → false ≡ is_quiet s
going_unquiet s some = by_push s.kept.pushing.push some
  where
    by_push : (o : Option StandingPush) → is_some o ≡ true → false ≡ (is_none o && all_rest s)
    by_push None some = absurd (cc)
    by_push (Some p) some = refl
