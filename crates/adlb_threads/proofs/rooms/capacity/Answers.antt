use Rattle.std.proofs.Common.{◌≡◌, ◌≤◌, ℕ, zero, suc, ◌+◌, ◌*◌, ap, arith}
use Rattle.adlb_threads.proofs.rooms.capacity.Goals as goal

times_more : (k a b : ℕ) → a ≤ b → k * a ≤ k * b
times_more zero a b less = omega arith
times_more (suc k) a b less =
    let more = times_more k a b less in
    let first : suc k * a ≡ k * a + a = omega arith in
    let second : suc k * b ≡ k * b + b = omega arith in omega (arith, less, more, first, second)

pub returns-clause-each : goal.returns-clause-each
returns-clause-each c = λ server there.
    times_more c.args.config.now.servers _ c.most_to_one.result (c.most_to_one.ensures.each server there)

pub returns-clause-one : goal.returns-clause-one
returns-clause-one c =
    let most = c.most_to_one.ensures.one in (most.0, most.1, ap (λ n. c.args.config.now.servers * n) most.2)
