use Rattle.std.proofs.Common.{◌≡◌, All}
use Rattle.std.specs.Vec.{vec_len, vec_capacity}
use Rattle.rank_client.proofs.puts.offers.Given as goal

abbrev pub invariant-loop : goal.invariant-loop
invariant-loop l = record {
  filled : vec_len l.tries ≡ l.counter;
  room : vec_capacity l.tries ≡ l.servers;
  all : All (λ b. b ≡ l.body) l.tries.items;
}
