use Rattle.std.proofs.Common.{◌≡◌, ◌≤◌, ◌<◌, ◌-◌, ℕ, All, map, length, get_or, []}
use Rattle.std.specs.List.{range_with_len}
use Rattle.std.specs.Vec.{vec_len, vec_capacity}
use Rattle.rank_client.specs.Rules.{farewell}
use Rattle.rank_client.specs.Step.{Made, post}
use Rattle.rank_client.proofs.calls.farewells.Given as goal

abbrev pub invariant-loop-server : goal.invariant-loop-server
invariant-loop-server l = record {
  told : (x : Made) → x.state.sent ≡ l.fn.sent.items → x.state.clock ≡ l.stamp → x.sends ≡ []
      → post x (map farewell (range_with_len 0 l.servers))
      ≡ post (record x { state = record x.state { sent = l.sent.items }; sends = l.sends.items })
      (map farewell (range_with_len l.server (l.servers - l.server)));
  counts : All (λ n. n ≤ l.stamp) l.sent.items;
  later : (k : ℕ) → l.server ≤ k → k < l.servers → get_or l.sent.items k 0 < l.stamp;
  len : length l.sent.items ≡ l.servers;
  room : l.servers ≤ vec_capacity l.sends;
  filled : vec_len l.sends ≡ l.server;
}
