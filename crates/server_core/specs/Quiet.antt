-- The ranks of a server that is quiet.
use Rattle.std.specs.Prelude.{Bool}
use Rattle.std.specs.List.{list_all, range_with_len}
use Rattle.server_law.specs.Endings.{rests}
use Rattle.server_law.specs.State.{ServerModel}

-- each rank of the run rests
abbrev pub all_rest : ServerModel → Bool
all_rest s = list_all (λ n. rests s (record { 0 = n })) (range_with_len 0 s.config.ranks)
