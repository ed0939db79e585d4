-- What holds of letters and of each actor alone is kept by each act of a server, and by the stamp of an event.
use Rattle.std.proofs.Common.{◌≡◌, ◌≤◌, ◌<◌, ℕ, Bool, true, false, Option, Some, None, length, ◌∙◌, arith}
use Rattle.std.specs.Prelude.{IfSome}
use Rattle.std.proofs.lemmas.List.{length-set}
use Rattle.adlb_unit.specs.declared.configs.Config.{Config}
use Rattle.adlb_unit.specs.declared.names.Server.{Server}
use Rattle.server_law.specs.Acts.{Act, says, takes}
use Rattle.server_law.specs.Carried.{done}
use Rattle.server_law.specs.State.{Kept, ServerModel, start as new_pool}
use Rattle.server_law.specs.Step.{raised, ticked}
use Rattle.core_run.specs.World.{World, pool_of}
use Rattle.core_law.specs.Acting.{IsAct, IsOwn, acted, ticks}
use Rattle.core_law.specs.Letters.{any_remote, finishes, kinds, numbered, one_letter, remotes}
use Rattle.core_law.specs.Measures.{Balance, IsBalanced, IsEven, IsEvenPush, PushBalance, Weights, due, measure, push_weights}
use Rattle.core_law.specs.Measures.{server_weight, weigh_at, weights}
use Rattle.core_law.specs.Own.{IsPool}
use Rattle.core_law.specs.Pushes.{pushing, pushing_to}
use Rattle.core_law.specs.Well.{IsWell}
use Rattle.core_law.proofs.Actors.{every_pool}
use Rattle.core_law.proofs.Acts.{balance_kept, shape_kept}
use Rattle.core_law.proofs.Finishing.{finish_act}
use Rattle.core_law.proofs.Balances.{any_even, calls_even, numbers_even, remotes_even}
use Rattle.core_law.proofs.OwedByRanks.{all_fit}
use Rattle.core_law.proofs.OwnStates.{AreFit, are_fit, is_first, kinds_act, pool_kept, said_fits, said_within}
use Rattle.core_law.proofs.Pushing.{even_push_keeps, pushing_even, pushing_to_even}
use Rattle.core_law.proofs.Sums.{weigh_at-set}
use Rattle.core_law.proofs.Waits.{even_keeps}

-- a server of the run is in the world
pub inside_servers : (w : World) (me : Server) → IsWell w → me.0 < w.config.servers → me.0 < length w.servers
inside_servers w me well here = let e = (well.shape).servers in omega arith

-- An act.

-- what the act takes is of a kind that goes to the server
pub fit_of : (w : World) (me : Server) (a : Act) → IsWell w → IsAct w me a → AreFit w.config me (takes a)
fit_of w me a well is =
    are_fit w.config me w.links (takes a) is.here (well.shape).square (all_fit w well.shape well.kind) is.front

-- an act of a server has its own state
pub own_of : (w : World) (me : Server) (a : Act) → IsWell w → IsAct w me a → IsOwn w me a
own_of w me a well is =
    let s = pool_of w me in
    let pool = well.own.servers me is.here in
    record {
      config = pool.config;
      named = pool.me;
      said = said_within w.config me (says a s) (said_fits w.config me a s is.here pool (fit_of w me a well is) is.sits is.sure is.hints);
    }

-- each act keeps what holds of letters and of each actor alone
pub act_well : (w : World) (me : Server) (a : Act) → IsWell w → IsAct w me a → IsWell (acted w me a)
act_well w me a well is =
    let s = pool_of w me in
    let pool = well.own.servers me is.here in
    let fit = fit_of w me a well is in
    let own = own_of w me a well is in
    let even : (b : Balance) → IsEven b a s → IsBalanced (weights b) w → IsBalanced (weights b) (acted w me a) =
    λ b e was. balance_kept (weights b) w me a well.shape is own (even_keeps b a s is.sits e) was in
    let even_push : (b : PushBalance) → IsEvenPush b a s → IsBalanced (push_weights b) w → IsBalanced (push_weights b) (acted w me a) =
    λ b e was. balance_kept (push_weights b) w me a well.shape is own (even_push_keeps b a s is.sure e) was in
    record {
      shape = shape_kept w me a well.shape is own.said;
      own = record {
        ranks = well.own.ranks;
        servers =
            every_pool (IsPool w.config) w me (done a s) (inside_servers w me well is.here)
            (pool_kept w.config me a s is.here pool fit is.sits is.sure)
            (λ t there differs. well.own.servers t there);
      };
      kind = balance_kept (kinds w.config) w me a well.shape is own
          (kinds_act w.config me a s is.here pool fit is.sits is.sure is.hints) well.kind;
      one = λ rank. even (one_letter rank) (calls_even rank a s) (well.one rank);
      finish = λ rank server there. balance_kept (finishes rank server) w me a well.shape is own
          (finish_act w.config rank server a s (is_first w.config me a s pool fit is.sure)) (well.finish rank server there);
      remote = λ home asked rank request. even (remotes home asked rank request) (remotes_even home asked rank request a s)
          (well.remote home asked rank request);
      any = λ rank. even (any_remote rank) (any_even rank a s) (well.any rank);
      push = λ from. even_push (pushing from) (pushing_even from a s) (well.push from);
      push_to = λ from to id sent. even_push (pushing_to from to id sent) (pushing_to_even from to id sent a s)
          (well.push_to from to id sent);
      number = λ rank next. even (numbered rank next) (numbers_even rank next a s) (well.number rank next);
    }

-- The stamp, and the activity that the event raises or does not.

same_sum : (f : ℕ → Kept → ℕ) (w : World) (me : Server) (stamp : ℕ) (up : Bool) → me.0 < length w.servers
    → weigh_at (server_weight f) (ticks w me stamp up).servers ≡ weigh_at (server_weight f) w.servers
same_sum f w me stamp up here =
    let h = weigh_at-set (server_weight f) w.servers me.0 (ticked (pool_of w me) stamp up) (new_pool w.config me) here in omega arith

-- the stamp of an event keeps every balance
pub tick_balance : (m : Weights) (w : World) (me : Server) (stamp : ℕ) (up : Bool) → me.0 < length w.servers → IsBalanced m w
    → IsBalanced m (ticks w me stamp up)
unfolding measure due
tick_balance m w me stamp up here even =
    let a = same_sum m.server w me stamp up here in
    let b = same_sum m.server_due w me stamp up here in
    let e = even.same in
    record { same = omega arith }

raised_later : (up : Bool) (activity : ℕ) → activity ≤ raised up activity
raised_later true activity = omega arith
raised_later false activity = omega arith

if_noted_later : (noted : Option ℕ) (before now : ℕ) → before ≤ now → IfSome noted (λ n. n ≤ before) → IfSome noted (λ n. n ≤ now)
if_noted_later None before now later was = tt
if_noted_later (Some n) before now later was = omega arith

tick_pool : (config : Config) (me : Server) (s : ServerModel) (stamp : ℕ) (up : Bool) → IsPool config me s
    → IsPool config me (ticked s stamp up)
tick_pool config me s stamp up own = record {
  config = own.config;
  me = own.me;
  finished = own.finished;
  waiting = own.waiting;
  wishes = own.wishes;
  pushing = own.pushing;
  owed = own.owed;
  noted = if_noted_later s.kept.noted s.activity (raised up s.activity) (raised_later up s.activity) own.noted;
  mark = let later = raised_later up s.activity in let mark = own.mark in omega arith;
  shut = own.shut;
  alone = own.alone;
}

-- the stamp of an event keeps what holds of letters and of each actor alone
pub tick_well : (w : World) (me : Server) (stamp : ℕ) (up : Bool) → me.0 < w.config.servers → IsWell w → IsWell (ticks w me stamp up)
tick_well w me stamp up here well =
    let inside = inside_servers w me well here in
    let shape = well.shape in
    let s = ticked (pool_of w me) stamp up in
    record {
      shape = record { ranks = shape.ranks; servers = length-set w.servers me.0 s ∙ shape.servers; square = shape.square };
      own = record {
        ranks = well.own.ranks;
        servers =
            every_pool (IsPool w.config) w me s inside (tick_pool w.config me (pool_of w me) stamp up (well.own.servers me here))
            (λ t there differs. well.own.servers t there);
      };
      kind = tick_balance (kinds w.config) w me stamp up inside well.kind;
      one = λ rank. tick_balance (weights (one_letter rank)) w me stamp up inside (well.one rank);
      finish = λ rank server there. tick_balance (finishes rank server) w me stamp up inside (well.finish rank server there);
      remote = λ home asked rank request. tick_balance (weights (remotes home asked rank request)) w me stamp up inside
          (well.remote home asked rank request);
      any = λ rank. tick_balance (weights (any_remote rank)) w me stamp up inside (well.any rank);
      push = λ from. tick_balance (push_weights (pushing from)) w me stamp up inside (well.push from);
      push_to = λ from to id sent. tick_balance (push_weights (pushing_to from to id sent)) w me stamp up inside
          (well.push_to from to id sent);
      number = λ rank next. tick_balance (weights (numbered rank next)) w me stamp up inside (well.number rank next);
    }
