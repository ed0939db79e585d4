-- Between which kinds of actors a message goes.
use Rattle.std.specs.Prelude.{Bool, true, false}
use Rattle.adlb_unit.specs.declared.messages.Message.{Message}
use Rattle.adlb_unit.specs.declared.messages.Message.TheVariants.{Put, Reserve, Try, Fetch, FetchCommon, KeepCommon, CloseBatch, Count}
use Rattle.adlb_unit.specs.declared.messages.Message.TheVariants.{Done, Finish, Gone, Accepted, Full, Ended, Grant, Nothing, Bytes, Closed}
use Rattle.adlb_unit.specs.declared.messages.Message.TheVariants.{Counted, DoneHeard, Broken, Ask, AskGrant, AskNone, Hint, PushUnit, Token}
use Rattle.adlb_unit.specs.declared.messages.Message.TheVariants.{Failed}

-- a rank says it to a server
abbrev pub is_of_rank : Message → Bool
is_of_rank (Put unit) = true
is_of_rank (Reserve request types) = true
is_of_rank (Try request types) = true
is_of_rank (Fetch request id) = true
is_of_rank (FetchCommon request batch) = true
is_of_rank (KeepCommon request common) = true
is_of_rank (CloseBatch request batch accepted) = true
is_of_rank (Count request kind) = true
is_of_rank (Done request) = true
is_of_rank Finish = true
is_of_rank (Gone trouble) = true
is_of_rank _ = false

-- a server says it to a rank
abbrev pub is_to_rank : Message → Bool
is_to_rank (Accepted request) = true
is_to_rank (Full request charge) = true
is_to_rank (Ended request end) = true
is_to_rank (Grant request note) = true
is_to_rank (Nothing request) = true
is_to_rank (Bytes request body) = true
is_to_rank (Closed request) = true
is_to_rank (Counted request info) = true
is_to_rank (DoneHeard request) = true
is_to_rank (Broken trouble) = true
is_to_rank _ = false

-- a server says it to a server about a rank that waits
abbrev pub is_asking : Message → Bool
is_asking (Ask rank request types) = true
is_asking (AskGrant rank request note) = true
is_asking (AskNone rank request) = true
is_asking (Hint rank request) = true
is_asking _ = false

-- it carries bytes or a token
abbrev pub is_heavy : Message → Bool
is_heavy (Put unit) = true
is_heavy (KeepCommon request common) = true
is_heavy (Bytes request body) = true
is_heavy (PushUnit unit) = true
is_heavy (Token token) = true
is_heavy (Failed token why) = true
is_heavy _ = false
