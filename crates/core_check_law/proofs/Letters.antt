-- Letters after an act.
use Rattle.std.proofs.lemmas.Bool.{lt-ltb}
use Rattle.adlb_unit.specs.declared.actors.Actor.{Actor}
use Rattle.adlb_unit.specs.declared.actors.Actor.TheVariants as by
use Rattle.adlb_unit.specs.declared.letters.Letter.{Letter}
use Rattle.adlb_unit.specs.declared.messages.Message.{Message}
use Rattle.adlb_unit.specs.declared.names.Server.{Server}
use Rattle.server_law.specs.Acts.{Act, ServerSaying, does, says, takes}
use Rattle.server_law.specs.Carried.{sends}
use Rattle.core_run.specs.World.{World, pool_of}
use Rattle.core_law.specs.Acting.{IsAct, IsOwn, acted, taken_off}
use Rattle.core_law.specs.OnLinks.{Each, OnLinks}
use Rattle.core_law.specs.Well.{IsShaped}
use Rattle.core_law.proofs.Acts.{sent_each, sent_within, taken_square}
use Rattle.core_law.proofs.UnderWay.{posted_on}

-- those that are left, and those that it sends
pub letters_next : (P : Actor → Actor → Message → Type 0) (w : World) (k : Server) (a : Act) → IsShaped w → IsAct w k a → IsOwn w k a
    → OnLinks (λ from to l. P from to l.message) w.config (taken_off w.config k w.links (takes a))
    → Each (λ (y : ServerSaying). P (by.Server k) y.to y.message) (says a (pool_of w k))
    → OnLinks (λ from to l. P from to l.message) w.config (acted w k a).links
letters_next P w k a shape is own on each =
    let s = pool_of w k in
    posted_on (λ from to (l : Letter). P from to l.message) w.config (taken_off w.config k w.links (takes a)) (by.Server k) (sends a s)
    (taken_square w.config k w.links (takes a) is.here is.front shape.square) on (lt-ltb k.0 w.config.servers is.here)
    (sent_within w.config (does a s) (says a s) own.said) (sent_each (λ to m. P (by.Server k) to m) (does a s) (says a s) each)
