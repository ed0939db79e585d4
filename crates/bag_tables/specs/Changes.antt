-- The changes of one rank and of one common part.
use Rattle.std.specs.Prelude.{◌+◌, true, Some}
use Rattle.bag_ledger.specs.declared.states.RankState.{RankState}
use Rattle.bag_ledger.specs.declared.states.Part.{Part}
use Rattle.bag_ledger.specs.declared.states.Status.TheVariants as does
use Rattle.bag_ledger.specs.Steps.{begun, ended, declined_by, own_fetched}
use Rattle.bag_tables.specs.declared.changes.RankChange.{RankChange}
use Rattle.bag_tables.specs.declared.changes.RankChange.TheVariants.{Begins, Puts, Declined, Ended, GoesOn, Told, OwnCame}
use Rattle.bag_tables.specs.declared.changes.PartChange.{PartChange}
use Rattle.bag_tables.specs.declared.changes.PartChange.TheVariants.{Closed, Freed, Accepted, Fetched}

-- what a change makes of a rank
abbrev pub rank_changed : RankChange → RankState → RankState
rank_changed (Begins status) r = begun status r
rank_changed (Puts unit) r = begun (does.Putting (record unit { common = r.batch })) r
rank_changed (Declined server) r = declined_by server r
rank_changed Ended r = ended r
rank_changed (GoesOn batch) r = ended (record r { batch = batch })
rank_changed (Told end) r = ended (record r { end = Some end })
rank_changed (OwnCame common) r = own_fetched common r

-- what a change makes of a common part
abbrev pub part_changed : PartChange → Part → Part
part_changed Closed p = record p { closed = true }
part_changed Freed p = record p { freed = true }
part_changed Accepted p = record p { accepted = p.accepted + 1 }
part_changed Fetched p = record p { fetched = p.fetched + 1 }
