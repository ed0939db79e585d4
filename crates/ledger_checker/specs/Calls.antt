-- Entries by which calls begin.
use Rattle.std.specs.Prelude.{Bool, true, false}
use Rattle.bag_ledger.specs.declared.entries.Entry.{Entry}
use Rattle.bag_ledger.specs.declared.entries.Entry.TheVariants.{Putting, Keeping, Closing, Asked, Tried, Fetching, Counting, Done, Finished}

-- a rank begins a call
abbrev pub begins_call : Entry → Bool
begins_call (Putting rank call kind prio target answer body) = true
begins_call (Keeping rank call common) = true
begins_call (Closing rank call) = true
begins_call (Asked rank call types) = true
begins_call (Tried rank call types) = true
begins_call (Fetching rank call id) = true
begins_call (Counting rank call kind) = true
begins_call (Done rank call) = true
begins_call (Finished rank call) = true
begins_call _ = false
