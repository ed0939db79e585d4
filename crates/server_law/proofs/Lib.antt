mod AskExamples
pub mod BestFits
pub mod ByIds
pub mod Calm
pub mod Carrying
mod CheckExamples
pub mod CheckPlans
pub mod Components
pub mod Counting
pub mod Debts
pub mod Decided
pub mod Elsewhere
pub mod Endings
pub mod Entering
mod Examples
pub mod Expected
pub mod Found
pub mod Handled
pub mod LeftAlone
pub mod Lodging
pub mod Once
pub mod OneServer
pub mod OwnEntries
pub mod PartEntries
pub mod Places
pub mod Plans
pub mod PushEntries
mod PushExamples
pub mod PushPlans
mod RestWorked
pub mod Resting
pub mod Rooms
pub mod Settling
pub mod Starting
pub mod Tests
pub mod Waiters
