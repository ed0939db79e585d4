pub mod Awaited
pub mod Begins
pub mod Calling
mod CallsTell
pub mod Entries
mod Examples
pub mod Expected
pub mod Farewells
pub mod Granted
pub mod Hears
pub mod Insides
mod LettersTell
pub mod LinkLaws
mod Naming
mod Notes
pub mod OpenBatches
pub mod Ring
mod RoomLeft
pub mod StepsTell
mod Telling
pub mod Transcripts
