pub mod Texts
pub mod Numbers
pub mod ItsBody
pub mod BoardBodies
pub mod SolutionBodies
pub mod JobBodies
pub mod AnswerBodies
pub mod ReadBack
pub mod FetchedUnits
pub mod Works
pub mod Counts
pub mod Same
mod Rows
