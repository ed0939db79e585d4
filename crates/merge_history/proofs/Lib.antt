mod Bridge
mod Going
mod Machine
pub mod OneLedger
mod OneRun
mod Places
mod States
