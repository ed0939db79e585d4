pub mod inside
pub mod Mailboxes
