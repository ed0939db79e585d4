mod Groups
mod RowBytes
mod Signed
mod ReadBack
mod EntryBytes
mod KindBytes
