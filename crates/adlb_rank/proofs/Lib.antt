mod Batches
mod Lengths
