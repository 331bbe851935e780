-- The laws of XOR, of blocks in a row, of numbers and of doubling, which the crates above cite.
pub mod Doubling
pub mod Numbers
pub mod Slots
pub mod Xor
pub mod Zeros
pub mod Loop
pub mod Chaining
