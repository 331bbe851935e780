-- The laws about the numbers that the functions for C return.
pub mod Packing
pub mod Places
