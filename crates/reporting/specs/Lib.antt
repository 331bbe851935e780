-- What the report program prints. Definitions only: the laws about them are in proofs/.
pub mod Printed
pub mod Detected
