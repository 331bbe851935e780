-- What the contracts of the engine by round tables say beside FIPS 197's definitions.
pub mod RoundTables
