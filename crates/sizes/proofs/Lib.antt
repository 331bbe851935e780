-- What the crates above may use of the size codes: `Laws`. `Bench` is the table of document 01's starred cases about planes.
pub mod Laws
pub mod Bench
