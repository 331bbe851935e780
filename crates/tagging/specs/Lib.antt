-- Tag's rule: from items to a tag file. Definitions only: the laws about them are in proofs/.
pub mod Tagging
