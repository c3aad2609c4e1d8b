pub mod Few
pub mod Laws
pub mod NodeBytes
pub mod Outcomes
pub mod SetLaws
pub mod TableBytes
pub mod TableLaws
pub mod Writing
