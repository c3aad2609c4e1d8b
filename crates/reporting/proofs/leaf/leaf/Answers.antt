use Rattle.reporting.proofs.TableRows.{scan-gives, unit-gives, none-gives, scan-room}
use Rattle.reporting.proofs.leaf.leaf.Goals as goal

pub scan-requires : goal.scan-requires
scan-requires c = let a = c.args in scan-room a.set.now a.node _ c.in-Scan.is c.requires

pub returns-in-Scan : goal.returns-in-Scan
returns-in-Scan c = let a = c.args in scan-gives a.set.now a.node _ _ c.in-Scan.is c.scan.ensures

pub returns-in-Unit : goal.returns-in-Unit
returns-in-Unit c = let a = c.args in unit-gives a.set.now a.node _ c.in-Unit.is

pub returns-in_default : goal.returns-in_default
returns-in_default c = let a = c.args in none-gives a.set.now a.node _ c.in_default.not-Scan c.in_default.not-Unit c.in_default.not-Other
