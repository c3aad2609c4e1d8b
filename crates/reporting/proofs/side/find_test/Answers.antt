use Rattle.reporting.specs.Rows.{env_of}
use Rattle.reporting.proofs.Sides.{always-found, columns-found, number-found}
use Rattle.reporting.proofs.side.find_test.Goals as goal

pub returns-in-Always : goal.returns-in-Always
returns-in-Always c =
    let a = c.args in
    always-found a.cs.now a.ds.now (env_of a.env.now) a.negated a.form c.in-Always.is

pub returns-in-Columns : goal.returns-in-Columns
returns-in-Columns c =
    let a = c.args in
    columns-found a.cs.now a.ds.now (env_of a.env.now) a.negated a.form c.in-Columns.comparison c.in-Columns.left c.in-Columns.right c.side_of.result c.side_of-in-Columns.result c.in-Columns.is c.side_of.ensures c.side_of-in-Columns.ensures

pub returns-in-Number : goal.returns-in-Number
returns-in-Number c =
    let a = c.args in
    number-found a.cs.now a.ds.now (env_of a.env.now) a.negated a.form c.in-Number.comparison c.in-Number.left c.in-Number.number c.side_of-in-Number.result c.in-Number.is c.side_of-in-Number.ensures
