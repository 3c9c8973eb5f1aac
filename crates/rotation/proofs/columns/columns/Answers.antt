-- `columns::columns` meets its contract: each need by the entries' sizes, and by those of squares and products.
use Rattle.rotation.specs.Columns.{straight_twiced, x_fit, y_fit, columns_made}
use Rattle.rotation.proofs.columns.columns.Goals as goal

pub twice-m-requires : goal.twice-m-requires
twice-m-requires c = search straight_twiced

pub x_becomes-requires : goal.x_becomes-requires
x_becomes-requires c = search x_fit

pub y_becomes-requires : goal.y_becomes-requires
y_becomes-requires c = search y_fit

pub returns : goal.returns
returns c = search columns_made
