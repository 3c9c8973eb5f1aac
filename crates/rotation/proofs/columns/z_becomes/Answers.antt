-- `columns::z_becomes` meets its contract: each need by the entries' sizes, and by those of products.
use borrow.Author.Rules.{rules}
use Rattle.rotation.specs.Columns.{conj_in, crossed_twiced, z_made}
use Rattle.rotation.proofs.columns.z_becomes.Goals as goal

pub mul-requires : goal.mul-requires
mul-requires c = record { fact_1 = search conj_in; fact_2 = search rules }

pub twice-m-requires : goal.twice-m-requires
twice-m-requires c = search crossed_twiced

pub returns : goal.returns
returns c = search z_made
