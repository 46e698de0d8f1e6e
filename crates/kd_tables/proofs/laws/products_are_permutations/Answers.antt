use Rattle.kd_tables.proofs.Products.{product_permutes, inverse_permutes, shift_permutes}
use Rattle.kd_tables.proofs.laws.products_are_permutations.Goals as goal

pub returns-clause-product : goal.returns-clause-product
returns-clause-product c = product_permutes

pub returns-clause-inverse : goal.returns-clause-inverse
returns-clause-inverse c = inverse_permutes

pub returns-clause-shifts : goal.returns-clause-shifts
returns-clause-shifts c = shift_permutes
