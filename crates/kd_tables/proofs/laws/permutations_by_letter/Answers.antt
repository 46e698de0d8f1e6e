use Rattle.kd_tables.proofs.Products.{followed_by-at, inverse_by_letter, shift-at}
use Rattle.kd_tables.proofs.laws.permutations_by_letter.Goals as goal

pub returns-clause-product : goal.returns-clause-product
returns-clause-product c = followed_by-at

pub returns-clause-inverse : goal.returns-clause-inverse
returns-clause-inverse c = inverse_by_letter

pub returns-clause-shifts : goal.returns-clause-shifts
returns-clause-shifts c = shift-at
