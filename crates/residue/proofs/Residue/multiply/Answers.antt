-- `residue::Residue::multiply` meets its contract: the product of two numbers of 16 bits fits 64.
-- Assumes nothing.
use borrow.Author.Rules.{rules}
use Rattle.modular.specs.Product.{product_below}
use Rattle.residue.proofs.Residue.multiply.Goals as goal

pub overflow_mul-self : goal.overflow_mul-self
overflow_mul-self c = record { fits = product_below 4294967296 (search rules) (search rules) }
