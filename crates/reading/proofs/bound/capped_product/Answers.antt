use Rattle.reading.proofs.BoundLaws.{low_fits, low_capped, high_capped}
use Rattle.reading.proofs.bound.capped_product.Goals as goal

pub overflow_mul-product : goal.overflow_mul-product
overflow_mul-product c = search low_fits

pub returns-then-product_low : goal.returns-then-product_low
returns-then-product_low c = search low_capped

pub returns-else-product_low : goal.returns-else-product_low
returns-else-product_low c = search high_capped
