-- `border::dot` meets its contract. The invariant of its loop: the total is the sum of the products so far, each below 2^32; 96 of them
-- fit 64 bits. Assumes nothing.
use Rattle.std.proofs.Common.{◌+◌, ◌*◌, ◌<◌, length, get_or, ap, sym, add-one, arith}
use Rattle.std.proofs.lemmas.List.{length_push}
use Rattle.std.proofs.lemmas.Slice.Zip.{zip_turn}
use Rattle.modular.specs.Sum.{sum_none, sum_suc}
use Rattle.modular.specs.Product.{product_below}
use Rattle.border.proofs.dot.Goals as goal

pub loop-a-init : goal.loop-a-init
loop-a-init c = record { sum = sym (sum_none _); fits = omega arith }

pub loop-a-preserved : goal.loop-a-preserved
loop-a-preserved c =
    let at = c.loop-a in
    let turn =
    zip_turn c.args.u.now c.args.v.now at.yielded c.into_iter-a-iterator.result at.a-iterator c.next.new.self _ (cc) (cc)
    at.yielded_by (c.in-Some.a, c.in-Some.b) c.in-Some.is c.next.ensures.steps in
    let k = length at.yielded in
    let product : get_or c.args.u.now k 0 * get_or c.args.v.now k 0 < 4294967296 =
    product_below 65536 (omega (arith, c.type_inv.u k)) (omega (arith, c.type_inv.v k)) in
    rw (length_push at.yielded (c.in-Some.a, c.in-Some.b), turn.2 0, turn.3 0)
    (record {
      sum = rw (add-one, sum_suc) (ap (λ z. z + get_or c.args.u.now k 0 * get_or c.args.v.now k 0) at.invariant.sum);
      fits = omega (arith, at.invariant.fits);
    })
