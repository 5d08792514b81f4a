-- `crossing::unpack` meets its contract: the parts that are lent hold the words needed. Assumes nothing.
use Rattle.std.proofs.Common.{◌≡◌, List, ℕ, ◌*◌, ◌≤◌, ◌++◌, length, take, drop, sym, ap, ◌∙◌, arith, length-take-le}
use Rattle.lists.specs.Part.{part_filled}
use Rattle.lists.specs.Table.{square_small}
use Rattle.matching.specs.Host.{words}
use Rattle.checks.specs.Weights.{needed, needed_small}
use Rattle.crossing.proofs.unpack.Goals as goal

counted : (n : ℕ) {k : ℕ} (values : List ℕ) → k ≡ needed n → length values ≡ 4560 → k ≤ length values
counted n values e room = omega (arith, needed_small n)

pub slice_bounds-unpack-end : goal.slice_bounds-unpack-end
slice_bounds-unpack-end c = counted c.args.n c.args.values.now c.weights_needed-count.ensures c.requires.values_room

pub slice_bounds-unpack-end-2 : goal.slice_bounds-unpack-end-2
slice_bounds-unpack-end-2 c = sym (length-take-le _ _ (counted c.args.n c.args.values.now c.weights_needed-count.ensures c.requires.values_room))

pub returns : goal.returns
returns c =
    let a = c.args in
    let first = c.unpack in
    let second = c.unpack-2 in
    let count = c.weights_needed-count.result in
    let cells = a.n * a.n in
    let squared : cells ≤ length a.table.now = omega (arith, square_small a.n c.requires.needed.size) in
    let front = length-take-le count a.values.now (counted a.n a.values.now c.weights_needed-count.ensures c.requires.values_room) in
    let square = length-take-le cells a.table.now squared in
    let values_back = part_filled count first.new.target (drop count a.values.now) (first.auto.target ∙ front) in
    let table_back = part_filled cells second.new.target (drop cells a.table.now) (second.auto.target ∙ square) in
    record {
      weights_room = omega (arith, values_back.0, c.weights_needed-count.ensures);
      inverse_room = table_back.0;
      weights_are =
          ap (λ k. take k (first.new.target ++ drop count a.values.now)) (sym c.weights_needed-count.ensures)
          ∙ values_back.1
          ∙ first.ensures
          ∙ ap (λ k. take k (words 2 a.weights.now)) (front ∙ c.weights_needed-count.ensures);
      inverse_are = table_back.1 ∙ second.ensures ∙ ap (λ k. take k (words 2 a.inverse.now)) square;
    }
