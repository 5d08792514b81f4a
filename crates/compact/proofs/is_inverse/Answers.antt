-- `compact::is_inverse` meets its contract: the vertices are listed in a part of an array, and the listed part is lent.
-- Assumes nothing.
use Rattle.std.proofs.Common.{◌≡◌, ◌≤◌, ℕ, List, length, take, replicate, sym, ◌∙◌}
use Rattle.lists.specs.Part.{length_part}
use Rattle.compact.specs.Compared.{part_within, part_size, part_numbered}
use Rattle.compact.proofs.is_inverse.Goals as goal

-- what is lent of an array has a place for each vertex
full : {n : ℕ} (marks vertices : List ℕ) → n ≤ 96 → length marks ≡ n → length vertices ≡ length (take {A = ℕ} n (replicate 96 0)) → length vertices ≡ length marks
full _ _ s e v = v ∙ length_part _ 96 0 s ∙ sym e

pub slice_bounds-vertices-end-2 : goal.slice_bounds-vertices-end-2
slice_bounds-vertices-end-2 c = part_within _ c.list-k.ensures (full _ _ c.args.graph.complete.size c.requires.0 c.list-k.auto.vertices)

pub slice_bounds-is_inverse_of-end : goal.slice_bounds-is_inverse_of-end
slice_bounds-is_inverse_of-end c = part_size _ c.list-k.ensures (full _ _ c.args.graph.complete.size c.requires.0 c.list-k.auto.vertices)

pub is_inverse_of-requires-clause-numbered : goal.is_inverse_of-requires-clause-numbered
is_inverse_of-requires-clause-numbered c =
    part_numbered _ c.list-k.ensures (full _ _ c.args.graph.complete.size c.requires.0 c.list-k.auto.vertices) c.requires.0
