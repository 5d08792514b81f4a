-- `packing::unpack` meets its contract: the words before the index are those of the bytes. Assumes nothing.
use Rattle.std.proofs.Common.{get_or}
use Rattle.lists.specs.Written.{Written}
use Rattle.matching.specs.Host.{words}
use Rattle.packing.proofs.unpack.Given as goal

abbrev pub invariant-loop-i : goal.invariant-loop-i
invariant-loop-i l = Written (λ x. get_or (words 2 l.bytes) x 0) l.initial.target l.target l.i
