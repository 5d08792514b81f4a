-- `packing::store` meets its contract: the bytes of the words before the index stand over the first bytes. Assumes nothing.
use Rattle.std.proofs.Common.{◌≡◌, take}
use Rattle.lists.specs.Onto.{onto}
use Rattle.matching.specs.Host.{bytes_of}
use Rattle.packing.proofs.store.Given as goal

abbrev pub invariant-loop-i : goal.invariant-loop-i
invariant-loop-i l = l.bytes ≡ onto (bytes_of 2 (take l.i l.word-items)) l.initial.bytes
